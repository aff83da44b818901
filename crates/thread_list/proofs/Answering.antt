-- What is known of a thread that serves.
use Rattle.std.proofs.Common.{◌≡◌, ◌⊎◌, ◌<◌, ◌==◌, ◌∙◌, ℕ, Option, Some, None, refl, sym, ap, subst, arith, true, false}
use Rattle.std.proofs.lemmas.Bool.Decides.{nat_tests}
use Rattle.std.proofs.Math.Logic.{⊎_map}
use Rattle.thread_state.specs.declared.State.{State}
use Rattle.thread_state.specs.declared.State.TheVariants.{Serving}
use Rattle.thread_state.specs.declared.Back.{Back}
use Rattle.frames.specs.ImageView.{IsSettled}
use Rattle.bodies.specs.Bodies.{BodyView, SpareView}
use Rattle.operations.specs.Jobs.{DoneView}
use Rattle.operations.specs.Asks.{reply}
use Rattle.desk.specs.declared.entries.Entry.{Entry}
use Rattle.desk.specs.JobsFit.{is_asked_by}
use Rattle.desk.specs.Machine.{State as DeskState, lawful}
use Rattle.berths.specs.Berths.{Moved}
use Rattle.thread_list.specs.Moves.{Running, IsOf}
use Rattle.thread_list.specs.Steps.{IsRunning, TakesUp, IsNotEntered, next_of}
use Rattle.thread_list.specs.BodyStates.{IsReady, IsAnswered, IsAnswer, last_of, serves}

pub ready_of : (s : State) (o : Option BodyView) (back : Back) (b : BodyView) → (serves s ≡ true → IsReady o) → s ≡ Serving back → o ≡ Some b → IsSettled b.image
ready_of s o back b ready is here = subst IsReady here (ready (ap serves is))

pub answer_of : (o : Option BodyView) (crossed : Moved) (a : Option DoneView) (b : BodyView) (d : DoneView) → IsAnswered o crossed a → o ≡ Some b → a ≡ Some d → IsAnswer b crossed d
answer_of o crossed a b d answered here said = subst (IsAnswered (Some b) crossed) said (subst (λ (x : Option BodyView). IsAnswered x crossed a) here answered)

pub entry_of : (name place : ℕ) (o : Option BodyView) (b : BodyView) (crossed : Moved) (d : DoneView) (e : Entry) → IsOf name place o → o ≡ Some b → IsAnswer b crossed d → e ≡ Entry.Finish d.op d.target d.reply
    → e ≡ Entry.Finish d.op name (reply d.ask b.image.frames)
entry_of name place o b crossed d e own here is entered =
    let mine : IsOf name place (Some b) = subst (IsOf name place) here own in
    entered ∙ (λ k. Entry.Finish d.op ((sym is.0 ∙ mine.0) k) (is.2 k))

-- What the desk refuses of an answer it refuses by the job and the body's frames.
pub refused_of : (s : DeskState) (old : Running) (place : ℕ) (b : BodyView) (d : DoneView) → IsOf old.name place (Some b) → IsAnswer b old.crossed d → old.body ≡ Some b
    → (lawful s (Entry.Finish d.op d.target d.reply) ≡ false) ⊎ (is_asked_by d.op d.ask s.opened ≡ false) → IsNotEntered s old
refused_of s old place b d own is body why = (
  record { number = d.op; ask = d.ask },
  b,
  body,
  is.3,
  ⊎_map (λ e. sym (λ k. lawful s (Entry.Finish d.op ((sym is.0 ∙ own.0) k) (is.2 k))) ∙ e) (λ e. e) why,
)

-- Where the answer isn't entered the thread serves on.
pub restored : (places name place : ℕ) (back : Back) (s : State) (o : Option BodyView) (a : Option DoneView) (given : Option Moved) (seat : SpareView) (moved_in crossed : Moved) (b : BodyView) (d again : DoneView)
    → IsRunning places name place s o a seat moved_in (last_of given crossed) → s ≡ Serving back → o ≡ Some b → a ≡ Some d → given ≡ None → again ≡ d
    → IsRunning places name place (Serving back) (Some b) (Some again) seat moved_in crossed
restored places name place back s o a given seat moved_in crossed b d again run is here said none same = record {
  own = subst (IsOf name place) here run.own;
  there = λ _. refl;
  named = run.named;
  seated = run.seated;
  moved_in_there = run.moved_in_there;
  moved_in_empty = run.moved_in_empty;
  moved_in_first = run.moved_in_first;
  given_there = tt;
  ready = λ _. ready_of s o back b run.ready is here;
  answered = subst (λ x. IsAnswer b crossed x) (sym same) (subst (λ g. IsAnswer b (last_of g crossed) d) none (answer_of o (last_of given crossed) a b d run.answered here said));
}

some_is : (n : ℕ) → 0 < n → (n == 0) ≡ false
some_is n some = grind (arith, nat_tests)

-- A job that is taken up has a number.
pub taken : (old new : Running) (n : ℕ) (back : Back) → 0 < n → TakesUp old new n back → next_of (n == 0) old new n back
taken old new n back some takes = subst (λ b. next_of b old new n back) (sym (some_is n some)) takes
