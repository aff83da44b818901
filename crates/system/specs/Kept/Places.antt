-- The acts of the system's threads at their places. Here `old` and `new` are all places before and after, `kept` is the
-- thread at the place before, and `answer` is the answer to the event.
use Rattle.std.specs.Prelude.{◌≡◌, ℕ, Bool, true, false, List, Option, Some, None, Result, Ok, Err, slice_get, slice_set}
use Rattle.method_table.specs.TableView.{TableView}
use Rattle.frames.specs.declared.Change.{Change as CodeChange}
use Rattle.thread_state.specs.declared.State.TheVariants.{Vacant}
use Rattle.system.specs.declared.thread.Thread.{Thread as Kept}
use Rattle.system.specs.declared.events.Act.TheVariants as act
use Rattle.system.specs.declared.answers.Answer.{Answer}
use Rattle.system.specs.declared.answers.Answer.TheVariants.{Refused, Frames, Exited}
use Rattle.system.specs.declared.answers.Refusal.{Refusal}
use Rattle.system.specs.declared.answers.Refusal.TheVariants.{NoSuchPlace, Illegal}
use Rattle.system.specs.Threads.{Thread}
use Rattle.system.specs.World.{World}
use Rattle.system.specs.Places.{here}
use Rattle.system.specs.Marking.{SameThread}
use Rattle.system.specs.Kept.Threads.{IsHere, PollIs}
use Rattle.system.specs.Kept.Acts.{Lent, Did, DidNext, SaysExit}

abbrev pub answer_here : Result Answer Refusal → Answer
answer_here (Ok answer) = answer
answer_here (Err refusal) = Refused refusal

-- The thread did the plain act as the definitions say, in every world with these codes and this thread.
abbrev pub DidAct : Lent → TableView → Kept → Kept → Result Answer Refusal → Type 0
DidAct lent table old new result =
    (w : World) (t : Thread) → table.codes ≡ w.codes → table.methods ≡ w.methods → IsHere lent.opens old w.requests t
    → Did lent w.requests (here w lent.act t) old new t result

-- The thread did the act at its place: its new state and its result.
pub record ActedAt (lent : Lent) (table : TableView) (place : ℕ) (kept : Kept) (old new : List (Option Kept)) (answer : Answer) : Type 0 where
  pub after : Kept
  pub result : Result Answer Refusal
  pub did : DidAct lent table kept after result
  pub said : answer ≡ answer_here result
  pub places : new ≡ slice_set old place (Some after)

-- The result of the act by the state of the place. A missing or vacant place refuses.
abbrev pub DidFound : Lent → TableView → ℕ → Option (Option Kept) → List (Option Kept) → List (Option Kept) → Answer → Type 0
DidFound lent table place None old new answer = (answer ≡ Refused NoSuchPlace) × (new ≡ old)
DidFound lent table place (Some None) old new answer = (answer ≡ Refused (Illegal Vacant)) × (new ≡ old)
DidFound lent table place (Some (Some kept)) old new answer = ActedAt lent table place kept old new answer

-- The thread at the place did the act.
abbrev pub DidAt : Lent → TableView → ℕ → List (Option Kept) → List (Option Kept) → Answer → Type 0
DidAt lent table place old new answer = DidFound lent table place (slice_get old place) old new answer

-- The thread leaves its place unless the exit is refused.
abbrev pub LeftUnless : ℕ → Kept → List (Option Kept) → List (Option Kept) → Option Refusal → Answer → Type 0
LeftUnless place kept old new None answer = (answer ≡ Exited kept.name) × (new ≡ slice_set old place None)
LeftUnless place kept old new (Some refusal) answer = (answer ≡ Refused refusal) × (new ≡ old)

-- The refusal, or its absence, is as the definitions say.
abbrev pub MayLeave : Kept → Option Refusal → Type 0
MayLeave kept refusal =
    (w : World) (t : Thread) → SameThread kept t → PollIs w.requests t kept → SaysExit (here w act.Exit t) t refusal

-- The result of an exit by the state of the place.
abbrev pub DidLeave : ℕ → Option (Option Kept) → List (Option Kept) → List (Option Kept) → Answer → Type 0
DidLeave place None old new answer = (answer ≡ Refused NoSuchPlace) × (new ≡ old)
DidLeave place (Some None) old new answer = (answer ≡ Refused (Illegal Vacant)) × (new ≡ old)
DidLeave place (Some (Some kept)) old new answer = (refusal : Option Refusal) × MayLeave kept refusal × LeftUnless place kept old new refusal answer

-- The thread at the place exited.
abbrev pub DidExit : ℕ → List (Option Kept) → List (Option Kept) → Answer → Type 0
DidExit place old new answer = DidLeave place (slice_get old place) old new answer

-- The thread did its next change as the definitions say.
abbrev pub DidCount : Kept → Kept → Result (Option CodeChange) Refusal → Type 0
DidCount old new result = (w : World) (t : Thread) → SameThread old t → DidNext (here w act.Change t) old new t result

-- The thread did the change at its place: its new state.
pub record CountedAt (place : ℕ) (kept : Kept) (old new : List (Option Kept)) (result : Result (Option CodeChange) Refusal) : Type 0 where
  pub after : Kept
  pub did : DidCount kept after result
  pub places : new ≡ slice_set old place (Some after)

-- The result of a change by the state of the place.
abbrev pub DidCountAt : ℕ → Option (Option Kept) → List (Option Kept) → List (Option Kept) → Result (Option CodeChange) Refusal → Type 0
DidCountAt place None old new result = (result ≡ Err NoSuchPlace) × (new ≡ old)
DidCountAt place (Some None) old new result = (result ≡ Err (Illegal Vacant)) × (new ≡ old)
DidCountAt place (Some (Some kept)) old new result = CountedAt place kept old new result

-- The thread at the place did its next change.
abbrev pub DidChange : ℕ → List (Option Kept) → List (Option Kept) → Result (Option CodeChange) Refusal → Type 0
DidChange place old new result = DidCountAt place (slice_get old place) old new result

-- The answer to a Stack by the state of the place.
abbrev pub frames_at : Option (Option Kept) → Answer
frames_at None = Refused NoSuchPlace
frames_at (Some None) = Refused (Illegal Vacant)
frames_at (Some (Some kept)) = Frames kept.image.frames

-- A thread is at the place.
abbrev pub is_taken : Option (Option Kept) → Bool
is_taken (Some (Some kept)) = true
is_taken other = false
