-- The acts of a thread as steps of its seat.
use Rattle.std.proofs.Common.{◌≡◌, ◌≢◌, ℕ, ◌<◌, Bool, true, false, cond, [], ◌∷◌, length, Some, None, sym, refl, ap, ◌∙◌, inl, inr, subst, arith}
use Rattle.std.specs.Prelude.{not, ◌&&◌, ◌==◌}
use Rattle.std.proofs.lemmas.Bool.{false≢true, and_right, eqb-true, eq-eqb, ne_eqb}
use Rattle.frames.specs.declared.CodeId.{CodeId}
use Rattle.frames.specs.declared.board_rule.StepMade.TheVariants.{LoadMoment, StorePlace}
use Rattle.system.specs.declared.events.Act.TheVariants as act
use Rattle.system.specs.declared.events.Event.TheVariants as event
use Rattle.system.specs.declared.answers.Answer.TheVariants as answer
use Rattle.frames.specs.Stack as stack
use Rattle.frames.specs.Stack.{same_code}
use Rattle.frames.specs.BoardStep.{BoardStep, thread, seat_read, seat_stored, load_moment, store_place}
use Rattle.frames.proofs.BoardLaws.{step_keeps}
use Rattle.system.specs.Threads.{Thread, has_changed, next_change, part}
use Rattle.system.specs.Log.{moment}
use Rattle.system.specs.World.{World, found, part_at, thread_at}
use Rattle.system.specs.Moments.{begun, ended, published_at, publishing_at, is_fresh}
use Rattle.system.proofs.Outcomes.{Stands, begun as with_begun, ended as with_ended, seated, Acts, Ends, Exits}
use Rattle.system.proofs.CaseOfEvent.{empty_of}
use Rattle.system.proofs.Frames.{none_left, part_quiet, part_settled}
use Rattle.system.proofs.ReclaimInvariant.{IsThread}
use Rattle.tie.specs.BoardOf.{is_given, is_missed, seat_by, seat_at, board_of}
use Rattle.tie.specs.Steps.{Made, GoesBy, of_thread}
use Rattle.tie.proofs.Tied.{IsReached}
use Rattle.tie.proofs.Board.{board_kept}
use Rattle.tie.proofs.Views.{IsAt, seat_becomes, loads, writes_place}

-- One allowed step goes from a board to the next.
pub one : (w v : World) (made : Made) → IsReached w → BoardStep w.slots (length w.places) (board_of w) (board_of v) made.actor made.step → GoesBy w.slots (length w.places) (board_of w) (made ∷ []) (board_of v)
one w v made h step = (board_of v, step, step_keeps w.slots (length w.places) (board_of w) (board_of v) made.actor made.step step (board_kept w h), refl)

pub same_number : (n : ℕ) → (n == n) ≡ true
same_number n = eq-eqb n n refl

-- What stands at the place of an act, and the entry of it.
pub seat_there : (w : World) (p : ℕ) (t : Thread) → Stands w p t → thread_at w p ≡ Some t
seat_there w p t s = ap found s.there

-- Begin loads the moment.
pub begin_step : (w : World) (p : ℕ) (t : Thread) → IsReached w → Acts w p t act.Begin
    → GoesBy w.slots (length w.places) (board_of w) (of_thread p (LoadMoment (moment w.log))) (board_of (seated w p (Some (with_begun t)) (event.At p act.Begin) answer.Done))
begin_step w p t h i = one w (seated w p (Some (with_begun t)) (event.At p act.Begin) answer.Done) (record { actor = thread p; step = LoadMoment (moment w.log) }) h
    (load_moment p i.stands.low
    (loads w p (Some t) (Some (with_begun t)) (event.At p act.Begin) answer.Done at (seat_read (seat_at w p) (moment w.log)) mine (λ c. ap (part_at c) there) (ap (published_at w.log p) there))
    (seat_becomes w p (Some t) (Some (with_begun t)) (event.At p act.Begin) answer.Done at (seat_read (seat_at w p) (moment w.log)) mine))
  where
    there : thread_at w p ≡ Some t
    there = seat_there w p t i.stands

    at : IsAt w p (Some t) (record { event = event.At p act.Begin; answer = answer.Done })
    at = record {
      there = i.stands.there;
      low = i.stands.low;
      unkept = record { no_round = refl; no_invalidate = λ s. refl; no_look = λ s q. refl };
      others = λ q ne. record { starts_not = refl; exits_not = refl; begins_not = ne_eqb p q (λ z. ne (sym z)); ends_not = refl; enters_not = λ s. refl; misses_not = λ s. refl };
    }

    opens : begun p (record { event = event.At p act.Begin; answer = answer.Done } ∷ w.log) ≡ moment w.log
    opens = let a = same_number p in rw a refl

    mine : seat_by w.codes (record { event = event.At p act.Begin; answer = answer.Done } ∷ w.log) p (Some (with_begun t)) ≡ seat_read (seat_at w p) (moment w.log)
    mine = (λ j. record {
      counted = λ c. sym (part_quiet c t i.quiet) j;
      fresh = λ c. is_given w.codes c && is_fresh p c.serial w.log;
      moment = opens j;
      stored = published_at w.log p (Some t);
      gone = λ c. is_given w.codes c && is_missed p c.serial w.log;
    }) ∙ ap (λ o. seat_read (seat_by w.codes w.log p o) (moment w.log)) (sym there)

-- Where nothing is left to change, a code counts as it stands.
pub part_done : (t : Thread) (c : CodeId) → next_change t ≡ None → stack.act c t.stack ≡ part c t
part_done t c h = by (has_changed t c) (stack.act c t.stack == stack.act c t.shown) refl (none_left t c h)
  where
    by : (x y : Bool) → (stack.act c t.stack == stack.act c t.shown) ≡ y → (not x && not y) ≡ false → stack.act c t.stack ≡ cond x (stack.act c t.stack) (stack.act c t.shown)
    by true y e k = refl
    by false true e k = eqb-true (stack.act c t.stack) (stack.act c t.shown) e
    by false false e k = absurd (false≢true (sym k))

-- End stores the moment of the publication.
pub end_step : (w : World) (p : ℕ) (t : Thread) → IsReached w → Ends w p t
    → GoesBy w.slots (length w.places) (board_of w) (of_thread p (StorePlace (publishing_at w.log p (thread_at w p)))) (board_of (seated w p (Some (with_ended t)) (event.At p act.End) answer.Done))
end_step w p t h i = one w (seated w p (Some (with_ended t)) (event.At p act.End) answer.Done) (record { actor = thread p; step = StorePlace (publishing_at w.log p (thread_at w p)) }) h
    (store_place p (publishing_at w.log p (thread_at w p)) i.publishes.stands.low (inl (some, refl))
    (writes_place w p (Some t) (Some (with_ended t)) (event.At p act.End) answer.Done at (seat_stored (seat_at w p) (publishing_at w.log p (thread_at w p))) mine (λ c. ap (part_at c) there))
    (seat_becomes w p (Some t) (Some (with_ended t)) (event.At p act.End) answer.Done at (seat_stored (seat_at w p) (publishing_at w.log p (thread_at w p))) mine))
  where
    there : thread_at w p ≡ Some t
    there = seat_there w p t i.publishes.stands

    m : IsThread w.codes w.log p t
    m = h.reclaimed.seats p t i.publishes.stands.there

    open_is : publishing_at w.log p (thread_at w p) ≡ begun p w.log
    open_is = ap (publishing_at w.log p) there ∙ ap (λ b. cond b (begun p w.log) 0) i.publishes.publishing

    some : publishing_at w.log p (thread_at w p) ≢ 0
    some z = let x = subst (λ n. 0 < n) m.begun_is (m.opened i.publishes.publishing) in let e = open_is in absurd (omega arith)

    at : IsAt w p (Some t) (record { event = event.At p act.End; answer = answer.Done })
    at = record {
      there = i.publishes.stands.there;
      low = i.publishes.stands.low;
      unkept = record { no_round = refl; no_invalidate = λ s. refl; no_look = λ s q. refl };
      others = λ q ne. record { starts_not = refl; exits_not = refl; begins_not = refl; ends_not = ne_eqb p q (λ z. ne (sym z)); enters_not = λ s. refl; misses_not = λ s. refl };
    }

    stored : ended p (record { event = event.At p act.End; answer = answer.Done } ∷ w.log) ≡ publishing_at w.log p (thread_at w p)
    stored = (let a = same_number p in rw a refl) ∙ sym open_is

    stale : (c : CodeId) → (is_given w.codes c && is_fresh p c.serial (record { event = event.At p act.End; answer = answer.Done } ∷ w.log)) ≡ false
    stale c = and_right (is_given w.codes c) _ (let a = same_number p in rw a refl)

    mine : seat_by w.codes (record { event = event.At p act.End; answer = answer.Done } ∷ w.log) p (Some (with_ended t)) ≡ seat_stored (seat_at w p) (publishing_at w.log p (thread_at w p))
    mine = λ j. record {
      counted = λ c. (part_done t c i.none ∙ ap (part_at c) (sym there)) j;
      fresh = λ c. stale c j;
      moment = 0;
      stored = stored j;
      gone = λ c. is_given w.codes c && is_missed p c.serial w.log;
    }

-- Exit stores the place as vacant.
pub exit_step : (w : World) (p : ℕ) (t : Thread) → IsReached w → Exits w p t
    → GoesBy w.slots (length w.places) (board_of w) (of_thread p (StorePlace 0)) (board_of (seated w p None (event.At p act.Exit) (answer.Exited t.name)))
exit_step w p t h i = one w (seated w p None (event.At p act.Exit) (answer.Exited t.name)) (record { actor = thread p; step = StorePlace 0 }) h
    (store_place p 0 i.acts.stands.low (inr ((λ c. ap (part_at c) there ∙ none c), refl))
    (writes_place w p (Some t) None (event.At p act.Exit) (answer.Exited t.name) at (seat_stored (seat_at w p) 0) mine (λ c. ap (part_at c) there))
    (seat_becomes w p (Some t) None (event.At p act.Exit) (answer.Exited t.name) at (seat_stored (seat_at w p) 0) mine))
  where
    there : thread_at w p ≡ Some t
    there = seat_there w p t i.acts.stands

    none : (c : CodeId) → part c t ≡ 0
    none c = part_settled c t i.settled ∙ ap (stack.act c) (empty_of t.stack i.empty)

    at : IsAt w p (Some t) (record { event = event.At p act.Exit; answer = answer.Exited t.name })
    at = record {
      there = i.acts.stands.there;
      low = i.acts.stands.low;
      unkept = record { no_round = refl; no_invalidate = λ s. refl; no_look = λ s q. refl };
      others = λ q ne. record { starts_not = refl; exits_not = ne_eqb p q (λ z. ne (sym z)); begins_not = refl; ends_not = refl; enters_not = λ s. refl; misses_not = λ s. refl };
    }

    stale : (c : CodeId) → (is_given w.codes c && is_fresh p c.serial (record { event = event.At p act.Exit; answer = answer.Exited t.name } ∷ w.log)) ≡ false
    stale c = and_right (is_given w.codes c) _ (let a = same_number p in rw a refl)

    mine : seat_by w.codes (record { event = event.At p act.Exit; answer = answer.Exited t.name } ∷ w.log) p None ≡ seat_stored (seat_at w p) 0
    mine = λ j. record {
      counted = λ c. (sym (none c) ∙ ap (part_at c) (sym there)) j;
      fresh = λ c. stale c j;
      moment = 0;
      stored = 0;
      gone = λ c. is_given w.codes c && is_missed p c.serial w.log;
    }
