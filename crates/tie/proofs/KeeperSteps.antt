-- The events of codes and of the moment as steps of the keeper.
use Rattle.std.proofs.Common.{◌≡◌, ◌≢◌, ℕ, ◌+◌, ◌<◌, false, List, ◌∷◌, length, Option, Some, None, sym, refl, ap, ◌∙◌, subst, arith}
use Rattle.std.specs.Prelude.{not, ◌&&◌, ◌==◌, option_map}
use Rattle.std.proofs.lemmas.Bool.{false≢true, eq-eqb, ne_eqb, false_from_ne_true}
use Rattle.frames.specs.declared.CodeId.{CodeId}
use Rattle.frames.specs.declared.board_rule.EntryState.TheVariants as entry
use Rattle.frames.specs.declared.board_rule.StepMade.TheVariants.{StoreEntry, AddMoment}
use Rattle.method_table.specs.declared.Code.{Code}
use Rattle.method_table.specs.declared.CodeState.{CodeState}
use Rattle.method_table.specs.declared.CodeState.TheVariants.{InUse, NotEntrant, Zombie, Freed}
use Rattle.system.specs.declared.events.Event.TheVariants as event
use Rattle.system.specs.declared.answers.Answer.TheVariants as answer
use Rattle.frames.specs.BoardWords.{Word, IsWord, entry_of, count_of, place_of, the_moment, pack, written}
use Rattle.frames.specs.BoardRule.{SlotState, SeatState, code, code_at}
use Rattle.frames.specs.BoardStep.{keeper, slot_invalidated, slot_in, store_not_entrant, add_moment, store_vacant}
use Rattle.method_table.specs.Numbers.{last_number}
use Rattle.method_table.specs.Codes.{id_of, is_in_use, code_of, in_state, with_state}
use Rattle.system.specs.Log.{Entry, is_looked, moment}
use Rattle.system.specs.World.{World, part_at, walk, thread_at}
use Rattle.system.specs.Laws.{is_retired}
use Rattle.system.specs.Moments.{invalidated, left_at, is_fresh}
use Rattle.system.proofs.Outcomes.{noted, coded, IsCode}
use Rattle.system.proofs.Table.{in_state_slot, in_state_here, in_state_other, code_with_state, unfreed_code, unfreed_takes}
use Rattle.system.proofs.Moments.{moment_step}
use Rattle.system.proofs.ReclaimInvariant.{is_unused}
use Rattle.method_table.specs.Entries.{entry_state, newest_in}
use Rattle.tie.specs.BoardOf.{slot_by, slot_at, stands_in, is_given, is_missed, seat_by, seat_at, word_by, board_of}
use Rattle.tie.specs.Steps.{Made, GoesBy, of_keeper, for_code}
use Rattle.method_table.proofs.Newest.{newest_with}
use Rattle.tie.proofs.Slots.{newest_code, newest_of}
use Rattle.tie.proofs.Tied.{IsReached}
use Rattle.tie.proofs.Views.{IsOf, slot_same, seat_same, slot_becomes, writes_entry}
use Rattle.tie.proofs.ThreadSteps.{one}

-- A code that isn't freed, in its slot.
module _ (w : World) (s : ℕ) (k : Code) (from : CodeState) (h : IsReached w) (i : IsCode w s k from) where
  pub code_here : code_of w.codes s ≡ Some k
  code_here = unfreed_code w.slots w.methods w.codes h.kept.table s k i.found

  pub newest_here : newest_in w.codes k.slot ≡ Some k
  newest_here = newest_of w.slots w.methods w.codes h.kept.table h.tied.old_freed s k code_here (unfreed_takes w.codes s k i.found)

  pub slot_is_low : k.slot < w.slots
  slot_is_low = (newest_code w.slots w.methods w.codes h.kept.table k.slot k newest_here).2

  pub slot_is : slot_at w k.slot ≡ slot_by w.log (Some k)
  slot_is = ap (slot_by w.log) newest_here

  pub state_here : (slot_at w k.slot).state ≡ entry_state from
  state_here = ap (λ (x : SlotState). x.state) slot_is ∙ ap entry_state i.state_is

  pub code_at_is : code_at (board_of w) k.slot ≡ id_of k
  code_at_is = ap (λ (x : SlotState). code k.slot x.serial) slot_is

  -- In another slot stands another code.
  pub other_slot : (j : ℕ) → j ≢ k.slot → (x : Code) → newest_in w.codes j ≡ Some x → x.serial ≢ s
  other_slot j ne x at e =
      let n = newest_code w.slots w.methods w.codes h.kept.table j x at in
      let both : Some x ≡ Some k = sym n.0 ∙ (ap (code_of w.codes) e ∙ code_here) in let same : x ≡ k = cc in ne (sym n.1 ∙ ap (λ (y : Code). y.slot) same)

  -- Where the code comes into another state, other slots have the codes that they had.
  pub newest_then : (to : CodeState) → newest_in (with_state w.codes s to) k.slot ≡ Some (record k { state = to })
  newest_then to = newest_with w.codes s to k.slot ∙ (ap (option_map (in_state s to)) newest_here ∙ ap Some (in_state_here s to k i.serial_is))

  pub newest_other : (to : CodeState) (j : ℕ) → j ≢ k.slot → newest_in (with_state w.codes s to) j ≡ newest_in w.codes j
  newest_other to j ne = newest_with w.codes s to j ∙ by (newest_in w.codes j) refl
    where
      by : (o : Option Code) → newest_in w.codes j ≡ o → option_map (in_state s to) o ≡ o
      by None e = refl
      by (Some x) e = ap Some (in_state_other s to x (other_slot j ne x e))

  -- Its steps are found.
  pub steps_for : (steps : CodeId → List Made) → for_code (code_of w.codes s) steps ≡ steps (id_of k)
  steps_for steps = ap (λ o. for_code o steps) code_here

-- A change of state gives out no code and takes none back.
given_with : (codes : List Code) (s : ℕ) (to : CodeState) (c : CodeId) → is_given (with_state codes s to) c ≡ is_given codes c
given_with codes s to c = ap (λ o. stands_in o c.slot) (code_with_state codes s to c.serial) ∙ by (code_of codes c.serial)
  where
    by : (o : Option Code) → stands_in (option_map (in_state s to) o) c.slot ≡ stands_in o c.slot
    by None = refl
    by (Some k) = ap (λ n. n == c.slot) (in_state_slot s to k)

pub seats_with : (w : World) (s : ℕ) (to : CodeState) (q : ℕ) → seat_by (with_state w.codes s to) w.log q (thread_at w q) ≡ seat_by w.codes w.log q (thread_at w q)
seats_with w s to q = λ j. record {
  counted = λ c. part_at c (thread_at w q);
  fresh = λ c. given_with w.codes s to c j && is_fresh q c.serial w.log;
  moment = (seat_at w q).moment;
  stored = (seat_at w q).stored;
  gone = λ c. given_with w.codes s to c j && is_missed q c.serial w.log;
}

-- Invalidate stores the entry as not entrant.
module _ (w : World) (s : ℕ) (k : Code) (h : IsReached w) (i : IsCode w s k InUse) where
  abbrev entry_left : Entry
  entry_left = record { event = event.Invalidate s; answer = answer.Done }

  abbrev after_left : World
  after_left = coded w (with_state w.codes s NotEntrant) (event.Invalidate s) answer.Done

  of_left : IsOf w (with_state w.codes s NotEntrant) entry_left
  of_left = record {
    no_round = refl;
    unseen = λ q. record { starts_not = refl; exits_not = refl; begins_not = refl; ends_not = refl; enters_not = λ r. refl; misses_not = λ r. refl };
    seats = seats_with w s NotEntrant;
  }

  never : invalidated k.serial w.log ≡ false
  never = h.reclaimed.table.invalidated_is k.serial ∙ (ap (λ n. is_unused (code_of w.codes n)) i.serial_is ∙ (ap is_unused (code_here w s k InUse h i) ∙ ap (λ x. not (is_in_use x)) i.state_is))

  left_now : left_at k.serial (entry_left ∷ w.log) ≡ moment w.log
  left_now = let a = eq-eqb s k.serial (sym i.serial_is) in let b = never in rw (a, b) refl

  unlooked_here : (p : ℕ) → is_looked w.log k.serial p ≡ false
  unlooked_here p = false_from_ne_true (is_looked w.log k.serial p) (λ l. false≢true (sym never ∙ h.reclaimed.table.looked_by k.serial p l))

  slot_left : slot_at after_left k.slot ≡ slot_invalidated (slot_at w k.slot) (moment w.log)
  slot_left = ap (slot_by (entry_left ∷ w.log)) (newest_then w s k InUse h i NotEntrant)
      ∙ ((λ j. record { serial = k.serial; state = entry.NotEntrant; left = left_now j; looked = λ p. unlooked_here p j; clear = false }) ∙ ap (λ x. slot_invalidated x (moment w.log)) (sym (slot_is w s k InUse h i)))

  others_left : (j : ℕ) → j ≢ k.slot → slot_at after_left j ≡ slot_at w j
  others_left j ne = ap (slot_by (entry_left ∷ w.log)) (newest_other w s k InUse h i NotEntrant j ne)
      ∙ slot_same entry_left w.log (newest_in w.codes j) (λ x at. (let a = ne_eqb s x.serial (λ e. other_slot w s k InUse h i j ne x at (sym e)) in rw a refl)) (λ x at p. refl)

  pub invalidate_step : GoesBy w.slots (length w.places) (board_of w) (for_code (code_of w.codes s) (λ c. of_keeper (StoreEntry c entry.NotEntrant))) (board_of after_left)
  invalidate_step = subst (λ steps. GoesBy w.slots (length w.places) (board_of w) steps (board_of after_left)) (sym (steps_for w s k InUse h i (λ c. of_keeper (StoreEntry c entry.NotEntrant))))
      (subst (λ c. GoesBy w.slots (length w.places) (board_of w) (of_keeper (StoreEntry c entry.NotEntrant)) (board_of after_left)) (code_at_is w s k InUse h i)
      (one w after_left (record { actor = keeper; step = StoreEntry (code_at (board_of w) k.slot) entry.NotEntrant }) h
      (store_not_entrant k.slot (slot_is_low w s k InUse h i) (state_here w s k InUse h i)
      (writes_entry w (with_state w.codes s NotEntrant) (event.Invalidate s) answer.Done of_left k.slot (slot_invalidated (slot_at w k.slot) (moment w.log)) slot_left others_left refl)
      (slot_becomes w (with_state w.codes s NotEntrant) (event.Invalidate s) answer.Done of_left k.slot (slot_invalidated (slot_at w k.slot) (moment w.log)) slot_left others_left))))

-- Free stores the entry as vacant.
module _ (w : World) (s : ℕ) (k : Code) (h : IsReached w) (i : IsCode w s k Zombie) where
  abbrev entry_freed : Entry
  entry_freed = record { event = event.Free s; answer = answer.Done }

  abbrev after_freed : World
  after_freed = coded w (with_state w.codes s Freed) (event.Free s) answer.Done

  of_freed : IsOf w (with_state w.codes s Freed) entry_freed
  of_freed = record {
    no_round = refl;
    unseen = λ q. record { starts_not = refl; exits_not = refl; begins_not = refl; ends_not = refl; enters_not = λ r. refl; misses_not = λ r. refl };
    seats = seats_with w s Freed;
  }

  slot_freed : slot_at after_freed k.slot ≡ slot_in (slot_at w k.slot) entry.Vacant
  slot_freed = ap (slot_by (entry_freed ∷ w.log)) (newest_then w s k Zombie h i Freed)
      ∙ ((λ j. record { serial = k.serial; state = entry.Vacant; left = left_at k.serial w.log; looked = λ p. is_looked w.log k.serial p; clear = ap is_retired (sym i.state_is) j }) ∙ ap (λ x. slot_in x entry.Vacant) (sym (slot_is w s k Zombie h i)))

  others_freed : (j : ℕ) → j ≢ k.slot → slot_at after_freed j ≡ slot_at w j
  others_freed j ne = ap (slot_by (entry_freed ∷ w.log)) (newest_other w s k Zombie h i Freed j ne) ∙ slot_same entry_freed w.log (newest_in w.codes j) (λ x at. refl) (λ x at p. refl)

  pub free_step : GoesBy w.slots (length w.places) (board_of w) (for_code (code_of w.codes s) (λ c. of_keeper (StoreEntry c entry.Vacant))) (board_of after_freed)
  free_step = subst (λ steps. GoesBy w.slots (length w.places) (board_of w) steps (board_of after_freed)) (sym (steps_for w s k Zombie h i (λ c. of_keeper (StoreEntry c entry.Vacant))))
      (subst (λ c. GoesBy w.slots (length w.places) (board_of w) (of_keeper (StoreEntry c entry.Vacant)) (board_of after_freed)) (code_at_is w s k Zombie h i)
      (one w after_freed (record { actor = keeper; step = StoreEntry (code_at (board_of w) k.slot) entry.Vacant }) h
      (store_vacant k.slot (slot_is_low w s k Zombie h i) (state_here w s k Zombie h i)
      (writes_entry w (with_state w.codes s Freed) (event.Free s) answer.Done of_freed k.slot (slot_in (slot_at w k.slot) entry.Vacant) slot_freed others_freed refl)
      (slot_becomes w (with_state w.codes s Freed) (event.Free s) answer.Done of_freed k.slot (slot_in (slot_at w k.slot) entry.Vacant) slot_freed others_freed))))

-- Round adds one to the moment.
pub round_step : (w : World) → IsReached w → moment w.log < last_number → GoesBy w.slots (length w.places) (board_of w) (of_keeper (AddMoment (moment w.log))) (board_of (noted w event.Round answer.Done))
round_step w h room = one w (noted w event.Round answer.Done) (record { actor = keeper; step = AddMoment (moment w.log) }) h
    (add_moment (omega arith) words (record { mine = turn; slots_stay = λ i. λ k. slots k i; seats_stay = λ i. λ q. seats q i }))
  where
    turn : moment (record { event = event.Round; answer = answer.Done } ∷ w.log) ≡ moment w.log + 1
    turn = let x = moment_step (record { event = event.Round; answer = answer.Done }) w.log in omega arith

    slots : (k : ℕ) → slot_at (noted w event.Round answer.Done) k ≡ slot_at w k
    slots k = slot_same (record { event = event.Round; answer = answer.Done }) w.log (newest_in w.codes k) (λ x at. refl) (λ x at p. refl)

    seats : (q : ℕ) → seat_at (noted w event.Round answer.Done) q ≡ seat_at w q
    seats q = seat_same w.codes w.log q (thread_at w q) (record { event = event.Round; answer = answer.Done })
        (record { starts_not = refl; exits_not = refl; begins_not = refl; ends_not = refl; enters_not = λ r. refl; misses_not = λ r. refl })

    words : (y : Word) → IsWord w.slots (length w.places) y → word_by (noted w event.Round answer.Done) y ≡ written the_moment (moment w.log + 1) (word_by w) y
    words (entry_of k) low = ap (λ (x : SlotState). pack x.serial x.state) (slots k)
    words (count_of k) low = ap (λ (x : SlotState). walk w (code k x.serial)) (slots k)
    words (place_of q) low = ap (λ (x : SeatState). x.stored) (seats q)
    words the_moment low = turn
