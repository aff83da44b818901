-- Enter with a code loads the entry of its slot.
use Rattle.std.proofs.Common.{◌≡◌, ◌≢◌, ℕ, ◌<◌, Bool, true, false, cond, List, ◌∷◌, length, Some, sym, refl, ap, ◌∙◌, ⊎_elim, subst, arith}
use Rattle.std.specs.Prelude.{◌||◌, ◌&&◌, ◌==◌}
use Rattle.std.proofs.lemmas.Bool.{false≢true, and_right, eqb-true, eqb-false, eq-eqb, ne_eqb, lt-ltb, le-ltb}
use mathlib.Core.Logic.{dite}
use native.Mathlib.Decide.{ℕ_discrete}
use Rattle.frames.specs.declared.CodeId.{CodeId}
use Rattle.frames.specs.declared.board_rule.EntryState.TheVariants as entry
use Rattle.frames.specs.declared.board_rule.StepMade.TheVariants.{LoadEntry}
use Rattle.method_table.specs.declared.Code.{Code}
use Rattle.system.specs.declared.events.Act.TheVariants as act
use Rattle.system.specs.declared.events.Event.TheVariants as event
use Rattle.system.specs.declared.answers.Answer.TheVariants as answer
use Rattle.frames.specs.Stack.{same_code}
use Rattle.frames.specs.BoardWords.{entry_of, pack, says_in_use, says_gone}
use Rattle.frames.specs.BoardRule.{SeatState}
use Rattle.frames.specs.BoardStep.{thread, seat_entered, load_entry}
use Rattle.method_table.specs.Codes.{id_of, is_in_use, takes_slot, code_of}
use Rattle.system.specs.Threads.{Thread}
use Rattle.system.specs.Log.{Entry}
use Rattle.system.specs.World.{World, part_at, thread_at}
use Rattle.system.specs.Moments.{ended, published_at, publishing_at, is_fresh}
use Rattle.system.proofs.Outcomes.{Stands, entered, seated, Enters, Misses}
use Rattle.system.proofs.Frames.{part_quiet}
use Rattle.system.proofs.Table.{code_serial}
use Rattle.method_table.specs.Entries.{entry_state, newest_in}
use Rattle.tie.specs.BoardOf.{stands_in, is_given, is_missed, seat_by, seat_at, word_by, slot_by, board_of}
use Rattle.tie.specs.Steps.{GoesBy, of_thread, for_code, enter_steps}
use Rattle.tie.proofs.Slots.{newest_code, newest_of, newer_than}
use Rattle.tie.proofs.Tied.{IsReached}
use Rattle.tie.proofs.Board.{rank_left}
use Rattle.tie.proofs.Views.{IsAt, seat_becomes, loads}
use Rattle.tie.proofs.ThreadSteps.{one, same_number, seat_there}

pub eqb_sym : (a b : ℕ) → (a == b) ≡ (b == a)
eqb_sym a b = dite (ℕ_discrete a b) (λ e. eq-eqb a b e ∙ sym (eq-eqb b a (sym e))) (λ ne. ne_eqb a b ne ∙ sym (ne_eqb b a (λ x. ne (sym x))))

and_true : (b : Bool) → (b && true) ≡ b
and_true true = refl
and_true false = refl

-- The code of a serial is asked for.
asked : (codes : List Code) (s : ℕ) (k : Code) (d : CodeId) → code_of codes s ≡ Some k → (is_given codes d && (s == d.serial)) ≡ same_code d (id_of k)
asked codes s k d is = by (s == d.serial) refl
  where
    by : (b : Bool) → (s == d.serial) ≡ b → (is_given codes d && b) ≡ ((d.serial == k.serial) && (d.slot == k.slot))
    by true x =
        let e = eqb-true s d.serial x in let here : code_of codes d.serial ≡ Some k = ap (code_of codes) (sym e) ∙ is in
        let y = eq-eqb d.serial k.serial (sym e ∙ sym (code_serial codes s k is)) in
        (ap (λ o. stands_in o d.slot && true) here ∙ (and_true (k.slot == d.slot) ∙ eqb_sym k.slot d.slot)) ∙ (rw y refl)
    by false x =
        let y = ne_eqb d.serial k.serial (λ e. eqb-false s d.serial x (sym (e ∙ code_serial codes s k is))) in
        and_right (is_given codes d) false refl ∙ (rw y refl)

joins : (g a f c x : Bool) → (g && a) ≡ c → x ≡ true → (g && (a || f)) ≡ ((c && x) || (g && f))
joins true true f true x e h = rw h refl
joins true true f false x e h = absurd (false≢true (sym e))
joins true false f true x e h = absurd (false≢true e)
joins true false f false x e h = refl
joins false a f true x e h = absurd (false≢true e)
joins false a f false x e h = refl

stays : (c x y : Bool) → x ≡ false → y ≡ ((c && x) || y)
stays true x y h = rw h refl
stays false x y h = refl

-- What a seat stored where its thread ended a publication.
stored_some : (w : World) (p : ℕ) (t : Thread) → IsReached w → Stands w p t → t.published ≡ true → (seat_at w p).stored ≢ 0
stored_some w p t h s y z =
    let m = h.reclaimed.seats p t s.there in let some = subst (λ n. 0 < n) m.ended_is (m.closed y) in
    let n : ended p w.log ≡ 0 = sym (ap (λ b. cond b (ended p w.log) 0) y) ∙ (sym (ap (published_at w.log p) (seat_there w p t s)) ∙ z) in absurd (omega arith)

-- The word of the entry of a newest code.
entry_is : (w : World) (slot : ℕ) (k : Code) → newest_in w.codes slot ≡ Some k → word_by w (entry_of slot) ≡ pack k.serial (entry_state k.state)
entry_is w slot k here = ap (λ o. pack (slot_by w.log o).serial (slot_by w.log o).state) here

slot_low : (w : World) (s : ℕ) (k : Code) → IsReached w → code_of w.codes s ≡ Some k → k.slot < w.slots
slot_low w s k h is = let n = newer_than w.slots w.methods w.codes h.kept.table s k is in (newest_code w.slots w.methods w.codes h.kept.table k.slot n.0 n.1).2

found_code : (w : World) (serial : ℕ) (k : Code) (p : ℕ) → code_of w.codes serial ≡ Some k → enter_steps w p (Some serial) ≡ of_thread p (LoadEntry (id_of k) (word_by w (entry_of k.slot)))
found_code w serial k p is = ap (λ o. for_code o (λ c. of_thread p (LoadEntry c (word_by w (entry_of c.slot))))) is

-- Of code in use.
module _ (w : World) (p : ℕ) (t : Thread) (method serial : ℕ) (k : Code) (h : IsReached w) (i : Enters w p t method serial k) where
  abbrev entry_made : Entry
  entry_made = record { event = event.At p (act.Enter method (Some serial)); answer = answer.Entered }

  abbrev after_enter : World
  after_enter = seated w p (Some (entered t method (Some (id_of k)))) (event.At p (act.Enter method (Some serial))) answer.Entered

  abbrev knows : SeatState
  knows = seat_entered (seat_at w p) (id_of k) (word_by w (entry_of k.slot))

  there : thread_at w p ≡ Some t
  there = seat_there w p t i.calls.acts.stands

  at : IsAt w p (Some t) entry_made
  at = record {
    there = i.calls.acts.stands.there;
    low = i.calls.acts.stands.low;
    unkept = record { no_round = refl; no_invalidate = λ s. refl; no_look = λ s q. refl };
    others = λ q ne. (let a = ne_eqb p q (λ z. ne (sym z)) in record { starts_not = refl; exits_not = refl; begins_not = refl; ends_not = refl; enters_not = λ s. (rw a refl); misses_not = λ s. refl });
  }

  pub word_is : word_by w (entry_of k.slot) ≡ pack k.serial entry.InUse
  word_is = entry_is w k.slot k (newest_of w.slots w.methods w.codes h.kept.table h.tied.old_freed serial k i.code_is (ap takes_slot i.in_use)) ∙ ap (λ s. pack k.serial (entry_state s)) i.in_use

  fresh_is : (c : CodeId) → (is_given w.codes c && is_fresh p c.serial (entry_made ∷ w.log)) ≡ ((same_code c (id_of k) && says_in_use (word_by w (entry_of k.slot)) (id_of k)) || (is_given w.codes c && is_fresh p c.serial w.log))
  fresh_is c = let a = same_number p in rw a (joins (is_given w.codes c) (serial == c.serial) (is_fresh p c.serial w.log) (same_code c (id_of k)) (says_in_use (word_by w (entry_of k.slot)) (id_of k)) (asked w.codes serial k c i.code_is) (eq-eqb (word_by w (entry_of k.slot)) (pack k.serial entry.InUse) word_is))

  gone_is : (c : CodeId) → (is_given w.codes c && is_missed p c.serial w.log) ≡ ((same_code c (id_of k) && says_gone (word_by w (entry_of k.slot)) (id_of k)) || (is_given w.codes c && is_missed p c.serial w.log))
  gone_is c = stays (same_code c (id_of k)) (says_gone (word_by w (entry_of k.slot)) (id_of k)) (is_given w.codes c && is_missed p c.serial w.log) (le-ltb (pack k.serial entry.InUse) (word_by w (entry_of k.slot)) (let e = word_is in omega arith))

  mine : seat_by w.codes (entry_made ∷ w.log) p (Some (entered t method (Some (id_of k)))) ≡ knows
  mine = λ j. record {
    counted = λ c. (part_quiet c (entered t method (Some (id_of k))) i.calls.acts.quiet ∙ (sym (part_quiet c t i.calls.acts.quiet) ∙ ap (part_at c) (sym there))) j;
    fresh = λ c. fresh_is c j;
    moment = ap (publishing_at w.log p) (sym there) j;
    stored = ap (published_at w.log p) (sym there) j;
    gone = λ c. gone_is c j;
  }

  pub enter_step : GoesBy w.slots (length w.places) (board_of w) (enter_steps w p (Some serial)) (board_of after_enter)
  enter_step = subst (λ steps. GoesBy w.slots (length w.places) (board_of w) steps (board_of after_enter)) (sym (found_code w serial k p i.code_is))
      (one w after_enter (record { actor = thread p; step = LoadEntry (id_of k) (word_by w (entry_of k.slot)) }) h
      (load_entry p (id_of k) i.calls.acts.stands.low (slot_low w serial k h i.code_is) (stored_some w p t h i.calls.acts.stands i.calls.published)
      (loads w p (Some t) (Some (entered t method (Some (id_of k)))) (event.At p (act.Enter method (Some serial))) answer.Entered at knows mine (λ c. ap (part_at c) there) (ap (published_at w.log p) there))
      (seat_becomes w p (Some t) (Some (entered t method (Some (id_of k)))) (event.At p (act.Enter method (Some serial))) answer.Entered at knows mine)))

-- Of code that is no longer in use: it is found gone.
module _ (w : World) (p : ℕ) (t : Thread) (method serial : ℕ) (k : Code) (h : IsReached w) (i : Misses w p t method serial k) where
  abbrev entry_missed : Entry
  entry_missed = record { event = event.At p (act.Enter method (Some serial)); answer = answer.WrongMethod }

  abbrev after_miss : World
  after_miss = seated w p (Some t) (event.At p (act.Enter method (Some serial))) answer.WrongMethod

  abbrev knows_gone : SeatState
  knows_gone = seat_entered (seat_at w p) (id_of k) (word_by w (entry_of k.slot))

  there_missed : thread_at w p ≡ Some t
  there_missed = seat_there w p t i.calls.acts.stands

  at_missed : IsAt w p (Some t) entry_missed
  at_missed = record {
    there = i.calls.acts.stands.there;
    low = i.calls.acts.stands.low;
    unkept = record { no_round = refl; no_invalidate = λ s. refl; no_look = λ s q. refl };
    others = λ q ne. (let a = ne_eqb p q (λ z. ne (sym z)) in record { starts_not = refl; exits_not = refl; begins_not = refl; ends_not = refl; enters_not = λ s. refl; misses_not = λ s. (rw a refl) });
  }

  pub word_more : pack k.serial entry.InUse < word_by w (entry_of k.slot)
  word_more =
      let n = newer_than w.slots w.methods w.codes h.kept.table serial k i.code_is in let e = entry_is w k.slot n.0 n.1 in
      ⊎_elim (λ same. (let a : n.0.serial ≡ k.serial = ap (λ (y : Code). y.serial) same in let b = rank_left n.0.state (ap (λ (y : Code). is_in_use y.state) same ∙ i.not_in_use) in omega arith)) (λ later. omega arith) n.2

  fresh_stays : (c : CodeId) → (is_given w.codes c && is_fresh p c.serial w.log) ≡ ((same_code c (id_of k) && says_in_use (word_by w (entry_of k.slot)) (id_of k)) || (is_given w.codes c && is_fresh p c.serial w.log))
  fresh_stays c = stays (same_code c (id_of k)) (says_in_use (word_by w (entry_of k.slot)) (id_of k)) (is_given w.codes c && is_fresh p c.serial w.log) (ne_eqb (word_by w (entry_of k.slot)) (pack k.serial entry.InUse) (λ z. (let m = word_more in omega arith)))

  gone_joins : (c : CodeId) → (is_given w.codes c && is_missed p c.serial (entry_missed ∷ w.log)) ≡ ((same_code c (id_of k) && says_gone (word_by w (entry_of k.slot)) (id_of k)) || (is_given w.codes c && is_missed p c.serial w.log))
  gone_joins c = let a = same_number p in rw a (joins (is_given w.codes c) (serial == c.serial) (is_missed p c.serial w.log) (same_code c (id_of k)) (says_gone (word_by w (entry_of k.slot)) (id_of k)) (asked w.codes serial k c i.code_is) (lt-ltb (pack k.serial entry.InUse) (word_by w (entry_of k.slot)) word_more))

  mine_missed : seat_by w.codes (entry_missed ∷ w.log) p (Some t) ≡ knows_gone
  mine_missed = λ j. record {
    counted = λ c. ap (part_at c) (sym there_missed) j;
    fresh = λ c. fresh_stays c j;
    moment = ap (publishing_at w.log p) (sym there_missed) j;
    stored = ap (published_at w.log p) (sym there_missed) j;
    gone = λ c. gone_joins c j;
  }

  pub miss_step : GoesBy w.slots (length w.places) (board_of w) (enter_steps w p (Some serial)) (board_of after_miss)
  miss_step = subst (λ steps. GoesBy w.slots (length w.places) (board_of w) steps (board_of after_miss)) (sym (found_code w serial k p i.code_is))
      (one w after_miss (record { actor = thread p; step = LoadEntry (id_of k) (word_by w (entry_of k.slot)) }) h
      (load_entry p (id_of k) i.calls.acts.stands.low (slot_low w serial k h i.code_is) (stored_some w p t h i.calls.acts.stands i.calls.published)
      (loads w p (Some t) (Some t) (event.At p (act.Enter method (Some serial))) answer.WrongMethod at_missed knows_gone mine_missed (λ c. ap (part_at c) there_missed) (ap (published_at w.log p) there_missed))
      (seat_becomes w p (Some t) (Some t) (event.At p (act.Enter method (Some serial))) answer.WrongMethod at_missed knows_gone mine_missed)))
