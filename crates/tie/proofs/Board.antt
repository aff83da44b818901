-- The board of every world that events lead to meets the rule.
use Rattle.std.proofs.Common.{◌≡◌, ◌⊎◌, ℕ, zero, suc, ◌+◌, ◌<◌, ◌≤◌, Bool, true, false, cond, List, [], ◌∷◌, length, Option, Some, None, sym, refl, ap, ◌∙◌, inl, inr, ⊎_elim, subst, arith}
use Rattle.std.specs.Prelude.{not, ◌||◌, ◌&&◌, nat_lt, slice_get, sum_by}
use Rattle.std.proofs.lemmas.Bool.{false≢true, and_parts, or_parts, and_right, eqb-true, ltb-false, false_from_ne_true}
use Rattle.std.proofs.lemmas.List.Sums.{sum_by-cons}
use Rattle.frames.specs.declared.CodeId.{CodeId}
use Rattle.frames.specs.declared.board_rule.EntryState.TheVariants as entry
use Rattle.method_table.specs.declared.Code.{Code}
use Rattle.method_table.specs.declared.CodeState.{CodeState}
use Rattle.method_table.specs.declared.CodeState.TheVariants.{InUse, NotEntrant, Zombie, Freed}
use Rattle.frames.specs.Stack.{act}
use Rattle.frames.specs.BoardWords.{rank, pack}
use Rattle.frames.specs.BoardRule.{code, total, IsBoardKept}
use Rattle.frames.proofs.BoardParts.{IsSlotKept, IsSeatKept, Stands, IsPairKept, of_parts}
use Rattle.method_table.specs.Codes.{is_in_use, takes_slot, code_of}
use Rattle.system.specs.Threads.{Thread, has_changed, part, is_publishing}
use Rattle.system.specs.Log.{Entry, is_invalidate, is_looked, moment}
use Rattle.system.specs.World.{World, start_world, found, part_at, thread_at}
use Rattle.system.specs.Runs.{world_after}
use Rattle.system.specs.Facts.{may_stand}
use Rattle.system.specs.Laws.{is_retired}
use Rattle.system.specs.Moments.{invalidated, left_at, begun, ended, published_at, is_fresh}
use Rattle.system.proofs.Seats.{there_of}
use Rattle.system.proofs.Table.{code_serial}
use Rattle.system.proofs.Sound.{counts_sound}
use Rattle.system.proofs.Moments.{ended_at, left_by, begun_by, ended_by, end_is}
use Rattle.system.proofs.ReclaimInvariant.{is_unused, IsThread}
use Rattle.system.proofs.ReclaimSteps.{left_in}
use Rattle.method_table.specs.Entries.{entry_state, newest_in}
use Rattle.tie.specs.BoardOf.{slot_by, slot_at, stands_in, is_given, is_missed, seat_by, seat_at, board_of, BoardsKeepTheRule}
use Rattle.tie.proofs.Slots.{newest_code, newest_of, newer_than}
use Rattle.tie.proofs.Tied.{some_place, fresh_unlooked, IsReached, reached, sizes_are}

-- States by their rank.
used_rank : (s : CodeState) → rank (entry_state s) ≡ 0 → s ≡ InUse
used_rank InUse h = refl
used_rank NotEntrant h = absurd (omega arith)
used_rank Zombie h = absurd (omega arith)
used_rank Freed h = absurd (omega arith)

left_rank : (s : CodeState) → 0 < rank (entry_state s) → is_in_use s ≡ false
left_rank InUse h = absurd (omega arith)
left_rank NotEntrant h = refl
left_rank Zombie h = refl
left_rank Freed h = refl

pub rank_left : (s : CodeState) → is_in_use s ≡ false → 0 < rank (entry_state s)
rank_left InUse h = absurd (false≢true (sym h))
rank_left NotEntrant h = omega arith
rank_left Zombie h = omega arith
rank_left Freed h = omega arith

stand_rank : (s : CodeState) → may_stand s ≡ true → rank (entry_state s) < 2
stand_rank InUse h = omega arith
stand_rank NotEntrant h = omega arith
stand_rank Zombie h = absurd (false≢true h)
stand_rank Freed h = absurd (false≢true h)

pub stand_takes : (s : CodeState) → may_stand s ≡ true → takes_slot s ≡ true
stand_takes InUse h = refl
stand_takes NotEntrant h = refl
stand_takes Zombie h = refl
stand_takes Freed h = absurd (false≢true h)

stand_kept : (s : CodeState) → may_stand s ≡ true → is_retired s ≡ false
stand_kept InUse h = refl
stand_kept NotEntrant h = refl
stand_kept Zombie h = absurd (false≢true h)
stand_kept Freed h = absurd (false≢true h)

used_or_left : (s : CodeState) → (rank (entry_state s) ≡ 0) ⊎ (is_in_use s ≡ false)
used_or_left InUse = inl refl
used_or_left NotEntrant = inr refl
used_or_left Zombie = inr refl
used_or_left Freed = inr refl

-- The moment of an invalidation, and none.
pub never_left : (s : ℕ) (log : List Entry) → invalidated s log ≡ false → left_at s log ≡ 0
never_left s [] h = refl
never_left s (e ∷ log) h = let x = or_parts (is_invalidate s e.event) (invalidated s log) h in let y = x.0 in rw y (never_left s log x.1)

some_left : (s : ℕ) (log : List Entry) → invalidated s log ≡ true → 0 < left_at s log
some_left s [] h = absurd (false≢true h)
some_left s (e ∷ log) h = by (is_invalidate s e.event) (invalidated s log) refl h (some_left s log)
  where
    by : (a b : Bool) → invalidated s log ≡ b → (a || b) ≡ true → (invalidated s log ≡ true → 0 < left_at s log) → 0 < cond (a && not b) (moment log) (left_at s log)
    by true true e h rest = rest e
    by true false e h rest = omega arith
    by false true e h rest = rest e
    by false false e h rest = absurd (false≢true h)

-- The index is the sum over the places.
total_first : (n : ℕ) (f : ℕ → ℕ) → total (suc n) f ≡ f 0 + total n (λ p. f (suc p))
total_first zero f = omega arith
total_first (suc n) f = let r : total (suc n) f ≡ f 0 + total n (λ p. f (suc p)) = total_first n f in omega arith

walk_is : (c : CodeId) (ts : List (Option Thread)) → sum_by (part_at c) ts ≡ total (length ts) (λ p. part_at c (found (slice_get ts p)))
walk_is c [] = refl
walk_is c (t ∷ ts) = sum_by-cons (part_at c) t ts ∙ (ap (λ n. part_at c t + n) (walk_is c ts) ∙ sym (total_first (length ts) (λ p. part_at c (found (slice_get (t ∷ ts) p)))))

under : (b : Bool) (x n : ℕ) → x ≤ n → cond b x 0 ≤ n
under true x n h = h
under false x n h = omega arith

-- A code that may stand is the newest of its slot.
pub stands_newest : (w : World) → IsReached w → (c : CodeId) (k : Code) → code_of w.codes c.serial ≡ Some k → k.slot ≡ c.slot → takes_slot k.state ≡ true → newest_in w.codes c.slot ≡ Some k
stands_newest w h c k is slot takes = ap (newest_in w.codes) (sym slot) ∙ newest_of w.slots w.methods w.codes h.kept.table h.tied.old_freed c.serial k is takes

pub given_slot : (w : World) (c : CodeId) (k : Code) → is_given w.codes c ≡ true → code_of w.codes c.serial ≡ Some k → k.slot ≡ c.slot
given_slot w c k h is = eqb-true k.slot c.slot (ap (λ o. stands_in o c.slot) (sym is) ∙ h)

pub vacant_at : (w : World) (p : ℕ) → p < length w.places → thread_at w p ≡ None → slice_get w.places p ≡ Some None
vacant_at w p low x = let at = some_place w.places p low in at.1 ∙ ap Some (ap found (sym at.1) ∙ x)

module _ (w : World) (h : IsReached w) where
  slot_kept : (slot : ℕ) → IsSlotKept (moment w.log) (pack (slot_at w slot).serial (slot_at w slot).state) (slot_at w slot)
  slot_kept slot = by (newest_in w.codes slot) refl
    where
      by : (o : Option Code) → newest_in w.codes slot ≡ o → IsSlotKept (moment w.log) (pack (slot_by w.log o).serial (slot_by w.log o).state) (slot_by w.log o)
      by None x = record { word_is = refl; unlooked = λ z p. refl; unclear = λ z. refl; unleft = λ z. refl; left_is = λ a b. absurd (omega arith); small = omega arith }
      by (Some k) x =
          let is = newest_code w.slots w.methods w.codes h.kept.table slot k x in let low = is.3 in let few = h.kept.table.few in let by = left_by k.serial w.log in
          record {
            word_is = refl;
            unlooked = λ z p. false_from_ne_true (is_looked w.log k.serial p) (λ l. false≢true (sym (used k is.0 z) ∙ h.reclaimed.table.looked_by k.serial p l));
            unclear = λ z. ap is_retired (used_rank k.state z);
            unleft = λ z. never_left k.serial w.log (used k is.0 z);
            left_is = λ a b. (some_left k.serial w.log (left_in w.places w.codes w.log k.serial k h.reclaimed is.0 (left_rank k.state a)), by);
            small = omega arith;
          }
        where
          used : (k : Code) → code_of w.codes k.serial ≡ Some k → rank (entry_state k.state) ≡ 0 → invalidated k.serial w.log ≡ false
          used k is z = h.reclaimed.table.invalidated_is k.serial ∙ (ap is_unused is ∙ ap (λ s. not (is_in_use s)) (used_rank k.state z))

  seat_kept : (p : ℕ) → p < length w.places → IsSeatKept (moment w.log) (published_at w.log p (thread_at w p)) (seat_at w p)
  seat_kept p low = by (thread_at w p) refl
    where
      by : (o : Option Thread) → thread_at w p ≡ o → IsSeatKept (moment w.log) (published_at w.log p o) (seat_by w.codes w.log p o)
      by None x = record { word_is = refl; stored_by = omega arith; moment_by = omega arith; uncounted = λ z c. refl; unfresh = λ z c. and_right (is_given w.codes c) (is_fresh p c.serial w.log) (unfresh c.serial); few = λ c. omega arith }
        where
          unfresh : (s : ℕ) → is_fresh p s w.log ≡ false
          unfresh s = h.reclaimed.vacant p s (vacant_at w p low x)
      by (Some t) x =
          let there = there_of w p t x in let m = h.reclaimed.seats p t there in let s = h.kept.threads.each p t there in
          let e = subst (λ n. n ≤ moment w.log) m.ended_is (ended_by p t.name w.log) in let b = subst (λ n. n ≤ moment w.log) m.begun_is (begun_by p t.name w.log) in
          record {
            word_is = refl;
            stored_by = under t.published (ended p w.log) (moment w.log) e;
            moment_by = under (is_publishing t) (begun p w.log) (moment w.log) b;
            uncounted = λ z c. unpublished c t (s.empty (silent t m z)) (s.empty_shown (silent t m z));
            unfresh = λ z c. and_right (is_given w.codes c) (is_fresh p c.serial w.log) (false_from_ne_true (is_fresh p c.serial w.log) (λ f. false≢true (sym (silent t m z) ∙ m.published c.serial f)));
            few = λ c. (counts_sound w h.kept.threads).part_few p t c there;
          }
        where
          silent : (t : Thread) → IsThread w.codes w.log p t → cond t.published (ended p w.log) 0 ≡ 0 → t.published ≡ false
          silent t m z = false_from_ne_true t.published (λ y. (let some = subst (λ n. 0 < n) m.ended_is (m.closed y) in let n : ended p w.log ≡ 0 = (rw y at z) in absurd (omega arith)))

          unpublished : (c : CodeId) (t : Thread) → t.stack ≡ [] → t.shown ≡ [] → part c t ≡ 0
          unpublished c t stack shown = two (has_changed t c) (ap (act c) stack) (ap (act c) shown)
            where
              two : (b : Bool) → act c t.stack ≡ 0 → act c t.shown ≡ 0 → cond b (act c t.stack) (act c t.shown) ≡ 0
              two true x y = x
              two false x y = y

  -- A code that was given out and may stand, at its slot.
  stands_at : (c : CodeId) (k : Code) → code_of w.codes c.serial ≡ Some k → k.slot ≡ c.slot → may_stand k.state ≡ true → Stands w.slots (slot_at w) c × ((slot_at w c.slot).clear ≡ false)
  stands_at c k is slot stands =
      let here = stands_newest w h c k is slot (stand_takes k.state stands) in let low = newest_code w.slots w.methods w.codes h.kept.table c.slot k here in
      subst (λ o. ((c.slot < w.slots) × ((slot_by w.log o).serial ≡ c.serial) × (rank (slot_by w.log o).state < 2)) × ((slot_by w.log o).clear ≡ false)) (sym here)
      ((low.2, code_serial w.codes c.serial k is, stand_rank k.state stands), stand_kept k.state stands)

  gone_past : (p : ℕ) (c : CodeId) → (is_given w.codes c && is_missed p c.serial w.log) ≡ true → (c.slot < w.slots) × (pack c.serial entry.InUse < pack (slot_at w c.slot).serial (slot_at w c.slot).state)
  gone_past p c g =
      let x = and_parts (is_given w.codes c) (is_missed p c.serial w.log) g in let l = h.tied.missed_left p c.serial x.1 in let slot = given_slot w c l.0 x.0 l.1 in
      let n = newer_than w.slots w.methods w.codes h.kept.table c.serial l.0 l.1 in
      let here : newest_in w.codes c.slot ≡ Some n.0 = ap (newest_in w.codes) (sym slot) ∙ n.1 in
      let low = newest_code w.slots w.methods w.codes h.kept.table c.slot n.0 here in let serial = code_serial w.codes c.serial l.0 l.1 in (
        low.2,
        subst (λ o. pack c.serial entry.InUse < pack (slot_by w.log o).serial (slot_by w.log o).state) (sym here)
            (⊎_elim (λ same. (let a : n.0.serial ≡ l.0.serial = ap (λ (y : Code). y.serial) same in let b = rank_left n.0.state (ap (λ (y : Code). is_in_use y.state) same ∙ l.2) in omega arith)) (λ later. omega arith) n.2),
      )

  pair_kept : (p : ℕ) → p < length w.places → IsPairKept w.slots (slot_at w) p (seat_at w p)
  pair_kept p low = by (thread_at w p) refl
    where
      fresh_stands : (c : CodeId) → (is_given w.codes c && is_fresh p c.serial w.log) ≡ true → Stands w.slots (slot_at w) c × ((slot_at w c.slot).clear ≡ false)
      fresh_stands c f = let x = and_parts (is_given w.codes c) (is_fresh p c.serial w.log) f in let l = h.tied.fresh_stands p c.serial x.1 in stands_at c l.0 l.1 (given_slot w c l.0 x.0 l.1) l.2

      unlooked : (c : CodeId) → (is_given w.codes c && is_fresh p c.serial w.log) ≡ true → (slot_at w c.slot).looked p ≡ false
      unlooked c f =
          let x = and_parts (is_given w.codes c) (is_fresh p c.serial w.log) f in let l = h.tied.fresh_stands p c.serial x.1 in
          let here = stands_newest w h c l.0 l.1 (given_slot w c l.0 x.0 l.1) (stand_takes l.0.state l.2) in
          ap (λ o. (slot_by w.log o).looked p) here ∙ (ap (λ n. is_looked w.log n p) (code_serial w.codes c.serial l.0 l.1) ∙ fresh_unlooked w h.reclaimed p c.serial low x.1)

      late : (t : Thread) → thread_at w p ≡ Some t → (c : CodeId) → (is_given w.codes c && is_fresh p c.serial w.log) ≡ true → (rank (slot_at w c.slot).state ≡ 0) ⊎ (cond t.published (ended p w.log) 0 ≤ (slot_at w c.slot).left)
      late t there c f =
          let x = and_parts (is_given w.codes c) (is_fresh p c.serial w.log) f in let l = h.tied.fresh_stands p c.serial x.1 in
          let here = stands_newest w h c l.0 l.1 (given_slot w c l.0 x.0 l.1) (stand_takes l.0.state l.2) in
          let m = h.reclaimed.seats p t (there_of w p t there) in
          subst (λ o. (rank (slot_by w.log o).state ≡ 0) ⊎ (cond t.published (ended p w.log) 0 ≤ (slot_by w.log o).left)) (sym here)
          (⊎_elim (λ used. inl used) (λ left. inr (
          let gone = left_in w.places w.codes w.log c.serial l.0 h.reclaimed l.1 left in
          let not_since : nat_lt (left_at c.serial w.log) (ended_at p t.name w.log) ≡ false = sym (end_is c.serial p t.name w.log ∙ ap (λ b. b && nat_lt (left_at c.serial w.log) (ended_at p t.name w.log)) gone) ∙ m.uncovered c.serial x.1 in
          let before = ltb-false (left_at c.serial w.log) (ended_at p t.name w.log) not_since in let place = m.ended_is in let serial = code_serial w.codes c.serial l.0 l.1 in
          under t.published (ended p w.log) (left_at l.0.serial w.log) (subst (λ n. ended p w.log ≤ left_at n w.log) (sym serial) (omega arith))))
          (used_or_left l.0.state))

      by : (o : Option Thread) → thread_at w p ≡ o → IsPairKept w.slots (slot_at w) p (seat_by w.codes w.log p o)
      by None x = record {
        counted_stands = λ c z. absurd (omega arith);
        counted_unclear = λ c z. absurd (omega arith);
        fresh_stands = λ c f. (fresh_stands c f).0;
        fresh_late = λ c f. inr (omega arith);
        fresh_unlooked = unlooked;
        fresh_unclear = λ c f. (fresh_stands c f).1;
        gone_is = gone_past p;
      }
      by (Some t) x = let m = h.reclaimed.seats p t (there_of w p t x) in record {
        counted_stands = λ c z. (let l = m.counted c z in (stands_at c l.0 l.1 (ap (λ (y : CodeId). y.slot) l.2) l.3).0);
        counted_unclear = λ c z. (let l = m.counted c z in (stands_at c l.0 l.1 (ap (λ (y : CodeId). y.slot) l.2) l.3).1);
        fresh_stands = λ c f. (fresh_stands c f).0;
        fresh_late = late t x;
        fresh_unlooked = unlooked;
        fresh_unclear = λ c f. (fresh_stands c f).1;
        gone_is = gone_past p;
      }

  pub board_kept : IsBoardKept w.slots (length w.places) (board_of w)
  board_kept = of_parts w.slots (length w.places) (board_of w) (record {
    moment_is = refl;
    some_moment = (omega arith, let few = h.kept.numbers.moment_few in omega arith);
    slot_is = λ k low. slot_kept k;
    seat_is = λ p low. seat_kept p low;
    pair_is = λ p low. pair_kept p low;
    count_is = λ k low. walk_is (code k (slot_at w k).serial) w.places;
  })

pub boards_keep_the_rule : BoardsKeepTheRule
boards_keep_the_rule places slots methods events =
    let w : World = world_after (start_world places slots methods) events in let sizes = sizes_are places slots methods events in
    subst (λ n. IsBoardKept slots n (board_of w)) sizes.0 (subst (λ n. IsBoardKept n (length w.places) (board_of w)) sizes.1 (board_kept w (reached places slots methods events)))
