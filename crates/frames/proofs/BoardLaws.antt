-- A step keeps the rule of the board, a new board meets it, and a count is a sum over all serials.
use Rattle.std.proofs.Common.{◌≡◌, ◌≢◌, ◌⊎◌, ℕ, zero, suc, ◌+◌, ◌-◌, ◌*◌, ◌<◌, ◌≤◌, nat_lt, true, false, cond, eqb, eq-eqb, ne_eqb, sym, refl, ap, ◌∙◌, inl, inr, ⊎_elim, subst, arith}
use Rattle.std.proofs.lemmas.Bool.{false≢true, and_parts, or_cases, ltb-true, eqb-true, false_from_ne_true}
use mathlib.Core.Logic.{dite}
use native.Mathlib.Decide.{ℕ_discrete}
use Rattle.frames.specs.declared.CodeId.{CodeId}
use Rattle.frames.specs.Stack.{same_code}
use Rattle.frames.specs.declared.board_rule.EntryState.TheVariants.{InUse, Zombie, Vacant}
use Rattle.frames.specs.declared.board_rule.StepMade.{StepMade}
use Rattle.frames.specs.BoardWords.{entry_of, count_of, place_of, the_moment, rank, pack}
use Rattle.frames.specs.BoardRule.{SlotState, SeatState, BoardState, code, code_at, total, IsStanding, IsBoardKept, counted_in, first_board}
use Rattle.frames.specs.BoardStep.{Actor, BoardStep, SeatBecomes, SlotBecomes, is_past, seat_entered, seat_read, seat_stored, seat_counted, slot_installed, slot_invalidated, slot_looked, slot_weighed, slot_in, load_entry, store_in_use, store_not_entrant, load_moment, add_moment, store_place, add_count, sub_count, load_place, load_count, store_zombie, store_vacant}
use Rattle.frames.proofs.Bags.{same_code-equal, same_code-refl}
use Rattle.frames.proofs.BoardParts.{IsSeatKept, IsPairKept, IsPartsKept, HasParts, to_parts, of_parts, in_use_of}
use Rattle.frames.proofs.BoardSteps.{total_same, total_zero, total_has, total_at_most, seat_moves, rounds, enters, ends, installs, invalidates, same_is, counts, looks, weighs, leaves}

-- the other entries, counts and places stay where one is written
other_index : (k j n m : ℕ) → k ≢ j → cond (eqb k j) n m ≡ m
other_index k j n m ne = let x = ne_eqb k j ne in rw x refl

this_index : (k n m : ℕ) → cond (eqb k k) n m ≡ n
this_index k n m = let x = eq-eqb k k refl in rw x refl

past_tells : (left found : ℕ) → is_past left found ≡ true → (found ≡ 0) ⊎ (left < found)
past_tells left found h = ⊎_elim (λ e. inl (eqb-true found 0 e)) (λ e. inr (ltb-true left found e)) (or_cases (eqb found 0) (nat_lt left found) h)

module _ (slots places : ℕ) (old new : BoardState) where
  -- after a step of a seat
  of_seat_step : (p : ℕ) (t : SeatState) → SeatBecomes p t old new → IsPartsKept slots places new.word old.now old.slot new.seat → IsBoardKept slots places new
  of_seat_step p t s r = of_parts slots places new (subst (λ f. IsPartsKept slots places new.word new.now f new.seat) (sym s.slots_stay) (subst (λ n. IsPartsKept slots places new.word n old.slot new.seat) (sym s.now_stays) r))

  -- after a step of the keeper on a slot
  of_slot_step : (k : ℕ) (t : SlotState) → SlotBecomes k t old new → IsPartsKept slots places new.word old.now new.slot old.seat → IsBoardKept slots places new
  of_slot_step k t s r = of_parts slots places new (subst (λ f. IsPartsKept slots places new.word new.now new.slot f) (sym s.seats_stay) (subst (λ n. IsPartsKept slots places new.word n new.slot old.seat) (sym s.now_stays) r))

  -- a step of a seat that counts nothing
  seat_step : (p : ℕ) (t : SeatState) → HasParts slots places old → SeatBecomes p t old new → new.word the_moment ≡ old.word the_moment
      → ((k : ℕ) → k < slots → (new.word (entry_of k) ≡ old.word (entry_of k)) × (new.word (count_of k) ≡ old.word (count_of k)))
      → ((q : ℕ) → q < places → q ≢ p → new.word (place_of q) ≡ old.word (place_of q))
      → IsSeatKept old.now (new.word (place_of p)) t → IsPairKept slots old.slot p t → ((c : CodeId) → t.counted c ≡ (old.seat p).counted c)
      → IsBoardKept slots places new
  seat_step p t b s moment slot_words place_words seat pair counted = of_seat_step p t s
      (seat_moves slots places old.word old.now old.slot old.seat p new.word new.seat b moment slot_words place_words s.others
      (subst (IsSeatKept old.now (new.word (place_of p))) (sym s.mine) seat) (subst (IsPairKept slots old.slot p) (sym s.mine) pair)
      (λ c. ap (λ (u : SeatState). u.counted c) s.mine ∙ counted c))

-- a slot's count is small, and no less than what one seat counts
pub count_bounds : (slots places : ℕ) (b : BoardState) → IsBoardKept slots places b → (p : ℕ) → p < places → (c : CodeId) → IsStanding slots b c
    → (b.word (count_of c.slot) ≤ places * 256) × ((b.seat p).counted c ≤ b.word (count_of c.slot))
count_bounds slots places b r p low c standing = let d : CodeId = code_at b c.slot in let is : d ≡ c = same_is d c refl standing.1 in
    let all : b.word (count_of c.slot) ≡ total places (λ q. (b.seat q).counted d) = r.counts.0 c.slot standing.0 in
    let most : total places (λ q. (b.seat q).counted d) ≤ places * 256 = total_at_most places 256 (λ q. (b.seat q).counted d) (λ q h. r.counts.1 q h d) in
    let mine : (b.seat p).counted d ≤ total places (λ q. (b.seat q).counted d) = total_has places p (λ q. (b.seat q).counted d) low in
    let same : (b.seat p).counted d ≡ (b.seat p).counted c = ap (b.seat p).counted is in (omega arith, omega arith)

-- a change of one code's count leaves the others
other_counts : (t : SeatState) (c : CodeId) (n : ℕ) (d : CodeId) → d ≢ c → (seat_counted t c n).counted d ≡ t.counted d
other_counts t c n d ne = let x = false_from_ne_true (same_code d c) (λ e. ne (same_code-equal d c e)) in rw x refl

nobody : (n : ℕ) → (0 < n → ⊥) → n ≡ 0
nobody zero h = refl
nobody (suc n) h = absurd (h (omega arith))

pub step_keeps : (slots places : ℕ) (old new : BoardState) (actor : Actor) (made : StepMade) → BoardStep slots places old new actor made → IsBoardKept slots places old → IsBoardKept slots places new
step_keeps slots places old new actor made (load_entry p c low low' some loads s) r =
    let b = to_parts slots places old r in let t = old.seat p in let found = old.word (entry_of c.slot) in
    let e = enters slots old.now (old.word (place_of p)) p old.slot t c found (seat_entered t c found).fresh (seat_entered t c found).gone low' some (b.slot_is c.slot low')
    (λ d h. ⊎_elim (λ x. let y = and_parts _ _ x in inr (same_code-equal d c y.0, eqb-true found (pack c.serial InUse) y.1)) (λ x. inl x) (or_cases _ _ h))
    (λ d h. ⊎_elim (λ x. let y = and_parts _ _ x in inr (same_code-equal d c y.0, ltb-true (pack c.serial InUse) found y.1)) (λ x. inl x) (or_cases _ _ h))
    (b.seat_is p low) (b.pair_is p low) in
    seat_step slots places old new p (seat_entered t c found) b s (loads the_moment tt) (λ k h. (loads (entry_of k) h, loads (count_of k) h)) (λ q h ne. loads (place_of q) h)
    (subst (λ x. IsSeatKept old.now x (seat_entered t c found)) (sym (loads (place_of p) low)) e.0) e.1 (λ d. refl)
step_keeps slots places old new actor made (store_in_use c low vacant later bound writes s) r =
    of_slot_step slots places old new c.slot (slot_installed c.serial) s
    (installs slots places old.word old.now old.slot old.seat c.slot c.serial new.word new.slot (to_parts slots places old r) low (ap rank vacant) later bound s.mine
    (writes the_moment tt) (λ j h ne. writes (entry_of j) h ∙ other_index j c.slot _ _ ne) (λ j h. writes (count_of j) h) (λ p h. writes (place_of p) h)
    s.others (writes (entry_of c.slot) low ∙ this_index c.slot _ _))
step_keeps slots places old new actor made (store_not_entrant k low used writes s) r =
    of_slot_step slots places old new k (slot_invalidated (old.slot k) old.now) s
    (invalidates slots places old.word old.now old.slot old.seat k new.word new.slot (to_parts slots places old r) low (ap rank used) s.mine
    (writes the_moment tt) (λ j h ne. writes (entry_of j) h ∙ other_index j k _ _ ne) (λ j h. writes (count_of j) h) (λ p h. writes (place_of p) h)
    s.others (writes (entry_of k) low ∙ this_index k _ _))
step_keeps slots places old new actor made (load_moment p low loads s) r =
    let b = to_parts slots places old r in let t = b.seat_is p low in let u = b.pair_is p low in let m = b.moment_is in
    seat_step slots places old new p (seat_read (old.seat p) (old.word the_moment)) b s (loads the_moment tt) (λ k h. (loads (entry_of k) h, loads (count_of k) h)) (λ q h ne. loads (place_of q) h)
    record { word_is = loads (place_of p) low ∙ t.word_is; stored_by = t.stored_by; moment_by = omega arith; uncounted = t.uncounted; unfresh = t.unfresh; few = t.few }
    record { counted_stands = u.counted_stands; counted_unclear = u.counted_unclear; fresh_stands = u.fresh_stands; fresh_late = u.fresh_late; fresh_unlooked = u.fresh_unlooked; fresh_unclear = u.fresh_unclear; gone_is = u.gone_is }
    (λ d. refl)
step_keeps slots places old new actor made (add_moment room writes s) r =
    let b = to_parts slots places old r in
    of_parts slots places new (subst (λ f. IsPartsKept slots places new.word new.now new.slot f) (sym s.seats_stay) (subst (λ f. IsPartsKept slots places new.word new.now f old.seat) (sym s.slots_stay)
    (subst (λ n. IsPartsKept slots places new.word n old.slot old.seat) (sym s.mine)
    (rounds slots places old.word old.now old.slot old.seat new.word (omega arith) b (writes the_moment tt ∙ ap (λ n. n + 1) b.moment_is) (λ k h. (writes (entry_of k) h, writes (count_of k) h)) (λ p h. writes (place_of p) h)))))
step_keeps slots places old new actor made (store_place p n low storable writes s) r =
    let b = to_parts slots places old r in let t = b.seat_is p low in let by = t.moment_by in
    let e = ends slots old.now (old.word (place_of p)) p n old.slot (old.seat p) (⊎_elim (λ x. let y = x.1 in omega arith) (λ x. let y = x.1 in omega arith) storable)
    (λ z. ⊎_elim (λ x. absurd (x.0 (sym x.1 ∙ z))) (λ x. x.0) storable) t (b.pair_is p low) in
    seat_step slots places old new p (seat_stored (old.seat p) n) b s (writes the_moment tt) (λ k h. (writes (entry_of k) h, writes (count_of k) h)) (λ q h ne. writes (place_of q) h ∙ other_index q p _ _ ne)
    (subst (λ x. IsSeatKept old.now x (seat_stored (old.seat p) n)) (sym (writes (place_of p) low ∙ this_index p _ _)) e.0) e.1 (λ d. refl)
step_keeps slots places old new actor made (add_count p c by low some fresh few writes s) r =
    let b = to_parts slots places old r in let t = b.seat_is p low in let u = b.pair_is p low in let stands = u.fresh_stands c fresh in
    of_seat_step slots places old new p (seat_counted (old.seat p) c ((old.seat p).counted c + by)) s
    (counts slots places old.word old.now old.slot old.seat p c ((old.seat p).counted c + by) (seat_counted (old.seat p) c ((old.seat p).counted c + by)).counted new.word new.seat b low stands
    (u.fresh_unclear c fresh) (λ z. false≢true (sym (t.unfresh z c) ∙ fresh)) few
    (let x = same_code-refl c in rw x refl) (other_counts (old.seat p) c _)
    (writes the_moment tt) (λ k h. writes (entry_of k) h) (λ k h ne. writes (count_of k) h ∙ other_index k c.slot _ _ ne) (λ q h. writes (place_of q) h)
    (let x : new.word (count_of c.slot) ≡ old.word (count_of c.slot) + by = writes (count_of c.slot) stands.0 ∙ this_index c.slot _ _ in omega arith)
    s.others s.mine)
step_keeps slots places old new actor made (sub_count p c by low some enough writes s) r =
    let b = to_parts slots places old r in let t = b.seat_is p low in let u = b.pair_is p low in let few = t.few c in
    let stands = u.counted_stands c (omega arith) in let have = (count_bounds slots places old r p low c (r.held_stands p low c (inl (omega arith)))).1 in
    of_seat_step slots places old new p (seat_counted (old.seat p) c ((old.seat p).counted c - by)) s
    (counts slots places old.word old.now old.slot old.seat p c ((old.seat p).counted c - by) (seat_counted (old.seat p) c ((old.seat p).counted c - by)).counted new.word new.seat b low stands
    (u.counted_unclear c (omega arith)) (λ z. let none = t.uncounted z c in absurd (omega arith)) (omega arith)
    (let x = same_code-refl c in rw x refl) (other_counts (old.seat p) c _)
    (writes the_moment tt) (λ k h. writes (entry_of k) h) (λ k h ne. writes (count_of k) h ∙ other_index k c.slot _ _ ne) (λ q h. writes (place_of q) h)
    (let x : new.word (count_of c.slot) ≡ old.word (count_of c.slot) - by = writes (count_of c.slot) stands.0 ∙ this_index c.slot _ _ in omega arith)
    s.others s.mine)
step_keeps slots places old new actor made (load_place k p low low' state loads s) r =
    let left = (old.slot k).left in let found = old.word (place_of p) in
    of_slot_step slots places old new k (slot_looked (old.slot k) p found) s
    (looks slots places old.word old.now old.slot old.seat k p new.word new.slot (to_parts slots places old r) low low' (ap rank state) s.others
    (ap (λ (x : SlotState). x.serial) s.mine, ap (λ (x : SlotState). x.state) s.mine, ap (λ (x : SlotState). x.left) s.mine) (ap (λ (x : SlotState). x.clear) s.mine)
    (λ q h. ⊎_elim (λ x. let y = and_parts _ _ x in inr (eqb-true q p y.0, past_tells left found y.1)) (λ x. inl x) (or_cases _ _ (sym (ap (λ (x : SlotState). x.looked q) s.mine) ∙ h)))
    (loads the_moment tt) (λ j h. (loads (entry_of j) h, loads (count_of j) h)) (λ q h. loads (place_of q) h))
step_keeps slots places old new actor made (load_count k low unused all loads s) r =
    of_slot_step slots places old new k (slot_weighed (old.slot k) (old.word (count_of k))) s
    (weighs slots places old.word old.now old.slot old.seat k new.word new.slot (to_parts slots places old r) low (λ e. unused (in_use_of (old.slot k).state e)) all s.others
    (ap (λ (x : SlotState). x.serial) s.mine, ap (λ (x : SlotState). x.state) s.mine, ap (λ (x : SlotState). x.left) s.mine) (λ p. ap (λ (x : SlotState). x.looked p) s.mine)
    (λ ne. ap (λ (x : SlotState). x.clear) s.mine ∙ ne_eqb (old.word (count_of k)) 0 ne)
    (loads the_moment tt) (λ j h. (loads (entry_of j) h, loads (count_of j) h)) (λ q h. loads (place_of q) h))
step_keeps slots places old new actor made (store_zombie k low state clear writes s) r =
    let b = to_parts slots places old r in let n : rank (old.slot k).state ≡ 1 = ap rank state in let m : rank (new.slot k).state ≡ 2 = ap (λ (x : SlotState). rank x.state) s.mine in
    of_slot_step slots places old new k (slot_in (old.slot k) Zombie) s
    (leaves slots places old.word old.now old.slot old.seat k new.word new.slot b low s.others (ap (λ (x : SlotState). x.serial) s.mine) (ap (λ (x : SlotState). x.left) s.mine) (omega arith) (omega arith) (omega arith)
    (λ p h c e. let q = b.pair_is p h in (
      nobody ((old.seat p).counted c) (λ x. false≢true (sym (subst (λ j. (old.slot j).clear ≡ false) e (q.counted_unclear c x)) ∙ clear)),
      false_from_ne_true ((old.seat p).fresh c) (λ x. false≢true (sym (subst (λ j. (old.slot j).clear ≡ false) e (q.fresh_unclear c x)) ∙ clear)),
    ))
    (writes the_moment tt) (λ j h ne. writes (entry_of j) h ∙ other_index j k _ _ ne) (λ j h. writes (count_of j) h) (λ p h. writes (place_of p) h)
    (writes (entry_of k) low ∙ (this_index k _ _ ∙ sym (ap (λ (x : SlotState). pack x.serial x.state) s.mine))))
step_keeps slots places old new actor made (store_vacant k low state writes s) r =
    let b = to_parts slots places old r in let n : rank (old.slot k).state ≡ 2 = ap rank state in let m : rank (new.slot k).state ≡ 3 = ap (λ (x : SlotState). rank x.state) s.mine in
    of_slot_step slots places old new k (slot_in (old.slot k) Vacant) s
    (leaves slots places old.word old.now old.slot old.seat k new.word new.slot b low s.others (ap (λ (x : SlotState). x.serial) s.mine) (ap (λ (x : SlotState). x.left) s.mine) (omega arith) (omega arith) (omega arith)
    (λ p h c e. let q = b.pair_is p h in (
      nobody ((old.seat p).counted c) (λ x. let y = (q.counted_stands c x).2 in let z : rank (old.slot c.slot).state ≡ rank (old.slot k).state = ap (λ j. rank (old.slot j).state) e in omega arith),
      false_from_ne_true ((old.seat p).fresh c) (λ x. let y = (q.fresh_stands c x).2 in let z : rank (old.slot c.slot).state ≡ rank (old.slot k).state = ap (λ j. rank (old.slot j).state) e in omega arith),
    ))
    (writes the_moment tt) (λ j h ne. writes (entry_of j) h ∙ other_index j k _ _ ne) (λ j h. writes (count_of j) h) (λ p h. writes (place_of p) h)
    (writes (entry_of k) low ∙ (this_index k _ _ ∙ sym (ap (λ (x : SlotState). pack x.serial x.state) s.mine))))

pub first_kept : (slots places : ℕ) → IsBoardKept slots places first_board
first_kept slots places = record {
  keeper_words = ((λ k h. refl), refl, omega arith);
  place_words = λ p h. record { word_is = refl; stored_by = omega arith; moment_by = omega arith; uncounted = λ e c. refl; unfresh = λ e c. refl };
  held_stands = λ p h c e. ⊎_elim (λ x. absurd (omega arith)) (λ x. absurd (false≢true x)) e;
  fresh_late = λ p h c e. absurd (false≢true e);
  counts = ((λ k h. sym (total_zero places (λ p. 0) (λ p q. refl))), λ p h c. omega arith);
  looks = λ k h. record { unlooked = λ e p. refl; unclear = λ e. refl; looked_unfresh = λ p q e. refl; clear_uncounted = λ e p q. refl; clear_unfresh = λ e p q. refl };
  gone_past = λ p h c e. absurd (false≢true e);
  lefts = λ k h. record { none = λ e. refl; some = λ e. ⊎_elim (λ x. let n : 3 ≡ 1 = ap rank x in absurd (omega arith)) (λ x. let n : 3 ≡ 2 = ap rank x in absurd (omega arith)) e };
  bounds = (omega arith, λ k h. omega arith);
}

-- a sum whose terms are 0 but one
total_one : (n m : ℕ) (f : ℕ → ℕ) → m < n → ((j : ℕ) → j ≢ m → f j ≡ 0) → total n f ≡ f m
total_one zero m f low h = absurd (omega arith)
total_one (suc n) m f low h = dite (ℕ_discrete m n)
    (λ e. let rest : total n f ≡ 0 = total_zero n f (λ j l. h j (omega arith)) in let here : f m ≡ f n = ap f e in omega arith)
    (λ ne. let rest : total n f ≡ f m = total_one n m f (omega arith) h in let last : f n ≡ 0 = h n (λ e. ne (sym e)) in omega arith)

pub count_by_serials : (slots places : ℕ) (b : BoardState) → IsBoardKept slots places b → (k bound : ℕ) → k < slots → (b.slot k).serial < bound → b.word (count_of k) ≡ counted_in places bound b k
count_by_serials slots places b r k bound low small = r.counts.0 k low ∙ total_same places (λ p. (b.seat p).counted (code_at b k)) (λ p. total bound (λ n. (b.seat p).counted (code k n)))
    (λ p h. sym (total_one bound (b.slot k).serial (λ n. (b.seat p).counted (code k n)) small (λ n ne. dite (ℕ_discrete ((b.seat p).counted (code k n)) 0) (λ z. z)
    (λ some. absurd (ne (sym (r.held_stands p h (code k n) (inl (omega arith))).1))))))
