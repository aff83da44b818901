-- Each kind of step keeps the rule of the board.
use Rattle.std.proofs.Common.{◌≡◌, ◌≢◌, ◌⊎◌, ℕ, zero, suc, ◌+◌, ◌*◌, ◌^◌, ◌<◌, ◌≤◌, Bool, true, false, sym, refl, ap, ◌∙◌, inl, inr, ⊎_elim, subst, arith}
use Rattle.std.proofs.lemmas.Bool.{false≢true}
use mathlib.Core.Logic.{dite}
use native.Mathlib.Decide.{ℕ_discrete}
use Rattle.frames.specs.declared.CodeId.{CodeId}
use Rattle.frames.specs.declared.board_rule.EntryState.{EntryState}
use Rattle.frames.specs.declared.board_rule.EntryState.TheVariants.{InUse, NotEntrant}
use Rattle.frames.specs.BoardWords.{Word, entry_of, count_of, place_of, the_moment, rank, pack}
use Rattle.frames.specs.BoardRule.{code, SlotState, SeatState, total}
use Rattle.frames.proofs.BoardWords.{rank_small}
use Rattle.frames.proofs.BoardParts.{IsSlotKept, IsSeatKept, Stands, IsPairKept, IsPartsKept}

pub total_same : (n : ℕ) (f g : ℕ → ℕ) → ((p : ℕ) → p < n → f p ≡ g p) → total n f ≡ total n g
total_same zero f g h = refl
total_same (suc n) f g h = let rec : total n f ≡ total n g = total_same n f g (λ p q. h p (omega arith)) in let last : f n ≡ g n = h n (omega arith) in omega arith

-- one of the numbers changes
pub total_changed : (n q : ℕ) (f g : ℕ → ℕ) → q < n → ((p : ℕ) → p < n → p ≢ q → g p ≡ f p) → total n g + f q ≡ total n f + g q
total_changed zero q f g low h = absurd (omega arith)
total_changed (suc n) q f g low h = dite (ℕ_discrete n q)
    (λ e. let rest : total n g ≡ total n f = total_same n g f (λ p l. h p (omega arith) (λ x. omega arith)) in let a : f q ≡ f n = ap f (sym e) in let b : g q ≡ g n = ap g (sym e) in omega arith)
    (λ ne. let rec : total n g + f q ≡ total n f + g q = total_changed n q f g (omega arith) (λ p l x. h p (omega arith) x) in let last : g n ≡ f n = h n (omega arith) ne in omega arith)

pub total_none : (n : ℕ) (f : ℕ → ℕ) → total n f ≡ 0 → (p : ℕ) → p < n → f p ≡ 0
total_none zero f e p low = absurd (omega arith)
total_none (suc n) f e p low = dite (ℕ_discrete p n) (λ x. let y : f p ≡ f n = ap f x in omega arith) (λ ne. total_none n f (omega arith) p (omega arith))

pub total_zero : (n : ℕ) (f : ℕ → ℕ) → ((p : ℕ) → p < n → f p ≡ 0) → total n f ≡ 0
total_zero zero f h = refl
total_zero (suc n) f h = let rec : total n f ≡ 0 = total_zero n f (λ p l. h p (omega arith)) in let last : f n ≡ 0 = h n (omega arith) in omega arith

pub total_at_most : (n m : ℕ) (f : ℕ → ℕ) → ((p : ℕ) → p < n → f p ≤ m) → total n f ≤ n * m
total_at_most zero m f h = omega arith
total_at_most (suc n) m f h = let rec : total n f ≤ n * m = total_at_most n m f (λ p l. h p (omega arith)) in let last : f n ≤ m = h n (omega arith) in grind arith

-- a sum is no less than one of the numbers
pub total_has : (n q : ℕ) (f : ℕ → ℕ) → q < n → f q ≤ total n f
total_has zero q f low = absurd (omega arith)
total_has (suc n) q f low = dite (ℕ_discrete q n) (λ e. let same : f q ≡ f n = ap f e in omega arith) (λ ne. let rest : f q ≤ total n f = total_has n q f (omega arith) in omega arith)

-- an entry word tells serial and state
pub entry_tells : (m r : ℕ) (s : EntryState) → pack r s ≡ pack m InUse → (r ≡ m) × (rank s ≡ 0)
entry_tells m r s e = let low = rank_small s in (omega arith, omega arith)

module _ (slots places : ℕ) where
  -- a step of the seat q that counts nothing
  pub seat_moves : (w : Word → ℕ) (now : ℕ) (at : ℕ → SlotState) (seat : ℕ → SeatState) (q : ℕ) (w' : Word → ℕ) (seat' : ℕ → SeatState) → IsPartsKept slots places w now at seat
      → w' the_moment ≡ w the_moment → ((k : ℕ) → k < slots → (w' (entry_of k) ≡ w (entry_of k)) × (w' (count_of k) ≡ w (count_of k))) → ((p : ℕ) → p < places → p ≢ q → w' (place_of p) ≡ w (place_of p))
      → ((p : ℕ) → p ≢ q → seat' p ≡ seat p) → IsSeatKept now (w' (place_of q)) (seat' q) → IsPairKept slots at q (seat' q) → ((c : CodeId) → (seat' q).counted c ≡ (seat q).counted c)
      → IsPartsKept slots places w' now at seat'
  seat_moves w now at seat q w' seat' b moment slot_words place_words others mine pair counted = record {
    moment_is = moment ∙ b.moment_is;
    some_moment = b.some_moment;
    slot_is = λ k h. subst (λ x. IsSlotKept now x (at k)) (sym (slot_words k h).0) (b.slot_is k h);
    seat_is = λ p h. dite (ℕ_discrete p q)
        (λ e. subst (λ j. IsSeatKept now (w' (place_of j)) (seat' j)) (sym e) mine)
        (λ ne. subst (λ x. IsSeatKept now x (seat' p)) (sym (place_words p h ne)) (subst (λ t. IsSeatKept now (w (place_of p)) t) (sym (others p ne)) (b.seat_is p h)));
    pair_is = λ p h. dite (ℕ_discrete p q)
        (λ e. subst (λ j. IsPairKept slots at j (seat' j)) (sym e) pair)
        (λ ne. subst (λ t. IsPairKept slots at p t) (sym (others p ne)) (b.pair_is p h));
    count_is = λ k h. (slot_words k h).1 ∙ (b.count_is k h ∙ total_same places (λ p. (seat p).counted (code k (at k).serial)) (λ p. (seat' p).counted (code k (at k).serial))
        (λ p l. dite (ℕ_discrete p q)
        (λ e. subst (λ j. (seat j).counted (code k (at k).serial) ≡ (seat' j).counted (code k (at k).serial)) (sym e) (sym (counted (code k (at k).serial))))
        (λ ne. ap (λ t. t.counted (code k (at k).serial)) (sym (others p ne)))));
  }

  -- a step of the keeper on the entry of the slot k
  pub slot_moves : (w : Word → ℕ) (now : ℕ) (at : ℕ → SlotState) (seat : ℕ → SeatState) (k : ℕ) (w' : Word → ℕ) (at' : ℕ → SlotState) → IsPartsKept slots places w now at seat
      → w' the_moment ≡ w the_moment → ((j : ℕ) → j < slots → j ≢ k → w' (entry_of j) ≡ w (entry_of j)) → ((j : ℕ) → j < slots → w' (count_of j) ≡ w (count_of j)) → ((p : ℕ) → p < places → w' (place_of p) ≡ w (place_of p))
      → ((j : ℕ) → j ≢ k → at' j ≡ at j) → IsSlotKept now (w' (entry_of k)) (at' k) → ((p : ℕ) → p < places → IsPairKept slots at' p (seat p))
      → w (count_of k) ≡ total places (λ p. (seat p).counted (code k (at' k).serial))
      → IsPartsKept slots places w' now at' seat
  slot_moves w now at seat k w' at' b moment entry_words count_words place_words others mine pairs counts = record {
    moment_is = moment ∙ b.moment_is;
    some_moment = b.some_moment;
    slot_is = λ j h. dite (ℕ_discrete j k)
        (λ e. subst (λ i. IsSlotKept now (w' (entry_of i)) (at' i)) (sym e) mine)
        (λ ne. subst (λ x. IsSlotKept now x (at' j)) (sym (entry_words j h ne)) (subst (λ s. IsSlotKept now (w (entry_of j)) s) (sym (others j ne)) (b.slot_is j h)));
    seat_is = λ p h. subst (λ x. IsSeatKept now x (seat p)) (sym (place_words p h)) (b.seat_is p h);
    pair_is = pairs;
    count_is = λ j h. count_words j h ∙ dite (ℕ_discrete j k)
        (λ e. subst (λ i. w (count_of i) ≡ total places (λ p. (seat p).counted (code i (at' i).serial))) (sym e) counts)
        (λ ne. subst (λ s. w (count_of j) ≡ total places (λ p. (seat p).counted (code j s.serial))) (sym (others j ne)) (b.count_is j h));
  }

  -- the entry of the slot k changes and its word grows
  pub pair_moves : (at at' : ℕ → SlotState) (k p : ℕ) (t : SeatState) → ((j : ℕ) → j ≢ k → at' j ≡ at j) → ((c : CodeId) → c.slot ≡ k → Stands slots at c → Stands slots at' c)
      → ((c : CodeId) → c.slot ≡ k → t.fresh c ≡ true → (rank (at' k).state ≡ 0) ⊎ (t.stored ≤ (at' k).left)) → (at' k).looked p ≡ false → (at' k).clear ≡ false
      → pack (at k).serial (at k).state ≤ pack (at' k).serial (at' k).state
      → IsPairKept slots at p t → IsPairKept slots at' p t
  pair_moves at at' k p t others standing late unlooked unclear grows r =
      let stands : (c : CodeId) → Stands slots at c → Stands slots at' c = λ c s. dite (ℕ_discrete c.slot k) (λ e. standing c e s)
      (λ ne. let same : at' c.slot ≡ at c.slot = others c.slot ne in subst (λ (x : SlotState). (c.slot < slots) × (x.serial ≡ c.serial) × (rank x.state < 2)) (sym same) s) in record {
        counted_stands = λ c h. stands c (r.counted_stands c h);
        counted_unclear = λ c h. dite (ℕ_discrete c.slot k) (λ e. subst (λ j. (at' j).clear ≡ false) (sym e) unclear) (λ ne. subst (λ (x : SlotState). x.clear ≡ false) (sym (others c.slot ne)) (r.counted_unclear c h));
        fresh_stands = λ c h. stands c (r.fresh_stands c h);
        fresh_late = λ c h. dite (ℕ_discrete c.slot k) (λ e. subst (λ j. (rank (at' j).state ≡ 0) ⊎ (t.stored ≤ (at' j).left)) (sym e) (late c e h))
            (λ ne. subst (λ (x : SlotState). (rank x.state ≡ 0) ⊎ (t.stored ≤ x.left)) (sym (others c.slot ne)) (r.fresh_late c h));
        fresh_unlooked = λ c h. dite (ℕ_discrete c.slot k) (λ e. subst (λ j. (at' j).looked p ≡ false) (sym e) unlooked) (λ ne. subst (λ (x : SlotState). x.looked p ≡ false) (sym (others c.slot ne)) (r.fresh_unlooked c h));
        fresh_unclear = λ c h. dite (ℕ_discrete c.slot k) (λ e. subst (λ j. (at' j).clear ≡ false) (sym e) unclear) (λ ne. subst (λ (x : SlotState). x.clear ≡ false) (sym (others c.slot ne)) (r.fresh_unclear c h));
        gone_is = λ c h. let old = r.gone_is c h in (
          old.0,
          dite (ℕ_discrete c.slot k)
              (λ e. let g : pack c.serial InUse < pack (at k).serial (at k).state = subst (λ j. pack c.serial InUse < pack (at j).serial (at j).state) e old.1 in
              subst (λ j. pack c.serial InUse < pack (at' j).serial (at' j).state) (sym e) (omega arith))
              (λ ne. subst (λ (x : SlotState). pack c.serial InUse < pack x.serial x.state) (sym (others c.slot ne)) old.1),
        );
      }

  -- a round
  pub rounds : (w : Word → ℕ) (now : ℕ) (at : ℕ → SlotState) (seat : ℕ → SeatState) (w' : Word → ℕ) → now + 1 < 2 ^ 40 → IsPartsKept slots places w now at seat
      → w' the_moment ≡ now + 1 → ((k : ℕ) → k < slots → (w' (entry_of k) ≡ w (entry_of k)) × (w' (count_of k) ≡ w (count_of k))) → ((p : ℕ) → p < places → w' (place_of p) ≡ w (place_of p))
      → IsPartsKept slots places w' (now + 1) at seat
  rounds w now at seat w' room b moment slot_words place_words = record {
    moment_is = moment;
    some_moment = (omega arith, room);
    slot_is = λ k h. let s = b.slot_is k h in record {
      word_is = (slot_words k h).0 ∙ s.word_is;
      unlooked = s.unlooked;
      unclear = s.unclear;
      unleft = s.unleft;
      left_is = λ x y. let t = s.left_is x y in let by = t.1 in (t.0, omega arith);
      small = s.small;
    };
    seat_is = λ p h. let s = b.seat_is p h in let low = s.stored_by in let low' = s.moment_by in
        record { word_is = place_words p h ∙ s.word_is; stored_by = omega arith; moment_by = omega arith; uncounted = s.uncounted; unfresh = s.unfresh; few = s.few };
    pair_is = b.pair_is;
    count_is = λ k h. (slot_words k h).1 ∙ b.count_is k h;
  }

-- what a load of an entry may add to a seat
pub enters : (slots now word p : ℕ) (at : ℕ → SlotState) (t : SeatState) (c : CodeId) (found : ℕ) (fresh' gone' : CodeId → Bool) → c.slot < slots → t.stored ≢ 0 → IsSlotKept now found (at c.slot)
    → ((d : CodeId) → fresh' d ≡ true → (t.fresh d ≡ true) ⊎ ((d ≡ c) × (found ≡ pack c.serial InUse)))
    → ((d : CodeId) → gone' d ≡ true → (t.gone d ≡ true) ⊎ ((d ≡ c) × (pack c.serial InUse < found)))
    → IsSeatKept now word t → IsPairKept slots at p t
    → (IsSeatKept now word record { counted = t.counted; fresh = fresh'; moment = t.moment; stored = t.stored; gone = gone' }
    × IsPairKept slots at p record { counted = t.counted; fresh = fresh'; moment = t.moment; stored = t.stored; gone = gone' })
enters slots now word p at t c found fresh' gone' low some_stored slot more lost s r =
    let told : found ≡ pack c.serial InUse → ((at c.slot).serial ≡ c.serial) × (rank (at c.slot).state ≡ 0) = λ e. entry_tells c.serial (at c.slot).serial (at c.slot).state (sym slot.word_is ∙ e) in (
      record { word_is = s.word_is; stored_by = s.stored_by; moment_by = s.moment_by; uncounted = s.uncounted; unfresh = λ z d. absurd (some_stored z); few = s.few },
      record {
        counted_stands = r.counted_stands;
        counted_unclear = r.counted_unclear;
        fresh_stands = λ d h. ⊎_elim (λ old. r.fresh_stands d old) (λ n. subst (Stands slots at) (sym n.0) (let x = told n.1 in let y = x.1 in (low, x.0, omega arith))) (more d h);
        fresh_late = λ d h. ⊎_elim (λ old. r.fresh_late d old) (λ n. inl (subst (λ (e : CodeId). rank (at e.slot).state ≡ 0) (sym n.0) (told n.1).1)) (more d h);
        fresh_unlooked = λ d h. ⊎_elim (λ old. r.fresh_unlooked d old) (λ n. subst (λ (e : CodeId). (at e.slot).looked p ≡ false) (sym n.0) (slot.unlooked (told n.1).1 p)) (more d h);
        fresh_unclear = λ d h. ⊎_elim (λ old. r.fresh_unclear d old) (λ n. subst (λ (e : CodeId). (at e.slot).clear ≡ false) (sym n.0) (slot.unclear (told n.1).1)) (more d h);
        gone_is = λ d h. ⊎_elim (λ old. r.gone_is d old) (λ n. subst (λ (e : CodeId). (e.slot < slots) × (pack e.serial InUse < pack (at e.slot).serial (at e.slot).state)) (sym n.0)
            (low, subst (λ x. pack c.serial InUse < x) slot.word_is n.1)) (lost d h);
      },
    )

-- a store of the moment that was read, or of 0 where nothing is counted
pub ends : (slots now word p n : ℕ) (at : ℕ → SlotState) (t : SeatState) → n ≤ now → (n ≡ 0 → (c : CodeId) → t.counted c ≡ 0) → IsSeatKept now word t → IsPairKept slots at p t
    → (IsSeatKept now n record { counted = t.counted; fresh = λ _. false; moment = 0; stored = n; gone = t.gone }
    × IsPairKept slots at p record { counted = t.counted; fresh = λ _. false; moment = 0; stored = n; gone = t.gone })
ends slots now word p n at t low none s r = (
  record { word_is = refl; stored_by = low; moment_by = omega arith; uncounted = none; unfresh = λ z c. refl; few = s.few },
  record {
    counted_stands = r.counted_stands;
    counted_unclear = r.counted_unclear;
    fresh_stands = λ c h. absurd (false≢true h);
    fresh_late = λ c h. absurd (false≢true h);
    fresh_unlooked = λ c h. absurd (false≢true h);
    fresh_unclear = λ c h. absurd (false≢true h);
    gone_is = r.gone_is;
  },
)

module _ (slots places : ℕ) where
  -- a code is installed in a vacant slot
  pub installs : (w : Word → ℕ) (now : ℕ) (at : ℕ → SlotState) (seat : ℕ → SeatState) (k n : ℕ) (w' : Word → ℕ) (at' : ℕ → SlotState) → IsPartsKept slots places w now at seat → k < slots
      → rank (at k).state ≡ 3 → (at k).serial < n → n < 2 ^ 40 → at' k ≡ record { serial = n; state = InUse; left = 0; looked = λ _. false; clear = false }
      → w' the_moment ≡ w the_moment → ((j : ℕ) → j < slots → j ≢ k → w' (entry_of j) ≡ w (entry_of j)) → ((j : ℕ) → j < slots → w' (count_of j) ≡ w (count_of j)) → ((p : ℕ) → p < places → w' (place_of p) ≡ w (place_of p))
      → ((j : ℕ) → j ≢ k → at' j ≡ at j) → w' (entry_of k) ≡ pack n InUse
      → IsPartsKept slots places w' now at' seat
  installs w now at seat k n w' at' b low vacant later bound new moment entry_words count_words place_words others word =
      let serial : (at' k).serial ≡ n = ap (λ (s : SlotState). s.serial) new in let state : rank (at' k).state ≡ 0 = ap (λ (s : SlotState). rank s.state) new in
      let none : (m p : ℕ) → p < places → (seat p).counted (code k m) ≡ 0 = λ m p h. dite (ℕ_discrete ((seat p).counted (code k m)) 0) (λ e. e)
      (λ ne. let s = (b.pair_is p h).counted_stands (code k m) (omega arith) in let t = s.2 in absurd (omega arith)) in
      slot_moves slots places w now at seat k w' at' b moment entry_words count_words place_words others
      record {
        word_is = subst (λ (s : SlotState). w' (entry_of k) ≡ pack s.serial s.state) (sym new) word;
        unlooked = λ _ p. ap (λ (s : SlotState). s.looked p) new;
        unclear = λ _. ap (λ (s : SlotState). s.clear) new;
        unleft = λ _. ap (λ (s : SlotState). s.left) new;
        left_is = λ x y. absurd (omega arith);
        small = omega arith;
      }
      (λ p h. pair_moves slots places at at' k p (seat p) others
      (λ c e s. let t = s.2 in let v : rank (at c.slot).state ≡ 3 = ap (λ j. rank (at j).state) e ∙ vacant in absurd (omega arith))
      (λ c e f. inl state)
      (ap (λ (s : SlotState). s.looked p) new) (ap (λ (s : SlotState). s.clear) new)
      (omega arith)
      (b.pair_is p h))
      (b.count_is k low ∙ (total_zero places (λ p. (seat p).counted (code k (at k).serial)) (none (at k).serial) ∙ sym (total_zero places (λ p. (seat p).counted (code k (at' k).serial)) (none (at' k).serial))))

  -- a code in use is invalidated
  pub invalidates : (w : Word → ℕ) (now : ℕ) (at : ℕ → SlotState) (seat : ℕ → SeatState) (k : ℕ) (w' : Word → ℕ) (at' : ℕ → SlotState) → IsPartsKept slots places w now at seat → k < slots
      → rank (at k).state ≡ 0 → at' k ≡ record { serial = (at k).serial; state = NotEntrant; left = now; looked = λ _. false; clear = false }
      → w' the_moment ≡ w the_moment → ((j : ℕ) → j < slots → j ≢ k → w' (entry_of j) ≡ w (entry_of j)) → ((j : ℕ) → j < slots → w' (count_of j) ≡ w (count_of j)) → ((p : ℕ) → p < places → w' (place_of p) ≡ w (place_of p))
      → ((j : ℕ) → j ≢ k → at' j ≡ at j) → w' (entry_of k) ≡ pack (at k).serial NotEntrant
      → IsPartsKept slots places w' now at' seat
  invalidates w now at seat k w' at' b low used new moment entry_words count_words place_words others word =
      let serial : (at' k).serial ≡ (at k).serial = ap (λ (s : SlotState). s.serial) new in let state : rank (at' k).state ≡ 1 = ap (λ (s : SlotState). rank s.state) new in
      let left : (at' k).left ≡ now = ap (λ (s : SlotState). s.left) new in
      slot_moves slots places w now at seat k w' at' b moment entry_words count_words place_words others
      record {
        word_is = subst (λ (s : SlotState). w' (entry_of k) ≡ pack s.serial s.state) (sym new) word;
        unlooked = λ _ p. ap (λ (s : SlotState). s.looked p) new;
        unclear = λ _. ap (λ (s : SlotState). s.clear) new;
        unleft = λ x. absurd (omega arith);
        left_is = λ x y. let some = b.some_moment.0 in (omega arith, omega arith);
        small = let z = (b.slot_is k low).small in omega arith;
      }
      (λ p h. pair_moves slots places at at' k p (seat p) others
      (λ c e s. let same : (at c.slot).serial ≡ (at k).serial = ap (λ j. (at j).serial) e in let same' : (at' c.slot).serial ≡ (at' k).serial = ap (λ j. (at' j).serial) e in
      let st : rank (at' c.slot).state ≡ rank (at' k).state = ap (λ j. rank (at' j).state) e in let is = s.1 in (s.0, omega arith, omega arith))
      (λ c e f. inr (let by = (b.seat_is p h).stored_by in omega arith))
      (ap (λ (s : SlotState). s.looked p) new) (ap (λ (s : SlotState). s.clear) new)
      (omega arith)
      (b.pair_is p h))
      (subst (λ m. w (count_of k) ≡ total places (λ p. (seat p).counted (code k m))) (sym serial) (b.count_is k low))

-- Pass 2
pub same_is : (d c : CodeId) → d.slot ≡ c.slot → d.serial ≡ c.serial → d ≡ c
same_is d c e f = λ i. record { slot = e i; serial = f i }

module _ (slots places : ℕ) where
  -- a step of the seat q that counts the code c as b in place of a
  pub counts : (w : Word → ℕ) (now : ℕ) (at : ℕ → SlotState) (seat : ℕ → SeatState) (q : ℕ) (c : CodeId) (b : ℕ) (counted' : CodeId → ℕ) (w' : Word → ℕ) (seat' : ℕ → SeatState) → IsPartsKept slots places w now at seat → q < places
      → Stands slots at c → (at c.slot).clear ≡ false → (seat q).stored ≢ 0 → b ≤ 256
      → counted' c ≡ b → ((d : CodeId) → d ≢ c → counted' d ≡ (seat q).counted d)
      → w' the_moment ≡ w the_moment → ((k : ℕ) → k < slots → w' (entry_of k) ≡ w (entry_of k)) → ((k : ℕ) → k < slots → k ≢ c.slot → w' (count_of k) ≡ w (count_of k)) → ((p : ℕ) → p < places → w' (place_of p) ≡ w (place_of p))
      → w' (count_of c.slot) + (seat q).counted c ≡ w (count_of c.slot) + b
      → ((p : ℕ) → p ≢ q → seat' p ≡ seat p) → seat' q ≡ record { counted = counted'; fresh = (seat q).fresh; moment = (seat q).moment; stored = (seat q).stored; gone = (seat q).gone }
      → IsPartsKept slots places w' now at seat'
  counts w now at seat q c b counted' w' seat' k low standing unclear some_stored few here elsewhere moment entry_words count_words place_words count others mine =
      let s = k.seat_is q low in let r = k.pair_is q low in
      let counted_is : (d : CodeId) → (seat' q).counted d ≡ counted' d = λ d. ap (λ (t : SeatState). t.counted d) mine in
      let new_seat : IsSeatKept now (w' (place_of q)) (seat' q) = subst (λ t. IsSeatKept now (w' (place_of q)) t) (sym mine)
      record {
        word_is = place_words q low ∙ s.word_is;
        stored_by = s.stored_by;
        moment_by = s.moment_by;
        uncounted = λ e d. absurd (some_stored e);
        unfresh = s.unfresh;
        few = λ d. dite (code_discrete d c) (λ e. subst (λ x. counted' x ≤ 256) (sym e) (omega arith)) (λ ne. let f = s.few d in let x = elsewhere d ne in omega arith);
      } in
      let new_pair : IsPairKept slots at q (seat' q) = subst (λ t. IsPairKept slots at q t) (sym mine)
      record {
        counted_stands = λ d h. dite (code_discrete d c) (λ e. subst (Stands slots at) (sym e) standing) (λ ne. r.counted_stands d (subst (λ x. 0 < x) (elsewhere d ne) h));
        counted_unclear = λ d h. dite (code_discrete d c) (λ e. subst (λ (x : CodeId). (at x.slot).clear ≡ false) (sym e) unclear) (λ ne. r.counted_unclear d (subst (λ x. 0 < x) (elsewhere d ne) h));
        fresh_stands = r.fresh_stands;
        fresh_late = r.fresh_late;
        fresh_unlooked = r.fresh_unlooked;
        fresh_unclear = r.fresh_unclear;
        gone_is = r.gone_is;
      } in record {
        moment_is = moment ∙ k.moment_is;
        some_moment = k.some_moment;
        slot_is = λ j h. subst (λ x. IsSlotKept now x (at j)) (sym (entry_words j h)) (k.slot_is j h);
        seat_is = λ p h. dite (ℕ_discrete p q) (λ e. subst (λ j. IsSeatKept now (w' (place_of j)) (seat' j)) (sym e) new_seat)
            (λ ne. subst (λ x. IsSeatKept now x (seat' p)) (sym (place_words p h)) (subst (λ t. IsSeatKept now (w (place_of p)) t) (sym (others p ne)) (k.seat_is p h)));
        pair_is = λ p h. dite (ℕ_discrete p q) (λ e. subst (λ j. IsPairKept slots at j (seat' j)) (sym e) new_pair) (λ ne. subst (λ t. IsPairKept slots at p t) (sym (others p ne)) (k.pair_is p h));
        count_is = λ j h. dite (ℕ_discrete j c.slot)
            (λ e. let is : code j (at j).serial ≡ c = same_is (code j (at j).serial) c e (ap (λ i. (at i).serial) e ∙ standing.1) in
            let all : total places (λ p. (seat' p).counted (code j (at j).serial)) + (seat q).counted (code j (at j).serial) ≡ total places (λ p. (seat p).counted (code j (at j).serial)) + (seat' q).counted (code j (at j).serial)
            = total_changed places q (λ p. (seat p).counted (code j (at j).serial)) (λ p. (seat' p).counted (code j (at j).serial)) low (λ p l ne. ap (λ t. t.counted (code j (at j).serial)) (others p ne)) in
            let old : w (count_of j) ≡ total places (λ p. (seat p).counted (code j (at j).serial)) = k.count_is j h in
            let a : (seat q).counted (code j (at j).serial) ≡ (seat q).counted c = ap (λ d. (seat q).counted d) is in
            let z : (seat' q).counted (code j (at j).serial) ≡ b = ap (λ d. (seat' q).counted d) is ∙ (counted_is c ∙ here) in
            let x : w' (count_of j) ≡ w' (count_of c.slot) = ap (λ i. w' (count_of i)) e in let y : w (count_of j) ≡ w (count_of c.slot) = ap (λ i. w (count_of i)) e in
            omega arith)
            (λ ne. count_words j h ne ∙ (k.count_is j h ∙ total_same places (λ p. (seat p).counted (code j (at j).serial)) (λ p. (seat' p).counted (code j (at j).serial))
            (λ p l. dite (ℕ_discrete p q)
            (λ e. subst (λ i. (seat i).counted (code j (at j).serial) ≡ (seat' i).counted (code j (at j).serial)) (sym e)
            (sym (counted_is (code j (at j).serial) ∙ elsewhere (code j (at j).serial) (λ e. ne (ap (λ (d : CodeId). d.slot) e)))))
            (λ ne. ap (λ t. t.counted (code j (at j).serial)) (sym (others p ne))))));
      }
    where
      code_discrete : (d e : CodeId) → Dec (d ≡ e)
      code_discrete d e = dite (ℕ_discrete d.slot e.slot)
          (λ a. dite (ℕ_discrete d.serial e.serial) (λ b. yes (same_is d e a b)) (λ n. no (λ x. n (ap (λ (y : CodeId). y.serial) x))))
          (λ n. no (λ x. n (ap (λ (y : CodeId). y.slot) x)))

  -- the keeper learns of the slot k that the places are looked and whether it is clear: serial, state and moment stay
  pub learns : (w : Word → ℕ) (now : ℕ) (at : ℕ → SlotState) (seat : ℕ → SeatState) (k : ℕ) (w' : Word → ℕ) (at' : ℕ → SlotState) → IsPartsKept slots places w now at seat → k < slots
      → ((j : ℕ) → j ≢ k → at' j ≡ at j) → ((at' k).serial ≡ (at k).serial) × ((at' k).state ≡ (at k).state) × ((at' k).left ≡ (at k).left)
      → rank (at k).state ≢ 0
      → w' the_moment ≡ w the_moment → ((j : ℕ) → j < slots → (w' (entry_of j) ≡ w (entry_of j)) × (w' (count_of j) ≡ w (count_of j))) → ((p : ℕ) → p < places → w' (place_of p) ≡ w (place_of p))
      → ((p : ℕ) → p < places → (c : CodeId) → c.slot ≡ k → c.serial ≡ (at k).serial → (seat p).fresh c ≡ true → ((at' k).looked p ≡ false) × ((at' k).clear ≡ false))
      → ((p : ℕ) → p < places → (c : CodeId) → c.slot ≡ k → c.serial ≡ (at k).serial → 0 < (seat p).counted c → (at' k).clear ≡ false)
      → IsPartsKept slots places w' now at' seat
  learns w now at seat k w' at' b low others same unused moment slot_words place_words fresh_ok counted_ok =
      let state_is : (j : ℕ) → (at' j).state ≡ (at j).state = λ j. dite (ℕ_discrete j k) (λ e. subst (λ i. (at' i).state ≡ (at i).state) (sym e) same.1) (λ ne. ap (λ (s : SlotState). s.state) (others j ne)) in
      let serial_is : (j : ℕ) → (at' j).serial ≡ (at j).serial = λ j. dite (ℕ_discrete j k) (λ e. subst (λ i. (at' i).serial ≡ (at i).serial) (sym e) same.0) (λ ne. ap (λ (s : SlotState). s.serial) (others j ne)) in
      let left_is : (j : ℕ) → (at' j).left ≡ (at j).left = λ j. dite (ℕ_discrete j k) (λ e. subst (λ i. (at' i).left ≡ (at i).left) (sym e) same.2) (λ ne. ap (λ (s : SlotState). s.left) (others j ne)) in
      let stands : (c : CodeId) → Stands slots at c → Stands slots at' c = λ c s. (s.0, serial_is c.slot ∙ s.1, subst (λ x. rank x < 2) (sym (state_is c.slot)) s.2) in record {
        moment_is = moment ∙ b.moment_is;
        some_moment = b.some_moment;
        slot_is = λ j h. let s = b.slot_is j h in record {
          word_is = (slot_words j h).0 ∙ (s.word_is ∙ (λ i. pack (sym (serial_is j) i) (sym (state_is j) i)));
          unlooked = λ e p. dite (ℕ_discrete j k) (λ x. absurd (unused (ap (λ i. rank (at i).state) (sym x) ∙ (sym (ap rank (state_is j)) ∙ e)))) (λ ne. ap (λ (s : SlotState). s.looked p) (others j ne) ∙ s.unlooked (sym (ap rank (state_is j)) ∙ e) p);
          unclear = λ e. dite (ℕ_discrete j k) (λ x. absurd (unused (ap (λ i. rank (at i).state) (sym x) ∙ (sym (ap rank (state_is j)) ∙ e)))) (λ ne. ap (λ (s : SlotState). s.clear) (others j ne) ∙ s.unclear (sym (ap rank (state_is j)) ∙ e));
          unleft = λ e. left_is j ∙ s.unleft (sym (ap rank (state_is j)) ∙ e);
          left_is = subst (λ x. 0 < rank x → rank x < 3 → (0 < (at' j).left) × ((at' j).left ≤ now)) (sym (state_is j)) (subst (λ n. 0 < rank (at j).state → rank (at j).state < 3 → (0 < n) × (n ≤ now)) (sym (left_is j)) s.left_is);
          small = subst (λ n. n < 2 ^ 40) (sym (serial_is j)) s.small;
        };
        seat_is = λ p h. subst (λ x. IsSeatKept now x (seat p)) (sym (place_words p h)) (b.seat_is p h);
        pair_is = λ p h. let r = b.pair_is p h in record {
          counted_stands = λ c e. stands c (r.counted_stands c e);
          counted_unclear = λ c e. dite (ℕ_discrete c.slot k) (λ x. subst (λ j. (at' j).clear ≡ false) (sym x) (counted_ok p h c x (sym (r.counted_stands c e).1 ∙ ap (λ i. (at i).serial) x) e)) (λ ne. ap (λ (s : SlotState). s.clear) (others c.slot ne) ∙ r.counted_unclear c e);
          fresh_stands = λ c e. stands c (r.fresh_stands c e);
          fresh_late = λ c e. ⊎_elim (λ z. inl (ap rank (state_is c.slot) ∙ z)) (λ z. inr (subst (λ x. (seat p).stored ≤ x) (sym (left_is c.slot)) z)) (r.fresh_late c e);
          fresh_unlooked = λ c e. dite (ℕ_discrete c.slot k) (λ x. subst (λ j. (at' j).looked p ≡ false) (sym x) (fresh_ok p h c x (sym (r.fresh_stands c e).1 ∙ ap (λ i. (at i).serial) x) e).0) (λ ne. ap (λ (s : SlotState). s.looked p) (others c.slot ne) ∙ r.fresh_unlooked c e);
          fresh_unclear = λ c e. dite (ℕ_discrete c.slot k) (λ x. subst (λ j. (at' j).clear ≡ false) (sym x) (fresh_ok p h c x (sym (r.fresh_stands c e).1 ∙ ap (λ i. (at i).serial) x) e).1) (λ ne. ap (λ (s : SlotState). s.clear) (others c.slot ne) ∙ r.fresh_unclear c e);
          gone_is = λ c e. let g = r.gone_is c e in (g.0, subst (λ x. pack c.serial InUse < x) (λ i. pack (sym (serial_is c.slot) i) (sym (state_is c.slot) i)) g.1);
        };
        count_is = λ j h. (slot_words j h).1 ∙ (b.count_is j h ∙ ap (λ n. total places (λ p. (seat p).counted (code j n))) (sym (serial_is j)));
      }

  -- a load of a place's word, for a code that is not entrant
  pub looks : (w : Word → ℕ) (now : ℕ) (at : ℕ → SlotState) (seat : ℕ → SeatState) (k q : ℕ) (w' : Word → ℕ) (at' : ℕ → SlotState) → IsPartsKept slots places w now at seat → k < slots → q < places → rank (at k).state ≡ 1
      → ((j : ℕ) → j ≢ k → at' j ≡ at j) → ((at' k).serial ≡ (at k).serial) × ((at' k).state ≡ (at k).state) × ((at' k).left ≡ (at k).left) → (at' k).clear ≡ (at k).clear
      → ((p : ℕ) → (at' k).looked p ≡ true → ((at k).looked p ≡ true) ⊎ ((p ≡ q) × ((w (place_of q) ≡ 0) ⊎ ((at k).left < w (place_of q)))))
      → w' the_moment ≡ w the_moment → ((j : ℕ) → j < slots → (w' (entry_of j) ≡ w (entry_of j)) × (w' (count_of j) ≡ w (count_of j))) → ((p : ℕ) → p < places → w' (place_of p) ≡ w (place_of p))
      → IsPartsKept slots places w' now at' seat
  looks w now at seat k q w' at' b low low' left others same clear more moment slot_words place_words =
      learns w now at seat k w' at' b low others same (λ e. omega arith) moment slot_words place_words
      (λ p h c x y e. let r = b.pair_is p h in let s = b.seat_is p h in (
        not_true ((at' k).looked p) (λ z. ⊎_elim
            (λ old. false≢true (sym (subst (λ j. (at j).looked p ≡ false) x (r.fresh_unlooked c e)) ∙ old))
            (λ new. let word : w (place_of q) ≡ (seat p).stored = ap (λ j. w (place_of j)) (sym new.0) ∙ s.word_is in
            ⊎_elim (λ none. false≢true (sym (s.unfresh (sym word ∙ none) c) ∙ e))
            (λ late. ⊎_elim (λ used. absurd (let u = subst (λ j. rank (at j).state ≡ 0) x used in omega arith)) (λ by. absurd (let u = subst (λ j. (seat p).stored ≤ (at j).left) x by in omega arith)) (r.fresh_late c e))
            new.1)
            (more p z)),
        clear ∙ subst (λ j. (at j).clear ≡ false) x (r.fresh_unclear c e),
      ))
      (λ p h c x y e. clear ∙ subst (λ j. (at j).clear ≡ false) x ((b.pair_is p h).counted_unclear c e))
    where
      not_true : (v : Bool) → (v ≡ true → ⊥) → v ≡ false
      not_true true h = absurd (h refl)
      not_true false h = refl

  -- a load of a slot's count, where all places are looked
  pub weighs : (w : Word → ℕ) (now : ℕ) (at : ℕ → SlotState) (seat : ℕ → SeatState) (k : ℕ) (w' : Word → ℕ) (at' : ℕ → SlotState) → IsPartsKept slots places w now at seat → k < slots → rank (at k).state ≢ 0
      → ((p : ℕ) → p < places → (at k).looked p ≡ true)
      → ((j : ℕ) → j ≢ k → at' j ≡ at j) → ((at' k).serial ≡ (at k).serial) × ((at' k).state ≡ (at k).state) × ((at' k).left ≡ (at k).left) → ((p : ℕ) → (at' k).looked p ≡ (at k).looked p)
      → (w (count_of k) ≢ 0 → (at' k).clear ≡ false)
      → w' the_moment ≡ w the_moment → ((j : ℕ) → j < slots → (w' (entry_of j) ≡ w (entry_of j)) × (w' (count_of j) ≡ w (count_of j))) → ((p : ℕ) → p < places → w' (place_of p) ≡ w (place_of p))
      → IsPartsKept slots places w' now at' seat
  weighs w now at seat k w' at' b low unused all others same looked clear moment slot_words place_words =
      learns w now at seat k w' at' b low others same unused moment slot_words place_words
      (λ p h c x y e. absurd (false≢true (sym (subst (λ j. (at j).looked p ≡ false) x ((b.pair_is p h).fresh_unlooked c e)) ∙ all p h)))
      (λ p h c x y e. clear (λ zero. let none : (seat p).counted (code k (at k).serial) ≡ 0 = total_none places (λ j. (seat j).counted (code k (at k).serial)) (sym (b.count_is k low) ∙ zero) p h in
      let is : (seat p).counted c ≡ (seat p).counted (code k (at k).serial) = ap (λ d. (seat p).counted d) (same_is c (code k (at k).serial) x y) in omega arith))

  -- nobody has the code of the slot k, and its state goes on
  pub leaves : (w : Word → ℕ) (now : ℕ) (at : ℕ → SlotState) (seat : ℕ → SeatState) (k : ℕ) (w' : Word → ℕ) (at' : ℕ → SlotState) → IsPartsKept slots places w now at seat → k < slots
      → ((j : ℕ) → j ≢ k → at' j ≡ at j) → (at' k).serial ≡ (at k).serial → (at' k).left ≡ (at k).left → 0 < rank (at k).state → rank (at k).state < 3 → rank (at k).state ≤ rank (at' k).state
      → ((p : ℕ) → p < places → (c : CodeId) → c.slot ≡ k → ((seat p).counted c ≡ 0) × ((seat p).fresh c ≡ false))
      → w' the_moment ≡ w the_moment → ((j : ℕ) → j < slots → j ≢ k → w' (entry_of j) ≡ w (entry_of j)) → ((j : ℕ) → j < slots → w' (count_of j) ≡ w (count_of j)) → ((p : ℕ) → p < places → w' (place_of p) ≡ w (place_of p))
      → w' (entry_of k) ≡ pack (at' k).serial (at' k).state
      → IsPartsKept slots places w' now at' seat
  leaves w now at seat k w' at' b low others serial left some small grows nobody moment entry_words count_words place_words word =
      slot_moves slots places w now at seat k w' at' b moment entry_words count_words place_words others
      (let s = b.slot_is k low in record {
        word_is = word;
        unlooked = λ e p. absurd (omega arith);
        unclear = λ e. absurd (omega arith);
        unleft = λ e. absurd (omega arith);
        left_is = λ x y. subst (λ n. (0 < n) × (n ≤ now)) (sym left) (s.left_is some small);
        small = subst (λ n. n < 2 ^ 40) (sym serial) s.small;
      })
      (λ p h. let r = b.pair_is p h in
      let apart : (c : CodeId) → ((seat p).fresh c ≡ true) ⊎ (0 < (seat p).counted c) → c.slot ≢ k = λ c e x. let n = nobody p h c x in let z = n.0 in ⊎_elim (λ f. false≢true (sym n.1 ∙ f)) (λ q. absurd (omega arith)) e in record {
        counted_stands = λ c e. subst (λ (x : SlotState). (c.slot < slots) × (x.serial ≡ c.serial) × (rank x.state < 2)) (sym (others c.slot (apart c (inr e)))) (r.counted_stands c e);
        counted_unclear = λ c e. subst (λ (x : SlotState). x.clear ≡ false) (sym (others c.slot (apart c (inr e)))) (r.counted_unclear c e);
        fresh_stands = λ c e. subst (λ (x : SlotState). (c.slot < slots) × (x.serial ≡ c.serial) × (rank x.state < 2)) (sym (others c.slot (apart c (inl e)))) (r.fresh_stands c e);
        fresh_late = λ c e. subst (λ (x : SlotState). (rank x.state ≡ 0) ⊎ ((seat p).stored ≤ x.left)) (sym (others c.slot (apart c (inl e)))) (r.fresh_late c e);
        fresh_unlooked = λ c e. subst (λ (x : SlotState). x.looked p ≡ false) (sym (others c.slot (apart c (inl e)))) (r.fresh_unlooked c e);
        fresh_unclear = λ c e. subst (λ (x : SlotState). x.clear ≡ false) (sym (others c.slot (apart c (inl e)))) (r.fresh_unclear c e);
        gone_is = λ c e. let g = r.gone_is c e in (
          g.0,
          dite (ℕ_discrete c.slot k)
              (λ x. let old : pack c.serial InUse < pack (at k).serial (at k).state = subst (λ j. pack c.serial InUse < pack (at j).serial (at j).state) x g.1 in
              subst (λ j. pack c.serial InUse < pack (at' j).serial (at' j).state) (sym x) (omega arith))
              (λ ne. subst (λ (x : SlotState). pack c.serial InUse < pack x.serial x.state) (sym (others c.slot ne)) g.1),
        );
      })
      (b.count_is k low ∙ ap (λ n. total places (λ p. (seat p).counted (code k n))) (sym serial))
