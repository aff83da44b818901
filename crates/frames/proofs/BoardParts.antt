-- The rule of a board, part by part: each slot for itself, each place for itself, and each place beside all slots. It says what
-- the rule says, in the form in which a step touches few parts. States are compared by their rank.
use Rattle.std.proofs.Common.{◌≡◌, ◌≢◌, ◌⊎◌, ℕ, zero, suc, ◌^◌, ◌<◌, ◌≤◌, Bool, true, false, sym, refl, ap, ◌∙◌, inl, inr, ⊎_elim, arith}
use Rattle.std.proofs.lemmas.Bool.{false≢true}
use mathlib.Core.Logic.{dite}
use native.Mathlib.Decide.{ℕ_discrete}
use Rattle.frames.specs.declared.CodeId.{CodeId}
use Rattle.frames.specs.declared.board_rule.EntryState.{EntryState}
use Rattle.frames.specs.declared.board_rule.EntryState.TheVariants.{InUse, NotEntrant, Zombie, Vacant}
use Rattle.frames.specs.BoardWords.{Word, entry_of, count_of, place_of, the_moment, rank, pack}
use Rattle.frames.specs.BoardRule.{SlotState, SeatState, BoardState, code, code_at, total, IsLive, IsHeldBy, IsPast, IsBoardKept}
use Rattle.frames.proofs.BoardWords.{rank_small, rank_injective}

pub record IsSlotKept (now word : ℕ) (s : SlotState) : Type 0 where
  pub word_is : word ≡ pack s.serial s.state
  pub unlooked : rank s.state ≡ 0 → (p : ℕ) → s.looked p ≡ false
  pub unclear : rank s.state ≡ 0 → s.clear ≡ false
  pub unleft : rank s.state ≡ 0 → s.left ≡ 0
  pub left_is : 0 < rank s.state → rank s.state < 3 → (0 < s.left) × (s.left ≤ now)
  pub small : s.serial < 2 ^ 40

pub record IsSeatKept (now word : ℕ) (t : SeatState) : Type 0 where
  pub word_is : word ≡ t.stored
  pub stored_by : t.stored ≤ now
  pub moment_by : t.moment ≤ now
  pub uncounted : t.stored ≡ 0 → (c : CodeId) → t.counted c ≡ 0
  pub unfresh : t.stored ≡ 0 → (c : CodeId) → t.fresh c ≡ false
  pub few : (c : CodeId) → t.counted c ≤ 256

module _ (slots : ℕ) (at : ℕ → SlotState) where
  abbrev pub Stands : CodeId → Type 0
  Stands c = (c.slot < slots) × ((at c.slot).serial ≡ c.serial) × (rank (at c.slot).state < 2)

  -- the place p and its seat beside all slots
  pub record IsPairKept (p : ℕ) (t : SeatState) : Type 0 where
    pub counted_stands : (c : CodeId) → 0 < t.counted c → Stands c
    pub counted_unclear : (c : CodeId) → 0 < t.counted c → (at c.slot).clear ≡ false
    pub fresh_stands : (c : CodeId) → t.fresh c ≡ true → Stands c
    pub fresh_late : (c : CodeId) → t.fresh c ≡ true → (rank (at c.slot).state ≡ 0) ⊎ (t.stored ≤ (at c.slot).left)
    pub fresh_unlooked : (c : CodeId) → t.fresh c ≡ true → (at c.slot).looked p ≡ false
    pub fresh_unclear : (c : CodeId) → t.fresh c ≡ true → (at c.slot).clear ≡ false
    pub gone_is : (c : CodeId) → t.gone c ≡ true → (c.slot < slots) × (pack c.serial InUse < pack (at c.slot).serial (at c.slot).state)

pub record IsPartsKept (slots places : ℕ) (w : Word → ℕ) (now : ℕ) (at : ℕ → SlotState) (seat : ℕ → SeatState) : Type 0 where
  pub moment_is : w the_moment ≡ now
  pub some_moment : (0 < now) × (now < 2 ^ 40)
  pub slot_is : (k : ℕ) → k < slots → IsSlotKept now (w (entry_of k)) (at k)
  pub seat_is : (p : ℕ) → p < places → IsSeatKept now (w (place_of p)) (seat p)
  pub pair_is : (p : ℕ) → p < places → IsPairKept slots at p (seat p)
  pub count_is : (k : ℕ) → k < slots → w (count_of k) ≡ total places (λ p. (seat p).counted (code k (at k).serial))

-- the parts of a state
abbrev pub HasParts : ℕ → ℕ → BoardState → Type 0
HasParts slots places b = IsPartsKept slots places b.word b.now b.slot b.seat

-- what the rank says of the state
pub rank_of : (s t : EntryState) → s ≡ t → rank s ≡ rank t
rank_of s t e = ap rank e

pub live_low : (s : EntryState) → IsLive s → rank s < 2
live_low s h = ⊎_elim (λ e. let x : rank s ≡ 0 = ap rank e in omega arith) (λ e. let x : rank s ≡ 1 = ap rank e in omega arith) h

pub low_live : (s : EntryState) → rank s < 2 → IsLive s
low_live InUse h = inl refl
low_live NotEntrant h = inr refl
low_live Zombie h = absurd (omega arith)
low_live Vacant h = absurd (omega arith)

pub in_use_of : (s : EntryState) → rank s ≡ 0 → s ≡ InUse
in_use_of s e = rank_injective s InUse e

-- past in a slot is a greater word
pub past_greater : (s : SlotState) (c : CodeId) → IsPast s c → pack c.serial InUse < pack s.serial s.state
past_greater s c h = ⊎_elim (λ later. omega arith)
    (λ here. let same = here.0 in let other : rank s.state ≢ 0 = (λ e. here.1 (in_use_of s.state e)) in omega arith) h

pub greater_past : (s : SlotState) (c : CodeId) → pack c.serial InUse < pack s.serial s.state → IsPast s c
greater_past s c h = let low = rank_small s.state in dite (ℕ_discrete s.serial c.serial)
    (λ e. inr (e, λ used. let x : rank s.state ≡ 0 = ap rank used in omega arith))
    (λ ne. inl (omega arith))

same_code_at : (c : CodeId) (b : BoardState) → (b.slot c.slot).serial ≡ c.serial → c ≡ code_at b c.slot
same_code_at c b e = λ i. record { slot = c.slot; serial = sym e i }

not_true : (v : Bool) → (v ≡ true → ⊥) → v ≡ false
not_true true h = absurd (h refl)
not_true false h = refl

not_some : (n : ℕ) → (0 < n → ⊥) → n ≡ 0
not_some zero h = refl
not_some (suc n) h = absurd (h (omega arith))

pub to_parts : (slots places : ℕ) (b : BoardState) → IsBoardKept slots places b → HasParts slots places b
to_parts slots places b r = record {
  moment_is = r.keeper_words.1;
  some_moment = (r.keeper_words.2, r.bounds.0);
  slot_is = λ k h. let look = r.looks k h in let left = r.lefts k h in record {
    word_is = r.keeper_words.0 k h;
    unlooked = λ e. look.unlooked (in_use_of (b.slot k).state e);
    unclear = λ e. look.unclear (in_use_of (b.slot k).state e);
    unleft = λ e. left.none (in_use_of (b.slot k).state e);
    left_is = λ x y. left.some (between (b.slot k).state x y);
    small = r.bounds.1 k h;
  };
  seat_is = λ p h. let t = r.place_words p h in record { word_is = t.word_is; stored_by = t.stored_by; moment_by = t.moment_by; uncounted = t.uncounted; unfresh = t.unfresh; few = r.counts.1 p h };
  pair_is = λ p h. record {
    counted_stands = λ c e. stands p h c (inl e);
    counted_unclear = λ c e. let s = stands p h c (inl e) in let same = same_code_at c b s.1 in
        not_true (b.slot c.slot).clear (λ x. let none : (b.seat p).counted c ≡ 0 = ap (b.seat p).counted same ∙ (r.looks c.slot s.0).clear_uncounted x p h in omega arith);
    fresh_stands = λ c e. stands p h c (inr e);
    fresh_late = λ c e. ⊎_elim (λ x. inl (ap rank x)) (λ x. inr x) (r.fresh_late p h c e);
    fresh_unlooked = λ c e. let s = stands p h c (inr e) in let same = same_code_at c b s.1 in
        not_true ((b.slot c.slot).looked p) (λ x. false≢true (sym (ap (b.seat p).fresh same ∙ (r.looks c.slot s.0).looked_unfresh p h x) ∙ e));
    fresh_unclear = λ c e. let s = stands p h c (inr e) in let same = same_code_at c b s.1 in
        not_true (b.slot c.slot).clear (λ x. false≢true (sym (ap (b.seat p).fresh same ∙ (r.looks c.slot s.0).clear_unfresh x p h) ∙ e));
    gone_is = λ c e. let g = r.gone_past p h c e in (g.0, past_greater (b.slot c.slot) c g.1);
  };
  count_is = r.counts.0;
}
  where
    between : (s : EntryState) → 0 < rank s → rank s < 3 → (s ≡ NotEntrant) ⊎ (s ≡ Zombie)
    between InUse x y = absurd (omega arith)
    between NotEntrant x y = inl refl
    between Zombie x y = inr refl
    between Vacant x y = absurd (omega arith)

    stands : (p : ℕ) → p < places → (c : CodeId) → IsHeldBy (b.seat p) c → Stands slots b.slot c
    stands p h c e = let s = r.held_stands p h c e in (s.0, s.1, live_low (b.slot c.slot).state s.2)

pub of_parts : (slots places : ℕ) (b : BoardState) → HasParts slots places b → IsBoardKept slots places b
of_parts slots places b r = record {
  keeper_words = ((λ k h. (r.slot_is k h).word_is), r.moment_is, r.some_moment.0);
  place_words = λ p h. let t = r.seat_is p h in record { word_is = t.word_is; stored_by = t.stored_by; moment_by = t.moment_by; uncounted = t.uncounted; unfresh = t.unfresh };
  held_stands = λ p h c e. let q = r.pair_is p h in let s : Stands slots b.slot c = ⊎_elim (λ x. q.counted_stands c x) (λ x. q.fresh_stands c x) e in (s.0, s.1, low_live (b.slot c.slot).state s.2);
  fresh_late = λ p h c e. ⊎_elim (λ x. inl (in_use_of (b.slot c.slot).state x)) (λ x. inr x) ((r.pair_is p h).fresh_late c e);
  counts = (r.count_is, λ p h. (r.seat_is p h).few);
  looks = λ k h. let s = r.slot_is k h in record {
    unlooked = λ e. s.unlooked (ap rank e);
    unclear = λ e. s.unclear (ap rank e);
    looked_unfresh = λ p q e. not_true ((b.seat p).fresh (code_at b k)) (λ x. false≢true (sym ((r.pair_is p q).fresh_unlooked (code_at b k) x) ∙ e));
    clear_uncounted = λ e p q. not_some ((b.seat p).counted (code_at b k)) (λ x. false≢true (sym ((r.pair_is p q).counted_unclear (code_at b k) x) ∙ e));
    clear_unfresh = λ e p q. not_true ((b.seat p).fresh (code_at b k)) (λ x. false≢true (sym ((r.pair_is p q).fresh_unclear (code_at b k) x) ∙ e));
  };
  gone_past = λ p h c e. let g = (r.pair_is p h).gone_is c e in (g.0, greater_past (b.slot c.slot) c g.1);
  lefts = λ k h. let s = r.slot_is k h in record { none = λ e. s.unleft (ap rank e); some = λ e. ⊎_elim (λ x. let n : rank (b.slot k).state ≡ 1 = ap rank x in s.left_is (omega arith) (omega arith)) (λ x. let n : rank (b.slot k).state ≡ 2 = ap rank x in s.left_is (omega arith) (omega arith)) e };
  bounds = (r.some_moment.1, λ k h. (r.slot_is k h).small);
}
