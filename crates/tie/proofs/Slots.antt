-- The newest code of each slot.
use Rattle.std.proofs.Common.{◌≡◌, ◌⊎◌, ℕ, ◌+◌, ◌<◌, true, false, List, length, Some, sym, refl, ap, ◌∙◌, inl, inr, ⊎_elim, subst, arith}
use Rattle.std.specs.Prelude.{not, ◌&&◌, ◌==◌, slice_get}
use Rattle.std.proofs.lemmas.Bool.{false≢true, not-true, and_cases, eqb-false}
use mathlib.Core.Logic.{dite}
use native.Mathlib.Decide.{ℕ_discrete}
use Rattle.method_table.specs.declared.Code.{Code}
use Rattle.method_table.specs.declared.CodeState.{CodeState}
use Rattle.method_table.specs.Numbers.{below}
use Rattle.method_table.specs.Codes.{code_of, is_taken, takes_slot, with_code, in_state, with_state}
use Rattle.method_table.specs.Entries.{newest_in}
use Rattle.method_table.proofs.Newest.{newest_place, newest_last}
use Rattle.system.specs.World.{World}
use Rattle.system.specs.Facts.{TableIsSound}
use Rattle.system.proofs.Outcomes.{IsCode, Installs}
use Rattle.system.proofs.Lists.{map_at, push_at, at_low, same_at, found_passes, find_place, any_none_at, below_low}
use Rattle.system.proofs.Table.{in_state_slot, in_state_other, unfreed_code, unfreed_takes}
use Rattle.system.proofs.NoRetiredStands.{code_at}

-- It is the code of its serial, in its slot.
pub newest_code : (slots methods : ℕ) (codes : List Code) → TableIsSound slots methods codes → (slot : ℕ) (k : Code) → newest_in codes slot ≡ Some k → (code_of codes k.serial ≡ Some k) × (k.slot ≡ slot) × (slot < slots) × (k.serial < length codes + 1)
newest_code slots methods codes t slot k h =
    let p = newest_place codes slot k h in let low = t.slot_low p.0 k p.1 in let same = p.2 in let at = t.serial_is p.0 k p.1 in let in_list = at_low codes p.0 k p.1 in
    (code_at slots methods codes t p.0 k p.1, p.2, omega arith, omega arith)

-- Of the codes of a slot all but the newest are freed.
abbrev pub OldAreFreed : List Code → Type 0
OldAreFreed codes = (i j : ℕ) (a b : Code) → slice_get codes i ≡ Some a → slice_get codes j ≡ Some b → a.slot ≡ b.slot → i < j → takes_slot a.state ≡ false

-- So an unfreed code is the newest of its slot; and any code is, or the newest is of a greater serial.
pub newer_than : (slots methods : ℕ) (codes : List Code) → TableIsSound slots methods codes → (s : ℕ) (k : Code) → code_of codes s ≡ Some k → (j : Code) × (newest_in codes k.slot ≡ Some j) × ((j ≡ k) ⊎ (k.serial < j.serial))
newer_than slots methods codes t s k is =
    let p = find_place (λ (x : Code). x.serial == s) codes k is in let r = newest_last codes k.slot p.0 k p.1 refl in let le = r.4 in (
      r.1,
      r.2,
      dite (ℕ_discrete r.0 p.0)
          (λ same. inl (same_at codes r.0 r.1 k r.3 (subst (λ n. slice_get codes n ≡ Some k) (sym same) p.1)))
          (λ ne. inr (let a = t.serial_is p.0 k p.1 in let b = t.serial_is r.0 r.1 r.3 in omega arith)),
    )

pub newest_of : (slots methods : ℕ) (codes : List Code) → TableIsSound slots methods codes → OldAreFreed codes → (s : ℕ) (k : Code) → code_of codes s ≡ Some k → takes_slot k.state ≡ true → newest_in codes k.slot ≡ Some k
newest_of slots methods codes t old s k is takes =
    let p = find_place (λ (x : Code). x.serial == s) codes k is in let r = newest_last codes k.slot p.0 k p.1 refl in let le = r.4 in
    let q = newest_place codes k.slot r.1 r.2 in
    dite (ℕ_discrete r.0 p.0)
    (λ same. r.2 ∙ ap Some (same_at codes r.0 r.1 k r.3 (subst (λ n. slice_get codes n ≡ Some k) (sym same) p.1)))
    (λ ne. absurd (false≢true (sym (old p.0 r.0 k r.1 p.1 r.3 (sym q.2) (omega arith)) ∙ takes)))

-- Installing and changing a state keep that.
pub free_is : (w : World) (method slot : ℕ) → Installs w method slot → (slot < w.slots) × ((n : ℕ) (a : Code) → slice_get w.codes n ≡ Some a → a.slot ≡ slot → takes_slot a.state ≡ false)
free_is w method slot i =
    let p = find_place (λ s. not (is_taken w.codes s)) (below w.slots) slot i.least in (
      below_low w.slots p.0 slot p.1,
      λ n a x e. ⊎_elim (λ d. absurd (eqb-false a.slot slot d e)) (λ d. d)
          (and_cases (a.slot == slot) (takes_slot a.state) (any_none_at (λ (k : Code). (k.slot == slot) && takes_slot k.state) w.codes n a (not-true (is_taken w.codes slot) (found_passes (λ s. not (is_taken w.codes s)) (below w.slots) slot i.least)) x)),
    )

pub freed_installed : (w : World) (method slot : ℕ) → OldAreFreed w.codes → Installs w method slot → OldAreFreed (with_code w.codes method slot)
freed_installed w method slot h i n m a b x y e lt = ⊎_elim
    (λ old. ⊎_elim (λ old2. h n m a b old old2 e lt) (λ new. free.1 n a old (e ∙ ap (λ (z : Code). z.slot) (sym new.1))) (push_at w.codes _ m b y))
    (λ new. ⊎_elim (λ old2. (let at = new.0 in let low = at_low w.codes m b old2 in absurd (omega arith))) (λ new2. (let at = new.0 in let at2 = new2.0 in absurd (omega arith))) (push_at w.codes _ m b y))
    (push_at w.codes _ n a x)
  where
    free : (slot < w.slots) × ((n : ℕ) (a : Code) → slice_get w.codes n ≡ Some a → a.slot ≡ slot → takes_slot a.state ≡ false)
    free = free_is w method slot i

pub freed_restated : (w : World) (s : ℕ) (k : Code) (from to : CodeState) → TableIsSound w.slots w.methods w.codes → OldAreFreed w.codes → IsCode w s k from → OldAreFreed (with_state w.codes s to)
freed_restated w s k from to t h i n m a b x y e lt =
    let p = map_at (in_state s to) w.codes n a x in let q = map_at (in_state s to) w.codes m b y in
    let slots : p.before.slot ≡ q.before.slot = sym (in_state_slot s to p.before) ∙ (ap (λ (z : Code). z.slot) p.is ∙ (e ∙ (ap (λ (z : Code). z.slot) (sym q.is) ∙ in_state_slot s to q.before))) in
    let freed = h n m p.before q.before p.at q.at slots lt in
    let is_k : (p.before.serial ≡ s) → p.before ≡ k = (λ z. (let u : Some p.before ≡ Some k = sym (code_at w.slots w.methods w.codes t n p.before p.at) ∙ (ap (code_of w.codes) z ∙ unfreed_code w.slots w.methods w.codes t s k i.found) in cc)) in
    dite (ℕ_discrete p.before.serial s)
    (λ z. absurd (false≢true (sym freed ∙ (ap (λ (z : Code). takes_slot z.state) (is_k z) ∙ unfreed_takes w.codes s k i.found))))
    (λ z. ap (λ (z : Code). takes_slot z.state) (sym p.is ∙ in_state_other s to p.before z) ∙ freed)
