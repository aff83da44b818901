-- The index of a serial in rising entries.
use Rattle.std.proofs.Common.{◌≡◌, ℕ, ◌+◌, ◌<◌, ◌≤◌, ◌∙◌, zero, suc, Bool, true, false, ltb, eqb, List, [], ◌∷◌, length, get_or, refl, ap, sym, cond, arith}
use Rattle.std.proofs.lemmas.Bool.Decides.{nat_tests}
use Rattle.std.specs.List.Sorted.{IsPartitionedBy, IsPartitionPoint}
use Rattle.activation_index.specs.declared.Entry.{Entry}
use Rattle.activation_index.specs.Counts.{count_in, place_in, IsRisingFrom, IsAt}

-- The entry's serial is smaller than this serial.
abbrev pub is_before : ℕ → Entry → Bool
is_before serial entry = ltb entry.serial serial

-- No serial of rising entries is less than the least.
at_least : (es : List Entry) (least k : ℕ) (d : Entry) → IsRisingFrom least es → k < length es → least ≤ (get_or es k d).serial
at_least [] least k d r below = absurd (omega (arith, below))
at_least (e ∷ es) least zero d r below = r.0
at_least (e ∷ es) least (suc k) d r below = let later = at_least es (e.serial + 1) k d r.2 (omega (arith, below)) in omega (arith, later, r.0)

pub is_parted : (es : List Entry) (least serial : ℕ) → IsRisingFrom least es → IsPartitionedBy (is_before serial) es
is_parted [] least serial r i j d le below before = absurd (omega (arith, below))
is_parted (e ∷ es) least serial r zero zero d le below before = before
is_parted (e ∷ es) least serial r zero (suc j) d le below before =
    let later = at_least es (e.serial + 1) j d r.2 (omega (arith, below)) in
    grind (arith, nat_tests)
is_parted (e ∷ es) least serial r (suc i) zero d le below before = absurd (omega (arith, le))
is_parted (e ∷ es) least serial r (suc i) (suc j) d le below before = is_parted es (e.serial + 1) serial r.2 i j d (omega (arith, le)) (omega (arith, below)) before

pub point_is : (es : List Entry) (serial point : ℕ) → point ≤ length es → IsPartitionPoint (λ y. is_before serial y ≡ true) (λ y. is_before serial y ≡ false) es point → point ≡ place_in es serial
point_is [] serial point le parts = omega (arith, le)
point_is (e ∷ es) serial zero le parts = let first : is_before serial e ≡ false = parts.1 0 e (omega arith) (omega arith) in sym (ap (λ b. cond b (suc (place_in es serial)) 0) first)
point_is (e ∷ es) serial (suc point) le parts =
    let first : is_before serial e ≡ true = parts.0 0 e (omega arith) (omega arith) in
    let rest = point_is es serial point (omega (arith, le)) (λ k d low high. parts.0 (suc k) d (omega (arith, low)) (omega (arith, high)), λ k d low high. parts.1 (suc k) d (omega (arith, low)) (omega (arith, high))) in
    ap suc rest ∙ sym (ap (λ b. cond b (suc (place_in es serial)) 0) first)

-- The entry at the serial's index has the serial's count.
pub found : (es : List Entry) (least serial : ℕ) (d : Entry) → IsRisingFrom least es → IsAt es serial (place_in es serial) → (get_or es (place_in es serial) d).count ≡ count_in es serial
found [] least serial d r at = absurd at
found (e ∷ es) least serial d r at = by_test (ltb e.serial serial) refl at (found es (e.serial + 1) serial d r.2)
  where
    by_test : (b : Bool) → ltb e.serial serial ≡ b → IsAt (e ∷ es) serial (cond b (suc (place_in es serial)) 0) → (IsAt es serial (place_in es serial) → (get_or es (place_in es serial) d).count ≡ count_in es serial)
        → (get_or (e ∷ es) (cond b (suc (place_in es serial)) 0) d).count ≡ cond (eqb e.serial serial) e.count (count_in es serial)
    by_test true k here rest = let other : eqb e.serial serial ≡ false = grind (arith, nat_tests) in rw other (rest here)
    by_test false k here rest = let same : eqb e.serial serial ≡ true = grind (arith, nat_tests) in rw same refl
