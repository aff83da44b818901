-- Rising lists of names, and a name at an index.
use Rattle.std.proofs.Common.{◌≡◌, ℕ, ◌<◌, ◌≤◌, true, false, List, [], ◌∷◌, length, get_or, refl, arith}
use Rattle.std.specs.Prelude.{◌==◌, nat_lt}
use Rattle.std.proofs.lemmas.Bool.{and_parts, ltb-true, ne_eqb}
use Rattle.std.proofs.lemmas.List.Folds.{list_any_at}
use Rattle.operations.specs.Names.{among, is_distinct, is_rising, is_below_first}

pub listed_at : (name : ℕ) (names : List ℕ) (i d : ℕ) → i < length names → (get_or names i d == name) ≡ true → among name names ≡ true
listed_at name names i d below is = list_any_at (λ other. other == name) names i d below is

-- A number that isn't above the head of a rising list isn't in the tail.
not_above : (k n : ℕ) (ns : List ℕ) → k ≤ n → is_rising (n ∷ ns) ≡ true → among k ns ≡ false
not_above k n [] low rising = refl
not_above k n (m ∷ ms) low rising =
    let parts = and_parts (nat_lt n m) (is_rising (m ∷ ms)) rising in
    let lt : n < m = ltb-true n m parts.0 in
    let other : (m == k) ≡ false = ne_eqb m k (λ e. omega (arith, low, lt, e)) in
    rw other (not_above k m ms (omega (arith, low, lt)) parts.1)

pub rising_distinct : (ns : List ℕ) → is_rising ns ≡ true → is_distinct ns ≡ true
rising_distinct [] rising = refl
rising_distinct (n ∷ ns) rising =
    let parts = and_parts (is_below_first n ns) (is_rising ns) rising in
    rw (not_above n n ns (omega arith) rising) (rising_distinct ns parts.1)
