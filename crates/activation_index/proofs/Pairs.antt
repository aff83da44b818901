-- A sorted census whose serials differ is rising.
use Rattle.std.proofs.Common.{◌≡◌, ℕ, suc, ◌+◌, ◌<◌, ◌≤◌, ◌∙◌, sym, Bool, true, false, eqb, cond, List, [], ◌∷◌, length, get_or, refl, arith}
use Rattle.std.specs.List.Sorted.{IsPermutation, IsNonDecreasingBy}
use Rattle.std.specs.Prelude.{Some, None}
use Rattle.std.specs.List.{cons_option}
use Rattle.std.proofs.lemmas.List.Sums.{sum_by-cons}
use Rattle.std.proofs.lemmas.List.Sorted.{sum_by-IsPermutation}
use Rattle.std.proofs.lemmas.Bool.Decides.{nat_tests}
use Rattle.activation_index.specs.declared.Entry.{Entry}
use Rattle.activation_index.specs.Cells.{counted}
use Rattle.activation_index.specs.Pairs.{of_serial, zeros, IsRisingPairs}

of_serial-cons : (s : ℕ) (p : ℕ × ℕ) (ps : List (ℕ × ℕ)) → of_serial s (p ∷ ps) ≡ cond (eqb p.0 s) 1 0 + of_serial s ps
of_serial-cons s p ps = sum_by-cons (λ q. cond (eqb q.0 s) 1 0) p ps

zeros-cons : (p : ℕ × ℕ) (ps : List (ℕ × ℕ)) → zeros (p ∷ ps) ≡ cond (eqb p.1 0) 1 0 + zeros ps
zeros-cons p ps = sum_by-cons (λ q. cond (eqb q.1 0) 1 0) p ps

some_count : (n z : ℕ) → cond (eqb n 0) 1 0 + z ≡ 0 → 0 < n
some_count n z h = grind (arith, nat_tests)

one_each : (a b n : ℕ) → a ≤ b → cond {A = ℕ} (eqb a a) 1 0 + (cond (eqb b a) 1 0 + n) ≤ 1 → a + 1 ≤ b
one_each a b n le few = grind (arith, nat_tests)

pub rising : (least : ℕ) (ps : List (ℕ × ℕ)) → ((d : ℕ × ℕ) → 0 < length ps → least ≤ (get_or ps 0 d).0) → IsNonDecreasingBy (λ p. p.0) ps → zeros ps ≡ 0 → ((s : ℕ) → of_serial s ps ≤ 1) → IsRisingPairs least ps
rising least [] first sorted z few = tt
rising least (p ∷ ps) first sorted z few =
    let zs = zeros-cons p ps in (
      first p (omega arith),
      some_count p.1 (zeros ps) (sym zs ∙ z),
      rising (p.0 + 1) ps
          (λ d some. above p ps d some (λ e. sorted 0 1 e (omega arith)) (few p.0))
          (λ i j d le lt. sorted (suc i) (suc j) d (omega arith) (omega arith))
          (omega (arith, zs, z))
          (λ s. (let c = of_serial-cons s p ps in let f = few s in omega arith)),
    )
  where
    above : (p : ℕ × ℕ) (ps : List (ℕ × ℕ)) (d : ℕ × ℕ) → 0 < length ps → ((e : ℕ × ℕ) → 1 < length (p ∷ ps) → p.0 ≤ (get_or (p ∷ ps) 1 e).0) → of_serial p.0 (p ∷ ps) ≤ 1 → p.0 + 1 ≤ (get_or ps 0 d).0
    above p [] d some le few = absurd (omega arith)
    above p (q ∷ qs) d some le few =
        let a = of_serial-cons p.0 p (q ∷ qs) in
        let b = of_serial-cons p.0 q qs in
        let l = le d (omega arith) in
        one_each p.0 q.0 (of_serial p.0 qs) l (omega (arith, a, b, few))

-- the list has no pair with the count 0
no_zero : (cells : List Entry) → zeros (counted cells) ≡ 0
no_zero [] = refl
no_zero (e ∷ es) = step (eqb e.count 0) refl (no_zero es)
  where
    step : (b : Bool) → eqb e.count 0 ≡ b → zeros (counted es) ≡ 0 → zeros (cons_option (cond b None (Some (e.serial, e.count))) (counted es)) ≡ 0
    step true h rest = rest
    step false h rest = zeros-cons (e.serial, e.count) (counted es) ∙ rw h (omega (arith, rest))

pub census_rising : (cells : List Entry) (ps : List (ℕ × ℕ)) → IsPermutation (counted cells) ps → IsNonDecreasingBy (λ p. p.0) ps → ((s : ℕ) → of_serial s (counted cells) ≤ 1) → IsRisingPairs 0 ps
census_rising cells ps moved sorted few =
    rising 0 ps (λ d some. omega arith) sorted (sum_by-IsPermutation (λ q. cond (eqb q.1 0) 1 0) (counted cells) ps moved ∙ no_zero cells)
    (λ s. (let same = sum_by-IsPermutation (λ q. cond (eqb q.0 s) 1 0) (counted cells) ps moved in let f = few s in omega arith))
