-- What stands before the first such byte and behind it.
use Rattle.std.proofs.Common.{◌≡◌, ℕ, ◌+◌, ◌-◌, ◌<◌, ◌∙◌, true, not, List, ◌∷◌, ◌++◌, length, take, drop, get_or, Some, sym, ap, subst, arith, get_or-take, length-take-le}
use Rattle.std.specs.Prelude.{◌==◌, nat_lt}
use Rattle.std.specs.List.{position, position_or_len, list_all}
use Rattle.std.proofs.lemmas.Bool.{eqb-true, ltb-true}
use Rattle.std.proofs.lemmas.List.{take_rest}
use Rattle.std.proofs.lemmas.List.Sums.{split_at_first, list_all-from_AllPass}
use Rattle.std.proofs.lemmas.List.Quantifiers.{position-Some}
use Rattle.std.proofs.lemmas.Option.{cond_some}

pub cut_whole : (byte : ℕ) (xs : List ℕ) (at : ℕ) → position (λ b. b == byte) xs ≡ Some at → xs ≡ take at xs ++ byte ∷ take (length xs - (at + 1)) (drop (at + 1) xs)
cut_whole byte xs at e =
    let same = cond_some (nat_lt (position_or_len (λ b. b == byte) xs) (length xs)) (position_or_len (λ b. b == byte) xs) at e in
    let there = position-Some (λ b. b == byte) xs at 0 e in
    let whole : xs ≡ take at xs ++ get_or xs at 0 ∷ drop (at + 1) xs
    = subst (λ (n : ℕ). xs ≡ take n xs ++ get_or xs n 0 ∷ drop (n + 1) xs) same.1 (split_at_first (λ b. b == byte) xs 0 (ltb-true _ _ same.0)) in
    whole ∙ ap (λ b. take at xs ++ b ∷ drop (at + 1) xs) (eqb-true _ _ there.1) ∙ ap (λ ys. take at xs ++ byte ∷ ys) (sym (take_rest xs (at + 1)))

pub cut_first : (byte : ℕ) (xs : List ℕ) (at : ℕ) → position (λ b. b == byte) xs ≡ Some at → list_all (λ b. not (b == byte)) (take at xs) ≡ true
cut_first byte xs at e = list_all-from_AllPass (λ b. not (b == byte)) (take at xs) (λ k d h.
    let there = position-Some (λ b. b == byte) xs at d e in
    let below : k < at = omega (arith, length-take-le at xs (omega (arith, there.0)), h) in
    ap not (ap (λ b. b == byte) (get_or-take at xs k d below) ∙ there.2 k below))
