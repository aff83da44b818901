-- Beginnings and ends of lists.
use Rattle.std.proofs.Common.{◌≡◌, ℕ, ◌+◌, ◌-◌, ◌≤◌, zero, suc, List, [], ◌∷◌, ◌++◌, length, take, drop, refl, ap, arith, length-drop}

pub append_none : (xs : List ℕ) → xs ++ [] ≡ xs
append_none [] = refl
append_none (x ∷ xs) = ap (λ ys. x ∷ ys) (append_none xs)

pub take_plus : (at n : ℕ) (xs : List ℕ) → take (at + n) xs ≡ take at xs ++ take n (drop at xs)
take_plus zero n xs = ap (λ k. take k xs) (let e : 0 + n ≡ n = omega arith in e)
take_plus (suc at) n [] = nothing n
  where
    nothing : (n : ℕ) → take (suc at + n) [] ≡ take {A = ℕ} n []
    nothing n = let e : suc at + n ≡ suc (at + n) = omega arith in rw e (none n)
      where
        none : (n : ℕ) → [] ≡ take {A = ℕ} n []
        none zero = refl
        none (suc n) = refl
take_plus (suc at) n (x ∷ xs) = let e : suc at + n ≡ suc (at + n) = omega arith in rw e (ap (λ ys. x ∷ ys) (take_plus at n xs))

pub take_all : (n : ℕ) (xs : List ℕ) → length xs ≤ n → take n xs ≡ xs
take_all n [] h = none n
  where
    none : (n : ℕ) → take {A = ℕ} n [] ≡ []
    none zero = refl
    none (suc n) = refl
take_all zero (x ∷ xs) h = absurd (omega arith)
take_all (suc n) (x ∷ xs) h = ap (λ ys. x ∷ ys) (take_all n xs (omega arith))

-- a range up to the end
pub rest_all : (at : ℕ) (xs : List ℕ) → take (length xs - at) (drop at xs) ≡ drop at xs
rest_all at xs = take_all (length xs - at) (drop at xs) (omega (arith, length-drop at xs))

-- a beginning of the first of two lists is one of both
pub take_front_part : (n : ℕ) (xs ys : List ℕ) → (m : ℕ) × (take m (xs ++ ys) ≡ take n xs)
take_front_part zero xs ys = (0, refl)
take_front_part (suc n) [] ys = (0, refl)
take_front_part (suc n) (x ∷ xs) ys = let f = take_front_part n xs ys in (suc f.0, ap (λ zs. x ∷ zs) f.1)
