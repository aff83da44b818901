-- A line and what stands behind it.
use Rattle.std.proofs.Common.{◌≡◌, ℕ, ◌+◌, ◌-◌, ◌<◌, ◌≤◌, ◌∙◌, zero, suc, sym, subst, length-drop, Bool, true, false, List, [], ◌∷◌, ◌++◌, length, take, drop, refl, ap, cond, arith}
use Rattle.std.specs.Prelude.{◌==◌}
use Rattle.call_log.specs.Tokens.{end_of}

-- The newline stands between.
pub cut_whole : (xs : List ℕ) → end_of xs < length xs → xs ≡ take (end_of xs) xs ++ 10 ∷ drop (end_of xs + 1) xs
cut_whole [] h = absurd (omega arith)
cut_whole (x ∷ xs) h = by_byte (x == 10) refl h (cut_whole xs)
  where
    by_byte : (b : Bool) → (x == 10) ≡ b → cond b 0 (suc (end_of xs)) < suc (length xs) → (end_of xs < length xs → xs ≡ take (end_of xs) xs ++ 10 ∷ drop (end_of xs + 1) xs) → x ∷ xs ≡ take (cond b 0 (suc (end_of xs))) (x ∷ xs) ++ 10 ∷ drop (cond b 0 (suc (end_of xs)) + 1) (x ∷ xs)
    by_byte true e h more = let is : x ≡ 10 = grind arith in ap (λ z. z ∷ xs) is
    by_byte false e h more = let s : suc (end_of xs) + 1 ≡ suc (end_of xs + 1) = omega arith in rw s (ap (λ z. x ∷ z) (more (omega (arith, h))))

take_all : (n : ℕ) (xs : List ℕ) → length xs ≤ n → take n xs ≡ xs
take_all n [] h = none n
  where
    none : (n : ℕ) → take {A = ℕ} n [] ≡ []
    none zero = refl
    none (suc n) = refl
take_all zero (x ∷ xs) h = absurd (omega arith)
take_all (suc n) (x ∷ xs) h = ap (λ ys. x ∷ ys) (take_all n xs (omega arith))

rest_all : (at : ℕ) (xs : List ℕ) → take (length xs - at) (drop at xs) ≡ drop at xs
rest_all at xs = take_all (length xs - at) (drop at xs) (omega (arith, length-drop at xs))

-- A text is what stands before its first newline, that newline, and what comes behind it.
pub cut_plain : (xs : List ℕ) (n : ℕ) → n ≡ end_of xs → n < length xs → xs ≡ take n xs ++ 10 ∷ drop (n + 1) xs
cut_plain xs n e h = subst (λ (k : ℕ). k < length xs → xs ≡ take k xs ++ 10 ∷ drop (k + 1) xs) (sym e) (cut_whole xs) h

pub cut_mixed : (xs : List ℕ) (n : ℕ) → n ≡ end_of xs → n < length xs → xs ≡ take n xs ++ 10 ∷ take (length xs - (n + 1)) (drop (n + 1) xs)
cut_mixed xs n e h = cut_plain xs n e h ∙ ap (λ z. take n xs ++ 10 ∷ z) (sym (rest_all (n + 1) xs))

pub cut_slices : (xs : List ℕ) (n : ℕ) → n ≡ end_of xs → n < length xs → xs ≡ take (n - 0) xs ++ 10 ∷ take (length xs - (n + 1)) (drop (n + 1) xs)
cut_slices xs n e h = let same : n - 0 ≡ n = omega arith in rw same (cut_mixed xs n e h)
