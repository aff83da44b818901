-- The results of searches in a list.
use Rattle.std.proofs.Common.{◌≡◌, ℕ, zero, suc, ◌<◌, ◌∙◌, sym, Bool, true, false, ◌||◌, List, [], ◌∷◌, Option, Some, None, refl, cond, arith, inl, inr}
use Rattle.std.specs.Prelude.{find, slice_get, is_some}
use Rattle.std.specs.List.{list_any}
use Rattle.std.specs.Option.{option_or}
use Rattle.std.proofs.lemmas.Bool.{cases_lt}
use Rattle.std.proofs.lemmas.List.Folds.{find-append}
use Rattle.method_table.specs.Numbers.{below}

-- a found element passes the test
found_passes : {X : Type 0} (p : X → Bool) (x : X) (xs : List X) (y : X) (b : Bool) → p x ≡ b → cond b (Some x) (find p xs) ≡ Some y → (find p xs ≡ Some y → p y ≡ true) → p y ≡ true
found_passes p x xs y true e h more = let same : x ≡ y = cc in rw (← same) e
found_passes p x xs y false e h more = more h

pub find_passes : {X : Type 0} (p : X → Bool) (xs : List X) (y : X) → find p xs ≡ Some y → p y ≡ true
find_passes p [] y h = let no : None ≡ Some y = h in cc
find_passes p (x ∷ xs) y h = found_passes p x xs y (p x) refl h (find_passes p xs y)

-- a found element is in the list
pub record IsAt {X : Type 0} (xs : List X) (y : X) : Type 0 where
  pub place : ℕ
  pub is : slice_get xs place ≡ Some y

found_at : {X : Type 0} (p : X → Bool) (x : X) (xs : List X) (y : X) (b : Bool) → cond b (Some x) (find p xs) ≡ Some y → (find p xs ≡ Some y → IsAt xs y) → IsAt (x ∷ xs) y
found_at p x xs y true h more = record { place = 0; is = h }
found_at p x xs y false h more = let later = more h in record { place = suc later.place; is = later.is }

pub find_at : {X : Type 0} (p : X → Bool) (xs : List X) (y : X) → find p xs ≡ Some y → IsAt xs y
find_at p [] y h = let no : None ≡ Some y = h in cc
find_at p (x ∷ xs) y h = found_at p x xs y (p x) h (find_at p xs y)

-- if nothing is found, no element passes
missed_at : {X : Type 0} (p : X → Bool) (x : X) (xs : List X) (b : Bool) → p x ≡ b → cond b (Some x) (find p xs) ≡ None → (p x ≡ false) × (find p xs ≡ None)
missed_at p x xs true e h = let no : Some x ≡ None = h in cc
missed_at p x xs false e h = (e, h)

pub find_misses : {X : Type 0} (p : X → Bool) (xs : List X) (place : ℕ) (y : X) → find p xs ≡ None → slice_get xs place ≡ Some y → p y ≡ false
find_misses p [] place y h at_place = let no : None ≡ Some y = at_place in cc
find_misses p (x ∷ xs) zero y h at_place = let same : x ≡ y = cc in rw (← same) (missed_at p x xs (p x) refl h).0
find_misses p (x ∷ xs) (suc place) y h at_place = find_misses p xs place y (missed_at p x xs (p x) refl h).1 at_place

-- some element passes if one is found
any_step : {X : Type 0} (p : X → Bool) (x : X) (xs : List X) (b : Bool) → list_any p xs ≡ is_some (find p xs) → (b || list_any p xs) ≡ is_some (cond b (Some x) (find p xs))
any_step p x xs true h = refl
any_step p x xs false h = h

pub any_is_found : {X : Type 0} (p : X → Bool) (xs : List X) → list_any p xs ≡ is_some (find p xs)
any_is_found p [] = refl
any_is_found p (x ∷ xs) = any_step p x xs (p x) (any_is_found p xs)

-- two tests that agree find the same element
same_step : {X : Type 0} (x : X) (r s : Option X) (a b : Bool) → a ≡ b → r ≡ s → cond a (Some x) r ≡ cond b (Some x) s
same_step x r s a b e f = cc

pub find_same : {X : Type 0} (p q : X → Bool) (xs : List X) → ((x : X) → p x ≡ q x) → find p xs ≡ find q xs
find_same p q [] h = refl
find_same p q (x ∷ xs) h = same_step x (find p xs) (find q xs) (p x) (q x) (h x) (find_same p q xs h)

-- the least number below n that passes
pub below_none : (p : ℕ → Bool) (n : ℕ) → ((k : ℕ) → k < n → p k ≡ false) → find p (below n) ≡ None
below_none p zero h = refl
below_none p (suc n) h =
    let earlier : find p (below n) ≡ None = below_none p n (λ k l. h k (omega arith)) in
    let last : p n ≡ false = h n (omega arith) in
    find-append p (below n) (n ∷ []) ∙ (rw (earlier, last) refl)

below_least_at : (p : ℕ → Bool) (n k : ℕ) → k < suc n → p k ≡ true → ((j : ℕ) → j < k → p j ≡ false) → (k < n → find p (below n) ≡ Some k) → find p (below (suc n)) ≡ Some k
below_least_at p n k l passes least more =
    find-append p (below n) (n ∷ []) ∙ elim (cases_lt k n) as (λ _. option_or (find p (below n)) (find p (n ∷ [])) ≡ Some k) [
      | inl less ↦ rw (more less) refl
      | inr at_end ↦ (let same : n ≡ k = omega arith in rw (below_none p n (λ j m. least j (omega arith))) (rw same (rw passes refl)))
    ]

pub below_least : (p : ℕ → Bool) (n k : ℕ) → k < n → p k ≡ true → ((j : ℕ) → j < k → p j ≡ false) → find p (below n) ≡ Some k
below_least p zero k l passes least = absurd (omega arith)
below_least p (suc n) k l passes least = below_least_at p n k l passes least (λ less. below_least p n k less passes least)

-- nothing is found below n if and only if no number below n passes
below_missed_at : (p : ℕ → Bool) (n j : ℕ) (o : Option ℕ) → find p (below n) ≡ o → option_or o (find p (n ∷ [])) ≡ None → (find p (below n) ≡ None) × (p n ≡ false)
below_missed_at p n j None e h = (e, (missed_at p n [] (p n) refl h).0)
below_missed_at p n j (Some k) e h = let no : Some k ≡ None = h in cc

pub below_missed : (p : ℕ → Bool) (n j : ℕ) → find p (below n) ≡ None → j < n → p j ≡ false
below_missed p zero j h l = absurd (omega arith)
below_missed p (suc n) j h l =
    let parts = below_missed_at p n j (find p (below n)) refl (sym (find-append p (below n) (n ∷ [])) ∙ h) in
    elim (cases_lt j n) as (λ _. p j ≡ false) [
      | inl less ↦ below_missed p n j parts.0 less
      | inr at_end ↦ (let same : j ≡ n = omega arith in rw same parts.1)
    ]

-- the number found is below n, passes, and is the least such number
pub record IsLeastBelow (p : ℕ → Bool) (n k : ℕ) : Type 0 where
  pub within : k < n
  pub passes : p k ≡ true
  pub least : (j : ℕ) → j < k → p j ≡ false

below_found_at : (p : ℕ → Bool) (n k : ℕ) (o : Option ℕ) → find p (below n) ≡ o → option_or o (find p (n ∷ [])) ≡ Some k → (find p (below n) ≡ Some k → IsLeastBelow p n k) → IsLeastBelow p (suc n) k
below_found_at p n k (Some j) e h more = let was = more (e ∙ h) in record { within = omega (arith, was.within); passes = was.passes; least = was.least }
below_found_at p n k None e h more =
    let same : n ≡ k = found_one p n k (p n) h in
    record { within = omega arith; passes = find_passes p (n ∷ []) k h; least = λ j l. below_missed p n j e (omega arith) }
  where
    found_one : (p : ℕ → Bool) (n k : ℕ) (b : Bool) → cond b (Some n) None ≡ Some k → n ≡ k
    found_one p n k true h = cc
    found_one p n k false h = let no : None ≡ Some k = h in cc

pub below_found : (p : ℕ → Bool) (n k : ℕ) → find p (below n) ≡ Some k → IsLeastBelow p n k
below_found p zero k h = let no : None ≡ Some k = h in cc
below_found p (suc n) k h = below_found_at p n k (find p (below n)) refl (sym (find-append p (below n) (n ∷ [])) ∙ h) (below_found p n k)
