-- Lists whose elements are known by their index, taken apart from the end.
use Rattle.std.proofs.Common.{◌≡◌, ℕ, zero, suc, ◌<◌, ◌+◌, List, [], ◌∷◌, ◌++◌, length, Some, refl, sym, ap, ◌∙◌, arith, length-append}
use Rattle.std.specs.Prelude.{slice_get}

abbrev pub IsEach : {A : Type 0} → (ℕ → A) → List A → Type 0
IsEach f xs = (k : ℕ) → k < length xs → slice_get xs k ≡ Some (f k)

same_some : {A : Type 0} {x y : A} → Some x ≡ Some y → x ≡ y
same_some e = cc

push_here : {A : Type 0} (xs : List A) (y : A) → slice_get (xs ++ y ∷ []) (length xs) ≡ Some y
push_here [] y = refl
push_here (x ∷ xs) y = push_here xs y

push_low : {A : Type 0} (xs : List A) (y : A) (k : ℕ) → k < length xs → slice_get (xs ++ y ∷ []) k ≡ slice_get xs k
push_low [] y k h = absurd (omega (arith, h))
push_low (x ∷ xs) y zero h = refl
push_low (x ∷ xs) y (suc k) h = push_low xs y k (omega (arith, h))

longer : {A : Type 0} (old new : List A) (y : A) → old ≡ new ++ y ∷ [] → length old ≡ length new + 1
longer old new y is = ap length is ∙ length-append new (y ∷ [])

pub last_is : {A : Type 0} (f : ℕ → A) (old new : List A) (y : A) → old ≡ new ++ y ∷ [] → IsEach f old → y ≡ f (length new)
last_is f old new y is each =
    let more = longer old new y is in
    same_some (sym (ap (λ xs. slice_get xs (length new)) is ∙ push_here new y) ∙ each (length new) (omega arith))

pub rest_is : {A : Type 0} (f : ℕ → A) (old new : List A) (y : A) → old ≡ new ++ y ∷ [] → IsEach f old → IsEach f new
rest_is f old new y is each k low =
    let more = longer old new y is in
    sym (ap (λ xs. slice_get xs k) is ∙ push_low new y k low) ∙ each k (omega arith)
