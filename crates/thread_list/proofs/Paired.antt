-- Seats and pollers that are paired one by one.
use Rattle.std.proofs.Common.{◌≡◌, ◌++◌, ◌∷◌, ◌∙◌, [], List, length, map, reverse, refl, ap, sym, suc, ℕ, Some}
use Rattle.std.specs.Prelude.{slice_get}
use Rattle.std.proofs.lemmas.List.{map-append, reverse-append}
use Rattle.thread_list.proofs.Popped.{last_at, rest_at}

pub front : {A B : Type 0} (f : A → B) (xs : List A) (y : A) → map f (xs ++ y ∷ []) ≡ map f xs ++ f y ∷ []
front f [] y = refl
front f (x ∷ xs) y = ap (λ l. f x ∷ l) (front f xs y)

pub long : {A B : Type 0} (f : A → B) (xs : List A) → length (map f xs) ≡ length xs
long f [] = refl
long f (x ∷ xs) = ap suc (long f xs)

pub map_reverse : {A B : Type 0} (f : A → B) (xs : List A) → map f (reverse xs) ≡ reverse (map f xs)
map_reverse f [] = refl
map_reverse f (x ∷ xs) =
    ap (map f) (reverse-append (x ∷ []) xs) ∙ map-append f (reverse xs) (x ∷ []) ∙ ap (λ l. l ++ f x ∷ []) (map_reverse f xs)
    ∙ sym (reverse-append (f x ∷ []) (map f xs))

-- the last of a list, and what is before it, seen by a part of each
pub last_of : {A B : Type 0} (f : A → B) (old new : List A) (y : A) → old ≡ new ++ y ∷ [] → slice_get (map f old) (length new) ≡ Some (f y)
last_of f old new y is = ap (λ n. slice_get (map f old) n) (sym (long f new)) ∙ last_at (map f old) (map f new) (f y) (ap (map f) is ∙ front f new y)

pub rest_of : {A B : Type 0} (f : A → B) (old new : List A) (y : A) (i : ℕ) (x : B) → old ≡ new ++ y ∷ [] → slice_get (map f new) i ≡ Some x → slice_get (map f old) i ≡ Some x
rest_of f old new y i x is h = rest_at (map f old) (map f new) (f y) i x (ap (map f) is ∙ front f new y) h
