-- The open operations of the system match those of the world one for one.
use Rattle.std.proofs.Common.{◌≡◌, sym, ap, refl, subst, Bool, true, false, cond, List, [], ◌∷◌, ◌++◌, Option, Some, None, ℕ, zero, suc, length}
use Rattle.std.specs.Prelude.{find, slice_get, remove}
use Rattle.std.specs.List.{list_any}
use Rattle.std.proofs.lemmas.Bool.{false≢true}
use Rattle.operations.specs.Names.{is_empty}
use Rattle.system.specs.declared.requests.Open.{Open}
use Rattle.system.specs.Operations.{Opened}
use Rattle.system.specs.World.{World}
use Rattle.system.specs.Marking.{SameOpened, SameOpens}

-- The items of both lists at the same index have this relation.
abbrev pub Pairs : (Open → Opened → Type 0) → List Open → List Opened → Type 0
Pairs R [] [] = Unit {0}
Pairs R (a ∷ xs) (o ∷ os) = R a o × Pairs R xs os
Pairs R xs os = ⊥

pub pairs_of : (R : Open → Opened → Type 0) (w : World) (xs : List Open) (os : List Opened) → SameOpens xs os w → ((i : ℕ) (a : Open) (o : Opened) → slice_get os i ≡ Some o → SameOpened a o w → R a o) → Pairs R xs os
pairs_of R w [] [] h f = tt
pairs_of R w (a ∷ xs) (o ∷ os) h f = (f 0 a o refl h.0, pairs_of R w xs os h.1 (λ i b p at. f (suc i) b p at))
pairs_of R w [] (o ∷ os) h f = absurd h
pairs_of R w (a ∷ xs) [] h f = absurd h

pub any_pairs : (R : Open → Opened → Type 0) (f : Open → Bool) (g : Opened → Bool) → ((a : Open) (o : Opened) → R a o → g o ≡ f a) → (xs : List Open) (os : List Opened) → Pairs R xs os → list_any g os ≡ list_any f xs
any_pairs R f g same [] [] h = refl
any_pairs R f g same (a ∷ xs) (o ∷ os) h = rw (same a o h.0, any_pairs R f g same xs os h.1) refl
any_pairs R f g same [] (o ∷ os) h = absurd h
any_pairs R f g same (a ∷ xs) [] h = absurd h

-- The results of a search in both lists.
abbrev pub BothFound : (Open → Opened → Type 0) → Option Open → Option Opened → Type 0
BothFound R None None = Unit {0}
BothFound R (Some a) (Some o) = R a o
BothFound R x y = ⊥

pub find_pairs : (R : Open → Opened → Type 0) (f : Open → Bool) (g : Opened → Bool) → ((a : Open) (o : Opened) → R a o → g o ≡ f a) → (xs : List Open) (os : List Opened) → Pairs R xs os → BothFound R (find f xs) (find g os)
find_pairs R f g same [] [] h = tt
find_pairs R f g same (a ∷ xs) (o ∷ os) h = by (f a) (g o) (same a o h.0) (find_pairs R f g same xs os h.1)
  where
    by : (x y : Bool) → y ≡ x → BothFound R (find f xs) (find g os) → BothFound R (cond x (Some a) (find f xs)) (cond y (Some o) (find g os))
    by true true e found = h.0
    by false false e found = found
    by true false e found = absurd (false≢true e)
    by false true e found = absurd (false≢true (sym e))
find_pairs R f g same [] (o ∷ os) h = absurd h
find_pairs R f g same (a ∷ xs) [] h = absurd h

pub empty_pairs : (R : Open → Opened → Type 0) (xs : List Open) (os : List Opened) → Pairs R xs os → is_empty os ≡ is_empty xs
empty_pairs R [] [] h = refl
empty_pairs R (a ∷ xs) (o ∷ os) h = refl
empty_pairs R [] (o ∷ os) h = absurd h
empty_pairs R (a ∷ xs) [] h = absurd h

-- The oldest operation of both lists, and the later ones.
pub record Oldest (a : Open) (opens : List Open) (os : List Opened) (w : World) : Type 0 where
  pub o : Opened
  pub later : List Open
  pub others : List Opened
  pub opens_are : opens ≡ a ∷ later
  pub is : os ≡ o ∷ others
  pub same : SameOpened a o w
  pub rest : SameOpens later others w

pub oldest_of : (opens : List Open) (os : List Opened) (w : World) (a : Open) → SameOpens opens os w → slice_get opens 0 ≡ Some a → Oldest a opens os w
oldest_of [] os w a h e = cc
oldest_of (b ∷ xs) [] w a h e = absurd h
oldest_of (b ∷ xs) (o ∷ os) w a h e = let same : b ≡ a = cc in record { o = o; later = xs; others = os; opens_are = ap (λ y. y ∷ xs) same; is = refl; same = subst (λ y. SameOpened y o w) same h.0; rest = h.1 }

-- The operation of both lists at an index.
pub pair_at : (opens : List Open) (os : List Opened) (w : World) (i : ℕ) (a : Open) → SameOpens opens os w → slice_get opens i ≡ Some a → (o : Opened) × (slice_get os i ≡ Some o) × SameOpened a o w
pair_at [] os w i a h e = cc
pair_at (b ∷ xs) [] w i a h e = absurd h
pair_at (b ∷ xs) (o ∷ os) w zero a h e = let same : b ≡ a = cc in (o, refl, subst (λ y. SameOpened y o w) same h.0)
pair_at (b ∷ xs) (o ∷ os) w (suc i) a h e = pair_at xs os w i a h.1 e

pub none_open : (xs : List Open) (os : List Opened) (w : World) → SameOpens xs os w → xs ≡ [] → os ≡ []
none_open [] [] w h e = refl
none_open [] (o ∷ os) w h e = absurd h
none_open (a ∷ xs) os w h e = cc

-- The relation still holds in another world, and after one more pair.
pub opens_over : (v w : World) (xs : List Open) (os : List Opened) → ((i : ℕ) (a : Open) (o : Opened) → slice_get os i ≡ Some o → SameOpened a o v → SameOpened a o w) → SameOpens xs os v → SameOpens xs os w
opens_over v w [] [] f h = tt
opens_over v w (a ∷ xs) (o ∷ os) f h = (f 0 a o refl h.0, opens_over v w xs os (λ i b p at. f (suc i) b p at) h.1)
opens_over v w [] (o ∷ os) f h = absurd h
opens_over v w (a ∷ xs) [] f h = absurd h

pub opens_push : (w : World) (xs : List Open) (os : List Opened) (a : Open) (o : Opened) → SameOpens xs os w → SameOpened a o w → SameOpens (xs ++ a ∷ []) (os ++ o ∷ []) w
opens_push w [] [] a o h new = (new, tt)
opens_push w (b ∷ xs) (p ∷ os) a o h new = (h.0, opens_push w xs os a o h.1 new)
opens_push w [] (p ∷ os) a o h new = absurd h
opens_push w (b ∷ xs) [] a o h new = absurd h

-- Tests and searches give the same in both lists.
pub any_same : (w : World) (f : Open → Bool) (g : Opened → Bool) → ((a : Open) (o : Opened) → SameOpened a o w → g o ≡ f a) → (xs : List Open) (os : List Opened) → SameOpens xs os w → list_any g os ≡ list_any f xs
any_same w f g same xs os h = any_pairs (λ a o. SameOpened a o w) f g same xs os (pairs_of (λ a o. SameOpened a o w) w xs os h (λ i a o at both. both))

pub empty_same : (w : World) (xs : List Open) (os : List Opened) → SameOpens xs os w → is_empty os ≡ is_empty xs
empty_same w xs os h = empty_pairs (λ a o. SameOpened a o w) xs os (pairs_of (λ a o. SameOpened a o w) w xs os h (λ i a o at both. both))

pub same_length : (w : World) (xs : List Open) (os : List Opened) → SameOpens xs os w → length os ≡ length xs
same_length w [] [] h = refl
same_length w (a ∷ xs) (o ∷ os) h = ap suc (same_length w xs os h.1)
same_length w [] (o ∷ os) h = absurd h
same_length w (a ∷ xs) [] h = absurd h

-- Both lists without the operation at an index.
pub opens_remove : (w : World) (xs : List Open) (os : List Opened) (i : ℕ) → SameOpens xs os w → SameOpens (remove xs i) (remove os i) w
opens_remove w [] [] zero h = h
opens_remove w [] [] (suc i) h = h
opens_remove w (a ∷ xs) (o ∷ os) zero h = h.1
opens_remove w (a ∷ xs) (o ∷ os) (suc i) h = (h.0, opens_remove w xs os i h.1)
opens_remove w [] (o ∷ os) i h = absurd h
opens_remove w (a ∷ xs) [] i h = absurd h
