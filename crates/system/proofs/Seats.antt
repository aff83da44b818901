-- Facts of the thread at each place.
use Rattle.std.proofs.Common.{◌≡◌, ◌≢◌, ℕ, zero, suc, ◌<◌, List, [], ◌∷◌, length, Option, Some, None, sym, refl, ap, ◌∙◌, subst, arith}
use Rattle.std.specs.Prelude.{slice_get, slice_set, replicate}
use mathlib.Core.Logic.{dite}
use native.Mathlib.Decide.{ℕ_discrete}
use Rattle.system.specs.Threads.{Thread}
use Rattle.system.specs.World.{World, found, thread_at}

pub get_set_same : {A : Type 0} (xs : List A) (i : ℕ) (y : A) → i < length xs → slice_get (slice_set xs i y) i ≡ Some y
get_set_same [] i y h = absurd (omega arith)
get_set_same (x ∷ xs) zero y h = refl
get_set_same (x ∷ xs) (suc i) y h = get_set_same xs i y (omega arith)

pub get_set_other : {A : Type 0} (xs : List A) (i j : ℕ) (y : A) → j ≢ i → slice_get (slice_set xs i y) j ≡ slice_get xs j
get_set_other [] i j y h = refl
get_set_other (x ∷ xs) zero zero y h = absurd (h refl)
get_set_other (x ∷ xs) zero (suc j) y h = refl
get_set_other (x ∷ xs) (suc i) zero y h = refl
get_set_other (x ∷ xs) (suc i) (suc j) y h = get_set_other xs i j y (λ e. h (ap suc e))

-- Q holds for each place and its thread.
abbrev pub Each : (ℕ → Thread → Type 0) → List (Option Thread) → Type 0
Each Q places = (p : ℕ) (t : Thread) → slice_get places p ≡ Some (Some t) → Q p t

-- Q holds after an event at a place if it holds for the new thread there and for all other places.
pub each_other : (Q : ℕ → Thread → Type 0) (places : List (Option Thread)) (p : ℕ) (o : Option Thread) → p < length places → ((q : ℕ) (t : Thread) → q ≢ p → slice_get places q ≡ Some (Some t) → Q q t)
    → ((t : Thread) → o ≡ Some t → Q p t) → Each Q (slice_set places p o)
each_other Q places p o low h new q t e = dite (ℕ_discrete q p)
    (λ same. let is : Some o ≡ Some (Some t) = sym (get_set_same places p o low) ∙ subst (λ n. slice_get (slice_set places p o) n ≡ Some (Some t)) same e in
    let inner : o ≡ Some t = cc in subst (λ n. Q n t) (sym same) (new t inner))
    (λ other. h q t other (sym (get_set_other places p q o other) ∙ e))

pub each_set : (Q : ℕ → Thread → Type 0) (places : List (Option Thread)) (p : ℕ) (o : Option Thread) → p < length places → Each Q places → ((t : Thread) → o ≡ Some t → Q p t) → Each Q (slice_set places p o)
each_set Q places p o low h new = each_other Q places p o low (λ q t other x. h q t x) new

pub each_some : (Q : ℕ → Thread → Type 0) (places : List (Option Thread)) (p : ℕ) (t : Thread) → p < length places → Each Q places → Q p t → Each Q (slice_set places p (Some t))
each_some Q places p t low h new = each_set Q places p (Some t) low h (λ u e. let same : t ≡ u = cc in subst (Q p) same new)

pub each_none : (Q : ℕ → Thread → Type 0) (places : List (Option Thread)) (p : ℕ) → p < length places → Each Q places → Each Q (slice_set places p None)
each_none Q places p low h = each_set Q places p None low h (λ u e. cc)

-- The thread at a place.
pub there_of : (w : World) (p : ℕ) (t : Thread) → thread_at w p ≡ Some t → slice_get w.places p ≡ Some (Some t)
there_of w p t h = by (slice_get w.places p) h
  where
    by : (o : Option (Option Thread)) → found o ≡ Some t → o ≡ Some (Some t)
    by None k = cc
    by (Some o) k = ap Some k

none_start : (n p : ℕ) (t : Thread) → slice_get (replicate {A = Option Thread} n None) p ≡ Some (Some t) → ⊥
none_start zero p t e = cc
none_start (suc n) zero t e = cc
none_start (suc n) (suc p) t e = none_start n p t e

pub each_start : (Q : ℕ → Thread → Type 0) (n : ℕ) → Each Q (replicate n None)
each_start Q n p t e = absurd (none_start n p t e)
