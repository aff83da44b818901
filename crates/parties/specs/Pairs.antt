-- A lookup in a list of pairs.
use Rattle.std.specs.Prelude.{◌==◌, ℕ, List, [], ◌∷◌, Option, Some, None, if◌then◌else◌}

-- The value of the first pair with the key.
abbrev pub first_of : {A : Type 0} → (key : ℕ) → List (ℕ × A) → Option A
first_of key [] = None
first_of key ((k, value) ∷ rest) = if k == key then Some value else first_of key rest

abbrev pub or_zero : Option ℕ → ℕ
or_zero None = 0
or_zero (Some n) = n
