-- The greatest number, and ranges of numbers.
use Rattle.std.specs.Prelude.{ℕ, zero, suc, List, [], ◌∷◌, ◌++◌}

-- The last name, serial, operation and moment: 2^40 - 1. (our own limit)
abbrev pub last_number : ℕ
last_number = 1099511627775

-- The numbers below n, rising.
abbrev pub below : ℕ → List ℕ
below zero = []
below (suc n) = below n ++ n ∷ []
