-- A census: serials with their counts.
use Rattle.std.specs.Prelude.{ℕ, ◌+◌, ◌<◌, ◌≤◌, ◌==◌, List, [], ◌∷◌, count_by}

-- how many pairs have this serial
abbrev pub of_serial : ℕ → List (ℕ × ℕ) → ℕ
of_serial serial pairs = count_by (λ pair. pair.0 == serial) pairs

-- how many pairs have the count 0
abbrev pub zeros : List (ℕ × ℕ) → ℕ
zeros pairs = count_by (λ pair. pair.1 == 0) pairs

-- each serial is above the one before, and no count is 0
abbrev pub IsRisingPairs : ℕ → List (ℕ × ℕ) → Type 0
IsRisingPairs least [] = Unit {0}
IsRisingPairs least (pair ∷ pairs) = (least ≤ pair.0) × (0 < pair.1) × IsRisingPairs (pair.0 + 1) pairs
