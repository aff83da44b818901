-- How many frames of a serial are on the stacks.
use Rattle.std.specs.Prelude.{◌≡◌, ℕ, ◌+◌, ◌<◌, ◌≤◌, ◌==◌, List, [], ◌∷◌, if◌then◌else◌}
use Rattle.frames.specs.Stack.{serial_count}
use Rattle.bodies.specs.Bodies.{BodyView}

-- on all stacks together
abbrev pub total_count : ℕ → List BodyView → ℕ
total_count serial [] = 0
total_count serial (b ∷ bs) = serial_count serial b.image.frames + total_count serial bs

-- the count of a serial in a list of pairs, 0 if the list doesn't have the serial
abbrev pub count_of : List (ℕ × ℕ) → ℕ → ℕ
count_of [] serial = 0
count_of (x ∷ xs) serial = if x.0 == serial then x.1 else count_of xs serial

-- serials rise, and no count is 0
abbrev pub IsRising : ℕ → List (ℕ × ℕ) → Type 0
IsRising least [] = Unit {0}
IsRising least (x ∷ xs) = (least ≤ x.0) × (0 < x.1) × IsRising (x.0 + 1) xs

-- a census of the bodies: each serial with its number of frames on all stacks, serials rising, zeros left out
abbrev pub IsCensus : List BodyView → List (ℕ × ℕ) → Type 0
IsCensus bs list = IsRising 0 list × ((serial : ℕ) → count_of list serial ≡ total_count serial bs)
