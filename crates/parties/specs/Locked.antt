-- The rule of a lock, over the words and the one slot of a table.
use Rattle.std.specs.Prelude.{◌≡◌, ℕ, ◌<◌, List, [], ◌∷◌, length, slice_index, Option, Some}
use mathlib.Core.Option.{some}
use lib.ListN.{get_elem?}
use Rattle.atomic_table.specs.Table.{State}

-- While the word is 0, the slot has a value.
abbrev pub IsLock : {T : Type 0} → State (Option T) (Unit {0}) → Type 0
IsLock {T} s = (7 < length s.words) × (slice_index s.words 7 ≡ 0 → (x : T) × (get_elem? s.homes 0 ≡ some (some (Some x))))

-- A thread that found the word 0 has the value.
abbrev pub Tried : {T : Type 0} → ℕ → List (ℕ × Option T) → Type 0
Tried {T} found carried = found ≡ 0 → (x : T) × (carried ≡ (0, Some x) ∷ [])
