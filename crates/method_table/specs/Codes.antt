-- All codes ever installed, in rising serial, with their states. (nmethod states: in use, not entrant, zombie)
use Rattle.std.specs.Prelude.{ℕ, ◌+◌, Bool, true, false, not, ◌&&◌, ◌==◌, length, List, [], ◌∷◌, ◌++◌, map, find, Option, None, Some, if◌then◌else◌}
use Rattle.std.specs.List.{list_any}
use Rattle.frames.specs.declared.CodeId.{CodeId}
use Rattle.method_table.specs.declared.Code.{Code}
use Rattle.method_table.specs.declared.CodeState.{CodeState}
use Rattle.method_table.specs.declared.CodeState.TheVariants.{InUse, NotEntrant, Zombie, Freed}
use Rattle.method_table.specs.Numbers.{below}

-- A thread may enter code in use. (nmethod)
abbrev pub is_in_use : CodeState → Bool
is_in_use InUse = true
is_in_use state = false

-- No thread enters code not entrant, and its old frames may still stand on stacks. (nmethod)
abbrev pub is_not_entrant : CodeState → Bool
is_not_entrant NotEntrant = true
is_not_entrant state = false

-- No frame of a zombie stands on a stack, so the code may be freed. (nmethod)
abbrev pub is_zombie : CodeState → Bool
is_zombie Zombie = true
is_zombie state = false

-- A code takes its slot until it is freed.
abbrev pub takes_slot : CodeState → Bool
takes_slot Freed = false
takes_slot state = true

-- A code's name in frames.
abbrev pub id_of : Code → CodeId
id_of code = record { slot = code.slot; serial = code.serial }

-- The code of a serial, if the serial was given out.
abbrev pub code_of : List Code → ℕ → Option Code
code_of codes serial = find (λ code. code.serial == serial) codes

-- The unfreed code of a serial.
abbrev pub unfreed : List Code → ℕ → Option Code
unfreed codes serial = find (λ code. (code.serial == serial) && takes_slot code.state) codes

-- The code in use for a method.
abbrev pub in_use_for : List Code → ℕ → Option Code
in_use_for codes method = find (λ code. (code.method == method) && is_in_use code.state) codes

-- An unfreed code stands in the slot.
abbrev pub is_taken : List Code → ℕ → Bool
is_taken codes slot = list_any (λ code. (code.slot == slot) && takes_slot code.state) codes

-- The least slot without an unfreed code.
abbrev pub free_slot : List Code → ℕ → Option ℕ
free_slot codes slots = find (λ slot. not (is_taken codes slot)) (below slots)

-- Serials rise by one from 1 and aren't used again.
abbrev pub next_serial : List Code → ℕ
next_serial codes = length codes + 1

-- The codes after an install: the new code is in use for the method.
abbrev pub with_code : List Code → ℕ → ℕ → List Code
with_code codes method slot = codes ++ record { serial = next_serial codes; slot = slot; method = method; state = InUse } ∷ []

-- The code in the state, if it has the serial.
abbrev pub in_state : ℕ → CodeState → Code → Code
in_state serial state code = if code.serial == serial then record code { state = state } else code

-- The codes after the code of the serial enters the state.
abbrev pub with_state : List Code → ℕ → CodeState → List Code
with_state codes serial state = map (in_state serial state) codes

-- The codes after the code in use, if any, becomes not entrant.
abbrev pub without_use : List Code → Option Code → List Code
without_use codes None = codes
without_use codes (Some old) = with_state codes old.serial NotEntrant
