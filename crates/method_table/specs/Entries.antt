-- The board's entries by the codes: each slot's entry is of the newest code installed there.
use Rattle.std.specs.Prelude.{ℕ, ◌==◌, List, [], ◌∷◌, Option, Some, None, if◌then◌else◌}
use Rattle.frames.specs.declared.board_rule.EntryState.{EntryState}
use Rattle.frames.specs.declared.board_rule.EntryState.TheVariants as entry
use Rattle.method_table.specs.declared.Code.{Code}
use Rattle.method_table.specs.declared.CodeState.{CodeState}
use Rattle.method_table.specs.declared.CodeState.TheVariants as state

-- A code's state in a board entry. A freed code leaves its slot vacant.
abbrev pub entry_state : CodeState → EntryState
entry_state state.InUse = entry.InUse
entry_state state.NotEntrant = entry.NotEntrant
entry_state state.Zombie = entry.Zombie
entry_state state.Freed = entry.Vacant

-- The first code if it exists, otherwise the other.
abbrev pub first_of : Option Code → Option Code → Option Code
first_of None other = other
first_of (Some code) other = Some code

-- The newest code of a slot in any state. The list is in rising serial, so this code has the greatest serial of its
-- slot.
abbrev pub newest_in : List Code → ℕ → Option Code
newest_in [] slot = None
newest_in (code ∷ codes) slot = first_of (newest_in codes slot) (if code.slot == slot then Some code else None)
