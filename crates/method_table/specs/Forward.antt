-- States of codes only go forward.
use Rattle.std.specs.Prelude.{◌≡◌, ℕ, ◌≤◌, List, [], ◌∷◌, Some, None}
use Rattle.method_table.specs.declared.Code.{Code}
use Rattle.method_table.specs.declared.CodeState.{CodeState}
use Rattle.method_table.specs.declared.CodeState.TheVariants.{InUse, NotEntrant, Zombie, Freed}
use Rattle.method_table.specs.declared.history.Edit.{Edit}
use Rattle.method_table.specs.declared.history.Edit.TheVariants.{Install, Become}
use Rattle.method_table.specs.Codes.{code_of, unfreed, free_slot}
use Rattle.method_table.specs.Edited.{edited}
use Rattle.method_table.specs.TableView.{TableView, IsTable, install_fault, invalidate_fault, retire_fault, free_fault}

-- The order of the states.
abbrev pub rank : CodeState → ℕ
rank InUse = 0
rank NotEntrant = 1
rank Zombie = 2
rank Freed = 3

-- The table accepts the edit: the call isn't refused, and an install is into the least free slot. No call brings code
-- back into use.
abbrev pub IsMade : TableView → Edit → Type 0
IsMade table (Install method slot) = (install_fault table method ≡ None) × (free_slot table.codes table.slots ≡ Some slot)
IsMade table (Become serial InUse) = ⊥
IsMade table (Become serial NotEntrant) = invalidate_fault (unfreed table.codes serial) ≡ None
IsMade table (Become serial Zombie) = retire_fault (unfreed table.codes serial) ≡ None
IsMade table (Become serial Freed) = free_fault (unfreed table.codes serial) ≡ None

-- The table after one edit, and after a list of edits.
abbrev pub table_after : TableView → Edit → TableView
table_after table edit = record table { codes = edited table.codes edit }

abbrev pub table_after_all : TableView → List Edit → TableView
table_after_all table [] = table
table_after_all table (edit ∷ edits) = table_after_all (table_after table edit) edits

-- The table accepts each edit after the edits before it.
abbrev pub AreMade : TableView → List Edit → Type 0
AreMade table [] = Unit {0}
AreMade table (edit ∷ edits) = IsMade table edit × AreMade (table_after table edit) edits

-- Each serial keeps its code with slot and method, in the same state or a later one.
abbrev pub GoForward : List Code → List Code → Type 0
GoForward before after = (serial : ℕ) (code : Code) → code_of before serial ≡ Some code
    → (state : CodeState) × (code_of after serial ≡ Some (record code { state = state })) × (rank code.state ≤ rank state)

-- Whatever calls change a table, states only go forward.
abbrev pub StatesGoForward : Type 0
StatesGoForward = (table : TableView) (edits : List Edit) → IsTable table → AreMade table edits → GoForward table.codes (table_after_all table edits).codes
