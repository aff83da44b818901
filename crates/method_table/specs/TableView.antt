-- The method table as contracts see it: all codes ever installed, and its sizes.
use Rattle.std.specs.Prelude.{◌≡◌, ℕ, ◌<◌, ◌≤◌, nat_lt, nat_le, true, List, Option, None, Some, is_some, slice_get, ◌+◌, ◌==◌, if◌then◌else◌}
use Rattle.method_table.specs.declared.Code.{Code}
use Rattle.method_table.specs.declared.table.InstallFault.{InstallFault}
use Rattle.method_table.specs.declared.table.InstallFault.TheVariants.{NoSuchMethod, TableFull, SerialsSpent, NoMemory}
use Rattle.method_table.specs.declared.table.InvalidateFault.{InvalidateFault}
use Rattle.method_table.specs.declared.table.InvalidateFault.TheVariants as invalidate
use Rattle.method_table.specs.declared.table.RetireFault.{RetireFault}
use Rattle.method_table.specs.declared.table.RetireFault.TheVariants as retire
use Rattle.method_table.specs.declared.table.FreeFault.{FreeFault}
use Rattle.method_table.specs.declared.table.FreeFault.TheVariants as free
use Rattle.method_table.specs.declared.table.Entry.{Entry}
use Rattle.method_table.specs.declared.table.Entry.TheVariants as entry
use Rattle.method_table.specs.Numbers.{last_number}
use Rattle.method_table.specs.Entries.{newest_in}
use Rattle.method_table.specs.Codes.{is_in_use, is_not_entrant, is_zombie, id_of, unfreed, in_use_for, free_slot, next_serial}

-- All codes in rising serial, the number of slots and the number of methods.
pub record TableView : Type 0 where
  pub codes : List Code
  pub slots : ℕ
  pub methods : ℕ

-- The first reason to refuse an install, apart from memory.
abbrev pub install_fault : TableView → ℕ → Option InstallFault
install_fault table method =
    if nat_lt method table.methods then
    (if is_some (free_slot table.codes table.slots) then
    (if nat_le (next_serial table.codes) last_number then None else Some SerialsSpent)
    else Some TableFull)
    else Some NoSuchMethod

-- Lack of memory is none of these reasons. It is reported only if none of them holds.
abbrev pub reason : InstallFault → Option InstallFault
reason NoMemory = None
reason fault = Some fault

-- Only code in use is invalidated.
abbrev pub invalidate_fault : Option Code → Option InvalidateFault
invalidate_fault None = Some invalidate.Unknown
invalidate_fault (Some code) = if is_in_use code.state then None else Some invalidate.NotInUse

-- Only code not entrant is retired.
abbrev pub retire_fault : Option Code → Option RetireFault
retire_fault None = Some retire.Unknown
retire_fault (Some code) = if is_not_entrant code.state then None else Some retire.NotNotEntrant

-- Only a zombie is freed.
abbrev pub free_fault : Option Code → Option FreeFault
free_fault None = Some free.Unknown
free_fault (Some code) = if is_zombie code.state then None else Some free.NotZombie

-- The result of a call of the method through the code: code in use admits its own method, and all other code redirects
-- the call.
abbrev pub entry_of : ℕ → Code → Entry
entry_of method code =
    if is_in_use code.state
    then (if code.method == method then entry.Enters (id_of code) else entry.NotOf)
    else entry.WrongMethod

-- Every table meets this: serials rise by one from 1 to the last number at most, and each unfreed code has a slot of
-- its own, of which it is the newest code.
pub record IsTable (table : TableView) : Type 0 where
  pub serials : (place : ℕ) (code : Code) → slice_get table.codes place ≡ Some code → code.serial ≡ place + 1
  pub in_numbers : (place : ℕ) (code : Code) → slice_get table.codes place ≡ Some code → code.serial ≤ last_number
  pub in_slots : (serial : ℕ) (code : Code) → unfreed table.codes serial ≡ Some code → code.slot < table.slots
  pub own_slots : (serial other : ℕ) (code same : Code) → unfreed table.codes serial ≡ Some code → unfreed table.codes other ≡ Some same → code.slot ≡ same.slot → code ≡ same
  pub newest : (serial : ℕ) (code : Code) → unfreed table.codes serial ≡ Some code → newest_in table.codes code.slot ≡ Some code
  pub of_methods : (method : ℕ) (code : Code) → in_use_for table.codes method ≡ Some code → method < table.methods
  pub one_in_use : (serial : ℕ) (code : Code) → unfreed table.codes serial ≡ Some code → is_in_use code.state ≡ true → in_use_for table.codes code.method ≡ Some code
