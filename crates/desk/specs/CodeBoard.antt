-- The codes of the method table and the entries of the board. For each slot the keeper knows the newest code.
use Rattle.std.specs.Prelude.{◌≡◌, ℕ, zero, suc, ◌<◌, true, List, length, Option, Some, None, slice_get}
use Rattle.frames.specs.declared.CodeId.{CodeId}
use Rattle.frames.specs.declared.board_rule.EntryState.TheVariants as entry
use Rattle.frames.specs.declared.board_rule.SlotView.{SlotView}
use Rattle.frames.specs.declared.board_rule.KeeperView.{KeeperView}
use Rattle.frames.specs.BoardViews.{slot_of, entry_stored, in_use, in_state, looked_at}
use Rattle.board.specs.Replaced.{replaced}
use Rattle.board.specs.Notes.{IsWeighed}
use Rattle.board.specs.declared.weighed.Weighed.{Weighed}
use Rattle.board.specs.declared.weighed.Weighed.TheVariants.{NotLooked, Used, Clear}
use Rattle.method_table.specs.Entries.{entry_state, newest_in}
use Rattle.method_table.specs.declared.Code.{Code}
use Rattle.method_table.specs.declared.CodeState.TheVariants as state
use Rattle.method_table.specs.Codes.{takes_slot, with_state, unfreed}
use Rattle.method_table.specs.TableView.{TableView}

-- The keeper's view of the slot agrees with the slot's newest code.
abbrev pub IsEntry : Option Code → SlotView → Type 0
IsEntry None s = (s.serial ≡ 0) × (s.state ≡ entry.Vacant)
IsEntry (Some code) s = (s.serial ≡ code.serial) × (s.state ≡ entry_state code.state)

-- The method table and the keeper's view agree.
pub record AreEntries (table : TableView) (view : KeeperView) : Type 0 where
  pub sizes : length view.slots ≡ table.slots
  pub entries : (slot : ℕ) → slot < table.slots → IsEntry (newest_in table.codes slot) (slot_of view slot)
  pub newest : (place : ℕ) (code : Code) → slice_get table.codes place ≡ Some code → takes_slot code.state ≡ true → newest_in table.codes code.slot ≡ Some code

-- The codes as contracts see them: the table and the keeper's view of the board.
pub record CodesSeen : Type 0 where
  pub table : TableView
  pub keeper : KeeperView

-- The unfreed code with this serial.
abbrev pub IsCodeOf : CodesSeen → ℕ → Code → Type 0
IsCodeOf seen serial code = unfreed seen.table.codes serial ≡ Some code

abbrev pub with_codes : TableView → List Code → TableView
with_codes table codes = record { codes = codes; slots = table.slots; methods = table.methods }

-- The keeper's view after an install: the new code is in use, and the replaced code, if any, is not entrant.
abbrev pub stored : Option CodeId → KeeperView → CodeId → KeeperView
stored None k code = entry_stored k code (in_use code)
stored (Some old) k code = replaced k old code

-- The keeper looked for the code at each place below this one, in ascending order, with any result.
abbrev pub LooksBelow : CodeId → ℕ → KeeperView → KeeperView → Type 0
LooksBelow id zero old new = new ≡ old
LooksBelow id (suc place) old new = (mid : KeeperView) × LooksBelow id place old mid × (found : ℕ) × (new ≡ looked_at mid id place found)

-- The keeper's view after a weighing. If the result is Clear, the entry is Zombie.
abbrev pub KeeperWeighs : ℕ → CodeId → KeeperView → KeeperView → Weighed → Type 0
KeeperWeighs places id old new (NotLooked p) = IsWeighed places id old new (NotLooked p)
KeeperWeighs places id old new (Used n) = IsWeighed places id old new (Used n)
KeeperWeighs places id old new Clear = (mid : KeeperView) × IsWeighed places id old mid Clear × (new ≡ entry_stored mid id (in_state (slot_of mid id.slot) entry.Zombie))

-- The codes after a weighing. If the result is Clear, the code is a zombie.
abbrev pub Weighs : ℕ → ℕ → CodeId → CodesSeen → CodesSeen → Weighed → Type 0
Weighs places serial id old new (NotLooked p) = IsWeighed places id old.keeper new.keeper (NotLooked p) × (new.table ≡ old.table)
Weighs places serial id old new (Used n) = IsWeighed places id old.keeper new.keeper (Used n) × (new.table ≡ old.table)
Weighs places serial id old new Clear =
    (mid : KeeperView) × IsWeighed places id old.keeper mid Clear
    × (new.keeper ≡ entry_stored mid id (in_state (slot_of mid id.slot) entry.Zombie)) × (new.table ≡ with_codes old.table (with_state old.table.codes serial state.Zombie))
