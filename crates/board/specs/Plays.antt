-- The view of a seat after each kind of step.
use Rattle.std.specs.Prelude.{◌≡◌, ◌≢◌, ℕ, ◌<◌, true, []}
use Rattle.atomic_table.specs.Table.{Me, Step}
use Rattle.frames.specs.declared.CodeId.{CodeId}
use Rattle.frames.specs.declared.board_rule.EntryState.{EntryState}
use Rattle.frames.specs.declared.board_rule.EntryState.TheVariants.{InUse}
use Rattle.frames.specs.declared.board_rule.KeeperView.{KeeperView}
use Rattle.frames.specs.declared.board_rule.SeatView.{SeatView}
use Rattle.frames.specs.declared.board_rule.BoardView.{BoardView}
use Rattle.frames.specs.declared.board_rule.BoardView.TheVariants.{Keeper, Thread}
use Rattle.frames.specs.BoardWords.{pack}
use Rattle.frames.specs.BoardRule.{code}
use Rattle.frames.specs.BoardViews.{has_code, IsHeld, IsStandingWord, slot_of, entered, moment_read, stored_as, counted_up, counted_down, went_round, entry_stored, in_use, not_entrant, in_state, looked_at, weighed}
use Rattle.board.specs.Boards.{BoardId, stamp_of, keeper_of, thread_of, ThreadSteps, KeeperSteps}

-- what a step is about: its board, and the code and place that it concerns
pub record Asked : Type 0 where
  pub board : BoardId
  pub code : CodeId
  pub place : ℕ

abbrev pub asked : BoardId → CodeId → ℕ → Asked
asked b c p = record { board = b; code = c; place = p }

-- about the board only
abbrev pub asked_of : BoardId → Asked
asked_of b = asked b (code 0 0) 0

abbrev Sat : Type 0
Sat = Me (Unit {0}) BoardView

-- one step gives the thread's seat the view t, and the seat's stamp rises
abbrev pub ThreadTells : Asked → Sat → SeatView → Sat → Type 0
ThreadTells a m t n = (n.0 ≡ Thread t (stamp_of n.0)) × ThreadSteps a.board (thread_of m.0) (thread_of n.0) × (stamp_of m.0 < stamp_of n.0) × (n.1 ≡ m.1)

abbrev pub KeeperTells : Asked → Sat → KeeperView → Sat → Type 0
KeeperTells a m k n = (n.0 ≡ Keeper k [] (stamp_of n.0)) × KeeperSteps a.board (keeper_of m.0) (keeper_of n.0) × (stamp_of m.0 < stamp_of n.0)

-- A code that was once found gone is never found in use again. A code that the seat holds is found in its slot, in use or not entrant.
abbrev pub Enters : Asked → Step (Unit {0}) → Sat → ℕ → Sat → Type 0
Enters a st m found n = ThreadTells a m (entered (thread_of m.0) a.code found) n
    × (has_code (thread_of m.0).gone a.code ≡ true → found ≢ pack a.code.serial InUse)
    × (IsHeld (thread_of m.0) a.code → IsStandingWord a.code found)

abbrev pub Reads : Asked → Step (Unit {0}) → Sat → ℕ → Sat → Type 0
Reads a st m found n = ThreadTells a m (moment_read (thread_of m.0) found) n × (0 < found)

abbrev pub Stores : Asked → Step (Unit {0}) → Sat → ℕ → Sat → Type 0
Stores a st m found n = ThreadTells a m (stored_as (thread_of m.0) st.first) n

abbrev pub CountsUp : Asked → Step (Unit {0}) → Sat → ℕ → Sat → Type 0
CountsUp a st m found n = ThreadTells a m (counted_up (thread_of m.0) a.code st.first found) n

abbrev pub CountsDown : Asked → Step (Unit {0}) → Sat → ℕ → Sat → Type 0
CountsDown a st m found n = ThreadTells a m (counted_down (thread_of m.0) a.code st.first found) n

abbrev pub GoesRound : Asked → Step (Unit {0}) → Sat → ℕ → Sat → Type 0
GoesRound a st m found n = KeeperTells a m (went_round (keeper_of m.0) found) n × (found ≡ (keeper_of m.0).moment)

abbrev pub Installs : Asked → Step (Unit {0}) → Sat → ℕ → Sat → Type 0
Installs a st m found n = KeeperTells a m (entry_stored (keeper_of m.0) a.code (in_use a.code)) n

abbrev pub Invalidates : Asked → Step (Unit {0}) → Sat → ℕ → Sat → Type 0
Invalidates a st m found n = KeeperTells a m (entry_stored (keeper_of m.0) a.code (not_entrant a.code (keeper_of m.0).moment)) n

abbrev pub Looks : Asked → Step (Unit {0}) → Sat → ℕ → Sat → Type 0
Looks a st m found n = KeeperTells a m (looked_at (keeper_of m.0) a.code a.place found) n

abbrev pub Weighs : Asked → Step (Unit {0}) → Sat → ℕ → Sat → Type 0
Weighs a st m found n = KeeperTells a m (weighed (keeper_of m.0) a.code found) n

-- a store of a later state of the slot's code
abbrev pub GoesOn : EntryState → Asked → Step (Unit {0}) → Sat → ℕ → Sat → Type 0
GoesOn state a st m found n = KeeperTells a m (entry_stored (keeper_of m.0) a.code (in_state (slot_of (keeper_of m.0) a.code.slot) state)) n
