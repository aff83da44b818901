-- The parts of a system, and which sizes it can have.
use Rattle.std.specs.Prelude.{◌≡◌, ℕ, Bool, true, false, not, ◌&&◌, ◌==◌, nat_le, Some, List, map, slice_get}
use Rattle.frames.specs.BoardViews.{seat_view}
use Rattle.board.specs.Boards.{BoardId, SeatSeen}
use Rattle.poll.specs.Rows.{RowId, PollerSeen}
use Rattle.bodies.specs.Bodies.{SeatsView}
use Rattle.thread_list.specs.declared.parts.PartsFault.{PartsFault}
use Rattle.thread_list.specs.declared.parts.PartsFault.TheVariants.{BadSize, NoMemory}

-- What contracts see of the parts: which board and row they are, and how many methods there are.
pub record PartsSeen : Type 0 where
  pub board : BoardId
  pub row : RowId
  pub methods : ℕ

abbrev pub fits : ℕ → ℕ → Bool
fits size most = not (size == 0) && nat_le size most

abbrev pub are_sizes : ℕ → ℕ → ℕ → Bool
are_sizes places slots methods = fits places 64 && fits slots 1024 && fits methods 256

-- Parts are refused for their sizes, and otherwise only for want of memory.
abbrev pub parts_refused : ℕ → ℕ → ℕ → PartsFault → Type 0
parts_refused places slots methods BadSize = are_sizes places slots methods ≡ false
parts_refused places slots methods NoMemory = are_sizes places slots methods ≡ true

-- the seats, and the pollers, of such pairs
abbrev pub seats_in : List SeatsView → List SeatSeen
seats_in both = map (λ b. b.seat) both

abbrev pub pollers_in : List SeatsView → List PollerSeen
pollers_in both = map (λ b. b.poller) both

-- These are the seats of a board, and the pollers of a row, each of its place, as they are made.
abbrev pub AreSeatsOf : BoardId → List SeatSeen → Type 0
AreSeatsOf board seats = (k : ℕ) (s : SeatSeen) → slice_get seats k ≡ Some s → (s.board ≡ board) × (s.seen ≡ seat_view k)

abbrev pub ArePollersOf : RowId → List PollerSeen → Type 0
ArePollersOf row pollers = (k : ℕ) (p : PollerSeen) → slice_get pollers k ≡ Some p → (p.table ≡ row) × (p.seen.place ≡ k)
