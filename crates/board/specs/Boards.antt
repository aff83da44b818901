-- The table of a board: the index of each word, and the owner of each seat. The first seat is the keeper's. The threads' seats are split
-- off it in the order of their places.
use Rattle.std.specs.Prelude.{◌≡◌, ℕ, suc, ◌+◌, ◌-◌, ◌*◌, ◌<◌, ◌≤◌, List, [], ◌∷◌, length, slice_index, ◌==◌, if◌then◌else◌}
use mathlib.Core.Option.{Option, none, some}
use lib.ListN.{get_elem?}
use Rattle.atomic_table.specs.Table.{State}
use Rattle.atomic_table.specs.Seated.{TableId}
use Rattle.frames.specs.declared.board_rule.KeeperView.{KeeperView}
use Rattle.frames.specs.declared.board_rule.SeatView.{SeatView}
use Rattle.frames.specs.declared.board_rule.BoardView.{BoardView}
use Rattle.frames.specs.declared.board_rule.StepMade.{StepMade}
use Rattle.frames.specs.declared.board_rule.StepMade.TheVariants.{Nothing, LoadEntry, StoreEntry, LoadMoment, AddMoment, StorePlace, AddCount, SubCount, LoadPlace, LoadCount}
use Rattle.frames.specs.declared.board_rule.BoardView.TheVariants.{Keeper, Thread, Ended}
use Rattle.frames.specs.BoardWords.{Word, entry_of, count_of, place_of, the_moment, pack}
use Rattle.frames.specs.BoardRule.{BoardState, IsBoardKept}
use Rattle.frames.specs.BoardStep.{BoardStep, keeper, thread}
use Rattle.frames.specs.BoardViews.{slot_state, seat_state, slot_of, keeper_view, seat_view}

-- The index of each word. The moment has a cache line of its own (8 words). The entries are side by side, since they are mostly read. Each
-- count and each place's moment has a line of its own. 8 words are between the groups.
abbrev pub index_of : ℕ → Word → ℕ
index_of slots the_moment = 8
index_of slots (entry_of k) = 16 + k
index_of slots (count_of k) = 24 + slots + 8 * k
index_of slots (place_of p) = 24 + 9 * slots + 8 * p

-- how many words there are
abbrev pub words_at : ℕ → ℕ → ℕ
words_at slots places = 24 + 9 * slots + 8 * places

abbrev pub word_in : ℕ → List ℕ → Word → ℕ
word_in slots ws x = slice_index ws (index_of slots x)

-- what the keeper knows, if the view is the keeper's, and what a thread knows, if it is a thread's
abbrev pub keeper_of : BoardView → KeeperView
keeper_of (Keeper k us n) = k
keeper_of (Thread t n) = keeper_view 0 0
keeper_of Ended = keeper_view 0 0

abbrev pub thread_of : BoardView → SeatView
thread_of (Keeper k us n) = seat_view 0
thread_of (Thread t n) = t
thread_of Ended = seat_view 0

-- the views of the seats that were given back, if the view is the keeper's
abbrev pub ended_of : BoardView → List SeatView
ended_of (Keeper k us n) = us
ended_of (Thread t n) = []
ended_of Ended = []

abbrev pub stamp_of : BoardView → ℕ
stamp_of (Keeper k us n) = n
stamp_of (Thread t n) = n
stamp_of Ended = 0

abbrev pub IsKeeper : BoardView → Type 0
IsKeeper v = v ≡ Keeper (keeper_of v) [] (stamp_of v)

-- a keeper whose board is being closed
abbrev pub IsClosing : BoardView → Type 0
IsClosing v = v ≡ Keeper (keeper_of v) (ended_of v) (stamp_of v)

abbrev pub IsThread : BoardView → Type 0
IsThread v = v ≡ Thread (thread_of v) (stamp_of v)

abbrev pub seat_or_first : ℕ → Option BoardView → SeatView
seat_or_first p none = seat_view p
seat_or_first p (some v) = thread_of v

-- the view of the place p among the seats that were given back, and t if it isn't among them
abbrev pub seat_known : List SeatView → ℕ → SeatView → SeatView
seat_known [] p t = t
seat_known (u ∷ us) p t = if u.place == p then u else seat_known us p t

-- the seat of the place p wasn't given back
abbrev pub IsLive : List SeatView → ℕ → Type 0
IsLive us p = (t : SeatView) → seat_known us p t ≡ t

-- the seats that were given back are of different places
abbrev pub AreApart : List SeatView → Type 0
AreApart [] = Unit {0}
AreApart (u ∷ us) = IsLive us u.place × AreApart us

-- The view of the seat of the place p: as it was given back, or as the table has it, or the first view if the seat isn't split off yet.
abbrev pub seat_at : List SeatView → List BoardView → ℕ → SeatView
seat_at us views p = seat_known us p (seat_or_first p (get_elem? views (suc p)))

-- the state of the board in a table, from the words, the keeper's view, the seats that were given back, and the table's views
abbrev pub board_state : ℕ → List ℕ → KeeperView → List SeatView → List BoardView → BoardState
board_state slots ws k us views = record { word = word_in slots ws; now = k.moment; slot = λ i. slot_state (slot_of k i); seat = λ p. seat_state (seat_at us views p) }

-- the seat with this index may have this view
abbrev pub IsSeatedAt : ℕ → BoardView → Type 0
IsSeatedAt id (Keeper k us n) = id ≡ 0
IsSeatedAt id (Thread t n) = id ≡ suc t.place
IsSeatedAt id Ended = 0 < id

-- The words are as the step left them. The seat of the place p, or the keeper, made it.
abbrev pub IsToldBy : (Word → ℕ) → ℕ → StepMade → Type 0
IsToldBy word p Nothing = Unit {0}
IsToldBy word p (LoadEntry c found) = word (entry_of c.slot) ≡ found
IsToldBy word p (StoreEntry c state) = word (entry_of c.slot) ≡ pack c.serial state
IsToldBy word p (LoadMoment found) = word the_moment ≡ found
IsToldBy word p (AddMoment found) = word the_moment ≡ found + 1
IsToldBy word p (StorePlace n) = word (place_of p) ≡ n
IsToldBy word p (AddCount c by found) = word (count_of c.slot) ≡ found + by
IsToldBy word p (SubCount c by found) = word (count_of c.slot) ≡ found - by
IsToldBy word p (LoadPlace c q found) = word (place_of q) ≡ found
IsToldBy word p (LoadCount c found) = word (count_of c.slot) ≡ found

-- The words are as the seat's last step left them. For the keeper of a board that is being closed this says nothing.
abbrev pub IsTold : ℕ → List ℕ → BoardView → Type 0
IsTold slots ws (Keeper k [] n) = IsToldBy (word_in slots ws) 0 k.last
IsTold slots ws (Keeper k (u ∷ us) n) = Unit {0}
IsTold slots ws (Thread t n) = IsToldBy (word_in slots ws) t.place t.last
IsTold slots ws Ended = Unit {0}

-- no view has a greater stamp
abbrev pub IsLatest : List BoardView → ℕ → Type 0
IsLatest views stamp = (id : ℕ) (v : BoardView) → get_elem? views id ≡ some v → stamp_of v ≤ stamp

-- The table is a board with these numbers of slots and places (the two parts of n). Its keeper has the view k. The seats that were given
-- back had the views us. The board meets the rule.
pub record IsBoardAt (n : ℕ × ℕ) (s : State (Unit {0}) BoardView) (k : KeeperView) (us : List SeatView) : Type 0 where
  pub stamp : ℕ
  pub keeper_is : get_elem? s.views 0 ≡ some (Keeper k us stamp)
  pub seated : (id : ℕ) (v : BoardView) → get_elem? s.views id ≡ some v → IsSeatedAt id v
  pub split : (length s.views ≡ suc k.split) × (k.split ≤ n.1)
  pub slots_are : length k.slots ≡ n.0
  pub words_are : length s.words ≡ words_at n.0 n.1
  -- a thread that has its seat hasn't given it back, and no seat was given back twice
  pub live : (id : ℕ) (t : SeatView) (g : ℕ) → get_elem? s.views id ≡ some (Thread t g) → IsLive us t.place
  pub apart : AreApart us
  pub kept : IsBoardKept n.0 n.1 (board_state n.0 s.words k us s.views)
  -- the last step of all seats found in its word, or left there, the word's present value
  pub told : (id : ℕ) (v : BoardView) → get_elem? s.views id ≡ some v → IsLatest s.views (stamp_of v) → IsTold n.0 s.words v

abbrev pub IsBoard : ℕ × ℕ → State (Unit {0}) BoardView → Type 0
IsBoard n s = (k : KeeperView) × (us : List SeatView) × IsBoardAt n s k us

-- The board's identity: its table and its sizes.
pub record BoardId : Type 0 where
  pub table : TableId
  pub slots : ℕ
  pub places : ℕ

abbrev pub board_id : TableId → ℕ → ℕ → BoardId
board_id z slots places = record { table = z; slots = slots; places = places }

-- What contracts see of a thread's seat and of the keeper: the board's identity, the view, and the stamp, which rises at each step.
pub record SeatSeen : Type 0 where
  pub board : BoardId
  pub seen : SeatView
  pub stamp : ℕ

pub record KeeperSeen : Type 0 where
  pub board : BoardId
  pub seen : KeeperView
  pub stamp : ℕ

abbrev pub of_thread : BoardId → BoardView → SeatSeen
of_thread b v = record { board = b; seen = thread_of v; stamp = stamp_of v }

abbrev pub of_keeper : BoardId → BoardView → KeeperSeen
of_keeper b v = record { board = b; seen = keeper_of v; stamp = stamp_of v }

-- the seat of a place, and the keeper, of a new board
abbrev pub first_seat : BoardId → ℕ → SeatSeen
first_seat b p = record { board = b; seen = seat_view p; stamp = 0 }

abbrev pub first_keeper : BoardId → KeeperSeen
first_keeper b = record { board = b; seen = keeper_view b.slots b.places; stamp = 0 }

-- A thread's seat made one step. There is a board that met the rule and on which the seat had its old view. The last step of the new view
-- led to a board that meets the rule and on which the seat has its new view.
pub record ThreadSteps (board : BoardId) (old new : SeatView) : Type 0 where
  pub before : BoardState
  pub after : BoardState
  pub kept_before : IsBoardKept board.slots board.places before
  pub step : BoardStep board.slots board.places before after (thread old.place) new.last
  pub kept_after : IsBoardKept board.slots board.places after
  pub seat_before : before.seat old.place ≡ seat_state old
  pub seat_after : after.seat old.place ≡ seat_state new

-- the board agrees with the keeper's view k
pub record IsKeptBy (b : BoardState) (k : KeeperView) : Type 0 where
  pub now_is : b.now ≡ k.moment
  pub slot_is : (i : ℕ) → b.slot i ≡ slot_state (slot_of k i)

-- the keeper made one step, on some board that agrees with its view before and after
pub record KeeperSteps (board : BoardId) (old new : KeeperView) : Type 0 where
  pub before : BoardState
  pub after : BoardState
  pub kept_before : IsBoardKept board.slots board.places before
  pub step : BoardStep board.slots board.places before after keeper new.last
  pub kept_after : IsBoardKept board.slots board.places after
  pub keeper_before : IsKeptBy before old
  pub keeper_after : IsKeptBy after new

-- the keeper's view after a seat is split off
abbrev pub one_more_split : KeeperView → KeeperView
one_more_split k = record { moment = k.moment; slots = k.slots; split = k.split + 1; steps = k.steps; last = k.last }

abbrev pub left_of : BoardView → BoardView
left_of (Keeper k us n) = Keeper (one_more_split k) us n
left_of (Thread t n) = Thread t n
left_of Ended = Ended

abbrev pub right_of : BoardView → BoardView
right_of (Keeper k us n) = Thread (seat_view k.split) 0
right_of (Thread t n) = Thread t n
right_of Ended = Ended

-- the keeper's view after a seat was given back
abbrev pub both_of : BoardView → BoardView → BoardView
both_of v u = Keeper (keeper_of v) (thread_of u ∷ ended_of v) (stamp_of v + stamp_of u)

-- the words at the start: the moment is 1, and each entry is vacant with the serial 0
pub record AreFirst (slots places : ℕ) (ws : List ℕ) : Type 0 where
  pub wide : length ws ≡ words_at slots places
  pub moment : slice_index ws (index_of slots the_moment) ≡ 1
  pub entries : (k : ℕ) → k < slots → slice_index ws (index_of slots (entry_of k)) ≡ 3
  pub others : (j : ℕ) → 16 + slots ≤ j → slice_index ws j ≡ 0
