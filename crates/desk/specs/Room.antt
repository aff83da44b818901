-- The entries that may follow a state, for which room is reserved, and the room of a history.
use Rattle.std.specs.Prelude.{ℕ, ◌+◌, ◌-◌, ◌≡◌, List, [], ◌∷◌, Bool, true, false, nat_le, length}
use Rattle.method_table.specs.declared.Code.{Code}
use Rattle.method_table.specs.declared.CodeState.{CodeState}
use Rattle.method_table.specs.declared.CodeState.TheVariants as state
use Rattle.desk.specs.declared.log.RoomFault.{RoomFault}
use Rattle.desk.specs.declared.log.RoomFault.TheVariants.{HistoryFull, NoMemory}
use Rattle.desk.specs.Machine.{State, Asked, Current, Book, steps_of}

-- a waiting request needs its Open, its Close and the entries between them
abbrev pub needs_of_asked : (waiting : List Asked) → ℕ
needs_of_asked [] = 0
needs_of_asked (a ∷ rest) = (2 + steps_of a.request) + needs_of_asked rest

-- an open request needs its Close and the entries before it
abbrev pub needs_of_opened : (opened : List Current) → ℕ
needs_of_opened [] = 0
needs_of_opened (c ∷ cs) = (1 + c.left) + needs_of_opened cs

-- how many changes of state a code has left
abbrev pub states_left : CodeState → ℕ
states_left state.InUse = 3
states_left state.NotEntrant = 2
states_left state.Zombie = 1
states_left state.Freed = 0

abbrev pub needs_of_codes : List Code → ℕ
needs_of_codes [] = 0
needs_of_codes (c ∷ cs) = states_left c.state + needs_of_codes cs

-- the entries that may follow: an Exit of each live name, and those of requests and codes
abbrev pub needs : State → ℕ
needs s = length s.live + (needs_of_asked s.waiting + (needs_of_opened s.opened + needs_of_codes s.table.codes))

-- how many entries count: all but the forgotten ones
abbrev pub entries_kept : Book → ℕ
entries_kept b = length b.history - b.gone.entries

-- `more` entries fit in a history with `count` entries that count and `reserved` reserved ones
abbrev pub has_room : (count reserved more : ℕ) → Bool
has_room count reserved more = nat_le (count + reserved + more) 1000000

-- why no room is reserved: the history is full, or memory is refused
abbrev pub room_fault : (has_room : Bool) → RoomFault → Type 0
room_fault room HistoryFull = room ≡ false
room_fault room NoMemory = room ≡ true
