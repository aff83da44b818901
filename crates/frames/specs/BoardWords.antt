-- The words of a code board, and how the serial and the state of an entry are packed into one.
use Rattle.std.specs.Prelude.{ℕ, ◌+◌, ◌*◌, ◌/◌, ◌%◌, ◌<◌, nat_lt, ◌==◌, if◌then◌else◌, Bool, true, false}
use Rattle.frames.specs.declared.CodeId.{CodeId}
use Rattle.frames.specs.declared.board_rule.EntryState.{EntryState}
use Rattle.frames.specs.declared.board_rule.EntryState.TheVariants.{InUse, NotEntrant, Zombie, Vacant}
use Rattle.frames.specs.declared.board_rule.Entry.{Entry}

-- the states of one code, in the order in which they come
abbrev pub rank : EntryState → ℕ
rank InUse = 0
rank NotEntrant = 1
rank Zombie = 2
rank Vacant = 3

abbrev pub state_of : ℕ → EntryState
state_of n = if n == 0 then InUse else if n == 1 then NotEntrant else if n == 2 then Zombie else Vacant

-- an entry's word: a later state, or a greater serial, is a greater word
abbrev pub pack : ℕ → EntryState → ℕ
pack serial state = 4 * serial + rank state

abbrev pub unpack : ℕ → Entry
unpack word = record { serial = word / 4; state = state_of (word % 4) }

-- the word says that the code stands in its slot and is in use
abbrev pub says_in_use : ℕ → CodeId → Bool
says_in_use word c = word == pack c.serial InUse

-- the word says a greater serial, or the code's serial and another state than in use
abbrev pub says_gone : ℕ → CodeId → Bool
says_gone word c = nat_lt (pack c.serial InUse) word

-- The words: an entry and a count for each slot, a moment for each place, and the moment of the board.
pub data Word : Type 0 where
  entry_of : ℕ → Word
  count_of : ℕ → Word
  place_of : ℕ → Word
  the_moment : Word

-- a board of so many slots and places has the word
abbrev pub IsWord : ℕ → ℕ → Word → Type 0
IsWord slots places (entry_of k) = k < slots
IsWord slots places (count_of k) = k < slots
IsWord slots places (place_of p) = p < places
IsWord slots places the_moment = Unit {0}

abbrev pub same_word : Word → Word → Bool
same_word (entry_of k) (entry_of j) = k == j
same_word (count_of k) (count_of j) = k == j
same_word (place_of p) (place_of q) = p == q
same_word the_moment the_moment = true
same_word a b = false

-- the words after a write of n to x
abbrev pub written : Word → ℕ → (Word → ℕ) → Word → ℕ
written x n word y = if same_word y x then n else word y
