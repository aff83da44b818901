-- The replies to each operation, and the room for replies that may follow.
use Rattle.std.specs.Prelude.{◌≡◌, ◌≢◌, ℕ, ◌+◌, ◌-◌, ◌<◌, ◌≤◌, ◌==◌, nat_le, List, [], ◌∷◌, length, get_or, if◌then◌else◌}
use Rattle.desk.specs.declared.entries.Entry.{Entry}
use Rattle.desk.specs.Machine.{Asked, Current, Gone, Book, targets_of}
use Rattle.desk.specs.Once.{replies_of}

-- the replies to an operation with their names, and how many more may follow
pub record Said : Type 0 where
  pub said : List (ℕ × ℕ)
  pub room : ℕ

abbrev pub nothing_said : Said
nothing_said = record { said = []; room = 0 }

-- a log as contracts see it: its book, the replies to each operation after the forgotten ones, and memory for more
-- operations and for more replies
pub record Logged : Type 0 where
  pub book : Book
  pub lists : List Said
  pub spare : ℕ
  pub places : ℕ

-- the replies to the operation with this number, if any
abbrev pub of_number : ℕ → List Said → Said
of_number n lists = if n == 0 then nothing_said else get_or lists (n - 1) nothing_said

-- the lists are the history's replies by operation, for all operations after `gone`, the last forgotten one
abbrev pub AreReplies : ℕ → List Entry → List Said → Type 0
AreReplies gone history lists = (n : ℕ) → gone < n → (of_number (n - gone) lists).said ≡ replies_of n history

-- the replies to an operation, or none if they were forgotten
abbrev pub replies_kept : ℕ → Book → List (ℕ × ℕ)
replies_kept n b = if nat_le n b.gone.operations then [] else replies_of n b.history

-- one operation has room for one reply less; the room of the others is unchanged
pub record HasLess (op : ℕ) (old new : List Said) : Type 0 where
  pub here : (of_number op new).room + 1 ≡ (of_number op old).room
  pub others : (n : ℕ) → n ≢ op → (of_number n new).room ≡ (of_number n old).room

-- how many replies to an operation may follow: one from each target while it waits, one from each due target while it
-- is open
abbrev pub owed_waiting : ℕ → List Asked → ℕ
owed_waiting n [] = 0
owed_waiting n (a ∷ rest) = (if a.number == n then length (targets_of a.request) else 0) + owed_waiting n rest

abbrev pub owed_opened : ℕ → List Current → ℕ
owed_opened n [] = 0
owed_opened n (c ∷ cs) = (if c.number == n then length c.due else 0) + owed_opened n cs

-- each operation that was given out and isn't forgotten has a list, with room for all replies that may follow
pub record HaveRoom (gone : Gone) (next_number : ℕ) (waiting : List Asked) (opened : List Current) (lists : List Said) : Type 0 where
  pub count : gone.operations + length lists + 1 ≡ next_number
  pub enough : (n : ℕ) → owed_waiting n waiting + owed_opened n opened ≤ (of_number (n - gone.operations) lists).room
