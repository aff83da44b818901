-- What contracts see of what threads share, and what is known of an answer that the desk gave.
use Rattle.std.specs.Prelude.{◌≡◌, ◌<◌, ℕ, List, [], length, map, slice_index_or, true}
use Rattle.board.specs.Boards.{BoardId, first_keeper}
use Rattle.berths.specs.Berths.{Berthing}
use Rattle.desk.specs.declared.entries.Entry.{Entry}
use Rattle.desk.specs.Fields.{DeskSeen}
use Rattle.desk.specs.Machine.{Book, after, is_legal, names_of}
use Rattle.desk.specs.Once.{replies_of}
use Rattle.desk.specs.Replies.{replies_kept}

-- How many methods there are.
pub record SharedSeen : Type 0 where
  pub methods : ℕ

-- The names that are live after some legal history.
abbrev pub AreLive : List ℕ → Type 0
AreLive names = (slots : ℕ) × (methods : ℕ) × (history : List Entry) × (is_legal slots methods history ≡ true) × (names ≡ names_of (after slots methods history).live)

-- The replies of the operation in some legal history, and none where they were forgotten.
abbrev pub AreRepliesOf : ℕ → List (ℕ × ℕ) → Type 0
AreRepliesOf op replies = (slots : ℕ) × (methods : ℕ) × (book : Book) × (is_legal slots methods book.history ≡ true) × (replies ≡ replies_kept op book)

-- All replies of the operation in some legal history.
abbrev pub AreAllRepliesOf : ℕ → List (ℕ × ℕ) → Type 0
AreAllRepliesOf op replies = (slots : ℕ) × (methods : ℕ) × (history : List Entry) × (is_legal slots methods history ≡ true) × (replies ≡ replies_of op history)

-- A desk at which nothing was entered and no moment begun, over the board, with so many methods.
abbrev pub IsNewDesk : BoardId → ℕ → DeskSeen → Type 0
IsNewDesk board methods d
    = (d.book.history ≡ []) × (d.book.reserved ≡ 0) × (d.book.gone.entries ≡ 0) × (d.book.gone.operations ≡ 0) × (d.jobs ≡ [])
    × (d.keeper ≡ (first_keeper board).seen) × (d.slots ≡ board.slots) × (d.methods ≡ methods)

-- The places of rooms.
abbrev pub places_in : {N : Type 0} → List (Berthing N) → List ℕ
places_in rooms = map (λ r. r.place) rooms

-- Berths, seen as their places, are each that of its index.
abbrev pub AreInOrder : List ℕ → Type 0
AreInOrder berths = (k : ℕ) (d : ℕ) → k < length berths → slice_index_or berths k d ≡ k
