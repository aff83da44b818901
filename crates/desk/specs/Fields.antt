-- The state that the desk's fields represent, and the fields' invariants.
use Rattle.std.specs.Prelude.{◌≢◌, ◌<◌, Option, Some, None, slice_get, ◌≡◌, ℕ, ◌+◌, ◌≤◌, true, List, [], ◌∷◌, ◌++◌, length, map, if◌then◌else◌}
use Rattle.frames.specs.declared.board_rule.KeeperView.{KeeperView}
use Rattle.method_table.specs.TableView.{TableView}
use Rattle.method_table.specs.declared.Code.{Code}
use Rattle.method_table.specs.Codes.{id_of, unfreed}
use Rattle.desk.specs.CodeBoard.{LooksBelow}
use Rattle.operations.specs.declared.queue.Waiting.{Waiting}
use Rattle.frames.specs.declared.CodeId.{CodeId}
use Rattle.operations.specs.Names.{is_distinct}
use Rattle.desk.specs.declared.entries.Entry.{Entry}
use Rattle.desk.specs.declared.entries.Entry.TheVariants.{Install, Invalidate}
use Rattle.desk.specs.declared.entries.Live.{Live}
use Rattle.desk.specs.declared.entries.Carried.{Carried}
use Rattle.desk.specs.declared.entries.Opened.{Opened}
use Rattle.desk.specs.JobsFit.{JobsLeft}
use Rattle.desk.specs.Machine.{Asked, Current, State, Book, after, is_legal, legal_from, targets_of, Stands, stands, lawful, may_operate}
use Rattle.desk.specs.Room.{needs}
use Rattle.desk.specs.Pending.{least_pending}
use Rattle.desk.specs.Replies.{Said, HaveRoom}

abbrev pub asked_of : {J : Type 0} → Waiting (Carried J) → Asked
asked_of w = record { number = w.number; request = w.request }

abbrev pub current_of : {J : Type 0} → Opened J → Current
current_of o = record { number = o.number; request = o.request; before = o.before; left = o.left; due = o.due.items; operated = o.operated }

-- a desk's book, and the fields that represent the state after its history
pub record Fields (J : Type 0) : Type 0 where
  pub book : Book
  pub next_name : ℕ
  pub live : List Live
  pub next_number : ℕ
  pub queue : List (Waiting (Carried J))
  pub opened : List (Opened J)
  pub table : TableView

-- the state that the fields represent
abbrev pub state_of : {J : Type 0} → Fields J → State
state_of d = record {
  next_name = d.next_name;
  live = d.live;
  next_number = d.next_number;
  waiting = map asked_of d.queue;
  opened = map current_of d.opened;
  table = d.table;
}

-- a waiting request has a number, distinct targets, a job for each target, and memory for all targets after the first
pub record IsCarried {J : Type 0} (whom : J → ℕ) (w : Waiting (Carried J)) : Type 0 where
  pub number : 0 < w.number
  pub room : length (targets_of w.request) ≤ w.load.room + 1
  pub distinct : is_distinct (targets_of w.request) ≡ true
  pub jobs : map whom w.load.jobs.items ≡ targets_of w.request

abbrev pub AreCarried : {J : Type 0} → (J → ℕ) → List (Waiting (Carried J)) → Type 0
AreCarried whom [] = Unit {0}
AreCarried whom (w ∷ ws) = IsCarried whom w × AreCarried whom ws

-- the names for which an open request still has jobs, in the order of targets
abbrev pub names_left : {J : Type 0} → (J → ℕ) → Opened J → List ℕ
names_left whom o = map whom o.jobs.items

abbrev pub jobs_left : {J : Type 0} → (J → ℕ) → Opened J → JobsLeft
jobs_left whom o = record { number = o.number; names = names_left whom o }

-- how many entries the open request may need before its Close
abbrev pub due_of : Current → ℕ
due_of c = (if may_operate c then 1 else 0) + length c.due

-- an open request has a number, and as many entries are reserved for it as it may need
abbrev pub AreFit : List Current → Type 0
AreFit [] = Unit {0}
AreFit (c ∷ cs) = (0 < c.number) × (due_of c ≤ c.left) × AreFit cs

-- the due names of an open request are distinct
abbrev pub AreDistinct : List Current → Type 0
AreDistinct [] = Unit {0}
AreDistinct (c ∷ cs) = (is_distinct c.due ≡ true) × AreDistinct cs

-- the history is legal, the fields represent the state after it, room is reserved for all entries that may follow, and
-- each open request has distinct due names
pub record IsKept {J : Type 0} (d : Fields J) : Type 0 where
  pub legal : is_legal d.table.slots d.table.methods d.book.history ≡ true
  pub state : after d.table.slots d.table.methods d.book.history ≡ state_of d
  pub needed : needs (state_of d) ≤ d.book.reserved
  pub fit : AreFit (map current_of d.opened)
  pub distinct : AreDistinct (map current_of d.opened)

-- a desk's fields, stored replies, number of places, number of open requests, and memory for open requests
pub record Inside (J : Type 0) : Type 0 where
  pub fields : Fields J
  pub lists : List Said
  pub places : ℕ
  pub open_count : ℕ
  pub open_capacity : ℕ

-- the invariant of a desk whose board has this many places
pub record IsDesk {J : Type 0} (whom : J → ℕ) (board_places : ℕ) (d : Inside J) : Type 0 where
  pub kept : IsKept d.fields
  pub carried : AreCarried whom d.fields.queue
  pub few : d.open_count ≤ 4
  pub capacity : 4 ≤ d.open_capacity
  pub places : d.places ≡ board_places
  pub named : 0 < d.fields.next_name
  pub replies : HaveRoom d.fields.book.gone d.fields.next_number (map asked_of d.fields.queue) (map current_of d.fields.opened) d.lists
  pub pending : d.fields.book.gone.operations < least_pending (state_of d.fields)

-- a desk as contracts see it: the history with the reserved room, the sizes, the keeper's view, and for each open
-- request the names whose jobs weren't taken
pub record DeskSeen : Type 0 where
  pub book : Book
  pub slots : ℕ
  pub methods : ℕ
  pub keeper : KeeperView
  pub jobs : List JobsLeft

-- the state after the desk's history
abbrev pub at : DeskSeen → State
at d = after d.slots d.methods d.book.history

-- The desk appends a lawful entry and makes the entry's receipt. The entry may use room that was reserved before.
pub record Enters (old new : DeskSeen) (entry : Entry) (receipt : Stands) : Type 0 where
  pub lawful_is : lawful (at old) entry ≡ true
  pub history_is : new.book.history ≡ old.book.history ++ entry ∷ []
  pub receipt_is : receipt ≡ stands (length old.book.history) entry
  pub gone_stays : new.book.gone ≡ old.book.gone
  pub sizes_stay : (new.slots ≡ old.slots) × (new.methods ≡ old.methods)

-- The entries of an install: an Invalidate of the replaced code, if any, and the Install.
abbrev pub install_entries : Option CodeId → CodeId → ℕ → List Entry
install_entries None code method = Install code method ∷ []
install_entries (Some old) code method = Invalidate old.serial ∷ Install code method ∷ []

-- How many of these entries use reserved room.
abbrev pub kept_before : Option CodeId → ℕ
kept_before None = 0
kept_before (Some old) = 1

-- The desk appends the entries of an install, each lawful after those before it, and makes the receipt of the last one.
pub record EntersInstall (old new : DeskSeen) (replaced : Option CodeId) (code : CodeId) (method : ℕ) (receipt : Stands) : Type 0 where
  pub legal_is : legal_from (at old) (install_entries replaced code method) ≡ true
  pub history_is : new.book.history ≡ old.book.history ++ install_entries replaced code method
  pub receipt_is : receipt ≡ stands (length old.book.history + kept_before replaced) (Install code method)
  pub gone_stays : new.book.gone ≡ old.book.gone
  pub sizes_stay : (new.slots ≡ old.slots) × (new.methods ≡ old.methods)

-- the index of the open request with this number
abbrev pub IsIndex : {J : Type 0} → ℕ → List (Opened J) → Option ℕ → Type 0
IsIndex n os None = (k : ℕ) (o : _) → slice_get os k ≡ Some o → o.number ≢ n
IsIndex n os (Some i) = (i < length os) × ((k : ℕ) (o : _) → k < i → slice_get os k ≡ Some o → o.number ≢ n) × ((o : _) → slice_get os i ≡ Some o → o.number ≡ n)

-- The keeper looked for the unfreed code with this serial at each place below this one, and the desk has no other
-- change.
pub record LooksAtAll (serial places : ℕ) (old new : DeskSeen) : Type 0 where
  pub looks : (code : Code) × (unfreed (at old).table.codes serial ≡ Some code) × LooksBelow (id_of code) places old.keeper new.keeper
  pub book_stays : new.book ≡ old.book
  pub sizes_stay : (new.slots ≡ old.slots) × (new.methods ≡ old.methods)
  pub jobs_stay : new.jobs ≡ old.jobs
