-- The list machine of the desk: its entries, the state after them, and legal histories. `Room.antt` counts the entries
-- for which room is reserved.
use Rattle.std.specs.Prelude.{ℕ, ◌+◌, ◌-◌, List, [], ◌∷◌, ◌++◌, Bool, true, false, ◌&&◌, not, ◌==◌, nat_lt, Option, Some, None, is_none, length, map, filter, find, if◌then◌else◌}
use Rattle.std.specs.List.{list_any, list_all}
use Rattle.method_table.specs.declared.CodeState.TheVariants as state
use Rattle.method_table.specs.Codes.{in_use_for, unfreed, with_code, with_state, next_serial, free_slot}
use Rattle.method_table.specs.TableView.{TableView, install_fault, invalidate_fault, retire_fault, free_fault}
use Rattle.operations.specs.declared.Request.{Request}
use Rattle.operations.specs.declared.Request.TheVariants.{Handshake, Census}
use Rattle.operations.specs.Names.{among, is_empty}
use Rattle.operations.specs.Requests.{is_census}
use Rattle.desk.specs.CodeBoard.{with_codes}
use Rattle.desk.specs.declared.entries.Live.{Live}
use Rattle.desk.specs.declared.entries.Entry.{Entry}
use Rattle.desk.specs.declared.entries.Entry.TheVariants.{Start, Exit, Ask, Open, Finish, Operate, Close, Install, Invalidate, Retire, Free}

-- a waiting request
pub record Asked : Type 0 where
  pub number : ℕ
  pub request : Request

-- an open request. `before` is the next name at its Open: only threads with lesser names were live then. `left` is how
-- many entries it may make before its Close, and `due` the targets that were live at the Open and have no Finish
pub record Current : Type 0 where
  pub number : ℕ
  pub request : Request
  pub before : ℕ
  pub left : ℕ
  pub due : List ℕ
  pub operated : Bool

-- the next name and the next operation number; the live threads; the waiting and the open requests, in the order of
-- numbers; and the codes
pub record State : Type 0 where
  pub next_name : ℕ
  pub live : List Live
  pub next_number : ℕ
  pub waiting : List Asked
  pub opened : List Current
  pub table : TableView

abbrev pub is_live : (name : ℕ) → (live : List Live) → Bool
is_live name ls = list_any (λ l. l.name == name) ls

-- a live thread has the place
abbrev pub is_taken : (place : ℕ) → (live : List Live) → Bool
is_taken place ls = list_any (λ l. l.place == place) ls

-- the live threads except the one with this name
abbrev pub without : (name : ℕ) → (live : List Live) → List Live
without name ls = filter (λ l. not (l.name == name)) ls

-- the names except this one
abbrev pub others : (name : ℕ) → (names : List ℕ) → List ℕ
others name ts = filter (λ t. not (t == name)) ts

-- the live names
abbrev pub names_of : List Live → List ℕ
names_of ls = map (λ l. l.name) ls

-- the place at which a name is live
abbrev pub place_of : (name : ℕ) → (live : List Live) → Option ℕ
place_of name [] = None
place_of name (l ∷ ls) = if l.name == name then Some l.place else place_of name ls

-- the live names of the list
abbrev pub live_of : (live : List Live) → (names : List ℕ) → List ℕ
live_of ls ts = filter (λ t. is_live t ls) ts

-- none of the names is live
abbrev pub none_live : (live : List Live) → (names : List ℕ) → Bool
none_live ls ts = list_all (λ t. not (is_live t ls)) ts

-- the targets of a request; none for a census, which has no Finish
abbrev pub targets_of : Request → List ℕ
targets_of Census = []
targets_of (Handshake targets ask) = targets

-- how many entries a request can make between its Open and its Close
abbrev pub steps_of : Request → ℕ
steps_of Census = 1
steps_of (Handshake targets ask) = length targets

-- the oldest waiting request has the number
abbrev pub is_first : (number : ℕ) → (waiting : List Asked) → Bool
is_first n [] = false
is_first n (a ∷ rest) = a.number == n

-- the waiting requests after the oldest
abbrev pub rest_of : (waiting : List Asked) → List Asked
rest_of [] = []
rest_of (a ∷ rest) = rest

-- an open request is a census
abbrev pub has_census : (opened : List Current) → Bool
has_census cs = list_any (λ c. is_census c.request) cs

-- the oldest waiting request is a census
abbrev pub awaits_census : (waiting : List Asked) → Bool
awaits_census [] = false
awaits_census (a ∷ rest) = is_census a.request

-- one more request may be opened. At most four handshakes are open, or one census alone
abbrev pub may_open_more : (waiting : List Asked) → (opened : List Current) → Bool
may_open_more waiting cs = nat_lt (length cs) 4 && (not (has_census cs) && not (awaits_census waiting && not (is_empty cs)))

-- the open request with this number
abbrev pub open_of : (number : ℕ) → (opened : List Current) → Option Current
open_of n cs = find (λ c. c.number == n) cs

abbrev pub is_open : (number : ℕ) → (opened : List Current) → Bool
is_open n cs = list_any (λ c. c.number == n) cs

-- the request exists and passes the test
abbrev pub passes : (test : Current → Bool) → Option Current → Bool
passes test None = false
passes test (Some c) = test c

-- the name has no Finish
abbrev pub is_due : (name : ℕ) → Current → Bool
is_due name c = among name c.due

-- the name is due for no open request with a lesser number: a thread answers requests in the order of numbers
abbrev pub is_least : (number name : ℕ) → (opened : List Current) → Bool
is_least n name cs = list_all (λ c. not (nat_lt c.number n && is_due name c)) cs

-- a census is operated only once
abbrev pub may_operate : Current → Bool
may_operate c = is_census c.request && not c.operated

-- a census may be closed after its Operate, a handshake when no due thread is live
abbrev pub may_close : (live : List Live) → Current → Bool
may_close ls c = if is_census c.request then c.operated else none_live ls c.due

-- the open requests after a change of the first one with this number
abbrev pub at_number : (change : Current → Current) → (number : ℕ) → (opened : List Current) → List Current
at_number f n [] = []
at_number f n (c ∷ cs) = if c.number == n then f c ∷ cs else c ∷ at_number f n cs

-- the open requests without the first one with this number
abbrev pub without_number : (number : ℕ) → (opened : List Current) → List Current
without_number n [] = []
without_number n (c ∷ cs) = if c.number == n then cs else c ∷ without_number n cs

-- the opened request, for this next name and these live threads
abbrev pub opened_of : (next_name : ℕ) → (live : List Live) → Asked → Current
opened_of before ls a = record {
  number = a.number;
  request = a.request;
  before = before;
  left = steps_of a.request;
  due = live_of ls (targets_of a.request);
  operated = false;
}

-- the open requests after the oldest waiting request is opened
abbrev pub open_next : (next_name : ℕ) → (live : List Live) → (waiting : List Asked) → (opened : List Current) → List Current
open_next before ls [] cs = cs
open_next before ls (a ∷ rest) cs = cs ++ opened_of before ls a ∷ []

-- an open request after a Finish of the name
abbrev pub finished : (name : ℕ) → Current → Current
finished name c = record c { left = c.left - 1; due = others name c.due }

-- an open census after its Operate
abbrev pub as_operated : Current → Current
as_operated c = record c { left = c.left - 1; operated = true }

-- this is the free slot
abbrev pub is_free_slot : (slot : ℕ) → (free : Option ℕ) → Bool
is_free_slot slot None = false
is_free_slot slot (Some free) = free == slot

-- Whether an entry is lawful in a state. A Start takes the next name and a free place while no census is open. An Exit
-- takes a live name. An Ask takes the next number. An Open takes the oldest waiting request, if one more may be opened.
-- A Finish takes a live due name, in the order of numbers. An Operate takes a census that isn't operated, and a Close a
-- request that is done. An Install takes the next serial and the free slot, for a method without code in use. An
-- Invalidate, Retire or Free takes an unfreed code in the state before.
abbrev pub lawful : State → Entry → Bool
lawful s (Start name place) = (name == s.next_name) && (not (is_taken place s.live) && not (has_census s.opened))
lawful s (Exit name) = is_live name s.live
lawful s (Ask n request) = n == s.next_number
lawful s (Open n) = may_open_more s.waiting s.opened && is_first n s.waiting
lawful s (Finish n name reply) = (passes (is_due name) (open_of n s.opened) && is_live name s.live) && is_least n name s.opened
lawful s (Operate n) = passes may_operate (open_of n s.opened)
lawful s (Close n) = passes (may_close s.live) (open_of n s.opened)
lawful s (Install code method) = (code.serial == next_serial s.table.codes) && (is_free_slot code.slot (free_slot s.table.codes s.table.slots) && (is_none (in_use_for s.table.codes method) && is_none (install_fault s.table method)))
lawful s (Invalidate serial) = is_none (invalidate_fault (unfreed s.table.codes serial))
lawful s (Retire serial) = is_none (retire_fault (unfreed s.table.codes serial))
lawful s (Free serial) = is_none (free_fault (unfreed s.table.codes serial))

abbrev pub with_table : State → TableView → State
with_table s t = record s { table = t }

abbrev pub with_opened : State → (opened : List Current) → State
with_opened s cs = record s { opened = cs }

-- the state after an entry
abbrev pub step : State → Entry → State
step s (Start name place) = record s { next_name = s.next_name + 1; live = s.live ++ record { name = name; place = place } ∷ [] }
step s (Exit name) = record s { live = without name s.live }
step s (Ask n request) = record s { next_number = s.next_number + 1; waiting = s.waiting ++ record { number = n; request = request } ∷ [] }
step s (Open n) = record s { waiting = rest_of s.waiting; opened = open_next s.next_name s.live s.waiting s.opened }
step s (Finish n name reply) = with_opened s (at_number (finished name) n s.opened)
step s (Operate n) = with_opened s (at_number as_operated n s.opened)
step s (Close n) = with_opened s (without_number n s.opened)
step s (Install code method) = with_table s (with_codes s.table (with_code s.table.codes method code.slot))
step s (Invalidate serial) = with_table s (with_codes s.table (with_state s.table.codes serial state.NotEntrant))
step s (Retire serial) = with_table s (with_codes s.table (with_state s.table.codes serial state.Zombie))
step s (Free serial) = with_table s (with_codes s.table (with_state s.table.codes serial state.Freed))

abbrev pub empty_table : (slots methods : ℕ) → TableView
empty_table slots methods = record { codes = []; slots = slots; methods = methods }

-- the state of an empty history. Names and numbers begin at 1
abbrev pub start : (slots methods : ℕ) → State
start slots methods = record { next_name = 1; live = []; next_number = 1; waiting = []; opened = []; table = empty_table slots methods }

-- the state after the entries, from this state
abbrev pub after_from : State → List Entry → State
after_from s [] = s
after_from s (e ∷ es) = after_from (step s e) es

-- each entry is lawful in the state after the entries before it, from this state
abbrev pub legal_from : State → List Entry → Bool
legal_from s [] = true
legal_from s (e ∷ es) = lawful s e && legal_from (step s e) es

-- the state after a history. A proof opens this definition by `unfolding`
unfoldable pub after : (slots methods : ℕ) → (history : List Entry) → State
after slots methods h = after_from (start slots methods) h

-- each entry is lawful in the state after the entries before it
unfoldable pub is_legal : (slots methods : ℕ) → (history : List Entry) → Bool
is_legal slots methods h = legal_from (start slots methods) h

-- a receipt as contracts see it: an entry and its place in the history
pub record Stands : Type 0 where
  pub place : ℕ
  pub entry : Entry

abbrev pub stands : (place : ℕ) → Entry → Stands
stands k e = record { place = k; entry = e }

-- how many first entries no longer count, and the last operation whose replies were forgotten
pub record Gone : Type 0 where
  pub entries : ℕ
  pub operations : ℕ

-- the entries, how many more have reserved room, and what was forgotten
pub record Book : Type 0 where
  pub history : List Entry
  pub reserved : ℕ
  pub gone : Gone
