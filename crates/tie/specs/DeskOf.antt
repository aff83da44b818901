-- The desk of a world: the state of the desk's list machine that corresponds to this world of the core, and the entries that each event
-- makes.
use Rattle.std.specs.Prelude.{◌≡◌, ℕ, zero, suc, ◌+◌, ◌-◌, Bool, true, false, not, ◌&&◌, ◌==◌, List, [], ◌∷◌, ◌++◌, map, filter, find, count_by, option_map, Option, Some, None, if◌then◌else◌}
use Rattle.method_table.specs.Codes.{in_use_for, free_slot}
use Rattle.operations.specs.Names.{among}
use Rattle.operations.specs.Requests.{is_census}
use Rattle.system.specs.declared.events.Act.TheVariants as act
use Rattle.system.specs.declared.events.Event.{Event}
use Rattle.system.specs.declared.events.Event.TheVariants as event
use Rattle.system.specs.declared.answers.Answer.{Answer}
use Rattle.system.specs.declared.answers.Refusal.{Refusal}
use Rattle.system.specs.declared.answers.Answer.TheVariants as answer
use Rattle.system.specs.Threads.{Thread}
use Rattle.system.specs.Operations.{Requests, Waiting, Opened, Mark, is_marked}
use Rattle.system.specs.Places.{is_undone}
use Rattle.system.specs.Log.{Entry as Logged, names_given, operations_given}
use Rattle.system.specs.World.{World, start_world, thread_at}
use Rattle.system.specs.Runs.{after, answer_to, world_after}
use Rattle.desk.specs.declared.entries.Live.{Live}
use Rattle.desk.specs.declared.entries.Entry.{Entry}
use Rattle.desk.specs.declared.entries.Entry.TheVariants.{Start, Exit, Ask, Open, Finish, Operate, Close, Install, Invalidate, Retire, Free}
use Rattle.desk.specs.Machine.{State, Asked, Current, targets_of, steps_of, is_legal, legal_from, after_from, after as state_after}
use Rattle.desk.specs.Once.{replies_of}

-- 1. The state

-- The place of the thread with this name, if there is one.
abbrev pub seat_of : ℕ → List (Option Thread) → Option ℕ
seat_of name [] = None
seat_of name (None ∷ places) = option_map (λ place. 1 + place) (seat_of name places)
seat_of name (Some t ∷ places) = if t.name == name then Some 0 else option_map (λ place. 1 + place) (seat_of name places)

abbrev pub live_by : ℕ → Option ℕ → List Live
live_by name None = []
live_by name (Some place) = record { name = name; place = place } ∷ []

-- The live threads among the first n names, with their places, in the order in which they started, which is that of their names.
abbrev pub live_to : ℕ → List (Option Thread) → List Live
live_to zero places = []
live_to (suc n) places = live_to n places ++ live_by (suc n) (seat_of (suc n) places)

-- A request that is asked and not yet open.
abbrev pub asked_of : Waiting → Asked
asked_of waiting = record { number = waiting.number; request = waiting.request }

-- The entry opened the operation of this number; below, the next name at that time.
abbrev pub opens_it : ℕ → Event → Answer → Bool
opens_it n event.Open (answer.Opened m kind) = m == n
opens_it n event given = false

abbrev pub name_at_open : ℕ → List Logged → ℕ
name_at_open n [] = 1
name_at_open n (entry ∷ before) = if opens_it n entry.event entry.answer then names_given before + 1 else name_at_open n before

-- How many threads have processed an operation.
abbrev pub times_done : ℕ → List Mark → ℕ
times_done n marks = count_by (λ mark. mark.operation == n) marks

-- How many entries the open operation can still make before its Close: one Operate, or a Finish of each remaining target.
abbrev pub left_of : List Mark → Opened → ℕ
left_of done o = if is_census o.request then (if o.operated then 0 else 1) else steps_of o.request - times_done o.number done

-- The targets that were live at the Open and have no Finish yet. The desk has no Clear: a target with a Finish is no longer pending.
abbrev pub due_of : List Mark → Opened → List ℕ
due_of done o = filter (λ name. among name o.live && not (is_marked done o.number name)) (targets_of o.request)

abbrev pub current_of : List Mark → List Logged → Opened → Current
current_of done log o = record {
  number = o.number;
  request = o.request;
  before = name_at_open o.number log;
  left = left_of done o;
  due = due_of done o;
  operated = o.operated;
}

-- The state of the desk's machine.
abbrev pub desk_of : World → State
desk_of w = record {
  next_name = names_given w.log + 1;
  live = live_to (names_given w.log) w.places;
  next_number = operations_given w.log + 1;
  waiting = map asked_of w.requests.waiting;
  opened = map (current_of w.requests.done w.log) w.requests.opened;
  table = record { codes = w.codes; slots = w.slots; methods = w.methods };
}

-- 2. The entries of an event

-- An entry for what a search found.
abbrev pub for_found : {A : Type 0} → Option A → (A → List Entry) → List Entry
for_found None entries = []
for_found (Some x) entries = entries x

-- The operation of the thread's next Finish: the lowest one that was told to the thread (a Tell armed its poll) and that it hasn't
-- finished.
abbrev pub next_of : Requests → Thread → Option Opened
next_of requests t = find (is_undone requests t.name) requests.opened

abbrev pub finish_entries : Requests → ℕ → Thread → List Entry
finish_entries requests reply t = for_found (next_of requests t) (λ o. Finish o.number t.name reply ∷ [])

-- The oldest open operation. While a census is open it is the only one.
abbrev pub oldest_of : List Opened → Option Opened
oldest_of [] = None
oldest_of (opened ∷ others) = Some opened

-- Installs a new code in the slot. If that replaces code in use, an Invalidate of the old code comes first.
abbrev pub install_entries : World → ℕ → ℕ → List Entry
install_entries w method serial =
    for_found (in_use_for w.codes method) (λ old. Invalidate old.serial ∷ [])
    ++ for_found (free_slot w.codes w.slots) (λ slot. Install (record { slot = slot; serial = serial }) method ∷ [])

-- The entries of an event with its answer, in the world before it. A refused event makes none, and neither does an event that isn't listed
-- here.
abbrev pub entries_of : World → Event → Answer → List Entry
entries_of w event.Start (answer.Thread name place) = Start name place ∷ []
entries_of w (event.At place act.Exit) (answer.Exited name) = Exit name ∷ []
entries_of w (event.At place act.Finish) (answer.Reply reply) = for_found (thread_at w place) (finish_entries w.requests reply)
entries_of w (event.Ask request) (answer.Asked number) = Ask number request ∷ []
entries_of w event.Open (answer.Opened number kind) = Open number ∷ []
entries_of w event.Operate (answer.Census counts) = for_found (oldest_of w.requests.opened) (λ o. Operate o.number ∷ [])
entries_of w (event.Close chosen) (answer.Closed number) = Close number ∷ []
entries_of w (event.Install method) (answer.Code serial) = install_entries w method serial
entries_of w (event.Invalidate serial) answer.Done = Invalidate serial ∷ []
entries_of w (event.Weigh serial) answer.Retired = Retire serial ∷ []
entries_of w (event.Free serial) answer.Done = Free serial ∷ []
entries_of w event given = []

-- The entries of a list of events, in order.
abbrev pub entries_of_run : World → List Event → List Entry
entries_of_run w [] = []
entries_of_run w (event ∷ events) = entries_of w event (answer_to w event) ++ entries_of_run (after w event) events

-- 3. Replies

-- The reply that an event gives to the operation, with the name of the thread.
abbrev pub reply_by : ℕ → ℕ → ℕ → Option Opened → List (ℕ × ℕ)
reply_by n name reply None = []
reply_by n name reply (Some o) = if o.number == n then (name, reply) ∷ [] else []

abbrev pub reply_of : ℕ → Requests → ℕ → Option Thread → List (ℕ × ℕ)
reply_of n requests reply None = []
reply_of n requests reply (Some t) = reply_by n t.name reply (next_of requests t)

abbrev pub reply_given : ℕ → World → Event → Answer → List (ℕ × ℕ)
reply_given n w (event.At place act.Finish) (answer.Reply reply) = reply_of n w.requests reply (thread_at w place)
reply_given n w event given = []

-- The replies that the core gives to an operation, with the names of the threads, in their order.
abbrev pub replies_in : ℕ → World → List Event → List (ℕ × ℕ)
replies_in n w [] = []
replies_in n w (event ∷ events) = reply_given n w event (answer_to w event) ++ replies_in n (after w event) events

-- 4. The laws

-- The event's entries take the desk of the world before it to that of the world after it, and each entry is lawful where it is made.
pub record IsItsEntries (w : World) (event : Event) : Type 0 where
  pub legal : legal_from (desk_of w) (entries_of w event (answer_to w event)) ≡ true
  pub state : after_from (desk_of w) (entries_of w event (answer_to w event)) ≡ desk_of (after w event)

-- This holds of every next event, after any events.
abbrev pub EventsAreTheirEntries : Type 0
EventsAreTheirEntries = (places slots methods : ℕ) (events : List Event) (event : Event)
    → IsItsEntries (world_after (start_world places slots methods) events) event

-- The entries of any events are a legal history, whose final state is the desk of the world after them.
abbrev pub HistoriesAreLegal : Type 0
HistoriesAreLegal = (places slots methods : ℕ) (events : List Event)
    → is_legal slots methods (entries_of_run (start_world places slots methods) events) ≡ true

abbrev pub DesksFollowTheEvents : Type 0
DesksFollowTheEvents = (places slots methods : ℕ) (events : List Event)
    → state_after slots methods (entries_of_run (start_world places slots methods) events) ≡ desk_of (world_after (start_world places slots methods) events)

-- The replies of the history are those of the core.
abbrev pub RepliesAreTheCores : Type 0
RepliesAreTheCores = (places slots methods n : ℕ) (events : List Event)
    → replies_of n (entries_of_run (start_world places slots methods) events) ≡ replies_in n (start_world places slots methods) events

-- One more event appends its entries.
abbrev pub EntriesAreAppended : Type 0
EntriesAreAppended = (places slots methods : ℕ) (events : List Event) (event : Event)
    → entries_of_run (start_world places slots methods) (events ++ event ∷ [])
    ≡ entries_of_run (start_world places slots methods) events
    ++ entries_of (world_after (start_world places slots methods) events) event (answer_to (world_after (start_world places slots methods) events) event)

-- A refused event makes no entry, in any world.
abbrev pub RefusedEnterNothing : Type 0
RefusedEnterNothing = (w : World) (event : Event) (refusal : Refusal) → entries_of w event (answer.Refused refusal) ≡ []

-- Take a desk with a legal history whose state is that of the world after some events. If it makes the entries of the next events, its
-- history is still legal, and its state is that of the world after those.
abbrev pub DesksGoOn : Type 0
DesksGoOn = (places slots methods : ℕ) (before events : List Event) (history : List Entry)
    → is_legal slots methods history ≡ true
    → state_after slots methods history ≡ desk_of (world_after (start_world places slots methods) before)
    → (is_legal slots methods (history ++ entries_of_run (world_after (start_world places slots methods) before) events) ≡ true)
    × (state_after slots methods (history ++ entries_of_run (world_after (start_world places slots methods) before) events) ≡ desk_of (world_after (world_after (start_world places slots methods) before) events))
