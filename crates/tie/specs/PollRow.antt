-- The poll row of a world: the word of each place, and the numbers that were last armed and cleared there. And the step that each event
-- makes on the row.
use Rattle.std.specs.Prelude.{◌≡◌, ℕ, ◌+◌, Bool, false, not, ◌==◌, List, [], ◌∷◌, filter, Option, Some, None, unwrap_or, find, if◌then◌else◌}
use Rattle.thread_state.specs.declared.poll_rule.Deed.{Deed}
use Rattle.thread_state.specs.declared.poll_rule.Deed.TheVariants.{Load, Store, Exchange}
use Rattle.system.specs.declared.events.Act.TheVariants as act
use Rattle.system.specs.declared.events.Event.{Event}
use Rattle.system.specs.declared.events.Event.TheVariants as event
use Rattle.system.specs.declared.answers.Answer.{Answer}
use Rattle.system.specs.declared.answers.Answer.TheVariants as answer
use Rattle.operations.specs.Names.{is_empty}
use Rattle.thread_state.specs.PollRule.{PlaceState, IsPollKept, RowStep}
use Rattle.system.specs.Threads.{Thread}
use Rattle.system.specs.Operations.{Requests, Opened, Mark, is_marked, poll_of}
use Rattle.system.specs.Places.{is_uncleared}
use Rattle.system.specs.Log.{Entry}
use Rattle.system.specs.World.{World, start_world, thread_at, is_live_target}
use Rattle.system.specs.Runs.{after, answer_to, world_after}
use Rattle.system.specs.Ran.{name_in}
use Rattle.system.specs.Safepoints.{is_accepted}

-- 1. What the log and the marks say of a place

-- The event, with this answer after these entries, is a Tell that arms the poll of the thread at the place for an operation.
abbrev pub tells : ℕ → Event → Answer → List Entry → Bool
tells place (event.Tell name) answer.Told before = name_in place before == name
tells place event answer before = false

-- The accepted event clears an operation for the thread at the place.
abbrev pub clears : ℕ → Event → Bool
clears place (event.At p act.Clear) = p == place
clears place event = false

-- The operation of the newest mark, 0 for none; and the marks before that one.
abbrev pub newest : List Mark → ℕ
newest [] = 0
newest (mark ∷ marks) = mark.operation

abbrev pub older : List Mark → List Mark
older [] = []
older (mark ∷ marks) = marks

-- The definitions below walk the log and the marks together, the newest first. Each Tell that is answered Told makes one told mark, and
-- each Clear one cleared mark. So the newest mark belongs to the newest such entry, and only this mark is missing before that entry.

-- The told marks, or the cleared marks, as they were before this entry, out of the marks after it.
abbrev pub told_before : Event → Answer → List Mark → List Mark
told_before (event.Tell name) answer.Told told = older told
told_before event answer told = told

abbrev pub cleared_before : Event → List Mark → List Mark
cleared_before (event.At place act.Clear) cleared = older cleared
cleared_before event cleared = cleared

-- The operation for which the place was last armed, 0 where there was none: that of the newest Tell there. It stays when the thread exits
-- and another one starts there. `told` has the told marks at the end of this log.
abbrev pub armed_at : ℕ → List Mark → List Entry → ℕ
armed_at place told [] = 0
armed_at place told (entry ∷ before) =
    if tells place entry.event entry.answer before then newest told else armed_at place (told_before entry.event entry.answer told) before

-- The operations for which the place was armed and which aren't cleared there yet, the newest first. A Tell at the place adds one, and a
-- Clear there removes one. `told` and `cleared` are the marks at the end of this log.
abbrev pub uncleared_at : ℕ → List Mark → List Mark → List Entry → List ℕ
uncleared_at place told cleared [] = []
uncleared_at place told cleared (entry ∷ before) =
    if tells place entry.event entry.answer before then newest told ∷ uncleared_at place (older told) cleared before
    else (if clears place entry.event then filter (λ n. not (n == newest cleared)) (uncleared_at place told (older cleared) before)
    else uncleared_at place (told_before entry.event entry.answer told) (cleared_before entry.event cleared) before)

-- The operation for which the place had last been armed at the latest time when it had no uncleared operation. The walk goes back until
-- `uncleared_at` is empty, and answers `armed_at` of that time.
abbrev pub cleared_at : ℕ → List Mark → List Mark → List Entry → ℕ
cleared_at place told cleared [] = 0
cleared_at place told cleared (entry ∷ before) =
    if is_empty (uncleared_at place told cleared (entry ∷ before)) then armed_at place told (entry ∷ before)
    else cleared_at place (told_before entry.event entry.answer told) (cleared_before entry.event cleared) before

-- 2. The row

-- The poll word: n where a poll of the thread stops for n, 0 where it goes on or where the place is vacant.
abbrev pub word_of : Requests → Option Thread → ℕ
word_of requests None = 0
word_of requests (Some t) = unwrap_or (poll_of requests t.name) 0

-- The poll row of a world.
abbrev pub row_of : World → ℕ → PlaceState
row_of w place = record { word = word_of w.requests (thread_at w place); armed = armed_at place w.requests.told w.log; cleared = cleared_at place w.requests.told w.requests.cleared w.log }

-- 3. The step that an event is

-- A step of the row: its place, what the seat does there, and the value that it meets.
pub record PollDeed : Type 0 where
  pub place : ℕ
  pub deed : Deed

-- The number of the operation that a search found, 0 where there is none.
abbrev pub number_of : Option Opened → ℕ
number_of None = 0
number_of (Some opened) = opened.number

-- The operation for which the next Tell of the name arms: the lowest that has the name as a live target and that no Tell has made pending
-- for it yet.
abbrev pub tells_next : World → ℕ → ℕ
tells_next w name = number_of (find (λ o. not (is_marked w.requests.told o.number name)) (filter (λ o. is_live_target w o name) w.requests.opened))

-- The operation of the thread's next Clear: the lowest that was told to it and isn't cleared.
abbrev pub clears_next : Requests → Option Thread → ℕ
clears_next requests None = 0
clears_next requests (Some t) = number_of (find (is_uncleared requests t.name) requests.opened)

-- The place of the thread with this name; the number of places where there is no such thread.
abbrev pub place_of : List (Option Thread) → ℕ → ℕ
place_of [] name = 0
place_of (None ∷ places) name = 1 + place_of places name
place_of (Some t ∷ places) name = if t.name == name then 0 else 1 + place_of places name

-- The poller of the place loads the place's word.
abbrev pub load : World → ℕ → Option PollDeed
load w place = Some (record { place = place; deed = Load (row_of w place).word })

-- The poller of the place exchanges the word for 0 if it is the number that the Clear clears. A greater number stays.
abbrev pub exchange : World → ℕ → Option PollDeed
exchange w place = Some (record { place = place; deed = Exchange (clears_next w.requests (thread_at w place)) (row_of w place).word })

-- The armer stores the number of the Tell's operation into the word of the thread's place.
abbrev pub store : World → ℕ → Option PollDeed
store w name = Some (record { place = place_of w.places name; deed = Store (place_of w.places name) (tells_next w name) })

-- The step of a Tell. There is none where the thread has exited.
abbrev pub told_step : World → ℕ → Answer → Option PollDeed
told_step w name answer.Told = store w name
told_step w name other = None

-- The step of an accepted event, by its answer. Only Tell, Clear and the events that poll make a step.
abbrev pub step_of : World → Event → Answer → Option PollDeed
step_of w (event.At place (act.Enter method (Some serial))) said = None
step_of w (event.At place (act.Enter method None)) said = None
step_of w (event.At place act.ToVm) said = None
step_of w (event.At place act.Begin) said = None
step_of w (event.At place act.Change) said = None
step_of w (event.At place act.End) said = None
step_of w (event.At place act.Edge) said = load w place
step_of w (event.At place act.Leave) said = load w place
step_of w (event.At place act.Cross) said = load w place
step_of w (event.At place act.FromVm) said = load w place
step_of w (event.At place act.Clear) said = exchange w place
step_of w (event.At place act.ToNative) said = None
step_of w (event.At place act.Block) said = None
step_of w (event.At place act.Wake) said = None
step_of w (event.At place act.Take) said = None
step_of w (event.At place act.Hold) said = None
step_of w (event.At place act.Release) said = None
step_of w (event.At place act.Exit) said = None
step_of w (event.Tell name) said = told_step w name said
step_of w (event.At place act.Finish) said = None
step_of w event.Round said = None
step_of w (event.Look serial place) said = None
step_of w (event.Weigh serial) said = None
step_of w (event.Install method) said = None
step_of w (event.Invalidate serial) said = None
step_of w (event.Free serial) said = None
step_of w event.Start said = None
step_of w (event.Ask request) said = None
step_of w event.Open said = None
step_of w (event.Close number) said = None
step_of w event.Operate said = None
step_of w (event.At place act.Stack) said = None
step_of w (event.Count serial) said = None
step_of w (event.CodeState serial) said = None
step_of w (event.Resolve method) said = None

-- The step of an event. A refused event makes none.
abbrev pub polls_of : World → Event → Answer → Option PollDeed
polls_of w event said = if is_accepted said then step_of w event said else None

-- Exactly this step takes one row to the other.
abbrev pub IsPolled : ℕ → Option PollDeed → (ℕ → PlaceState) → (ℕ → PlaceState) → Type 0
IsPolled places None before after = (place : ℕ) → after place ≡ before place
IsPolled places (Some step) before after = RowStep places step.place step.deed before after

-- 4. The laws

-- The row of every world that events lead to satisfies the rule.
abbrev pub RowsKeepTheRule : Type 0
RowsKeepTheRule = (places slots methods : ℕ) (events : List Event) → IsPollKept places (row_of (world_after (start_world places slots methods) events))

-- The next event, whatever it is, changes the row by exactly its step.
abbrev pub ChangesByItsStep : ℕ → World → Event → Type 0
ChangesByItsStep places w next = IsPolled places (polls_of w next (answer_to w next)) (row_of w) (row_of (after w next))

-- This holds after any events.
abbrev pub EventsAreTheirPolls : Type 0
EventsAreTheirPolls = (places slots methods : ℕ) (events : List Event) (next : Event) → ChangesByItsStep places (world_after (start_world places slots methods) events) next
