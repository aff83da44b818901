-- The conditions of each kind of accepted event, and the world after it: one record for each kind.
use Rattle.std.specs.Prelude.{◌≡◌, ◌≢◌, ◌⊎◌, ℕ, pos, ◌-ℤ◌, ◌+◌, ◌<◌, ◌≤◌, Bool, true, false, not, ◌&&◌, ◌==◌, length, List, [], ◌∷◌, ◌++◌, map, filter, Option, Some, None, is_none, find, slice_get, slice_set}
use Rattle.std.specs.List.{list_any}
use Rattle.frames.specs.declared.CodeId.{CodeId}
use Rattle.thread_state.specs.declared.State.{State}
use Rattle.thread_state.specs.declared.Move.{Move}
use Rattle.thread_state.specs.declared.Move.TheVariants as move
use Rattle.method_table.specs.declared.Code.{Code}
use Rattle.method_table.specs.declared.CodeState.{CodeState}
use Rattle.method_table.specs.declared.CodeState.TheVariants.{InUse, NotEntrant}
use Rattle.operations.specs.declared.Request.{Request}
use Rattle.system.specs.declared.events.Act.{Act}
use Rattle.system.specs.declared.events.Act.TheVariants as act
use Rattle.system.specs.declared.events.Event.{Event}
use Rattle.system.specs.declared.answers.Answer.{Answer}
use Rattle.system.specs.declared.answers.Answer.TheVariants as answer
use Rattle.thread_state.specs.States.{step, cross, is_safe}
use Rattle.method_table.specs.Numbers.{last_number}
use Rattle.method_table.specs.Codes.{id_of, is_in_use, code_of, unfreed, in_use_for, free_slot, next_serial}
use Rattle.operations.specs.Names.{is_empty}
use Rattle.operations.specs.Requests.{is_census, lists, is_target, has_targets, are_targets}
use Rattle.frames.specs.Stack as stack
use Rattle.system.specs.Threads.{Thread, is_publishing, changed_codes, next_change, is_settled}
use Rattle.system.specs.Operations.{Requests, Waiting, Opened, is_marked, with_mark, marks_of, poll_of, is_safepoint}
use Rattle.system.specs.Log.{names_given, operations_given}
use Rattle.system.specs.World.{World, live_names, is_live_target, vacant_place, walk, covered}
use Rattle.system.specs.Places.{is_lawful, go_or_stop, is_undone, is_uncleared}
use Rattle.system.specs.Step.{unlooked, may_tell, all_threads, operated_if, is_over}

-- The world after an accepted event: only the log changes; or also a place, the codes or the requests.
abbrev pub noted : World → Event → Answer → World
noted w e a = record w { log = record { event = e; answer = a } ∷ w.log }

abbrev pub seated : World → ℕ → Option Thread → Event → Answer → World
seated w p o e a = record w { places = slice_set w.places p o; log = record { event = e; answer = a } ∷ w.log }

abbrev pub coded : World → List Code → Event → Answer → World
coded w codes e a = record w { codes = codes; log = record { event = e; answer = a } ∷ w.log }

abbrev pub asked : World → Requests → Event → Answer → World
asked w requests e a = record w { requests = requests; log = record { event = e; answer = a } ∷ w.log }

-- The thread after an act.
abbrev pub begun : Thread → Thread
begun t = record t { changed = Some [] }

abbrev pub changed_by : Thread → CodeId → Thread
changed_by t code = record t { changed = Some (code ∷ changed_codes t) }

abbrev pub ended : Thread → Thread
ended t = record t { shown = t.stack; published = true; changed = None }

abbrev pub entered : Thread → ℕ → Option CodeId → Thread
entered t method code = record t { stack = t.stack ++ record { method = method; code = code } ∷ [] }

abbrev pub moved : Thread → State → Thread
moved t state = record t { state = state }

abbrev pub held : Thread → Thread
held t = record t { held = true }

abbrev pub released : Thread → Thread
released t = record t { held = false }

-- The difference in the answer to a change.
abbrev pub difference : Thread → CodeId → Answer
difference t code = answer.Changed code.serial (pos (stack.act code t.stack) -ℤ pos (stack.act code t.shown))

-- The requests after an event.
abbrev pub with_done : Requests → Opened → ℕ → Requests
with_done requests opened name = record requests { done = with_mark requests.done opened.number name }

abbrev pub with_cleared : Requests → Opened → ℕ → Requests
with_cleared requests opened name = record requests { cleared = with_mark requests.cleared opened.number name }

abbrev pub with_told : Requests → Opened → ℕ → Requests
with_told requests opened name = record requests { told = with_mark requests.told opened.number name }

-- A thread is at a place.
pub record Stands (w : World) (p : ℕ) (t : Thread) : Type 0 where
  pub there : slice_get w.places p ≡ Some (Some t)
  pub low : p < length w.places

-- A thread without an open publication acts in a state in which the act is lawful.
pub record Acts (w : World) (p : ℕ) (t : Thread) (a : Act) : Type 0 where
  pub stands : Stands w p t
  pub quiet : is_publishing t ≡ false
  pub lawful : is_lawful a t ≡ true

-- The thread at a place has an open publication.
pub record Publishes (w : World) (p : ℕ) (t : Thread) : Type 0 where
  pub stands : Stands w p t
  pub publishing : is_publishing t ≡ true

-- The acts that change only the state.
abbrev pub is_move : Act → Bool
is_move act.Wake = true
is_move act.Cross = true
is_move act.Edge = true
is_move act.ToVm = true
is_move act.FromVm = true
is_move act.ToNative = true
is_move act.Block = true
is_move act.Take = true
is_move other = false

-- The move of such an act, none if the act polls.
abbrev pub move_of : Act → Option Move
move_of act.Wake = Some move.Wake
move_of act.ToVm = Some move.ToVm
move_of act.ToNative = Some move.ToNative
move_of act.Block = Some move.Block
move_of act.Take = Some move.Take
move_of other = None

-- A thread changes its state by a move or by a poll.
pub record ByMove (w : World) (a : Act) (t : Thread) (state : State) (given : Answer) : Type 0 where
  pub by : Move
  pub is : move_of a ≡ Some by
  pub goes : step t.state by ≡ Some state
  pub done : given ≡ answer.Done

pub record ByPoll (w : World) (t : Thread) (state : State) (given : Answer) : Type 0 where
  pub goes : cross t.state (is_none (poll_of w.requests t.name)) ≡ Some state
  pub says : given ≡ go_or_stop (poll_of w.requests t.name)

pub record Moves (w : World) (p : ℕ) (t : Thread) (a : Act) (state : State) (given : Answer) : Type 0 where
  pub acts : Acts w p t a
  pub is : is_move a ≡ true
  pub free : (t.held ≡ false) ⊎ (is_safe t.state ≡ false)
  pub way : ByMove w a t state given ⊎ ByPoll w t state given

pub record Changes (w : World) (p : ℕ) (t : Thread) (code : CodeId) : Type 0 where
  pub publishes : Publishes w p t
  pub next : next_change t ≡ Some code

pub record Ends (w : World) (p : ℕ) (t : Thread) : Type 0 where
  pub publishes : Publishes w p t
  pub none : next_change t ≡ None

-- A call that passed its tests.
pub record Calls (w : World) (p : ℕ) (t : Thread) (method : ℕ) (serial : Option ℕ) : Type 0 where
  pub acts : Acts w p t (act.Enter method serial)
  pub low_method : method < w.methods
  pub published : t.published ≡ true
  pub room : length t.stack < 256

pub record Enters (w : World) (p : ℕ) (t : Thread) (method serial : ℕ) (code : Code) : Type 0 where
  pub calls : Calls w p t method (Some serial)
  pub code_is : code_of w.codes serial ≡ Some code
  pub serial_is : code.serial ≡ serial
  pub in_use : code.state ≡ InUse
  pub method_is : code.method ≡ method

pub record Misses (w : World) (p : ℕ) (t : Thread) (method serial : ℕ) (code : Code) : Type 0 where
  pub calls : Calls w p t method (Some serial)
  pub code_is : code_of w.codes serial ≡ Some code
  pub serial_is : code.serial ≡ serial
  pub not_in_use : is_in_use code.state ≡ false

pub record Leaves (w : World) (p : ℕ) (t : Thread) (state : State) : Type 0 where
  pub acts : Acts w p t act.Leave
  pub some : is_empty t.stack ≡ false
  pub goes : cross t.state (is_none (poll_of w.requests t.name)) ≡ Some state
  pub unsafe : is_safe t.state ≡ false

pub record Exits (w : World) (p : ℕ) (t : Thread) : Type 0 where
  pub acts : Acts w p t act.Exit
  pub empty : is_empty t.stack ≡ true
  pub settled : is_settled t ≡ true
  pub nothing_told : poll_of w.requests t.name ≡ None

-- An open operation with its index.
pub record IsOpen (w : World) (opened : Opened) : Type 0 where
  pub position : ℕ
  pub here : slice_get w.requests.opened position ≡ Some opened

-- The least operation told to the thread that isn't done, or isn't cleared.
pub record Finishes (w : World) (p : ℕ) (t : Thread) (opened : Opened) : Type 0 where
  pub acts : Acts w p t act.Finish
  pub listed : list_any (λ o. lists o.request t.name) w.requests.opened ≡ true
  pub least : find (is_undone w.requests t.name) w.requests.opened ≡ Some opened
  pub open_is : IsOpen w opened
  pub told : is_marked w.requests.told opened.number t.name ≡ true
  pub not_done : is_marked w.requests.done opened.number t.name ≡ false
  pub settled : is_settled t ≡ true

pub record Clears (w : World) (p : ℕ) (t : Thread) (opened : Opened) : Type 0 where
  pub acts : Acts w p t act.Clear
  pub least : find (is_uncleared w.requests t.name) w.requests.opened ≡ Some opened
  pub open_is : IsOpen w opened
  pub told : is_marked w.requests.told opened.number t.name ≡ true
  pub done : is_marked w.requests.done opened.number t.name ≡ true
  pub not_cleared : is_marked w.requests.cleared opened.number t.name ≡ false

-- An operation is told and not cleared.
pub record Holds (w : World) (p : ℕ) (t : Thread) (opened : Opened) : Type 0 where
  pub acts : Acts w p t act.Hold
  pub open_is : IsOpen w opened
  pub told : is_marked w.requests.told opened.number t.name ≡ true
  pub not_cleared : is_marked w.requests.cleared opened.number t.name ≡ false
  pub not_held : t.held ≡ false
  pub safe : is_safe t.state ≡ true

pub record Releases (w : World) (p : ℕ) (t : Thread) : Type 0 where
  pub acts : Acts w p t act.Release
  pub was_held : t.held ≡ true

pub record Starts (w : World) (p : ℕ) : Type 0 where
  pub no_safepoint : is_safepoint w.requests ≡ false
  pub least : vacant_place w.places ≡ Some p
  pub vacant : slice_get w.places p ≡ Some None
  pub low : p < length w.places
  pub room : names_given w.log < last_number

pub record Installs (w : World) (method slot : ℕ) : Type 0 where
  pub low_method : method < w.methods
  pub none_in_use : in_use_for w.codes method ≡ None
  pub least : free_slot w.codes w.slots ≡ Some slot
  pub room : next_serial w.codes ≤ last_number

-- The unfreed code of a serial, in this state.
pub record IsCode (w : World) (serial : ℕ) (code : Code) (state : CodeState) : Type 0 where
  pub found : unfreed w.codes serial ≡ Some code
  pub serial_is : code.serial ≡ serial
  pub state_is : code.state ≡ state

pub record Looks (w : World) (serial p : ℕ) (code : Code) (clear : Bool) : Type 0 where
  pub code_is : IsCode w serial code NotEntrant
  pub low : p < length w.places
  pub covered_is : covered w p serial ≡ clear

pub record FindsUnlooked (w : World) (serial : ℕ) (code : Code) (p : ℕ) : Type 0 where
  pub code_is : IsCode w serial code NotEntrant
  pub least : unlooked w serial ≡ Some p

pub record FindsUsed (w : World) (serial : ℕ) (code : Code) : Type 0 where
  pub code_is : IsCode w serial code NotEntrant
  pub all_looked : unlooked w serial ≡ None
  pub used : walk w (id_of code) ≢ 0

pub record Retires (w : World) (serial : ℕ) (code : Code) : Type 0 where
  pub code_is : IsCode w serial code NotEntrant
  pub all_looked : unlooked w serial ≡ None
  pub unused : walk w (id_of code) ≡ 0

pub record Asks (w : World) (request : Request) : Type 0 where
  pub room : operations_given w.log < last_number
  pub queue_room : length w.requests.waiting < 64
  pub some_target : has_targets request ≡ true
  pub lawful_targets : are_targets request ≡ true

pub record Opens (w : World) (oldest : Waiting) (others : List Waiting) : Type 0 where
  pub few : length w.requests.opened < 4
  pub no_safepoint : is_safepoint w.requests ≡ false
  pub alone : is_census oldest.request ≡ true → w.requests.opened ≡ []
  pub waiting_is : w.requests.waiting ≡ oldest ∷ others

-- The least operation that has the thread as a live target and wasn't told to it.
pub record Tells (w : World) (name : ℕ) (opened : Opened) : Type 0 where
  pub least : find (λ o. not (is_marked w.requests.told o.number name)) (filter (λ o. is_live_target w o name) w.requests.opened) ≡ Some opened
  pub open_is : IsOpen w opened
  pub live : is_live_target w opened name ≡ true
  pub not_told : is_marked w.requests.told opened.number name ≡ false

pub record FindsGone (w : World) (name : ℕ) : Type 0 where
  pub may : list_any (λ o. may_tell w o.request name) w.requests.opened ≡ true
  pub gone : filter (λ o. is_live_target w o name) w.requests.opened ≡ []

pub record Operates (w : World) (opened : Opened) (others : List Opened) : Type 0 where
  pub opened_is : w.requests.opened ≡ opened ∷ others
  pub census : is_census opened.request ≡ true
  pub not_operated : opened.operated ≡ false
  pub held : all_threads (λ t. t.held) w ≡ true
  pub quiet : all_threads (λ t. not (is_publishing t)) w ≡ true
  pub settled : all_threads is_settled w ≡ true

pub record Closes (w : World) (opened : Opened) : Type 0 where
  pub open_is : IsOpen w opened
  pub none_held : all_threads (λ t. not (t.held && is_target opened.request t.name)) w ≡ true
  pub over : is_over w opened ≡ true

-- The requests after Ask, Open, Operate and Close.
abbrev pub with_request : World → Request → Requests
with_request w request = record w.requests { waiting = w.requests.waiting ++ record { number = operations_given w.log + 1; request = request } ∷ [] }

abbrev pub newly_opened : World → Waiting → Opened
newly_opened w oldest = record {
  number = oldest.number;
  request = oldest.request;
  live = filter (is_target oldest.request) (live_names w);
  operated = false;
}

abbrev pub with_opened : World → Waiting → List Waiting → Requests
with_opened w oldest others = record w.requests { waiting = others; opened = w.requests.opened ++ newly_opened w oldest ∷ [] }

abbrev pub with_operated : World → Opened → Requests
with_operated w opened = record w.requests {
  opened = map (operated_if opened.number) w.requests.opened;
  done = marks_of opened.number (live_names w) ++ w.requests.done;
}

abbrev pub without_opened : World → Opened → Requests
without_opened w opened = record w.requests { opened = filter (λ o. not (o.number == opened.number)) w.requests.opened }
