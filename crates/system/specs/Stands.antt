-- A system stands for a list of events if its state matches the world after these events.
use Rattle.std.specs.Prelude.{Bool, true, false, nat_le, ◌&&◌, ◌≡◌, ℕ, ◌≤◌, ◌<◌, List, [], ◌∷◌, ◌++◌, length, map, Option, Some, None, slice_get, slice_index_or}
use Rattle.method_table.specs.declared.Code.{Code}
use Rattle.method_table.specs.declared.CodeState.TheVariants.{NotEntrant}
use Rattle.method_table.specs.Codes.{code_of, id_of, takes_slot, next_serial}
use Rattle.activation_index.specs.declared.Entry.{Entry as Cell}
use Rattle.activation_index.specs.Cells.{cell_of}
use Rattle.operations.specs.declared.queue.Waiting.{Waiting as Queued}
use Rattle.system.specs.declared.events.Event.{Event}
use Rattle.system.specs.declared.events.Event.TheVariants as event
use Rattle.system.specs.declared.events.Act.TheVariants as act
use Rattle.system.specs.declared.answers.Answer.{Answer}
use Rattle.system.specs.declared.thread.Moments.{Moments}
use Rattle.system.specs.declared.thread.Thread.{Thread as Kept}
use Rattle.system.specs.declared.records.Record.{Record}
use Rattle.system.specs.declared.keeping.Core.{Core}
use Rattle.system.specs.Operations.{Waiting}
use Rattle.system.specs.Log.{Entry, names_given, operations_given, moment, is_looked}
use Rattle.system.specs.Threads.{Thread}
use Rattle.system.specs.World.{World, start_world, thread_at, walk}
use Rattle.system.specs.Runs.{world_after, answer_to, after}
use Rattle.system.specs.Moments.{left_at, begun, ended}
use Rattle.system.specs.Facts.{IsSound}
use Rattle.system.specs.Marking.{SameThread}
use Rattle.system.specs.Marking.{SameMarks, SameOpens}

-- The sizes that a system may have: places, slots, methods. (our own limits)
abbrev pub are_sizes : ℕ → ℕ → ℕ → Bool
are_sizes places slots methods =
    nat_le 1 places && nat_le places 64 && nat_le 1 slots && nat_le slots 1024 && nat_le 1 methods && nat_le methods 256

-- The moments of a thread match the log.
pub record SameMoments (m : Moments) (log : List Entry) (place : ℕ) : Type 0 where
  pub begun_is : m.begun ≡ begun place log
  pub stored_is : m.stored ≡ ended place log

-- A thread of the system matches the thread of the world at the same place.
pub record SameAt (w : World) (place : ℕ) (kept : Kept) (t : Thread) : Type 0 where
  pub thread : SameThread kept t
  pub marks : SameMarks kept.marks w.requests t.name
  pub moments : SameMoments kept.moments w.log place

abbrev pub SamePlace : World → ℕ → Option Kept → Option Thread → Type 0
SamePlace w place None None = Unit {0}
SamePlace w place (Some kept) (Some t) = SameAt w place kept t
SamePlace w place None (Some t) = ⊥
SamePlace w place (Some kept) None = ⊥

-- The thread at a place, none past the end of the list.
abbrev pub held_at : Option (Option Kept) → Option Kept
held_at None = None
held_at (Some kept) = kept

abbrev pub kept_at : List (Option Kept) → ℕ → Option Kept
kept_at kepts place = held_at (slice_get kepts place)

-- All places match.
pub record SamePlaces (kepts : List (Option Kept)) (w : World) : Type 0 where
  pub lengths : length kepts ≡ length w.places
  pub each : (place : ℕ) → SamePlace w place (kept_at kepts place) (thread_at w place)

-- The record of a code not entrant has the moment of its invalidation and the places with a Clear look.
pub record SameRecord (record_ : Record) (w : World) (code : Code) : Type 0 where
  pub left_is : record_.left ≡ left_at code.serial w.log
  pub looked_is : (place : ℕ) → place < length w.places → slice_index_or record_.looked place true ≡ is_looked w.log code.serial place

pub record SameRecords (records : List Record) (w : World) : Type 0 where
  pub lengths : length records ≡ w.slots
  pub each : (serial : ℕ) (code : Code) (record_ : Record) → code_of w.codes serial ≡ Some code → code.state ≡ NotEntrant → slice_get records code.slot ≡ Some record_ → SameRecord record_ w code

-- A waiting request without its load.
abbrev pub waiting_of : Queued (Unit {0}) → Waiting
waiting_of queued = record { number = queued.number; request = queued.request }

-- The count of a code over all places, 0 without a code.
abbrev pub walk_of : World → Option Code → ℕ
walk_of w None = 0
walk_of w (Some code) = walk w (id_of code)

-- The index by slot: the cell of an unfreed code has its count over all places; each count above 0 is in such a cell;
-- and no cell has a serial that isn't given out yet.
pub record SameCells (cells : List Cell) (w : World) : Type 0 where
  pub lengths : length cells ≡ w.slots
  pub here : (serial : ℕ) (code : Code) → code_of w.codes serial ≡ Some code → takes_slot code.state ≡ true → slice_get cells code.slot ≡ Some (cell_of serial (walk w (id_of code)))
  pub own : (slot : ℕ) (cell : Cell) → slice_get cells slot ≡ Some cell → 0 < cell.count → (code : Code) × (code_of w.codes cell.serial ≡ Some code) × (takes_slot code.state ≡ true) × (code.slot ≡ slot)
  pub low : (slot : ℕ) (cell : Cell) → slice_get cells slot ≡ Some cell → cell.serial < next_serial w.codes

-- The system's state matches the world, and the index has the published counts.
pub record Matches (s : Core) (w : World) : Type 0 where
  pub slots : s.table.slots ≡ w.slots
  pub methods : s.table.methods ≡ w.methods
  pub codes : s.table.codes ≡ w.codes
  pub places : SamePlaces s.places.items w
  pub records : SameRecords s.records.items w
  pub names : s.names ≡ names_given w.log
  pub moment_is : s.moment ≡ moment w.log
  pub numbers : s.requests.numbers ≡ operations_given w.log
  pub waiting : map waiting_of s.requests.waiting ≡ w.requests.waiting
  pub opened : SameOpens s.requests.opens w.requests.opened w
  pub index : SameCells s.index w

-- The sizes of a system.
abbrev pub places_of : Core → ℕ
places_of s = length s.places.items

abbrev pub slots_of : Core → ℕ
slots_of s = s.table.slots

abbrev pub methods_of : Core → ℕ
methods_of s = s.table.methods

-- The sizes are unchanged.
pub record SameSizes (old new : Core) : Type 0 where
  pub places : places_of new ≡ places_of old
  pub slots : slots_of new ≡ slots_of old
  pub methods : methods_of new ≡ methods_of old

-- The world after these events, from a start world of the system's sizes.
abbrev pub world_by : Core → List Event → World
world_by s events = world_after (start_world (places_of s) (slots_of s) (methods_of s)) events

-- The system matches the world after the events.
abbrev pub StandsFor : Core → List Event → Type 0
StandsFor s events = Matches s (world_by s events)

-- The system then stands for one more event, and the answer is the definitions'.
abbrev pub Next : Core → Event → Answer → Core → Type 0
Next old event said new =
    (events : List Event) → StandsFor old events → (said ≡ answer_to (world_by old events) event) × StandsFor new (events ++ event ∷ [])

-- A core does an event: for every sound world that it matches, it gives the answer of the definitions and matches the
-- world after the event.
pub record DoesIn (event : Event) (said : Answer) (new : Core) (w : World) : Type 0 where
  pub answer : said ≡ answer_to w event
  pub matches : Matches new (after w event)

pub record Does (event : Event) (old : Core) (said : Answer) (new : Core) : Type 0 where
  pub each : (w : World) → IsSound w → Matches old w → DoesIn event said new w
  pub sizes : SameSizes old new

-- The core matches some sound world.
abbrev pub OfWorld : Core → Type 0
OfWorld s = (w : World) × IsSound w × Matches s w

-- The sizes of a system are within the limits.
pub record IsSized (s : Core) : Type 0 where
  pub places : places_of s ≤ 64
  pub slots : slots_of s ≤ 1024
  pub methods : methods_of s ≤ 256

-- The events that need no memory: all but Start, Install, Ask, Operate and Stack.
abbrev pub takes_no_memory : Event → Bool
takes_no_memory (event.At place act.Stack) = false
takes_no_memory event.Start = false
takes_no_memory (event.Install method) = false
takes_no_memory (event.Ask request) = false
takes_no_memory event.Operate = false
takes_no_memory other = true
