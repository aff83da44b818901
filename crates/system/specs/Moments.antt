-- Moments of the log. The moment of an event is 1 plus the number of rounds before it. (epoch-based reclamation: an
-- epoch)
use Rattle.std.specs.Prelude.{◌≡◌, ℕ, Bool, false, not, ◌&&◌, ◌||◌, ◌==◌, nat_lt, List, [], ◌∷◌, Option, Some, None, if◌then◌else◌}
use Rattle.method_table.specs.declared.Code.{Code}
use Rattle.system.specs.declared.events.Act.TheVariants as act
use Rattle.system.specs.declared.events.Event.{Event}
use Rattle.system.specs.declared.events.Event.TheVariants as event
use Rattle.system.specs.declared.answers.Answer.{Answer}
use Rattle.system.specs.declared.answers.Answer.TheVariants as answer
use Rattle.method_table.specs.Codes.{code_of, is_in_use}
use Rattle.system.specs.Threads.{Thread, is_publishing}
use Rattle.system.specs.Log.{Entry, is_begin, is_end, is_invalidate, moment}
use Rattle.system.specs.World.{World, start_world, thread_at, covered}
use Rattle.system.specs.Runs.{world_after}

-- The event starts a thread at the place.
abbrev pub starts : ℕ → Event → Answer → Bool
starts place event.Start (answer.Thread name at) = at == place
starts place event answer = false

-- The log has an Invalidate of the code.
abbrev pub invalidated : ℕ → List Entry → Bool
invalidated serial [] = false
invalidated serial (entry ∷ log) = is_invalidate serial entry.event || invalidated serial log

-- The moment of the code's first Invalidate, or 0.
abbrev pub left_at : ℕ → List Entry → ℕ
left_at serial [] = 0
left_at serial (entry ∷ log) = if is_invalidate serial entry.event && not (invalidated serial log) then moment log else left_at serial log

-- The moment of the newest Begin at the place since the last Start there, or 0.
abbrev pub begun : ℕ → List Entry → ℕ
begun place [] = 0
begun place (entry ∷ log) = if starts place entry.event entry.answer then 0 else (if is_begin place entry.event then moment log else begun place log)

-- The moment of the Begin of the last ended publication at the place since the last Start there, or 0.
abbrev pub ended : ℕ → List Entry → ℕ
ended place [] = 0
ended place (entry ∷ log) = if starts place entry.event entry.answer then 0 else (if is_end place entry.event then begun place log else ended place log)

-- The moment of the last ended publication of a thread, 0 for a vacant place and before the first one.
abbrev pub published_at : List Entry → ℕ → Option Thread → ℕ
published_at log place None = 0
published_at log place (Some t) = if t.published then ended place log else 0

-- The moment of the thread's open publication, or 0.
abbrev pub publishing_at : List Entry → ℕ → Option Thread → ℕ
publishing_at log place None = 0
publishing_at log place (Some t) = if is_publishing t then begun place log else 0

-- A place is covered for an invalidated code if and only if no stack is published there, or the published stack is
-- later than the invalidation.
abbrev pub IsCoveredByMoments : World → Type 0
IsCoveredByMoments w = (serial place : ℕ) (code : Code) → code_of w.codes serial ≡ Some code → is_in_use code.state ≡ false
    → covered w place serial
    ≡ ((published_at w.log place (thread_at w place) == 0) || nat_lt (left_at serial w.log) (published_at w.log place (thread_at w place)))

-- This holds after any events.
abbrev pub CoveredIsByMoments : Type 0
CoveredIsByMoments = (places slots methods : ℕ) (events : List Event) → IsCoveredByMoments (world_after (start_world places slots methods) events)

-- The thread at the place exits, or enters the code of the serial.
abbrev pub is_exit : ℕ → Event → Bool
is_exit place (event.At p act.Exit) = p == place
is_exit place event = false

abbrev pub enters_code : ℕ → ℕ → Event → Answer → Bool
enters_code place serial (event.At p (act.Enter method (Some s))) answer.Entered = (p == place) && (s == serial)
enters_code place serial event answer = false

-- The thread at the place entered the code after its last ended publication.
abbrev pub is_fresh : ℕ → ℕ → List Entry → Bool
is_fresh place serial [] = false
is_fresh place serial (entry ∷ log) =
    not (starts place entry.event entry.answer || is_exit place entry.event || is_end place entry.event)
    && (enters_code place serial entry.event entry.answer || is_fresh place serial log)
