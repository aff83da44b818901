-- How often an operation runs.
use Rattle.std.specs.Prelude.{◌≡◌, ℕ, true, not, ◌==◌, List, [], ◌∷◌, ◌++◌, map, filter, Some, if◌then◌else◌}
use Rattle.system.specs.declared.events.Act.TheVariants as act
use Rattle.system.specs.declared.events.Event.{Event}
use Rattle.system.specs.declared.events.Event.TheVariants as event
use Rattle.system.specs.declared.answers.Answer.{Answer}
use Rattle.system.specs.declared.answers.Answer.TheVariants as answer
use Rattle.system.specs.Threads.{Thread}
use Rattle.system.specs.Operations.{Opened}
use Rattle.system.specs.Log.{Entry}
use Rattle.system.specs.World.{World, start_world, thread_at}
use Rattle.system.specs.Runs.{world_after, answer_to}
use Rattle.system.specs.Safepoints.{is_accepted, IsNext}

-- The open numbers after an event: an Open adds the number of its answer, and a Close removes it.
abbrev pub opened_or : List ℕ → Event → Answer → List ℕ
opened_or ns event.Open (answer.Opened n kind) = ns ++ n ∷ []
opened_or ns (event.Close number) (answer.Closed n) = filter (λ m. not (m == n)) ns
opened_or ns event answer = ns

-- The operations that were opened and not closed, the oldest first.
abbrev pub open_in : List Entry → List ℕ
open_in [] = []
open_in (entry ∷ before) = opened_or (open_in before) entry.event entry.answer

-- The name that a Start gives at the place, otherwise the name before.
abbrev pub started_or : ℕ → ℕ → Event → Answer → ℕ
started_or place name event.Start (answer.Thread new p) = if p == place then new else name
started_or place name event answer = name

-- The name of the last thread that started at the place, or 0. A thread at the place is this one.
abbrev pub name_in : ℕ → List Entry → ℕ
name_in place [] = 0
name_in place (entry ∷ before) = started_or place (name_in place before) entry.event entry.answer

-- This world accepts a Finish at the place, by the thread of this name, of the operation of this number.
pub record FinishesFor (w : World) (place operation name : ℕ) : Type 0 where
  pub thread : Thread
  pub there : thread_at w place ≡ Some thread
  pub named : thread.name ≡ name
  pub opened : Opened
  pub next : IsNext w.requests name opened
  pub number : opened.number ≡ operation
  pub accepted : is_accepted (answer_to w (event.At place act.Finish)) ≡ true

-- This world accepts an Operate of the operation of this number. A census is open alone.
pub record OperatesFor (w : World) (operation : ℕ) : Type 0 where
  pub opened : Opened
  pub opened_is : w.requests.opened ≡ opened ∷ []
  pub number : opened.number ≡ operation
  pub accepted : is_accepted (answer_to w event.Operate) ≡ true

-- No thread finishes an operation twice among the events, and no operation is operated twice.
pub record RunAtMostOnce (places slots methods : ℕ) (events : List Event) : Type 0 where
  pub finished : (before between rest : List Event) (p q operation name : ℕ) → events ≡ before ++ event.At p act.Finish ∷ between ++ event.At q act.Finish ∷ rest
      → FinishesFor (world_after (start_world places slots methods) before) p operation name
      → FinishesFor (world_after (start_world places slots methods) (before ++ event.At p act.Finish ∷ between)) q operation name → ⊥
  pub operated : (before between rest : List Event) (operation : ℕ) → events ≡ before ++ event.Operate ∷ between ++ event.Operate ∷ rest
      → OperatesFor (world_after (start_world places slots methods) before) operation
      → OperatesFor (world_after (start_world places slots methods) (before ++ event.Operate ∷ between)) operation → ⊥
  -- The log determines which operations are open, and the thread of a place.
  pub open_is : open_in (world_after (start_world places slots methods) events).log ≡ map (λ opened. opened.number) (world_after (start_world places slots methods) events).requests.opened
  pub name_is : (place : ℕ) (t : Thread) → thread_at (world_after (start_world places slots methods) events) place ≡ Some t
      → name_in place (world_after (start_world places slots methods) events).log ≡ t.name

-- This holds for any events.
abbrev pub OperationsRunAtMostOnce : Type 0
OperationsRunAtMostOnce = (places slots methods : ℕ) (events : List Event) → RunAtMostOnce places slots methods events
