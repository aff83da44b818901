-- Steps and whole runs.
use Rattle.std.specs.Prelude.{List, [], ◌∷◌, ◌++◌, Option, Some, None}
use Rattle.system.specs.declared.events.Event.{Event}
use Rattle.system.specs.declared.answers.Answer.{Answer}
use Rattle.system.specs.declared.answers.Answer.TheVariants.{Refused}
use Rattle.method_table.specs.declared.Code.{Code}
use Rattle.system.specs.declared.events.Event.TheVariants as event
use Rattle.system.specs.declared.answers.Answer.TheVariants as answer
use Rattle.method_table.specs.Codes.{in_use_for}
use Rattle.system.specs.Verdict.{Verdict, refused, accepted}
use Rattle.system.specs.Log.{Entry}
use Rattle.system.specs.World.{World}
use Rattle.system.specs.Step.{outcome}

-- The Invalidate of a replaced code is logged before the Install.
abbrev pub replaced : Option Code → List Entry
replaced None = []
replaced (Some old) = record { event = event.Invalidate old.serial; answer = answer.Done } ∷ []

abbrev pub before : World → Event → List Entry
before w (event.Install method) = replaced (in_use_for w.codes method)
before w other = []

-- The new log entries of an accepted event, the newest first.
abbrev pub entries : World → Event → Answer → List Entry
entries w event answer = record { event = event; answer = answer } ∷ before w event

-- A refusal leaves the world unchanged; an accepted event joins the log with its answer.
abbrev pub world_of : World → Event → Verdict World → World
world_of w event (refused refusal) = w
world_of w event (accepted new answer) = record new { log = entries w event answer ++ w.log }

-- The answer to a refused event names the refusal.
abbrev pub answer_of : Verdict World → Answer
answer_of (refused refusal) = Refused refusal
answer_of (accepted new answer) = answer

-- One step: the world after the event.
abbrev pub after : World → Event → World
after w event = world_of w event (outcome w event)

-- The answer of one step.
abbrev pub answer_to : World → Event → Answer
answer_to w event = answer_of (outcome w event)

-- The world after the events.
abbrev pub world_after : World → List Event → World
world_after w [] = w
world_after w (event ∷ events) = world_after (after w event) events

-- The answers to the events.
abbrev pub answers : World → List Event → List Answer
answers w [] = []
answers w (event ∷ events) = answer_to w event ∷ answers (after w event) events
