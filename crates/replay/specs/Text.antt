-- The text that is written for bytes that are read.
use Rattle.std.specs.Prelude.{◌≡◌, ℕ, List, [], ◌∷◌, ◌++◌, Option, Some, None, if◌then◌else◌}
use Rattle.system.specs.declared.events.Event.{Event}
use Rattle.system.specs.declared.answers.Answer.TheVariants.{Done}
use Rattle.system.specs.declared.keeping.Core.{Core}
use Rattle.system.specs.World.{World, start_world}
use Rattle.system.specs.Runs.{after, answer_to}
use Rattle.system.specs.Stands.{StandsFor, world_by, are_sizes}
use Rattle.replay.specs.declared.grammar.Command.{Command}
use Rattle.replay.specs.declared.grammar.Command.TheVariants.{Size, Do}
use Rattle.replay.specs.declared.engine.Reply.{Reply}
use Rattle.replay.specs.declared.engine.Reply.TheVariants.{BadLine, BadSize, Answered}
use Rattle.replay.specs.Words.{lines}
use Rattle.replay.specs.Grammar.{command_of}
use Rattle.replay.specs.Printed.{reply_text}

-- What a contract sees of a system.
abbrev pub SystemView : Type 0
SystemView = Core

-- The reply to a command. There is no world before the first size that is accepted, and one size is.
abbrev pub reply_to : Option World → Option Command → Reply
reply_to world None = BadLine
reply_to None (Some (Size x y z)) = if are_sizes x y z then Answered Done else BadSize
reply_to None (Some (Do event)) = BadLine
reply_to (Some world) (Some (Size x y z)) = BadLine
reply_to (Some world) (Some (Do event)) = Answered (answer_to world event)

abbrev pub world_after_command : Option World → Option Command → Option World
world_after_command world None = world
world_after_command None (Some (Size x y z)) = if are_sizes x y z then Some (start_world x y z) else None
world_after_command None (Some (Do event)) = None
world_after_command (Some world) (Some (Size x y z)) = Some world
world_after_command (Some world) (Some (Do event)) = Some (after world event)

-- The line of text for a line.
abbrev pub line_text : Option World → List ℕ → List ℕ
line_text world line = reply_text (reply_to world (command_of line)) ++ 10 ∷ []

abbrev pub after_line : Option World → List ℕ → Option World
after_line world line = world_after_command world (command_of line)

-- The text for lines, in the world of the events before.
abbrev pub told : Option World → List (List ℕ) → List ℕ
told world [] = []
told world (line ∷ lines) = line_text world line ++ told (after_line world line) lines

-- The text for bytes.
abbrev pub text : List ℕ → List ℕ
text bytes = told None (lines bytes)

-- The system represents events that lead to the world.
abbrev pub IsAt : Option SystemView → Option World → Type 0
IsAt None None = Unit {0}
IsAt None (Some world) = ⊥
IsAt (Some s) None = ⊥
IsAt (Some s) (Some world) = (events : List Event) × StandsFor s events × (world ≡ world_by s events)

-- The reply to the command, and the system after it.
pub record Replied (old : Option SystemView) (command : Option Command) (said : Reply) (new : Option SystemView) : Type 0 where
  pub reply : (world : Option World) → IsAt old world → said ≡ reply_to world command
  pub next : (world : Option World) → IsAt old world → IsAt new (world_after_command world command)
