-- Which lines take memory. An answer of a few bytes fits into the buffers that were made before.
use Rattle.std.specs.Prelude.{◌≡◌, ◌⊎◌, Bool, true, false, List, ℕ, Option, Some, None}
use Rattle.operations.specs.declared.Request.TheVariants.{Handshake}
use Rattle.system.specs.declared.answers.Answer.{Answer}
use Rattle.system.specs.declared.answers.Answer.TheVariants as answer
use Rattle.system.specs.declared.events.Event.TheVariants as event
use Rattle.system.specs.World.{World}
use Rattle.system.specs.Memory.{NeedsMemory}
use Rattle.system.specs.Stands.{are_sizes}
use Rattle.replay.specs.declared.grammar.Command.{Command}
use Rattle.replay.specs.declared.grammar.Command.TheVariants.{Size, Do}
use Rattle.replay.specs.declared.engine.Reply.{Reply}
use Rattle.replay.specs.declared.engine.Reply.TheVariants as reply
use Rattle.replay.specs.Grammar.{command_of}

-- An answer that is no list.
abbrev pub is_short : Answer → Bool
is_short (answer.Frames frames) = false
is_short (answer.Census counts) = false
is_short other = true

abbrev pub is_short_reply : Reply → Bool
is_short_reply (reply.Answered answer) = is_short answer
is_short_reply other = true

-- A handshake is asked for: its names take memory when they are read.
abbrev pub is_handshake : Option Command → Bool
is_handshake (Some (Do (event.Ask (Handshake targets ask)))) = true
is_handshake other = false

-- The first size that is accepted; and an event that takes memory and would be accepted.
abbrev pub TakesIn : Option World → Option Command → Type 0
TakesIn None (Some (Size x y z)) = are_sizes x y z ≡ true
TakesIn (Some world) (Some (Do event)) = NeedsMemory world event
TakesIn world command = ⊥

abbrev pub CommandTakes : Option World → Option Command → Type 0
CommandTakes world command = (is_handshake command ≡ true) ⊎ TakesIn world command

-- Memory may be refused at the line.
abbrev pub LineTakes : Option World → List ℕ → Type 0
LineTakes world line = CommandTakes world (command_of line)
