-- A model that is stepped by lines: what a contract sees of it, and what a line does.
use Rattle.std.specs.Prelude.{◌≡◌, ◌<◌, ℕ, Bool, true, false, List, Option, Some, None, is_some, length}
use Rattle.system.specs.World.{World}
use Rattle.replay.specs.declared.engine.Reply.{Reply}
use Rattle.replay.specs.Grammar.{command_of}
use Rattle.replay.specs.Printed.{reply_text}
use Rattle.replay.specs.Room.{LineTakes, is_short_reply}
use Rattle.replay.specs.Text.{SystemView, IsAt, Replied}
use Rattle.model.specs.declared.line_model.LineFault.{LineFault}
use Rattle.model.specs.declared.line_model.LineFault.TheVariants as line
use Rattle.model.specs.declared.line_model.AnswerFault.{AnswerFault}
use Rattle.model.specs.declared.line_model.AnswerFault.TheVariants as answer

-- The system, which represents the lines that were played; and the reply that waits, whose text wasn't taken yet, if there is one.
pub record Stepped : Type 0 where
  pub system : Option SystemView
  pub waits : Option Reply

-- The line is played: the reply is the one of the definitions in each world that the system was at, and the system is at the world after.
-- This is the text of the reply. No other reply waited, and none waits.
pub record Answered (old : Stepped) (line text : List ℕ) (new : Stepped) : Type 0 where
  pub none_waited : is_some old.waits ≡ false
  pub said : Reply
  pub played : Replied old.system (command_of line) said new.system
  pub text_is : text ≡ reply_text said
  pub none_waits : new.waits ≡ None

-- The line is played, and its reply waits. No other reply waited.
pub record Plays (old : Stepped) (line : List ℕ) (new : Stepped) : Type 0 where
  pub none_waited : is_some old.waits ≡ false
  pub said : Reply
  pub played : Replied old.system (command_of line) said new.system
  pub waits_is : new.waits ≡ Some said

-- The text of the reply that waits.
abbrev pub Gives : Option Reply → List ℕ → Type 0
Gives None text = ⊥
Gives (Some said) text = text ≡ reply_text said

-- The length of the text of the reply that waits.
abbrev pub NeedsRoom : Option Reply → ℕ → Type 0
NeedsRoom None n = ⊥
NeedsRoom (Some said) n = n ≡ length (reply_text said)

-- Why the text of a reply isn't made: none waits; or it is a list, and memory was refused.
abbrev pub WhyUnknown : AnswerFault → Option Reply → Type 0
WhyUnknown answer.NothingWaits None = Unit {0}
WhyUnknown answer.Unwritten (Some said) = is_short_reply said ≡ false
WhyUnknown fault waits = ⊥

-- Why the text of a reply isn't given: it isn't made, or it is longer than the room.
abbrev pub WhyWaits : AnswerFault → Option Reply → ℕ → Type 0
WhyWaits (answer.TooLong n) (Some said) room = (n ≡ length (reply_text said)) × (room < n)
WhyWaits (answer.TooLong n) None room = ⊥
WhyWaits answer.NothingWaits waits room = WhyUnknown answer.NothingWaits waits
WhyWaits answer.Unwritten waits room = WhyUnknown answer.Unwritten waits

-- No reply waits any more.
abbrev pub taken : Stepped → Stepped
taken model = record { system = model.system; waits = None }

-- What holds when a line has no answer yet. The line wasn't played, and nothing changed; or it was played, and its reply waits.
abbrev pub Kept : LineFault → Stepped → List ℕ → ℕ → Stepped → Type 0
Kept line.NoMemory old bytes room new = (is_some old.waits ≡ false) × (new ≡ old) × ((world : Option World) → IsAt old.system world → LineTakes world bytes)
Kept line.AnswerWaits old bytes room new = (is_some old.waits ≡ true) × (new ≡ old)
Kept (line.TooLong n) old bytes room new = Plays old bytes new × WhyWaits (answer.TooLong n) new.waits room
Kept line.Unwritten old bytes room new = Plays old bytes new × WhyWaits answer.Unwritten new.waits room
