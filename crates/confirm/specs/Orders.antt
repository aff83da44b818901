-- An order of events, each of the call with a given number.
use Rattle.std.specs.Prelude.{◌≡◌, ℕ, ◌+◌, ◌<◌, decimal, length, List, [], ◌∷◌, ◌++◌, Option, Some, None, option_map, option_and_then}
use Rattle.std.specs.List.{flat_map, AllByRecursion}
use Rattle.system.specs.declared.events.Event.{Event}
use Rattle.replay.specs.declared.grammar.Command.{Command}
use Rattle.replay.specs.declared.grammar.Command.TheVariants.{Size, Do}
use Rattle.replay.specs.Grammar.{command_of}
use Rattle.replay.specs.Spelling.{spelling}
use Rattle.call_log.specs.declared.tokens.Token.{Token}
use Rattle.call_log.specs.declared.tokens.Token.TheVariants.{Number}
use Rattle.call_log.specs.declared.log.Log.{Log}
use Rattle.call_log.specs.Tokens.{token_of}
use Rattle.confirm.specs.declared.fault.Fault.{Fault}
use Rattle.confirm.specs.declared.fault.Fault.TheVariants as fault
use Rattle.confirm.specs.Parts.{cut}

-- The line of a command, with its newline.
abbrev pub line_of : Command → List ℕ
line_of command = spelling command ++ 10 ∷ []

abbrev pub event_line : Event → List ℕ
event_line event = line_of (Do event)

abbrev pub size_line : Log → List ℕ
size_line log = line_of (Size log.places log.slots log.methods)

-- A line for the sizes, and a line for each event.
abbrev pub lines_text : Log → List Event → List ℕ
lines_text log events = size_line log ++ flat_map event_line events

-- `replay` reads the line of the event as that event.
abbrev pub IsRead : Event → Type 0
IsRead event = command_of (spelling (Do event)) ≡ Some (Do event)

-- The number of a call, a space, and the event.
abbrev pub deed_text : ℕ → Event → List ℕ
deed_text owner event = decimal owner ++ 32 ∷ spelling (Do event)

-- A line for each event, with the number of its call in front.
abbrev pub order_text : List ℕ → List Event → List ℕ
order_text (owner ∷ owners) (event ∷ events) = (deed_text owner event ++ 10 ∷ []) ++ order_text owners events
order_text owners events = []

abbrev pub owner_in : Token → Option ℕ
owner_in (Number n) = Some n
owner_in _ = None

abbrev pub event_in : Option Command → Option Event
event_in (Some (Do event)) = Some event
event_in _ = None

abbrev pub deed_in : Option (List ℕ × List ℕ) → Option (ℕ × Event)
deed_in None = None
deed_in (Some parts) =
    option_and_then (λ owner. option_map (λ event. (owner, event)) (event_in (command_of parts.1))) (owner_in (token_of parts.0))

-- The number and the event of a line: the parts before and after its first space.
abbrev pub deed_of : List ℕ → Option (ℕ × Event)
deed_of line = deed_in (cut 32 line)

-- The text is the order of these events, and `lines` is the head followed by their lines.
pub record IsOrder (text head : List ℕ) (owners : List ℕ) (events : List Event) (lines : List ℕ) : Type 0 where
  pub paired : length owners ≡ length events
  pub spelled : text ≡ order_text owners events
  pub printed : lines ≡ head ++ flat_map event_line events
  pub read : AllByRecursion IsRead events

abbrev pub first_deed : List ℕ → Option (ℕ × Event)
first_deed rest = option_and_then (λ parts. deed_of parts.0) (cut 10 rest)

-- The line of this number, counted from 1, isn't the line of an event, and all lines before it are.
pub record IsBadAt (text : List ℕ) (number : ℕ) : Type 0 where
  pub owners : List ℕ
  pub events : List Event
  pub rest : List ℕ
  pub paired : length owners ≡ length events
  pub text_is : text ≡ order_text owners events ++ rest
  pub number_is : number ≡ length events + 1
  pub more : 0 < length rest
  pub bad : first_deed rest ≡ None

-- Why an order can't be read.
abbrev pub IsOrderFault : List ℕ → Fault → Type 0
IsOrderFault text (fault.BadOrder number) = IsBadAt text number
IsOrderFault text fault.NoMemory = Unit {0}
IsOrderFault text other = ⊥
