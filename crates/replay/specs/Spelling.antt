-- How commands are spelled.
use Rattle.std.specs.Prelude.{◌≡◌, ◌<◌, ◌≤◌, ◌^◌, ℕ, List, [], ◌∷◌, ◌++◌, Option, Some, None, codes, decimal, length, map}
use Rattle.std.specs.List.{AllByRecursion}
use Rattle.operations.specs.declared.Ask.{Ask as AskKind}
use Rattle.operations.specs.declared.Ask.TheVariants.{Depth, CountOf, Top}
use Rattle.operations.specs.declared.Request.{Request}
use Rattle.operations.specs.declared.Request.TheVariants.{Handshake, Census}
use Rattle.system.specs.declared.events.Act.{Act}
use Rattle.system.specs.declared.events.Act.TheVariants.{Enter}
use Rattle.system.specs.declared.events.Event.{Event}
use Rattle.system.specs.declared.events.Event.TheVariants.{At, Start, Install, Invalidate, Round, Look, Weigh, Free, Ask, Open, Tell, Operate, Close, Count, CodeState, Resolve}
use Rattle.replay.specs.declared.grammar.Command.{Command}
use Rattle.replay.specs.declared.grammar.Command.TheVariants.{Size, Do}
use Rattle.replay.specs.Words.{spaced}
use Rattle.replay.specs.Keywords.{act_text}

-- A code that is entered, and the operation that is closed, may be left out.
abbrev pub given_numbers : Option ℕ → List ℕ
given_numbers None = []
given_numbers (Some n) = n ∷ []

-- The words after the place of an act.
abbrev pub act_numbers : Act → List ℕ
act_numbers (Enter method code) = method ∷ given_numbers code
act_numbers other = []

-- The words of a request, without its targets.
abbrev pub ask_words : AskKind → List (List ℕ)
ask_words Depth = codes "depth" ∷ []
ask_words (CountOf serial) = codes "count" ∷ decimal serial ∷ []
ask_words Top = codes "top" ∷ []

abbrev pub request_words : Request → List (List ℕ)
request_words Census = codes "census" ∷ []
request_words (Handshake targets ask) = ask_words ask ++ map decimal targets

-- The words of an event: its keyword, and its numbers in decimal.
abbrev pub event_words : Event → List (List ℕ)
event_words (At place act) = act_text act ∷ decimal place ∷ map decimal (act_numbers act)
event_words Start = codes "start" ∷ []
event_words (Install method) = codes "install" ∷ decimal method ∷ []
event_words (Invalidate serial) = codes "invalidate" ∷ decimal serial ∷ []
event_words Round = codes "round" ∷ []
event_words (Look serial place) = codes "look" ∷ decimal serial ∷ decimal place ∷ []
event_words (Weigh serial) = codes "weigh" ∷ decimal serial ∷ []
event_words (Free serial) = codes "free" ∷ decimal serial ∷ []
event_words (Ask request) = codes "ask" ∷ request_words request
event_words Open = codes "open" ∷ []
event_words (Tell name) = codes "tell" ∷ decimal name ∷ []
event_words Operate = codes "operate" ∷ []
event_words (Close number) = codes "close" ∷ map decimal (given_numbers number)
event_words (Count serial) = codes "count" ∷ decimal serial ∷ []
event_words (CodeState serial) = codes "state" ∷ decimal serial ∷ []
event_words (Resolve method) = codes "resolve" ∷ decimal method ∷ []

abbrev pub command_words : Command → List (List ℕ)
command_words (Size x y z) = codes "size" ∷ decimal x ∷ decimal y ∷ decimal z ∷ []
command_words (Do event) = event_words event

-- The line of a command: its words with one space between two.
abbrev pub spelling : Command → List ℕ
spelling command = spaced (command_words command)

abbrev pub ask_numbers : AskKind → List ℕ
ask_numbers Depth = []
ask_numbers (CountOf serial) = serial ∷ []
ask_numbers Top = []

abbrev pub request_numbers : Request → List ℕ
request_numbers Census = []
request_numbers (Handshake targets ask) = ask_numbers ask ++ targets

abbrev pub event_numbers : Event → List ℕ
event_numbers (At place act) = place ∷ act_numbers act
event_numbers Start = []
event_numbers (Install method) = method ∷ []
event_numbers (Invalidate serial) = serial ∷ []
event_numbers Round = []
event_numbers (Look serial place) = serial ∷ place ∷ []
event_numbers (Weigh serial) = serial ∷ []
event_numbers (Free serial) = serial ∷ []
event_numbers (Ask request) = request_numbers request
event_numbers Open = []
event_numbers (Tell name) = name ∷ []
event_numbers Operate = []
event_numbers (Close number) = given_numbers number
event_numbers (Count serial) = serial ∷ []
event_numbers (CodeState serial) = serial ∷ []
event_numbers (Resolve method) = method ∷ []

-- The numbers of a command.
abbrev pub command_numbers : Command → List ℕ
command_numbers (Size x y z) = x ∷ y ∷ z ∷ []
command_numbers (Do event) = event_numbers event

abbrev pub AreSmall : List ℕ → Type 0
AreSmall numbers = AllByRecursion (λ n. n < 2 ^ 40) numbers

-- The line is the command's spelling, not too long, with no number too great.
pub record IsSpelledBy (line : List ℕ) (command : Command) : Type 0 where
  pub spelled : line ≡ spelling command
  pub short : length line ≤ 1024
  pub small : AreSmall (command_numbers command)
