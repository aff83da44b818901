-- The verdict on a text: a log, the line `order` and an order.
use Rattle.std.specs.Prelude.{◌≡◌, ℕ, List, ◌++◌, true, false, codes, Option, Some, None}
use Rattle.std.specs.List.{AllByRecursion}
use Rattle.system.specs.declared.events.Event.{Event}
use Rattle.call_log.specs.declared.log.Log.{Log}
use Rattle.call_log.specs.Reading.{log_text, IsReadFault}
use Rattle.witness_check.specs.Streams.{all_rise}
use Rattle.witness_check.specs.Walk.{is_explained}
use Rattle.confirm.specs.declared.fault.Fault.{Fault}
use Rattle.confirm.specs.declared.fault.Fault.TheVariants as fault
use Rattle.confirm.specs.Parts.{IsParted, LacksOrder}
use Rattle.confirm.specs.Orders.{order_text, lines_text, IsRead, IsBadAt}

abbrev pub whole_text : Log → List ℕ → List Event → List ℕ
whole_text log owners events = log_text log ++ (codes "order\n" ++ order_text owners events)

-- The text is a log with an order that explains it. `lines` has the lines of that order, and `replay` reads each as its event.
pub record Explains (text lines : List ℕ) : Type 0 where
  pub log : Log
  pub owners : List ℕ
  pub events : List Event
  pub spelled : text ≡ whole_text log owners events
  pub explained : is_explained log events owners ≡ true
  pub printed : lines ≡ lines_text log events
  pub read : AllByRecursion IsRead events

-- The text is a log with an order that doesn't explain it.
pub record Fails (text : List ℕ) : Type 0 where
  pub log : Log
  pub owners : List ℕ
  pub events : List Event
  pub spelled : text ≡ whole_text log owners events
  pub unexplained : is_explained log events owners ≡ false

abbrev pub IsTold : List ℕ → Option (List ℕ) → Type 0
IsTold text (Some lines) = Explains text lines
IsTold text None = Fails text

-- The text is the text of this log, and its tickets rise.
pub record IsLog (text : List ℕ) (log : Log) : Type 0 where
  pub spelled : text ≡ log_text log
  pub risen : all_rise log.calls.items ≡ true

-- The text is that of a log whose tickets don't rise, or that has a stream with an invalid number.
pub record HasBadTickets (text : List ℕ) : Type 0 where
  pub log : Log
  pub spelled : text ≡ log_text log
  pub fallen : all_rise log.calls.items ≡ false

-- Why a log is refused.
abbrev pub IsLogFault : List ℕ → Fault → Type 0
IsLogFault text (fault.BadLog why) = IsReadFault text why
IsLogFault text fault.Tickets = HasBadTickets text
IsLogFault text fault.NoMemory = Unit {0}
IsLogFault text other = ⊥

-- The text before the line `order` has the fault.
pub record HasBadLog (text : List ℕ) (wrong : Fault) : Type 0 where
  pub before : List ℕ
  pub behind : List ℕ
  pub parted : IsParted text before behind
  pub fault_is : IsLogFault before wrong

-- The text before the line `order` is a log, and after it the line of this number isn't the line of an event.
pub record HasBadOrder (text : List ℕ) (number : ℕ) : Type 0 where
  pub before : List ℕ
  pub behind : List ℕ
  pub log : Log
  pub parted : IsParted text before behind
  pub log_is : IsLog before log
  pub bad : IsBadAt behind number

-- Why a text gets no verdict.
abbrev pub IsFaultOf : List ℕ → Fault → Type 0
IsFaultOf text fault.NoOrder = LacksOrder text
IsFaultOf text (fault.BadLog why) = HasBadLog text (fault.BadLog why)
IsFaultOf text fault.Tickets = HasBadLog text fault.Tickets
IsFaultOf text (fault.BadOrder number) = HasBadOrder text number
IsFaultOf text fault.NoMemory = Unit {0}
IsFaultOf text other = ⊥
