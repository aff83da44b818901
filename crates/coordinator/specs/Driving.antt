-- The results of driving.
use Rattle.std.specs.Prelude.{◌≡◌, ◌⊎◌, ◌++◌, ℕ, true, List, [], Option, Some, None, IfSome}
use Rattle.bodies.specs.Bodies.{BodyView}
use Rattle.bodies.specs.Census.{IsCensus}
use Rattle.operations.specs.declared.Kind.{Kind}
use Rattle.operations.specs.declared.Kind.TheVariants as kind
use Rattle.operations.specs.Requests.{is_census}
use Rattle.desk.specs.declared.entries.Entry.TheVariants.{Operate}
use Rattle.desk.specs.Machine.{State}
use Rattle.desk.specs.Refusals.{front_is, MayOperate}
use Rattle.desk.specs.Closings.{ClosingSeen}
use Rattle.desk.specs.Operatings.{OperatingSeen}
use Rattle.coordinator.specs.declared.faults.Driven.{Driven}
use Rattle.coordinator.specs.declared.faults.Driven.TheVariants.{Handshake, Census}
use Rattle.coordinator.specs.declared.faults.DriveFault.{DriveFault}
use Rattle.coordinator.specs.declared.faults.DriveFault.TheVariants.{QueueEmpty, NoMemory}
use Rattle.stopped_threads.specs.Holding.{Holding, ArmsOn}

-- The number of the request that was worked on.
abbrev pub number_of : Driven → ℕ
number_of (Handshake n) = n
number_of (Census n list) = n

-- A closed request: its number, and its Close as the receipt shows it.
pub record ClosedSeen : Type 0 where
  pub number : ℕ
  pub shown : ClosingSeen

-- The evidence of the work on a request: its Close and, if it was operated for it, its number and its Operate, as the
-- receipts show them.
pub record WorkedSeen : Type 0 where
  pub closing : ClosingSeen
  pub operated : Option (ℕ × OperatingSeen)

-- The counts of a census and, if it was operated for them, its number and its Operate as the receipt shows it.
pub record CountedSeen : Type 0 where
  pub list : List (ℕ × ℕ)
  pub operated : Option (ℕ × OperatingSeen)

-- By the receipt of its Close the request is of this kind, and the oldest open one had this number.
abbrev pub WasOldest : Kind → ℕ → ClosingSeen → Type 0
WasOldest k n c = (c.oldest ≡ n) × (c.kind ≡ k)

-- The result names the request as the receipt of its Close does.
abbrev pub IsWorked : Driven → ClosingSeen → Type 0
IsWorked (Handshake n) c = WasOldest kind.Handshake n c
IsWorked (Census n list) c = WasOldest kind.Census n c

-- The held bodies stay held, and others may follow. No armed number falls.
abbrev pub HoldsOn : Holding → Holding → Type 0
HoldsOn old new = ((more : List BodyView) × (new.held ≡ old.held ++ more)) × (new.operated ≡ old.operated) × ArmsOn old.armer new.armer

-- A census is open and lacks only its list: it may be operated over the bodies, or it is operated.
abbrev pub LacksList : State → List BodyView → Type 0
LacksList s bodies = MayOperate s bodies ⊎ ((front_is (λ c. is_census c.request) s.opened true) × (front_is (λ c. c.operated) s.opened true))

-- The receipt of the Operate shows the list. Without a receipt the coordinator had operated the census, and the list is
-- a census of the bodies that were held and those that followed.
abbrev pub IsListOf : Holding → List (ℕ × ℕ) → Option (ℕ × OperatingSeen) → Type 0
IsListOf old list (Some o) = (o.1.stands.entry ≡ Operate o.0) × (o.1.list ≡ list)
IsListOf old list None = (old.operated ≡ true) × ((more : List BodyView) × IsCensus (old.held ++ more) list)

abbrev pub IsCounted : Holding → CountedSeen → Type 0
IsCounted old c = IsListOf old c.list c.operated

-- A census has such a list and, if it was operated for the list, its own Operate. A handshake has no Operate.
abbrev pub IsListed : Holding → Driven → WorkedSeen → Type 0
IsListed old (Handshake n) w = w.operated ≡ None
IsListed old (Census n list) w = IsListOf old list.items w.operated × IfSome w.operated (λ o. o.0 ≡ n)

-- `drive` is refused if no request is open or waits, and nothing changes; or if there is no memory for the list of the
-- open census, and all bodies that it needs are held.
abbrev pub drive_refused : Holding → Holding → DriveFault → Type 0
drive_refused old new QueueEmpty = ((s : State) × (s.opened ≡ []) × (s.waiting ≡ [])) × (new ≡ old)
drive_refused old new NoMemory = ((s : State) × LacksList s new.held) × HoldsOn old new
