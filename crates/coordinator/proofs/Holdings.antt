-- If a census lacks its list, the bodies that were held before the arming stay held.
use Rattle.std.proofs.Common.{◌≡◌, ◌++◌, ℕ, true, List, Option, Some, None, sym, subst, ap, ◌∙◌}
use Rattle.std.specs.Prelude.{Result, Ok, Err, IfOk, IfErr, OnErr, IfSome}
use Rattle.bodies.specs.Census.{IsCensus}
use Rattle.desk.specs.Machine.{State}
use Rattle.coordinator.specs.declared.faults.DriveFault.{DriveFault}
use Rattle.coordinator.specs.declared.faults.DriveFault.TheVariants.{QueueEmpty, NoMemory}
use Rattle.stopped_threads.specs.Holding.{Holding, ArmsOn}
use Rattle.desk.specs.Operatings.{OperatingSeen}
use Rattle.coordinator.specs.declared.faults.Driven.{Driven}
use Rattle.coordinator.specs.declared.faults.Driven.TheVariants.{Handshake, Census}
use Rattle.coordinator.specs.Driving.{HoldsOn, LacksList, CountedSeen, WorkedSeen, IsListOf, IsCounted, IsListed, drive_refused}
use Rattle.coordinator_core.proofs.Arms.{arms_then}

pub lacked : {A : Type 0} (old mid new : Holding) (r : Result A DriveFault) → (mid.held ≡ old.held) × (mid.operated ≡ old.operated)
    → ArmsOn old.armer mid.armer
    → IfErr r (λ e. e ≡ NoMemory) → OnErr r ((s : State) × LacksList s new.held) → OnErr r (HoldsOn mid new) → IfErr r (drive_refused old new)
lacked old mid new (Ok a) same arms e lacks holds = tt
lacked old mid new (Err NoMemory) same arms e lacks holds =
    (lacks, ((holds.0.0, holds.0.1 ∙ ap (λ bs. bs ++ holds.0.0) same.0), holds.1 ∙ same.1, arms_then old.armer mid.armer new.armer arms holds.2))
lacked old mid new (Err QueueEmpty) same arms e lacks holds = absurd (let k : QueueEmpty ≡ NoMemory = e in cc)

-- A list of the bodies after the arming is one of the bodies before it.
list_on : (old mid : Holding) (list : List (ℕ × ℕ)) (o : Option (ℕ × OperatingSeen)) → mid.held ≡ old.held → mid.operated ≡ old.operated → IsListOf mid list o → IsListOf old list o
list_on old mid list None held operated h = (sym operated ∙ h.0, (h.1.0, subst (λ bs. IsCensus (bs ++ h.1.0) list) held h.1.1))
list_on old mid list (Some o) held operated h = h

listed : (old mid : Holding) (d : Driven) (w : WorkedSeen) → mid.held ≡ old.held → mid.operated ≡ old.operated → IsListed mid d w → IsListed old d w
listed old mid (Handshake n) w held operated h = h
listed old mid (Census n list) w held operated h = (list_on old mid list.items w.operated held operated h.0, h.1)

pub listed_on : {F : Type 0} (old mid : Holding) (r : Result (Driven × WorkedSeen) F) → (mid.held ≡ old.held) × (mid.operated ≡ old.operated)
    → IfOk r (λ a. IsListed mid a.0 a.1) → IfOk r (λ a. IsListed old a.0 a.1)
listed_on old mid (Err e) same h = tt
listed_on old mid (Ok a) same h = listed old mid a.0 a.1 same.0 same.1 h

-- The second list of a census that this coordinator had operated.
pub listed_again : (old new : Holding) (o : Option CountedSeen) → HoldsOn old new → new.operated ≡ true → IfSome o (λ c. IsCensus new.held c.list × (c.operated ≡ None)) → IfSome o (IsCounted old)
listed_again old new None holds operated h = tt
listed_again old new (Some c) holds operated h =
    subst (λ (w : Option (ℕ × OperatingSeen)). IsListOf old c.list w) (sym h.1) (sym holds.1 ∙ operated, (holds.0.0, subst (λ bs. IsCensus bs c.list) holds.0.1 h.0))
