use Rattle.coordinator.specs.Driving.{HoldsOn}
use Rattle.coordinator.proofs.coordinator.Coordinator.hold_listed.Given as goal

abbrev pub invariant-loop-at : goal.invariant-loop-at
invariant-loop-at g l = HoldsOn l.fn.self l.self
