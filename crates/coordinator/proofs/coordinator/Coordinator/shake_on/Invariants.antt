use Rattle.std.proofs.Common.{◌≡◌}
use Rattle.stopped_threads.specs.Holding.{ArmsOn}
use Rattle.coordinator.proofs.coordinator.Coordinator.shake_on.Given as goal

abbrev pub invariant-loop : goal.invariant-loop
invariant-loop g l =
    (goal.iterator-loop g).can_next l.iterator' × (goal.iterator-loop g).is_finite l.iterator' × (l.begun ≡ l.fn.begun) × ArmsOn l.fn.self.armer l.self.armer
