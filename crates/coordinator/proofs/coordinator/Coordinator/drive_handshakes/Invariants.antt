use Rattle.std.proofs.Common.{◌≡◌, [], false}
use Rattle.coordinator.proofs.coordinator.Coordinator.drive_handshakes.Given as goal

abbrev pub invariant-loop : goal.invariant-loop
invariant-loop g l =
    (goal.iterator-loop g).can_next l.iterator' × (goal.iterator-loop g).is_finite l.iterator' × (l.self.held ≡ []) × (l.self.operated ≡ false) × (l.self.armer ≡ l.fn.self.armer)
