use Rattle.std.proofs.Common.{◌≡◌, length}
use Rattle.stopped_threads.specs.Holding.{ArmsOn}
use Rattle.coordinator_core.specs.Telling.{IsListing}
use Rattle.coordinator.proofs.coordinator.Coordinator.tell_on.Given as goal

abbrev pub invariant-loop : goal.invariant-loop
invariant-loop g l =
    (goal.iterator-loop g).can_next l.iterator' × (goal.iterator-loop g).is_finite l.iterator' × (l.self.held ≡ l.fn.self.held) × (l.self.operated ≡ l.fn.self.operated)
    × ArmsOn l.fn.self.armer l.self.armer × (length l.self.armer.armed ≡ g.N.Name.board.places) × IsListing l.self.armer l.listed
