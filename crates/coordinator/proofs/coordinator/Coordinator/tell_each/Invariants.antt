use Rattle.std.proofs.Common.{◌≡◌, true, map, take}
use Rattle.stopped_threads.specs.Holding.{ArmsOn}
use Rattle.coordinator_core.specs.Telling.{AreArmed}
use Rattle.coordinator.proofs.coordinator.Coordinator.tell_each.Given as goal

abbrev pub invariant-loop-at : goal.invariant-loop-at
invariant-loop-at g l =
    (l.self.held ≡ l.fn.self.held) × (l.self.operated ≡ l.fn.self.operated) × ArmsOn l.fn.self.armer l.self.armer
    × (map (λ u. u.what) l.list.items ≡ map (λ u. u.what) l.fn.list.items)
    × (l.is_told ≡ true → AreArmed l.self.armer (take l.at (map (λ u. u.what) l.fn.list.items)))
