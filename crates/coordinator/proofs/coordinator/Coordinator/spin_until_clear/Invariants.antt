use Rattle.std.proofs.Common.{◌≡◌}
use Rattle.coordinator.proofs.coordinator.Coordinator.spin_until_clear.Given as goal

abbrev pub invariant-loop-made : goal.invariant-loop-made
invariant-loop-made g l = l.looks ≡ l.fn.looks
