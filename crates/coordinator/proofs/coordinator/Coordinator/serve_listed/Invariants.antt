use Rattle.std.proofs.Common.{◌≡◌, ◌≤◌}
use Rattle.coordinator.proofs.coordinator.Coordinator.serve_listed.Given as goal

abbrev pub invariant-loop-who : goal.invariant-loop-who
invariant-loop-who g l =
    (l.passes.told ≡ l.fn.passes.told) × (l.passes.is_first ≡ l.fn.passes.is_first) × (l.passes.looks ≤ l.fn.passes.looks)
