use Rattle.std.proofs.Common.{◌≡◌, ◌++◌, map, length}
use Rattle.coordinator.proofs.reclaiming.request_of.Given as goal

abbrev pub invariant-loop-job : goal.invariant-loop-job
invariant-loop-job g l = l.names.items ++ map g.J.HandshakeOp.whom l.rest ≡ map g.J.HandshakeOp.whom l.fn.jobs

abbrev pub decreases-loop-job : goal.decreases-loop-job
decreases-loop-job g l = length l.rest
