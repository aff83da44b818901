use Rattle.std.proofs.Common.{◌≡◌, length, map}
use Rattle.operations.specs.Names.{among}
use Rattle.desk.proofs.lists.has_job_for.Given as goal

abbrev pub invariant-loop-job : goal.invariant-loop-job
invariant-loop-job g l = among l.name (map g.J.HandshakeOp.whom l.rest) ≡ among l.name (map g.J.HandshakeOp.whom l.fn.jobs)

abbrev pub decreases-loop-job : goal.decreases-loop-job
decreases-loop-job g l = length l.rest
