use Rattle.std.proofs.Common.{◌≡◌, length, map}
use Rattle.operations.specs.Names.{is_distinct}
use Rattle.desk.proofs.lists.are_distinct.Given as goal

abbrev pub invariant-loop-job : goal.invariant-loop-job
invariant-loop-job g l = is_distinct (map g.J.HandshakeOp.whom l.rest) ≡ is_distinct (map g.J.HandshakeOp.whom l.fn.jobs)

abbrev pub decreases-loop-job : goal.decreases-loop-job
decreases-loop-job g l = length l.rest
