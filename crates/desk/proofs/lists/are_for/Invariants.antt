use Rattle.std.proofs.Common.{◌≡◌, length}
use Rattle.desk.specs.JobsFit.{are_for}
use Rattle.desk.proofs.lists.are_for.Given as goal

abbrev pub invariant-loop-name : goal.invariant-loop-name
invariant-loop-name g l = are_for g.J.HandshakeOp.whom g.J.HandshakeOp.asks l.names l.ask l.rest ≡ are_for g.J.HandshakeOp.whom g.J.HandshakeOp.asks l.fn.targets l.ask l.fn.jobs

abbrev pub decreases-loop-name : goal.decreases-loop-name
decreases-loop-name g l = length l.names
