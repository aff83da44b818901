use Rattle.std.proofs.Common.{◌≡◌, length, map}
use Rattle.desk.specs.JobsFit.{are_for}
use Rattle.desk.proofs.lists.all_ask.Given as goal

abbrev pub invariant-loop-job : goal.invariant-loop-job
invariant-loop-job g l = are_for g.J.HandshakeOp.whom g.J.HandshakeOp.asks (map g.J.HandshakeOp.whom l.rest) l.ask l.rest ≡ are_for g.J.HandshakeOp.whom g.J.HandshakeOp.asks (map g.J.HandshakeOp.whom l.fn.jobs) l.ask l.fn.jobs

abbrev pub decreases-loop-job : goal.decreases-loop-job
decreases-loop-job g l = length l.rest
