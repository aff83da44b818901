use Rattle.std.proofs.Common.{◌≡◌, ◌++◌, map, drop}
use Rattle.recorder.proofs.calls.put_names.Given as goal

abbrev pub invariant-loop-job : goal.invariant-loop-job
invariant-loop-job g l =
    l.numbers.items ++ map g.J.HandshakeOp.whom (drop l.job-index l.jobs) ≡ l.fn.numbers.items ++ map g.J.HandshakeOp.whom l.jobs
