use Rattle.std.proofs.Common.{◌≡◌, length}
use Rattle.workers.specs.Summaries.{some_compiled}
use Rattle.workers.proofs.summary.some_compiled.Given as goal

abbrev pub invariant-loop-report : goal.invariant-loop-report
invariant-loop-report g l = some_compiled l.fn.reports ≡ some_compiled l.rest

abbrev pub decreases-loop-report : goal.decreases-loop-report
decreases-loop-report g l = length l.rest
