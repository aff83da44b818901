use Rattle.std.proofs.Common.{◌≡◌, ◌≤◌, length, take, vec_capacity}
use Rattle.workers.specs.Summaries.{AreLines}
use Rattle.workers.proofs.summary.lines_of.Given as goal

abbrev pub invariant-loop-report : goal.invariant-loop-report
invariant-loop-report g l = AreLines 1 (take l.report-index l.reports) l.lines.items × (length l.lines.items ≡ l.report-index) × (length l.reports ≤ vec_capacity l.lines)
