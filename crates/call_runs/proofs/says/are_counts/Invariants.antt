use Rattle.std.proofs.Common.{◌≡◌, length}
use Rattle.call_runs.specs.Says.{are_counts}
use Rattle.call_runs.proofs.says.are_counts.Given as goal

abbrev pub decreases-loop-counts : goal.decreases-loop-counts
decreases-loop-counts l = length l.counts

abbrev pub invariant-loop-counts : goal.invariant-loop-counts
invariant-loop-counts l = are_counts l.counts l.numbers ≡ are_counts l.initial.counts l.initial.numbers
