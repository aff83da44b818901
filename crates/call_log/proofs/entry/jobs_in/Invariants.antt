use Rattle.std.proofs.Common.{◌≡◌, ◌++◌, length}
use Rattle.call_log.specs.Entries.{jobs_in}
use Rattle.call_log.proofs.entry.jobs_in.Given as goal

abbrev pub decreases-loop-left : goal.decreases-loop-left
decreases-loop-left l = length l.left

abbrev pub invariant-loop-left : goal.invariant-loop-left
invariant-loop-left l = l.jobs.items ++ jobs_in l.left ≡ jobs_in l.numbers
