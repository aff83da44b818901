use Rattle.std.proofs.Common.{◌≡◌, length}
use Rattle.witness_check.specs.Streams.{jobs_rise}
use Rattle.witness_check.proofs.streams.jobs_rise.Given as goal

abbrev pub decreases-loop-left : goal.decreases-loop-left
decreases-loop-left l = length l.left

abbrev pub invariant-loop-left : goal.invariant-loop-left
invariant-loop-left l = jobs_rise l.first l.end l.left ≡ jobs_rise l.initial.first l.end l.initial.left
