use Rattle.std.proofs.Common.{◌≡◌, length}
use Rattle.witness_check.specs.Seen.{are_live}
use Rattle.witness_check.proofs.seen.are_live.Given as goal

abbrev pub decreases-loop-left : goal.decreases-loop-left
decreases-loop-left l = length l.left

abbrev pub invariant-loop-left : goal.invariant-loop-left
invariant-loop-left l = are_live l.left l.exited l.values ≡ are_live l.initial.left l.exited l.initial.values
