use Rattle.std.proofs.Common.{◌≡◌, length}
use Rattle.witness_check.specs.Seen.{are_replies}
use Rattle.witness_check.proofs.seen.are_replies.Given as goal

abbrev pub decreases-loop-left : goal.decreases-loop-left
decreases-loop-left l = length l.left

abbrev pub invariant-loop-left : goal.invariant-loop-left
invariant-loop-left l = are_replies l.left l.op l.values ≡ are_replies l.initial.left l.op l.initial.values
