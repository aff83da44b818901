use Rattle.std.proofs.Common.{length}
use Rattle.confirm.proofs.Fronts.{Front}
use Rattle.confirm.proofs.parts.part.Given as goal

abbrev pub invariant-loop-line : goal.invariant-loop-line
invariant-loop-line l = Front l.text l.rest

abbrev pub decreases-loop-line : goal.decreases-loop-line
decreases-loop-line l = length l.rest
