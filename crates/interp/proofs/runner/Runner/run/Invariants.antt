use Rattle.interp.proofs.Goings.{RanSoFar}
use Rattle.interp.proofs.runner.Runner.run.Given as goal

abbrev pub invariant-loop-mark : goal.invariant-loop-mark
invariant-loop-mark g l = RanSoFar g.S.Steps.marked l.fn.self l.fn.steps l.fn.fuel l.self l.steps l.left

abbrev pub decreases-loop-mark : goal.decreases-loop-mark
decreases-loop-mark g l = l.left
