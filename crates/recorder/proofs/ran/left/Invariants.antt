use Rattle.std.proofs.Common.{◌≡◌, ◌++◌, drop}
use Rattle.recorder.specs.Ran.{left}
use Rattle.recorder.proofs.ran.left.Given as goal

abbrev pub invariant-loop-ran : goal.invariant-loop-ran
invariant-loop-ran l = l.list.items ++ left l.runner (drop l.ran-index l.jobs) ≡ left l.runner l.jobs
