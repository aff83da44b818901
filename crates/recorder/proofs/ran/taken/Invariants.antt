use Rattle.std.proofs.Common.{◌≡◌, ◌++◌, drop}
use Rattle.recorder.specs.Ran.{taken}
use Rattle.recorder.proofs.ran.taken.Given as goal

abbrev pub invariant-loop-ran : goal.invariant-loop-ran
invariant-loop-ran l = l.list.items ++ taken l.runner (drop l.ran-index l.jobs) ≡ taken l.runner l.jobs
