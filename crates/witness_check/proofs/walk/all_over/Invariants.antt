use Rattle.std.proofs.Common.{◌≡◌, length}
use Rattle.witness_check.specs.Walk.{all_over}
use Rattle.witness_check.proofs.walk.all_over.Given as goal

abbrev pub decreases-loop-calls : goal.decreases-loop-calls
decreases-loop-calls l = length l.calls

abbrev pub invariant-loop-calls : goal.invariant-loop-calls
invariant-loop-calls l = all_over l.recorded l.calls l.stages ≡ all_over l.recorded l.initial.calls l.initial.stages
