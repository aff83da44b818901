use Rattle.script.proofs.MethodsSoFar.{MethodsSoFar}
use Rattle.script.proofs.reading.read_methods.Given as goal

abbrev pub invariant-loop-number : goal.invariant-loop-number
invariant-loop-number l = MethodsSoFar l.values.items l.number l.walk.items l.methods.items l.walk.place
