use Rattle.script.proofs.ScriptSoFar.{ScriptSoFar}
use Rattle.script.proofs.checking.check.Given as goal

abbrev pub invariant-loop-number : goal.invariant-loop-number
invariant-loop-number l = ScriptSoFar l.count l.script.methods.items l.number l.methods.items l.walk.place
