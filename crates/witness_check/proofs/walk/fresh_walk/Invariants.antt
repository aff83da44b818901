use Rattle.std.proofs.Common.{◌≡◌, ◌++◌, drop, map}
use Rattle.call_runs.specs.Whole.{first}
use Rattle.witness_check.proofs.walk.fresh_walk.Given as goal

abbrev pub invariant-loop-entry : goal.invariant-loop-entry
invariant-loop-entry l = l.stages.items ++ map first (drop l.entry-index l.calls) ≡ map first l.calls
