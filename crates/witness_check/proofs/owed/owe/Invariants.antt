use Rattle.std.proofs.Common.{◌≡◌, ◌++◌, drop, map}
use Rattle.witness_check.specs.Owed.{owed_to}
use Rattle.witness_check.proofs.owed.owe.Given as goal

abbrev pub invariant-loop-name : goal.invariant-loop-name
invariant-loop-name l = l.owed.items ++ map (owed_to l.op) (drop l.name-index l.targets) ≡ l.fn.owed.items ++ map (owed_to l.op) l.targets
