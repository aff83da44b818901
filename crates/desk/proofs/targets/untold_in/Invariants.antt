use Rattle.std.proofs.Common.{◌≡◌, length, map}
use Rattle.desk.specs.Fields.{current_of}
use Rattle.desk.specs.Targets.{untold_in}
use Rattle.desk.proofs.targets.untold_in.Given as goal

abbrev pub invariant-loop-one : goal.invariant-loop-one
invariant-loop-one g l = untold_in l.next l.name l.last (map current_of l.rest) ≡ untold_in l.next l.name l.last (map current_of l.fn.opened)

abbrev pub decreases-loop-one : goal.decreases-loop-one
decreases-loop-one g l = length l.rest
