use Rattle.std.proofs.Common.{◌≡◌, length, map}
use Rattle.desk.specs.Machine.{is_least}
use Rattle.desk.specs.Fields.{current_of}
use Rattle.desk.proofs.lists.is_least.Given as goal

abbrev pub invariant-loop-one : goal.invariant-loop-one
invariant-loop-one g l = is_least l.number l.name (map current_of l.rest) ≡ is_least l.number l.name (map current_of l.fn.opened)

abbrev pub decreases-loop-one : goal.decreases-loop-one
decreases-loop-one g l = length l.rest
