use Rattle.std.proofs.Common.{◌≡◌, length, map}
use Rattle.desk.specs.Pending.{least_open}
use Rattle.desk.specs.Fields.{current_of}
use Rattle.desk.proofs.lists.least_open.Given as goal

abbrev pub invariant-loop-one : goal.invariant-loop-one
invariant-loop-one g l = least_open l.least (map current_of l.rest) ≡ least_open l.fn.least (map current_of l.fn.opened)

abbrev pub decreases-loop-one : goal.decreases-loop-one
decreases-loop-one g l = length l.rest
