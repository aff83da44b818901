use Rattle.std.proofs.Common.{◌≡◌, length, map}
use Rattle.desk.specs.Machine.{has_census}
use Rattle.desk.specs.Fields.{current_of}
use Rattle.desk.proofs.lists.has_census.Given as goal

abbrev pub invariant-loop-one : goal.invariant-loop-one
invariant-loop-one g l = has_census (map current_of l.rest) ≡ has_census (map current_of l.fn.opened)

abbrev pub decreases-loop-one : goal.decreases-loop-one
decreases-loop-one g l = length l.rest
