use Rattle.std.proofs.Common.{◌≡◌, length, map}
use Rattle.desk.specs.Fields.{current_of}
use Rattle.desk.specs.Targets.{is_due_name}
use Rattle.desk.proofs.targets.is_due_name.Given as goal

abbrev pub invariant-loop-one : goal.invariant-loop-one
invariant-loop-one g l = is_due_name l.name (map current_of l.opened) l.rest ≡ is_due_name l.name (map current_of l.opened) l.fn.live

abbrev pub decreases-loop-one : goal.decreases-loop-one
decreases-loop-one g l = length l.rest
