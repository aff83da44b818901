use Rattle.std.proofs.Common.{◌≡◌, length, map}
use Rattle.std.specs.List.{list_any}
use Rattle.desk.specs.Targets.{is_due_target}
use Rattle.desk.specs.Fields.{current_of}
use Rattle.desk.proofs.targets.is_due.Given as goal

abbrev pub invariant-loop-one : goal.invariant-loop-one
invariant-loop-one g l = list_any (is_due_target l.thread) (map current_of l.rest) ≡ list_any (is_due_target l.thread) (map current_of l.fn.opened)

abbrev pub decreases-loop-one : goal.decreases-loop-one
decreases-loop-one g l = length l.rest
