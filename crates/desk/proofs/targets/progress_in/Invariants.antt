use Rattle.std.proofs.Common.{◌≡◌, length, map}
use Rattle.std.specs.Prelude.{find}
use Rattle.desk.specs.Fields.{current_of}
use Rattle.desk.specs.Targets.{is_undone}
use Rattle.desk.proofs.targets.progress_in.Given as goal

abbrev pub invariant-loop-one : goal.invariant-loop-one
invariant-loop-one g l = find (is_undone l.next l.name l.last) (map current_of l.rest) ≡ find (is_undone l.next l.name l.last) (map current_of l.opened)

abbrev pub decreases-loop-one : goal.decreases-loop-one
decreases-loop-one g l = length l.rest
