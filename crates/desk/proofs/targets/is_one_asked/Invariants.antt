use Rattle.std.proofs.Common.{◌≡◌, length, map}
use Rattle.std.specs.List.{list_any}
use Rattle.desk.specs.Targets.{is_asked}
use Rattle.desk.specs.Fields.{current_of}
use Rattle.desk.proofs.targets.is_one_asked.Given as goal

abbrev pub invariant-loop-one : goal.invariant-loop-one
invariant-loop-one g l = list_any (λ x. is_asked l.next l.name x.request) (map current_of l.rest) ≡ list_any (λ x. is_asked l.next l.name x.request) (map current_of l.fn.opened)

abbrev pub decreases-loop-one : goal.decreases-loop-one
decreases-loop-one g l = length l.rest
