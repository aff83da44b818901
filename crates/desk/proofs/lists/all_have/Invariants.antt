use Rattle.std.proofs.Common.{◌≡◌, length}
use Rattle.std.specs.List.{list_all}
use Rattle.desk.specs.Refusals.{has_body}
use Rattle.desk.proofs.lists.all_have.Given as goal

abbrev pub invariant-loop-one : goal.invariant-loop-one
invariant-loop-one g l = list_all (λ k. has_body k.name l.bodies) l.rest ≡ list_all (λ k. has_body k.name l.bodies) l.fn.live

abbrev pub decreases-loop-one : goal.decreases-loop-one
decreases-loop-one g l = length l.rest
