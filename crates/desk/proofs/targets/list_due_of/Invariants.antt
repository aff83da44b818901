use Rattle.std.proofs.Common.{◌≡◌, ◌++◌, ◌∷◌, [], ◌-◌, length, take, vec_len, vec_capacity}
use Rattle.desk.specs.Fields.{current_of}
use Rattle.desk.specs.Targets.{due_of}
use Rattle.desk.proofs.targets.list_due_of.Given as goal

abbrev pub invariant-loop-one : goal.invariant-loop-one
invariant-loop-one g l =
    (l.list.items ++ take (vec_capacity l.list - vec_len l.list) (due_of (current_of l.fn.request ∷ []) l.rest)
    ≡ l.fn.list.items ++ take (vec_capacity l.fn.list - vec_len l.fn.list) (due_of (current_of l.fn.request ∷ []) l.fn.live))
    × (vec_capacity l.list ≡ vec_capacity l.fn.list)

abbrev pub decreases-loop-one : goal.decreases-loop-one
decreases-loop-one g l = length l.rest
