use Rattle.std.proofs.Common.{◌≡◌, ◌++◌, ◌+◌, ◌≤◌, length, vec_len, vec_capacity}
use Rattle.desk.specs.Machine.{live_of}
use Rattle.desk.proofs.names.push_live.Given as goal

abbrev pub invariant-loop-name : goal.invariant-loop-name
invariant-loop-name l =
    (l.list.items ++ live_of l.live l.rest ≡ l.fn.list.items ++ live_of l.live l.fn.names)
    × (vec_len l.list + length l.rest ≤ vec_capacity l.list)
    × (vec_capacity l.list ≡ vec_capacity l.fn.list)

abbrev pub decreases-loop-name : goal.decreases-loop-name
decreases-loop-name l = length l.rest
