use Rattle.std.proofs.Common.{◌≤◌, ◌-◌, vec_len}
use Rattle.std.specs.Prelude.{All}
use Rattle.berths.specs.Berths.{IsRoom}
use Rattle.thread_list.proofs.parts.job_lists.Given as goal

abbrev pub invariant-loop-alloc : goal.invariant-loop-alloc
invariant-loop-alloc g l = (vec_len l.lists ≤ l.places) × All IsRoom l.lists.items

abbrev pub decreases-loop-alloc : goal.decreases-loop-alloc
decreases-loop-alloc g l = l.places - vec_len l.lists
