use Rattle.std.specs.Prelude.{◌≡◌, ◌≤◌, ◌+◌, All, vec_len, vec_capacity}
use Rattle.std.specs.Vec.Iter.{into_iter_items, into_iter_len}
use Rattle.workers.proofs.threads.start_all.Given as goal

abbrev pub invariant-loop-task : goal.invariant-loop-task
invariant-loop-task g l =
    (vec_len l.handles + into_iter_len l.task-iterator ≡ vec_len l.fn.tasks)
    × (vec_len l.fn.tasks ≤ vec_capacity l.handles)
    × All (λ t. t.code ≡ l.fn.code) (into_iter_items l.task-iterator)
    × All (λ h. h.promise.code.value ≡ l.fn.code) l.handles.items
