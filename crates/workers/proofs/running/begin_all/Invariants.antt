use Rattle.std.proofs.Common.{◌≡◌, ◌≤◌, ◌-◌, All, vec_len, vec_capacity}
use Rattle.workers.proofs.running.begin_all.Given as goal

abbrev pub decreases-loop-alloc : goal.decreases-loop-alloc
decreases-loop-alloc g l = l.threads - vec_len l.tasks

abbrev pub invariant-loop-alloc : goal.invariant-loop-alloc
invariant-loop-alloc g l = (vec_len l.tasks ≤ l.threads) × (l.threads ≤ vec_capacity l.tasks) × All (λ t. t.code ≡ l.code) l.tasks.items
