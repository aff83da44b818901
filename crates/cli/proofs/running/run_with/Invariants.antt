use Rattle.std.proofs.Common.{◌≡◌, ◌≤◌, ◌-◌, All, vec_len, vec_capacity}
use Rattle.workers.specs.Jobs.{AskDepths, AreForEach}
use Rattle.cli.proofs.running.run_with.Given as goal

abbrev pub ghosts-run_sized : goal.ghosts-run_sized
ghosts-run_sized g a = record { board = a.parts.board; poll_row = a.parts.row }

abbrev pub decreases-loop-alloc : goal.decreases-loop-alloc
decreases-loop-alloc g l = l.methods - vec_len l.jobs

abbrev pub invariant-loop-alloc : goal.invariant-loop-alloc
invariant-loop-alloc g l =
    (vec_len l.jobs ≤ l.methods) × (l.methods ≤ vec_capacity l.jobs)
    × All (λ js. AreForEach (λ j. j.target) (λ j. j.ask) l.threads js.items) l.jobs.items

abbrev pub invariant-loop-place : goal.invariant-loop-place
invariant-loop-place g l =
    (vec_len l.list ≡ l.place) × (l.threads ≤ vec_capacity l.list) × AskDepths (λ j. j.target) (λ j. j.ask) 1 l.list.items
