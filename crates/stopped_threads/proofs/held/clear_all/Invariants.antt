use Rattle.std.proofs.Common.{◌≡◌, vec_capacity}
use Rattle.thread_list.specs.Moves.{IsCleared}
use Rattle.stopped_threads.proofs.Each.{AreSoFar}
use Rattle.stopped_threads.proofs.held.clear_all.Given as goal

abbrev pub invariant-loop-index : goal.invariant-loop-index
invariant-loop-index g l = AreSoFar (IsCleared l.number) l.index l.fn.bodies.items l.bodies.items × (vec_capacity l.bodies ≡ vec_capacity l.fn.bodies)
