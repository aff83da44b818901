use Rattle.std.proofs.Common.{◌≡◌, vec_capacity}
use Rattle.bodies.specs.Bodies.{IsPublished}
use Rattle.stopped_threads.proofs.Each.{AreSoFar}
use Rattle.stopped_threads.proofs.held.publish_all.Given as goal

abbrev pub invariant-loop-index : goal.invariant-loop-index
invariant-loop-index g l = AreSoFar IsPublished l.index l.fn.bodies.items l.bodies.items × (vec_capacity l.bodies ≡ vec_capacity l.fn.bodies)
