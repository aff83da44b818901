use Rattle.std.proofs.Common.{◌≡◌, ◌≢◌, ◌<◌, ℕ, Some}
use Rattle.std.specs.Prelude.{slice_get}
use Rattle.bodies.specs.Bodies.{BodyView}
use Rattle.stopped_threads.proofs.held.index_of.Given as goal

abbrev pub invariant-loop-index : goal.invariant-loop-index
invariant-loop-index g l = (k : ℕ) (b : BodyView) → k < l.index → slice_get l.bodies k ≡ Some b → b.seat.place ≢ l.place
