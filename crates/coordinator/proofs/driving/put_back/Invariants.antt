use Rattle.std.proofs.Common.{length}
use Rattle.coordinator.proofs.driving.put_back.Given as goal

abbrev pub decreases-loop-body : goal.decreases-loop-body
decreases-loop-body g l = length l.bodies
