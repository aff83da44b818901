use Rattle.std.proofs.Common.{◌≡◌, length}
use Rattle.desk.specs.Targets.{name_at}
use Rattle.desk.proofs.targets.name_at.Given as goal

abbrev pub invariant-loop-one : goal.invariant-loop-one
invariant-loop-one l = name_at l.place l.rest ≡ name_at l.place l.fn.live

abbrev pub decreases-loop-one : goal.decreases-loop-one
decreases-loop-one l = length l.rest
