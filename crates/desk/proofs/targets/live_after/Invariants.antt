use Rattle.std.proofs.Common.{◌≡◌, length}
use Rattle.desk.specs.Targets.{live_after}
use Rattle.desk.proofs.targets.live_after.Given as goal

abbrev pub invariant-loop-one : goal.invariant-loop-one
invariant-loop-one l = live_after l.name l.rest ≡ live_after l.name l.fn.live

abbrev pub decreases-loop-one : goal.decreases-loop-one
decreases-loop-one l = length l.rest
