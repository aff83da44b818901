use Rattle.std.proofs.Common.{◌≡◌, length}
use Rattle.desk.specs.Machine.{place_of}
use Rattle.desk.proofs.targets.place_of.Given as goal

abbrev pub invariant-loop-one : goal.invariant-loop-one
invariant-loop-one l = place_of l.name l.rest ≡ place_of l.name l.fn.live

abbrev pub decreases-loop-one : goal.decreases-loop-one
decreases-loop-one l = length l.rest
