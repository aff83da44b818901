use Rattle.std.proofs.Common.{None, length}
use Rattle.frames.specs.Nets.{IsRising}
use Rattle.frames.proofs.nets.rises.Given as goal

abbrev pub invariant-loop-net : goal.invariant-loop-net
invariant-loop-net l = IsRising l.last l.rest → IsRising None l.fn.nets

abbrev pub decreases-loop-net : goal.decreases-loop-net
decreases-loop-net l = length l.rest
