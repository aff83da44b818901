use Rattle.std.proofs.Common.{◌≡◌, drop, length, not}
use Rattle.std.specs.Prelude.{filter}
use Rattle.frames.specs.Nets.{is_zero}
use Rattle.frames.proofs.nets.are_zero.Given as goal

abbrev pub invariant-loop-net : goal.invariant-loop-net
invariant-loop-net l = length (filter (λ net. not (is_zero net.by)) l.nets) ≡ length (filter (λ net. not (is_zero net.by)) (drop l.net-index l.nets))
