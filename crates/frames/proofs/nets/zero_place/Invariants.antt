use Rattle.std.proofs.Common.{◌≡◌, ◌+◌, drop, length, not}
use Rattle.std.specs.Prelude.{filter}
use Rattle.frames.specs.Nets.{is_zero}
use Rattle.frames.proofs.nets.zero_place.Given as goal

abbrev pub invariant-loop-place : goal.invariant-loop-place
invariant-loop-place l = length (filter (λ net. not (is_zero net.by)) l.nets) ≡ l.place + length (filter (λ net. not (is_zero net.by)) (drop l.place l.nets))
