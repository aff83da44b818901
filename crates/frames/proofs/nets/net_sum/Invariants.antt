use Rattle.std.proofs.Common.{◌≡◌, ◌≤◌, ◌*◌, drop, length, pos, ◌+ℤ◌}
use Rattle.std.specs.Prelude.{◌≤ℤ◌}
use Rattle.frames.specs.Nets.{net_sum, AreSmall}
use Rattle.frames.proofs.nets.net_sum.Given as goal

abbrev pub invariant-loop-net : goal.invariant-loop-net
invariant-loop-net l =
    (l.sum +ℤ net_sum l.serial (drop l.net-index l.nets) ≡ net_sum l.serial l.nets)
    × (pos 0 ≤ℤ (l.sum +ℤ pos (256 * l.net-index))) × (l.sum ≤ℤ pos (256 * l.net-index))
    × AreSmall (drop l.net-index l.nets) × (length l.nets ≤ 1024)
