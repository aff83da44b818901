use Rattle.std.proofs.Common.{◌≡◌, ◌<◌, ◌^◌, drop}
use Rattle.replay.specs.Scanned.{digits_from}
use Rattle.replay.proofs.words.digits.Given as goal

abbrev pub invariant-loop-i : goal.invariant-loop-i
invariant-loop-i l = record { small : l.value < 2 ^ 40; so_far : digits_from l.value (drop l.i l.bytes) ≡ digits_from 0 l.bytes }
