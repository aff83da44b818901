use Rattle.std.proofs.Common.{◌≡◌, ◌+◌, drop}
use Rattle.replay.specs.Scanned.{first_at}
use Rattle.replay.proofs.words.find.Given as goal

abbrev pub invariant-loop-i : goal.invariant-loop-i
invariant-loop-i l = l.i + first_at l.byte (drop l.i l.bytes) ≡ first_at l.byte l.bytes
