use Rattle.std.proofs.Common.{◌≡◌, ◌+◌, drop}
use Rattle.call_log.specs.Tokens.{end_of}
use Rattle.call_log.proofs.tokens.find_end.Given as goal

abbrev pub invariant-loop-i : goal.invariant-loop-i
invariant-loop-i l = l.i + end_of (drop l.i l.bytes) ≡ end_of l.bytes
