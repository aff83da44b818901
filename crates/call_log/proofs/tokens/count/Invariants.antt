use Rattle.std.proofs.Common.{◌≡◌, ◌+◌, drop}
use Rattle.call_log.specs.Tokens.{count_from}
use Rattle.call_log.proofs.tokens.count.Given as goal

abbrev pub invariant-loop-i : goal.invariant-loop-i
invariant-loop-i l = l.i + count_from (drop l.i l.tokens) ≡ count_from l.tokens
