use Rattle.std.proofs.Common.{◌≡◌, ◌++◌, drop}
use Rattle.call_log.specs.Tokens.{numbers_from}
use Rattle.call_log.proofs.tokens.numbers.Given as goal

abbrev pub invariant-loop-token : goal.invariant-loop-token
invariant-loop-token l = l.numbers.items ++ numbers_from (drop l.token-index l.tokens) ≡ numbers_from l.tokens
