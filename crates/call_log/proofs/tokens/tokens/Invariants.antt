use Rattle.std.proofs.Common.{◌≡◌, ◌++◌, drop, map}
use Rattle.call_log.specs.Tokens.{token_of}
use Rattle.call_log.proofs.tokens.tokens.Given as goal

abbrev pub invariant-loop-part : goal.invariant-loop-part
invariant-loop-part l = l.tokens.items ++ map token_of (map (λ x. x.now) (drop l.part-index l.part-items)) ≡ map token_of (map (λ x. x.now) l.part-items)
