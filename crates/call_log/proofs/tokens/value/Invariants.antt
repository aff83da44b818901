use Rattle.std.proofs.Common.{◌≡◌, ◌<◌, ◌^◌, drop}
use Rattle.call_log.specs.Tokens.{value}
use Rattle.call_log.proofs.tokens.value.Given as goal

abbrev pub invariant-loop-b : goal.invariant-loop-b
invariant-loop-b l = record { small : l.n < 2 ^ 40; so_far : value l.n (drop l.b-index l.bytes) ≡ value 0 l.bytes }
