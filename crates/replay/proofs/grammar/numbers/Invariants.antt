use Rattle.std.proofs.Common.{◌≡◌, ◌++◌, length, option_map}
use Rattle.replay.specs.Words.{words_after}
use Rattle.replay.specs.Grammar.{numbers}
use Rattle.replay.proofs.grammar.numbers.Given as goal

abbrev pub decreases-loop-rest : goal.decreases-loop-rest
decreases-loop-rest l = length l.rest

abbrev pub invariant-loop-rest : goal.invariant-loop-rest
invariant-loop-rest l = option_map (λ names. l.names.items ++ names) (numbers (words_after l.rest)) ≡ numbers (words_after l.tail)
