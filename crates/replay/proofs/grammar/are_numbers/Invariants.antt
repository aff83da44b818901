use Rattle.std.proofs.Common.{◌≡◌, length, is_some}
use Rattle.replay.specs.Words.{words_after}
use Rattle.replay.specs.Grammar.{numbers}
use Rattle.replay.proofs.grammar.are_numbers.Given as goal

abbrev pub decreases-loop-rest : goal.decreases-loop-rest
decreases-loop-rest l = length l.rest

abbrev pub invariant-loop-rest : goal.invariant-loop-rest
invariant-loop-rest l = is_some (numbers (words_after l.rest)) ≡ is_some (numbers (words_after l.tail))
