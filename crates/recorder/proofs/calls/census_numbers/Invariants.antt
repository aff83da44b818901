use Rattle.std.proofs.Common.{◌≡◌, ◌++◌, ◌∷◌, drop}
use Rattle.recorder.specs.Calls.{pairs}
use Rattle.recorder.proofs.calls.census_numbers.Given as goal

abbrev pub invariant-loop-count : goal.invariant-loop-count
invariant-loop-count l = l.numbers.items ++ pairs (drop l.count-index l.counts) ≡ l.number ∷ pairs l.counts
