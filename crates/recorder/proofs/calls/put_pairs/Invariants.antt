use Rattle.std.proofs.Common.{◌≡◌, ◌++◌, drop}
use Rattle.recorder.specs.Calls.{pairs}
use Rattle.recorder.proofs.calls.put_pairs.Given as goal

abbrev pub invariant-loop-pair : goal.invariant-loop-pair
invariant-loop-pair l = l.numbers.items ++ pairs (drop l.pair-index l.list) ≡ l.fn.numbers.items ++ pairs l.list
