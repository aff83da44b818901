use Rattle.std.specs.List.{All}
use Rattle.std.proofs.Common.{◌≡◌, ◌++◌, length}
use Rattle.call_log.specs.Reading.{IsCall}
use Rattle.call_log.specs.Spelled.{calls_text}
use Rattle.call_log.proofs.reading.read_calls.Given as goal

abbrev pub decreases-loop-rest : goal.decreases-loop-rest
decreases-loop-rest l = length l.rest

abbrev pub invariant-loop-rest : goal.invariant-loop-rest
invariant-loop-rest l = (l.text ≡ calls_text l.calls.items ++ l.rest) × All IsCall l.calls.items
