use Rattle.std.proofs.Common.{◌≡◌, ◌++◌, drop}
use Rattle.std.specs.List.{flat_map}
use Rattle.call_log.specs.Spelled.{number_text}
use Rattle.call_log.proofs.writing.put_numbers.Given as goal

abbrev pub invariant-loop-n : goal.invariant-loop-n
invariant-loop-n l = l.text.items ++ flat_map number_text (drop l.n-index l.numbers) ≡ l.fn.text.items ++ flat_map number_text l.numbers
