use Rattle.std.proofs.Common.{◌≡◌, drop}
use Rattle.witness_check.specs.Streams.{rise, all_rise}
use Rattle.witness_check.proofs.streams.all_rise.Given as goal

abbrev pub invariant-loop-entry : goal.invariant-loop-entry
invariant-loop-entry l = rise l.least.items (drop l.entry-index l.calls) ≡ all_rise l.calls
