use Rattle.std.proofs.Common.{◌≡◌, replicate}
use Rattle.system.specs.declared.records.Record.{Record}
use Rattle.system.specs.Kept.Records.{new_record}
use Rattle.system.proofs.records.blank_records.Given as goal

abbrev pub invariant-loop-made : goal.invariant-loop-made
invariant-loop-made l = l.records.items ≡ replicate {A = Record} l._made (new_record 0)
