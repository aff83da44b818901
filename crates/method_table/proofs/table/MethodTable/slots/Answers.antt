-- The fields of a table give `IsTable`.
use Rattle.method_table.proofs.KeptLemmas.{table_is}
use Rattle.method_table.proofs.table.MethodTable.slots.Goals as goal

pub returns-clause-sound : goal.returns-clause-sound
returns-clause-sound c = rw (← c.self.view_is) (table_is _ _ _ _ _ _ _ c.self.invariant)
