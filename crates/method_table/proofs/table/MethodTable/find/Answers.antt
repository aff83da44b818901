-- The guessed slot's record is the result if it has the serial.
use Rattle.std.proofs.Common.{◌≡◌, ◌<◌, ◌∙◌, ap, sym, refl, length, rules}
use Rattle.std.proofs.lemmas.Option.{slice_get_read}
use Rattle.method_table.specs.Codes.{unfreed}
use Rattle.method_table.specs.TableView.{TableView}
use Rattle.method_table.proofs.KeptLemmas.{table_is, record_is}
use Rattle.method_table.proofs.table.MethodTable.find.Goals as goal

pub returns-then-takes_slot-clause-sound : goal.returns-then-takes_slot-clause-sound
returns-then-takes_slot-clause-sound c = rw (← c.self.view_is) (table_is _ _ _ _ _ _ _ c.self.invariant)

pub returns-then-takes_slot-clause-value : goal.returns-then-takes_slot-clause-value
returns-then-takes_slot-clause-value c =
    let codes : c.self.inside.history.codes ≡ c.args.self.now.codes = ap (λ (v : TableView). v.codes) c.self.view_is in
    let within : c.slot_of-slot.result < length c.self.inside.records.items = search rules in
    let there = slice_get_read c.self.inside.records.items _ _ c.index-code.result.now refl within c.index-code.ensures in
    rw (← codes) (record_is _ _ _ _ _ _ _ c.self.invariant _ c.index-code.result.now there (sym c.takes_slot.ensures ∙ c.if-takes_slot.true) ∙ ap (unfreed c.self.inside.history.codes) c.if-code-serial.true)
