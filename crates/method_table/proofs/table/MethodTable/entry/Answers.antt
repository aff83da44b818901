-- A method's current code admits the method.
use Rattle.std.proofs.Common.{◌≡◌, ap}
use Rattle.method_table.specs.TableView.{TableView}
use Rattle.method_table.proofs.KeptLemmas.{entry_current}
use Rattle.method_table.proofs.table.MethodTable.entry.Goals as goal

pub returns-in-Some : goal.returns-in-Some
returns-in-Some c =
    let codes : c.self.inside.history.codes ≡ c.args.self.now.codes = ap (λ (v : TableView). v.codes) c.self.view_is in
    rw (← codes) (entry_current _ _ _ _ _ _ _ c.self.invariant c.args.method c.args.serial c.in-Some.id (rw codes c.in-Some.ensures.value) c.if-id-serial.true)
