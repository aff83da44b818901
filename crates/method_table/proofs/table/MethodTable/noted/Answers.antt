-- An indexed slot has the record of the serial's unfreed code.
use Rattle.std.proofs.Common.{◌≡◌, None, Some, ap, sym, refl, rules}
use Rattle.std.proofs.lemmas.Option.{slice_get_read}
use Rattle.method_table.specs.Slots.{slot_in}
use Rattle.method_table.specs.TableView.{TableView}
use Rattle.method_table.proofs.KeptLemmas.{table_is, noted_within, noted_is, unnoted_is}
use Rattle.method_table.proofs.table.MethodTable.noted.Goals as goal

pub index-requires : goal.index-requires
index-requires c = let within = noted_within _ _ _ _ _ _ _ c.self.invariant c.args.serial c.in-Some.slot (sym c.in-Some.ensures) in search rules

pub returns-in-Some : goal.returns-in-Some
returns-in-Some c =
    let codes : c.self.inside.history.codes ≡ c.args.self.now.codes = ap (λ (v : TableView). v.codes) c.self.view_is in
    let noted : slot_in c.self.inside.index c.args.serial ≡ Some c.in-Some.slot = sym c.in-Some.ensures in
    let there = slice_get_read c.self.inside.records.items _ c.in-Some.slot c.index.result.now refl (noted_within _ _ _ _ _ _ _ c.self.invariant c.args.serial c.in-Some.slot noted) c.index.ensures in
    record { sound = rw (← c.self.view_is) (table_is _ _ _ _ _ _ _ c.self.invariant); value = rw (← codes) (noted_is _ _ _ _ _ _ _ c.self.invariant c.args.serial c.in-Some.slot c.index.result.now noted there) }

pub returns-in-None : goal.returns-in-None
returns-in-None c =
    let codes : c.self.inside.history.codes ≡ c.args.self.now.codes = ap (λ (v : TableView). v.codes) c.self.view_is in
    let none : slot_in c.self.inside.index c.args.serial ≡ None = sym c.in-None.ensures in
    record { sound = rw (← c.self.view_is) (table_is _ _ _ _ _ _ _ c.self.invariant); value = rw (← codes) (sym (unnoted_is _ _ _ _ _ _ _ c.self.invariant c.args.serial none)) }
