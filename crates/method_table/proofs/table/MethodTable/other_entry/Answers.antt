-- A freed code redirects the call. For any other code its state decides.
use Rattle.std.proofs.Common.{◌≡◌, None, ap, sym}
use Rattle.method_table.specs.declared.Code.{Code}
use Rattle.method_table.specs.Codes.{code_of, unfreed}
use Rattle.method_table.specs.TableView.{TableView}
use Rattle.method_table.proofs.KeptLemmas.{entry_found, entry_freed, some_of}
use Rattle.method_table.proofs.table.MethodTable.other_entry.Goals as goal

pub returns-in-Some-state : goal.returns-in-Some-state
returns-in-Some-state c =
    let codes : c.self.inside.history.codes ≡ c.args.self.now.codes = ap (λ (v : TableView). v.codes) c.self.view_is in
    let none : unfreed c.args.self.now.codes c.args.serial ≡ None = sym c.in_default.ensures.value in
    rw (← codes) (entry_freed _ _ _ _ _ _ _ c.self.invariant c.args.method c.args.serial (rw codes none) (rw codes (some_of (λ (code : Code). code.state) c.in-Some-state.field-0 (code_of c.args.self.now.codes c.args.serial) c.in-Some-state.ensures)))

pub returns : goal.returns
returns c =
    let codes : c.self.inside.history.codes ≡ c.args.self.now.codes = ap (λ (v : TableView). v.codes) c.self.view_is in
    rw (← codes) (rw c.entry_of.ensures (entry_found _ _ _ _ _ _ _ c.self.invariant c.args.method c.args.serial c.in-Some.code (rw codes (sym c.in-Some.ensures.value))))
