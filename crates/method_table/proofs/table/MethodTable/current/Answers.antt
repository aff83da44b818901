-- The method's entry is its code in use.
use Rattle.std.proofs.Common.{◌≡◌, ap, rules, refl}
use Rattle.std.proofs.lemmas.Option.{slice_get_read}
use Rattle.method_table.specs.TableView.{TableView}
use Rattle.method_table.proofs.KeptLemmas.{table_is, current_is, none_past}
use Rattle.method_table.proofs.table.MethodTable.current.Goals as goal

pub returns-then-method-len : goal.returns-then-method-len
returns-then-method-len c =
    let codes : c.self.inside.history.codes ≡ c.args.self.now.codes = ap (λ (v : TableView). v.codes) c.self.view_is in
    record { sound = rw (← c.self.view_is) (table_is _ _ _ _ _ _ _ c.self.invariant); value = rw (← codes) (current_is _ _ _ _ _ _ _ c.self.invariant c.args.method c.index.result.now (slice_get_read c.self.inside.current.items _ c.args.method c.index.result.now refl (let l = c.if-method-len.true in search rules) c.index.ensures)) }

pub returns-else-method-len : goal.returns-else-method-len
returns-else-method-len c =
    let codes : c.self.inside.history.codes ≡ c.args.self.now.codes = ap (λ (v : TableView). v.codes) c.self.view_is in
    record { sound = rw (← c.self.view_is) (table_is _ _ _ _ _ _ _ c.self.invariant); value = rw (← codes) (rw (none_past _ _ _ _ _ _ _ c.self.invariant c.args.method (let l = c.if-method-len.false in search rules)) refl) }
