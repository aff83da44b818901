-- The code and the fields change together.
use Rattle.std.proofs.Common.{◌≡◌, Some, ap, sym, ◌∙◌, refl, arith}
use Rattle.method_table.specs.declared.CodeState.TheVariants.{Freed}
use Rattle.method_table.specs.Codes.{unfreed}
use Rattle.method_table.specs.TableView.{TableView}
use Rattle.method_table.proofs.KeptLemmas.{table_is, slot_within, record_there, released, unused_zombie}
use Rattle.method_table.proofs.table.MethodTable.free.Goals as goal

pub set_state-requires : goal.set_state-requires
set_state-requires c =
    let codes : c.self.inside.history.codes ≡ c.args.self.now.codes = ap (λ (v : TableView). v.codes) c.self.view_is in
    let found : unfreed c.self.inside.history.codes c.args.serial ≡ Some c.in-Some.code = rw codes (sym c.in-Some.ensures.value) in
    slot_within _ _ _ _ _ _ _ c.self.invariant c.args.serial c.in-Some.code found

pub invariant_of-self : goal.invariant_of-self
invariant_of-self c =
    let codes : c.self.inside.history.codes ≡ c.args.self.now.codes = ap (λ (v : TableView). v.codes) c.self.view_is in
    let found : unfreed c.self.inside.history.codes c.args.serial ≡ Some c.in-Some.code = rw codes (sym c.in-Some.ensures.value) in
    let there = record_there _ _ _ _ _ _ _ c.self.invariant c.args.serial c.in-Some.code found in
    let unused = unused_zombie c.in-Some.code.state (sym c.is_zombie.ensures ∙ c.if-not-is_zombie.false) in
    rw (c.then-self-inside.ensures, c.set_state.ensures c.in-Some.code there) (released _ _ _ _ _ _ _ c.self.invariant c.args.serial c.in-Some.code found Freed _ c.min-self-inside.result c.forget.ensures unused refl refl (omega (arith, c.min-self-inside.ensures)) (omega (arith, c.min-self-inside.ensures)))

pub returns-clause-sound : goal.returns-clause-sound
returns-clause-sound c = table_is _ _ _ _ _ _ _ (invariant_of-self c)
