-- The code and the fields change together.
use Rattle.std.proofs.Common.{◌≡◌, Some, ap, sym, ◌∙◌, refl}
use Rattle.method_table.specs.declared.CodeState.TheVariants.{Zombie}
use Rattle.method_table.specs.Codes.{unfreed}
use Rattle.method_table.specs.TableView.{TableView}
use Rattle.method_table.proofs.KeptLemmas.{table_is, slot_within, record_there, moved, unused_not_entrant}
use Rattle.method_table.proofs.table.MethodTable.retire.Goals as goal

pub set_state-requires : goal.set_state-requires
set_state-requires c =
    let codes : c.self.inside.history.codes ≡ c.args.self.now.codes = ap (λ (v : TableView). v.codes) c.self.view_is in
    let found : unfreed c.self.inside.history.codes c.args.serial ≡ Some c.in-Some.code = rw codes (sym c.in-Some.ensures.value) in
    slot_within _ _ _ _ _ _ _ c.self.invariant c.args.serial c.in-Some.code found

pub invariant_of-self : goal.invariant_of-self
invariant_of-self c =
    let codes : c.self.inside.history.codes ≡ c.args.self.now.codes = ap (λ (v : TableView). v.codes) c.self.view_is in
    let found : unfreed c.self.inside.history.codes c.args.serial ≡ Some c.in-Some.code = rw codes (sym c.in-Some.ensures.value) in
    let there = record_there _ _ _ _ _ _ _ c.self.invariant c.args.serial c.in-Some.code found in
    let unused = unused_not_entrant c.in-Some.code.state (sym c.is_not_entrant.ensures ∙ c.if-not-is_not_entrant.false) in
    rw (c.then-self-inside.ensures, c.set_state.ensures c.in-Some.code there) (moved _ _ _ _ _ _ _ c.self.invariant c.args.serial c.in-Some.code found Zombie unused refl refl)

pub returns-clause-sound : goal.returns-clause-sound
returns-clause-sound c = table_is _ _ _ _ _ _ _ (invariant_of-self c)
