-- The code and the fields change together.
use Rattle.std.proofs.Common.{◌≡◌, Some, ap, sym, ◌∙◌, refl, rules}
use Rattle.method_table.specs.declared.CodeState.TheVariants.{NotEntrant}
use Rattle.method_table.specs.Codes.{unfreed}
use Rattle.method_table.specs.TableView.{TableView}
use Rattle.method_table.proofs.KeptLemmas.{table_is, slot_within, record_there, dropped, method_within}
use Rattle.method_table.proofs.table.MethodTable.invalidate.Goals as goal

pub set_state-requires : goal.set_state-requires
set_state-requires c =
    let codes : c.self.inside.history.codes ≡ c.args.self.now.codes = ap (λ (v : TableView). v.codes) c.self.view_is in
    let found : unfreed c.self.inside.history.codes c.args.serial ≡ Some c.in-Some.code = rw codes (sym c.in-Some.ensures.value) in
    slot_within _ _ _ _ _ _ _ c.self.invariant c.args.serial c.in-Some.code found

pub index_mut-requires : goal.index_mut-requires
index_mut-requires c =
    let codes : c.self.inside.history.codes ≡ c.args.self.now.codes = ap (λ (v : TableView). v.codes) c.self.view_is in
    let found : unfreed c.self.inside.history.codes c.args.serial ≡ Some c.in-Some.code = rw codes (sym c.in-Some.ensures.value) in
    let used = sym c.is_in_use.ensures ∙ c.if-not-is_in_use.false in
    let within = method_within _ _ _ _ _ _ _ c.self.invariant c.args.serial c.in-Some.code found used in
    search rules

pub invariant_of-self : goal.invariant_of-self
invariant_of-self c =
    let codes : c.self.inside.history.codes ≡ c.args.self.now.codes = ap (λ (v : TableView). v.codes) c.self.view_is in
    let found : unfreed c.self.inside.history.codes c.args.serial ≡ Some c.in-Some.code = rw codes (sym c.in-Some.ensures.value) in
    let there = record_there _ _ _ _ _ _ _ c.self.invariant c.args.serial c.in-Some.code found in
    let used = sym c.is_in_use.ensures ∙ c.if-not-is_in_use.false in
    rw (c.then-self-inside.ensures, c.set_state.ensures c.in-Some.code there) (dropped _ _ _ _ _ _ _ c.self.invariant c.args.serial c.in-Some.code found NotEntrant used refl refl)

pub returns-clause-sound : goal.returns-clause-sound
returns-clause-sound c = table_is _ _ _ _ _ _ _ (invariant_of-self c)
