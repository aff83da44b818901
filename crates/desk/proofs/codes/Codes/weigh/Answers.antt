use Rattle.std.proofs.Common.{◌∙◌, sym, ap, subst, refl}
use Rattle.frames.specs.BoardViews.{slot_of, IsIn, entry_stored, in_state, weighed}
use Rattle.frames.specs.declared.CodeId.{CodeId}
use Rattle.frames.specs.declared.board_rule.EntryState.TheVariants as entry
use Rattle.method_table.specs.declared.CodeState.TheVariants as state
use Rattle.method_table.specs.TableView.{TableView}
use Rattle.method_table.specs.Entries.{entry_state}
use Rattle.desk.proofs.CodeEntries.{stands, changed, noted, is_in}
use Rattle.desk.proofs.codes.Codes.weigh.Goals as goal

pub weigh-said-requires-clause-code : goal.weigh-said-requires-clause-code
weigh-said-requires-clause-code g c =
    let is = c.in_ok-code.ensures.code in
    subst (λ (d : CodeId). IsIn c.self.inside.keeper.seen d entry.NotEntrant) (sym c.id_of-id.ensures) (is_in c.self.inside.table c.self.inside.keeper.seen c.args.serial c.in_ok-code.code entry.NotEntrant c.self.invariant.2 c.find_not_entrant.ensures.sound is (ap entry_state c.in_ok-code.ensures.state)).1

pub invariant_of-self-in-Clear : goal.invariant_of-self-in-Clear
invariant_of-self-in-Clear g c =
    let m = c.self.invariant in let is = c.in_ok-code.ensures.code in let e = c.in-Clear.ensures in
    let s = stands c.self.inside.table c.self.inside.keeper.seen c.args.serial c.in_ok-code.code m.2 c.find_not_entrant.ensures.sound is in
    let mid = noted c.self.inside.table c.self.inside.keeper.seen c.weigh-said.new.self.seen c.in_ok-code.code.slot _ _ m.2 s.0 (e.step.1 ∙ ap (λ (d : CodeId). weighed c.self.inside.keeper.seen d 0) c.id_of-id.ensures) refl refl in
    let t = stands c.self.inside.table c.weigh-said.new.self.seen c.args.serial c.in_ok-code.code mid c.find_not_entrant.ensures.sound is in (
      c.retire-in-Clear.ensures.board ∙ (e.board ∙ m.0),
      m.1 ∙ sym (ap (λ (t : TableView). t.slots) c.in_ok-retire.ensures.codes),
      changed c.self.inside.table c.retire.new.self c.weigh-said.new.self.seen c.retire-in-Clear.new.self.seen c.args.serial c.in_ok-code.code state.Zombie _ _ mid c.find_not_entrant.ensures.sound is c.in_ok-retire.ensures.codes (c.retire-in-Clear.ensures.step ∙ ap (λ (d : CodeId). entry_stored c.weigh-said.new.self.seen d (in_state (slot_of c.weigh-said.new.self.seen d.slot) entry.Zombie)) c.id_of-id.ensures) t.2 refl,
    )
