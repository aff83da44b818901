use Rattle.std.proofs.Common.{◌∙◌, sym, ap, subst, refl}
use Rattle.frames.specs.BoardViews.{IsIn, entry_stored, not_entrant}
use Rattle.frames.specs.declared.CodeId.{CodeId}
use Rattle.frames.specs.declared.board_rule.EntryState.TheVariants as entry
use Rattle.method_table.specs.declared.CodeState.TheVariants as state
use Rattle.method_table.specs.TableView.{TableView, invalidate_fault}
use Rattle.desk.proofs.CodeEntries.{stands, changed, is_in, may_invalidate}
use Rattle.desk.proofs.codes.Codes.invalidate.Goals as goal

pub invalidate-requires-2-clause-code : goal.invalidate-requires-2-clause-code
invalidate-requires-2-clause-code g c =
    let is = sym c.in-Some.ensures.value in
    subst (λ (d : CodeId). IsIn c.self.inside.keeper.seen d entry.InUse) (sym c.id_of-id.ensures) (is_in c.self.inside.table c.self.inside.keeper.seen c.args.serial c.in-Some.code entry.InUse c.self.invariant.2 c.in-Some.ensures.sound is (may_invalidate c.in-Some.code (sym (ap invalidate_fault is) ∙ c.in_ok-invalidate.ensures.accepted))).1

pub invariant_of-self-2 : goal.invariant_of-self-2
invariant_of-self-2 g c =
    let m = c.self.invariant in let is = sym c.in-Some.ensures.value in
    let s = stands c.self.inside.table c.self.inside.keeper.seen c.args.serial c.in-Some.code m.2 c.in-Some.ensures.sound is in (
      c.invalidate-2.ensures.board ∙ m.0,
      m.1 ∙ sym (ap (λ (t : TableView). t.slots) c.in_ok-invalidate.ensures.codes),
      changed c.self.inside.table c.invalidate.new.self c.self.inside.keeper.seen c.invalidate-2.new.self.seen c.args.serial c.in-Some.code state.NotEntrant _ _ m.2 c.in-Some.ensures.sound is c.in_ok-invalidate.ensures.codes (c.invalidate-2.ensures.step ∙ ap (λ (d : CodeId). entry_stored c.self.inside.keeper.seen d (not_entrant d c.self.inside.keeper.seen.moment)) c.id_of-id.ensures) refl refl,
    )
