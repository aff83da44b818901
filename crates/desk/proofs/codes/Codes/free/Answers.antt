use Rattle.std.proofs.Common.{◌∙◌, sym, ap, subst, refl}
use Rattle.frames.specs.BoardViews.{slot_of, IsIn, entry_stored, in_state}
use Rattle.frames.specs.declared.CodeId.{CodeId}
use Rattle.frames.specs.declared.board_rule.EntryState.TheVariants as entry
use Rattle.method_table.specs.declared.CodeState.TheVariants as state
use Rattle.method_table.specs.TableView.{TableView, free_fault}
use Rattle.desk.proofs.CodeEntries.{stands, changed, is_in, may_free}
use Rattle.desk.proofs.codes.Codes.free.Goals as goal

pub store_vacant-requires-clause-code : goal.store_vacant-requires-clause-code
store_vacant-requires-clause-code g c =
    let is = sym c.in-Some.ensures.value in
    subst (λ (d : CodeId). IsIn c.self.inside.keeper.seen d entry.Zombie) (sym c.id_of-id.ensures) (is_in c.self.inside.table c.self.inside.keeper.seen c.args.serial c.in-Some.code entry.Zombie c.self.invariant.2 c.in-Some.ensures.sound is (may_free c.in-Some.code (sym (ap free_fault is) ∙ c.in_ok-free.ensures.accepted))).1

pub invariant_of-self-2 : goal.invariant_of-self-2
invariant_of-self-2 g c =
    let m = c.self.invariant in let is = sym c.in-Some.ensures.value in
    let s = stands c.self.inside.table c.self.inside.keeper.seen c.args.serial c.in-Some.code m.2 c.in-Some.ensures.sound is in (
      c.store_vacant.ensures.board ∙ m.0,
      m.1 ∙ sym (ap (λ (t : TableView). t.slots) c.in_ok-free.ensures.codes),
      changed c.self.inside.table c.free.new.self c.self.inside.keeper.seen c.store_vacant.new.keeper.seen c.args.serial c.in-Some.code state.Freed _ _ m.2 c.in-Some.ensures.sound is c.in_ok-free.ensures.codes (c.store_vacant.ensures.entry ∙ ap (λ (d : CodeId). entry_stored c.self.inside.keeper.seen d (in_state (slot_of c.self.inside.keeper.seen d.slot) entry.Vacant)) c.id_of-id.ensures) s.2 refl,
    )
