use Rattle.std.proofs.Common.{◌≡◌, ◌<◌, ◌∙◌, sym, ap, subst}
use Rattle.frames.specs.BoardViews.{IsIn}
use Rattle.frames.specs.declared.CodeId.{CodeId}
use Rattle.frames.specs.declared.board_rule.EntryState.TheVariants as entry
use Rattle.method_table.specs.Entries.{entry_state}
use Rattle.desk.proofs.CodeEntries.{stands, looked_below, is_in}
use Rattle.desk.proofs.codes.Codes.look_at_all.Goals as goal

pub look_below-requires-clause-code : goal.look_below-requires-clause-code
look_below-requires-clause-code g c =
    let is = c.in_ok-code.ensures.code in
    subst (λ (d : CodeId). IsIn c.self.inside.keeper.seen d entry.NotEntrant) (sym c.id_of.ensures) (is_in c.self.inside.table c.self.inside.keeper.seen c.args.serial c.in_ok-code.code entry.NotEntrant c.self.invariant.2 c.find_not_entrant.ensures.sound is (ap entry_state c.in_ok-code.ensures.state)).1

pub invariant_of-self : goal.invariant_of-self
invariant_of-self g c =
    let m = c.self.invariant in
    let s = stands c.self.inside.table c.self.inside.keeper.seen c.args.serial c.in_ok-code.code m.2 c.find_not_entrant.ensures.sound (c.in_ok-code.ensures.code) in
    let slot : c.id_of.result.slot ≡ c.in_ok-code.code.slot = ap (λ (d : CodeId). d.slot) c.id_of.ensures in
    let low = subst (λ n. n < c.self.inside.table.slots) (sym slot) s.0 in (
      c.look_below.ensures.board ∙ m.0,
      m.1,
      looked_below c.self.inside.table c.id_of.result c.args.places c.self.inside.keeper.seen c.look_below.new.keeper.seen m.2 low c.look_below.ensures.looks,
    )
