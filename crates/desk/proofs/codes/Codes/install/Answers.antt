use Rattle.std.proofs.Common.{◌<◌, ◌∙◌, sym, ap, subst, refl}
use Rattle.std.specs.Prelude.{IfSome}
use Rattle.frames.specs.BoardViews.{slot_of, IsIn}
use Rattle.frames.specs.declared.board_rule.EntryState.TheVariants as entry
use Rattle.method_table.specs.TableView.{TableView}
use Rattle.desk.proofs.CodeEntries.{vacant_at, replaced_in, installed_over}
use Rattle.desk.proofs.codes.Codes.install.Goals as goal

pub store_new-requires-clause-old : goal.store_new-requires-clause-old
store_new-requires-clause-old g c =
    let m = c.self.invariant in
    let slots = c.self.invariant.0 in
    subst (λ n. IfSome c.in_ok-installed.installed.replaced (λ old. (old.slot < n) × IsIn c.self.inside.keeper.seen old entry.InUse)) (sym m.1 ∙ ap (λ b. b.slots) (sym m.0))
    (replaced_in c.self.inside.table c.self.inside.keeper.seen c.args.method c.in_ok-installed.installed.replaced m.2 c.slots-slots.ensures.sound c.in_ok-installed.ensures.replaced)

pub store_new-requires-clause-vacant : goal.store_new-requires-clause-vacant
store_new-requires-clause-vacant g c =
    (vacant_at c.self.inside.table c.self.inside.keeper.seen c.in_ok-installed.installed.code.slot c.self.invariant.2 c.slots-slots.ensures.sound c.in_ok-installed.ensures.slot c.in_ok-installed.ensures.in_slots).0

pub store_new-requires-clause-later : goal.store_new-requires-clause-later
store_new-requires-clause-later g c =
    subst (λ n. (slot_of c.self.inside.keeper.seen c.in_ok-installed.installed.code.slot).serial < n) (sym c.in_ok-installed.ensures.serial)
    (vacant_at c.self.inside.table c.self.inside.keeper.seen c.in_ok-installed.installed.code.slot c.self.invariant.2 c.slots-slots.ensures.sound c.in_ok-installed.ensures.slot c.in_ok-installed.ensures.in_slots).1

pub invariant_of-self-2 : goal.invariant_of-self-2
invariant_of-self-2 g c =
    let m = c.self.invariant in (
      c.store_new.ensures.board ∙ m.0,
      m.1 ∙ sym (ap (λ (t : TableView). t.slots) c.in_ok-installed.ensures.codes),
      installed_over c.self.inside.table c.install.new.self c.self.inside.keeper.seen c.store_new.new.keeper.seen c.args.method c.in_ok-installed.installed.code.slot c.in_ok-installed.installed.code c.in_ok-installed.installed.replaced m.2 c.slots-slots.ensures.sound
          c.in_ok-installed.ensures.slot c.in_ok-installed.ensures.in_slots c.in_ok-installed.ensures.replaced c.in_ok-installed.ensures.codes refl c.in_ok-installed.ensures.serial c.store_new.ensures.entry,
    )
