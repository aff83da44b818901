use Rattle.std.proofs.Common.{◌∙◌, sym, ap, refl, arith}
use Rattle.std.specs.Prelude.{slice_set}
use Rattle.system.specs.declared.records.Record.{Record}
use Rattle.system.specs.Kept.Records.{with_look}
use Rattle.system.proofs.Lists.{same_at}
use Rattle.system.proofs.ReclaimEvents.{at_index, no_look, no_place, late, clear}
use Rattle.system.proofs.keeping.Core.look.Goals as goal

pub returns-in-Err : goal.returns-in-Err
returns-in-Err c = no_look c.args.self.now c.args.serial c.args.place c.in-Err.refusal (sym c.not_entrant.ensures.value ∙ c.in-Err.is)

pub returns-then-place-len : goal.returns-then-place-len
returns-then-place-len c = no_place c.args.self.now c.args.serial c.args.place c.in-Ok.code (sym c.not_entrant.ensures.value ∙ c.in-Ok.is) (omega arith)

pub returns-then-not-is_clear : goal.returns-then-not-is_clear
returns-then-not-is_clear c =
    late c.args.self.now c.args.serial c.args.place c.in-Ok.code c.index.result.now c.index-2.result.now (sym c.not_entrant.ensures.value ∙ c.in-Ok.is)
    (at_index c.args.self.now.records.items c.in-Ok.code.slot c.index.result.now (omega (arith, c.in-Ok.ensures.slot)) c.index.ensures)
    (at_index c.args.self.now.places.items c.args.place c.index-2.result.now (omega arith) c.index-2.ensures)
    (sym c.is_clear.ensures ∙ c.if-not-is_clear.true)

pub returns : goal.returns
returns c =
    let at_slot = at_index c.args.self.now.records.items c.in-Ok.code.slot c.index.result.now (omega (arith, c.in-Ok.ensures.slot)) c.index.ensures in
    let again = at_index c.args.self.now.records.items c.in-Ok.code.slot c.index_mut.result.now (omega (arith, c.in-Ok.ensures.slot)) c.index_mut.ensures.value in
    let same = same_at c.args.self.now.records.items c.in-Ok.code.slot c.index_mut.result.now c.index.result.now again at_slot in
    clear c.args.self.now _ c.args.serial c.args.place c.in-Ok.code c.index.result.now c.index-2.result.now (sym c.not_entrant.ensures.value ∙ c.in-Ok.is) at_slot
    (at_index c.args.self.now.places.items c.args.place c.index-2.result.now (omega arith) c.index-2.ensures)
    (sym c.is_clear.ensures ∙ c.if-not-is_clear.false) (record { table = refl; places = refl; names = refl; moment_is = refl; requests = refl })
    (ap (λ (r : Record). slice_set c.args.self.now.records.items c.in-Ok.code.slot r) (c.look.ensures ∙ ap (λ (r : Record). with_look r c.args.place) same)) refl
