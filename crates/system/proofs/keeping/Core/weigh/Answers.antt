use Rattle.std.proofs.Common.{◌∙◌, sym, refl, arith}
use Rattle.system.proofs.ReclaimEvents.{at_index, no_weigh, not_looked, used, retired}
use Rattle.system.proofs.keeping.Core.weigh.Goals as goal

pub returns-in-Err : goal.returns-in-Err
returns-in-Err c = no_weigh c.args.self.now c.args.serial c.in-Err.refusal (sym c.not_entrant.ensures.value ∙ c.in-Err.is)

pub returns-in-Some : goal.returns-in-Some
returns-in-Some c =
    not_looked c.args.self.now c.args.serial c.in-Some.place c.in-Ok.code c.index.result.now (sym c.not_entrant.ensures.value ∙ c.in-Ok.is)
    (at_index c.args.self.now.records.items c.in-Ok.code.slot c.index.result.now (omega (arith, c.in-Ok.ensures.slot)) c.index.ensures)
    (record { low = omega (arith, c.in-Some.ensures.some.0); is_unlooked = c.in-Some.ensures.some.1; least = c.in-Some.ensures.some.2 })

pub returns-then-count-ne0 : goal.returns-then-count-ne0
returns-then-count-ne0 c =
    used c.args.self.now c.args.serial c.count-count.result c.in-Ok.code c.index.result.now (sym c.not_entrant.ensures.value ∙ c.in-Ok.is)
    (at_index c.args.self.now.records.items c.in-Ok.code.slot c.index.result.now (omega (arith, c.in-Ok.ensures.slot)) c.index.ensures)
    (λ place lt. c.in_default.ensures.none place (omega arith)) c.count-count.ensures c.if-count-ne0.true

pub returns-in-Ok-retire : goal.returns-in-Ok-retire
returns-in-Ok-retire c =
    retired c.args.self.now _ c.args.serial c.count-count.result c.in-Ok.code c.index.result.now (sym c.not_entrant.ensures.value ∙ c.in-Ok.is)
    (at_index c.args.self.now.records.items c.in-Ok.code.slot c.index.result.now (omega (arith, c.in-Ok.ensures.slot)) c.index.ensures)
    (λ place lt. c.in_default.ensures.none place (omega arith)) c.count-count.ensures c.if-count-ne0.false
    (record { table = c.in-Ok-retire.ensures.codes; places = refl; names = refl; moment_is = refl; requests = refl }) refl refl
