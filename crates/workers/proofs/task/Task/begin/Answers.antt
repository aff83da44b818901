use Rattle.std.proofs.Common.{subst, sym}
use Rattle.workers.specs.Ended.{IsBegun}
use Rattle.workers.proofs.Endings.{begun}
use Rattle.workers.proofs.task.Task.begin.Goals as goal

pub invariant_of-result : goal.invariant_of-result
invariant_of-result g c =
    subst (λ name. IsBegun c.args.code.now name c.step.new.steps c.step.new.self) (sym c.name-name.ensures)
    (begun c.args.code.now c.in-Ok.runner c.step.new.self c.args.worker c.step.new.steps c.in-Ok-step.field-0
    (λ bs is checked. c.in-Ok.ensures.left bs is checked) c.in-Ok.ensures.made c.in-Ok-step.ensures.stepped c.in-Ok-step.ensures.made c.requires)
