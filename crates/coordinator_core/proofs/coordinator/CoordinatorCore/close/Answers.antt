use Rattle.std.proofs.Common.{◌∙◌, refl, ap, subst}
use Rattle.desk.specs.Fields.{at}
use Rattle.desk.specs.Refusals.{close_refused}
use Rattle.stopped_threads.specs.Holding.{Holding}
use Rattle.coordinator_core.proofs.coordinator.CoordinatorCore.close.Goals as goal

pub returns-in-Err-clause-refused : goal.returns-in-Err-clause-refused
returns-in-Err-clause-refused g c =
    let s = at c.args.desk.now in let err = c.in-Err.ensures.err in
    let held = c.as_slice.ensures.value ∙ ap (λ (v : Holding). v.held) c.self.view_is in
    (subst (λ bs. close_refused s c.args.number bs c.in-Err.fault) held err.1, err.0, refl)
