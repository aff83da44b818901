use Rattle.std.proofs.Common.{◌∙◌, ap, subst}
use Rattle.desk.specs.Fields.{at}
use Rattle.stopped_threads.specs.Holding.{Holding}
use Rattle.stopped_threads.specs.Refused.{census_refused}
use Rattle.coordinator.proofs.coordinator.Coordinator.enter_operated.Goals as goal

pub returns-in-Err-clause-refused : goal.returns-in-Err-clause-refused
returns-in-Err-clause-refused g c =
    let s = at c.deref_mut.result.now in
    let no = c.in-Err.ensures.refused in
    let held = ap (λ (v : Holding). v.held) c.self.view_is in
    (s, subst (λ bs. census_refused s bs c.in-Err.fault) held no.2, no.1 ∙ held)
