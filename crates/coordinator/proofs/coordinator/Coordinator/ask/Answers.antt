use Rattle.std.proofs.Common.{Bool, subst, rules}
use Rattle.operations.specs.declared.Request.{Request}
use Rattle.desk.specs.Fields.{at}
use Rattle.desk.specs.JobsFit.{jobs_fit, request_of}
use Rattle.desk.specs.Refusals.{reclaim_refused}
use Rattle.coordinator.proofs.coordinator.Coordinator.ask.Goals as goal

pub returns-in_default-clause-refused : goal.returns-in_default-clause-refused
returns-in_default-clause-refused g c =
    let d = c.deref.result.now in let e = g.J.HandshakeOp in (
      at d,
      d.book,
      d.keeper.moment,
      subst (λ js. reclaim_refused (at d) c.args.serial (request_of e.whom e.asks js) (λ r. jobs_fit e.whom e.asks r js) d.book d.keeper.moment c.fault_without_memory-fault.result)
          c.as_slice.ensures.value c.fault_without_memory-fault.ensures,
    )

pub returns-in-Err-clause-refused : goal.returns-in-Err-clause-refused
returns-in-Err-clause-refused g c =
    let d = c.deref_mut.result.now in
    let fits : Request → Bool = λ r. jobs_fit g.J.HandshakeOp.whom g.J.HandshakeOp.asks r c.args.jobs.items in
    (at d, d.book, d.keeper.moment, subst (λ r. reclaim_refused (at d) c.args.serial r fits d.book d.keeper.moment c.in-Err.refused.fault) (search rules) c.in-Err.ensures.refused)
