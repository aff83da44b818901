use Rattle.std.proofs.Common.{◌≡◌, ap, rules, subst}
use Rattle.desk.specs.Fields.{DeskSeen, at}
use Rattle.parties.specs.Asked.{request_for, targets_at}
use Rattle.parties.proofs.Fits.{refused_fits}
use Rattle.parties.proofs.asking.submit.Goals as goal

pub returns-clause-refused : goal.returns-clause-refused
returns-clause-refused g c =
    let desk = c.deref_mut.result.now in
    let same : c.deref-2.result.now ≡ desk = search rules in
    let names = subst (λ (d : DeskSeen). c.in-Ok.names.items ≡ targets_at c.args.targets.now (at d)) same c.in-Ok.ensures in
    let ok = c.in-Ok-request_for.ensures in (
      desk,
      search rules,
      refused_fits _ _ (at desk) _ _ _ c.in-Ok-request_for.jobs.items desk.book c.in-Err.refused.fault ok.request (ap (request_for c.args.ask) names) ok.jobs
          c.in-Err.ensures.err.1,
    )
