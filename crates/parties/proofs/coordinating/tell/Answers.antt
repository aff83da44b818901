use Rattle.std.proofs.Common.{refl, rules, subst}
use Rattle.desk.specs.Fields.{at}
use Rattle.stopped_threads.specs.Refused.{tell_stays}
use Rattle.parties.proofs.coordinating.tell.Goals as goal

pub returns-in-Err-Err-clause-refused : goal.returns-in-Err-Err-clause-refused
returns-in-Err-Err-clause-refused g c =
    let d = c.deref-2.result.now in
    (refl, (d, search rules, subst (λ said. tell_stays {N = g.row.N.Denot} (at d) c.args.name c.args.keeps.now.armer said) c.in-Err-Err.field-0-is c.in-Err-Err.ensures.said))
