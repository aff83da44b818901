use Rattle.std.proofs.Common.{subst}
use Rattle.desk.specs.Fields.{at}
use Rattle.stopped_threads.specs.Holding.{Holding}
use Rattle.stopped_threads.specs.Refused.{IsFound, tell_said}
use Rattle.stopped_threads.proofs.Staying.{staying}
use Rattle.coordinator.proofs.coordinator.Coordinator.try_tell.Goals as goal

pub returns-in-Said-clause-said : goal.returns-in-Said-clause-said
returns-in-Said-clause-said g c =
    let s = at c.deref.result.now in
    subst (λ (v : Holding). tell_said c.args.name v.armer v.armer c.in-Said.said) c.self.view_is
    (staying s c.args.name c.self.inside.armer.seen c.in-Said.said (subst (λ f. IsFound s c.args.name c.self.inside.armer.seen f) c.in-Said.is c.look_up.ensures))
