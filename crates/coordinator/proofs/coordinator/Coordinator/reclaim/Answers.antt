use Rattle.std.proofs.Common.{sym, subst}
use Rattle.desk.specs.JobsFit.{request_of}
use Rattle.stopped_threads.specs.Reclaiming.{IsReclaimed}
use Rattle.coordinator.specs.Rounds.{Begins, IsReclaimedBehind}
use Rattle.coordinator.proofs.Asked.{asked_some, asked_none}
use Rattle.coordinator.proofs.coordinator.Coordinator.reclaim.Goals as goal

pub returns-clause-shaken : goal.returns-clause-shaken
returns-clause-shaken g c some =
    let e = g.J.HandshakeOp in
    c.shake-shaken.ensures.shaken (asked_some e.whom e.asks c.args.jobs.items c.in_ok-begun.begun.asked c.in_ok-begun.ensures.begins.1 some)

pub returns-clause-alone : goal.returns-clause-alone
returns-clause-alone g c none =
    let e = g.J.HandshakeOp in
    c.shake-shaken.ensures.alone (asked_none e.whom e.asks c.args.jobs.items c.in_ok-begun.begun.asked c.in_ok-begun.ensures.begins.1 none)

pub returns-clause-behind : goal.returns-clause-behind
returns-clause-behind g c =
    let e = g.J.HandshakeOp in let s = c.shake-shaken in (
      s.result,
      (subst (Begins (request_of e.whom e.asks c.args.jobs.items)) (sym s.ensures.begun) c.in_ok-begun.ensures.begins, s.ensures.closed),
      subst (IsReclaimedBehind s.result.begun.asked g.N.Name.board.places c.args.serial) (sym c.end.ensures) c.weigh-said.ensures,
    )

pub returns-clause-reclaimed : goal.returns-clause-reclaimed
returns-clause-reclaimed g c = subst (IsReclaimed g.N.Name.board.places c.args.serial) (sym c.end.ensures) c.weigh-said.ensures.0
