use Rattle.operations.specs.contracts.job.queries.QueryHandshakeOp.TheImpl.{ghosts}
use Rattle.parties.proofs.Hands.{err_left}
use Rattle.parties.proofs.coordinating.serve.Goals as goal

pub returns-in-Ok-Err-clause-refused : goal.returns-in-Ok-Err-clause-refused
returns-in-Ok-Err-clause-refused g c =
    let e = c.in-Ok-Err in
    err_left ghosts.number ghosts.whom ghosts.asks ghosts.may_answer c.args.keeps.now c.serve.new.self c.args.place c.deref_mut-2.result.now c.serve.new.room e.field-0
    e.field-0-0 e.field-0-is e.ensures.left
