use Rattle.confirm.proofs.Telling.{tells_bad_tickets}
use Rattle.confirm.proofs.told.read_log.Goals as goal

pub returns-else-branch-clause-fault : goal.returns-else-branch-clause-fault
returns-else-branch-clause-fault c =
    tells_bad_tickets c.args.text.now c.in-Ok.log c.as_slice.result.now c.in_ok-all_rise.field-0 c.in-Ok.ensures.log c.as_slice.ensures.value c.in_ok-all_rise.ensures c.if-branch.false
