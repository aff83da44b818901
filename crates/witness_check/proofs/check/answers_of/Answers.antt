use Rattle.std.proofs.Common.{[]}
use Rattle.witness_check.proofs.Told.{told_all}
use Rattle.witness_check.proofs.check.answers_of.Goals as goal

pub returns : goal.returns
returns c =
    let made = c.in-Ok.ensures.stands in
    told_all c.in-Ok.made c.args.log.now c.args.events.now c.in-Ok-run.answers.items made.1 made.2 made.3 ((c.in-Ok-run.ensures.answered [] made.0).0) c.in-Ok.ensures.sized
