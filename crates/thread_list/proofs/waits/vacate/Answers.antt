use Rattle.std.proofs.Common.{◌∙◌}
use Rattle.thread_list.proofs.Turned.{vacates}
use Rattle.thread_list.proofs.waits.vacate.Goals as goal

pub returns-in-Ok-clause-vacated : goal.returns-in-Ok-clause-vacated
returns-in-Ok-clause-vacated g c =
    let p = c.publish.ensures in let l = c.loop.invariant in
    vacates c.args.body.seat.place c.args.body.name c.in-Ok.vacated c.publish.new.self c.in-Ok.ensures.ok (p.name_stays ∙ l.2.0) (p.place_stays ∙ l.2.1) (p.frames_stay ∙ l.4) p.settled
