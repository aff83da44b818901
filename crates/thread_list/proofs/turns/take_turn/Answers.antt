use Rattle.std.proofs.Common.{◌≡◌, ◌<◌, ◌∙◌, Some, ap, subst, rules}
use Rattle.bodies.specs.Bodies.{BodyView, IsPublished}
use Rattle.berths.specs.Berths.{moved, job_of}
use Rattle.berths.specs.declared.room.BodyAct.TheVariants.{Served}
use Rattle.thread_list.proofs.Turned.{turned}
use Rattle.thread_list.proofs.turns.take_turn.Goals as goal

pub returns-clause-turn : goal.returns-clause-turn
returns-clause-turn g c =
    let e = g.J.HandshakeOp in let s = c.turn-body in let out = s.ensures.out in let job = c.in-Some.job in let done = c.serve-finished in
    let is : s.result.outing.out ≡ moved s.result.body (Served (Some (record { number = e.number job; ask = e.asks job }))) =
    out.shown ∙ ap (λ o. moved s.result.body (Served (job_of e.number e.asks o))) c.in-Some.is in
    let some : 0 < e.number job = search rules in
    let published : IsPublished s.result.body c.publish.new.self = subst (λ (b : BodyView). IsPublished b c.publish.new.self) c.into_body-body.ensures c.publish.ensures in
    let for_it : e.whom job ≡ c.args.body.name = search rules in
    turned c.args.body.seat.place c.args.body.name (e.number job) (e.whom job) (e.asks job) s.result.outing.out done.result.0 s.result.body c.publish.new.self done.new.body done.ensures.cleared.0
    is out.named out.placed some published done.ensures.entry for_it done.ensures.before_the_clear done.ensures.asked done.ensures.body done.ensures.cleared.1
