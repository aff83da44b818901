use Rattle.std.proofs.Common.{◌≢◌, ◌<◌, ◌∙◌, sym, subst}
use Rattle.bodies.specs.Bodies.{BodyView}
use Rattle.stopped_threads.specs.Serves.{IsServed, last_of}
use Rattle.stopped_threads.proofs.ServeLemmas.{brought}
use Rattle.stopped_threads.proofs.served.BodyInService.try_back.Goals as goal

pub returns-in-Ok-clause-brought : goal.returns-in-Ok-clause-brought
returns-in-Ok-clause-brought g c =
    let e = g.J.HandshakeOp in let i = c.self.inside in
    brought e.number e.whom e.asks e.may_answer i.out.value i.body i.first (last_of i.first i.later) c.of.result.value c.self.invariant.2 (c.of.ensures ∙ c.in-Ok.ensures.ok)

pub invariant_of-served : goal.invariant_of-served
invariant_of-served g c =
    let e = g.J.HandshakeOp in let i = c.self.inside in let m = c.self.invariant in let same = sym (c.into_body-body.ensures ∙ c.in-Err.ensures.told.0) in (
      subst (λ (b : BodyView). b.seat.stored ≢ 0) same m.0,
      subst (λ (b : BodyView). 0 < b.name) same m.1,
      subst (λ (b : BodyView). IsServed e.number e.whom e.asks e.may_answer i.out.value.body b i.first (last_of i.first i.later)) same m.2,
    )
