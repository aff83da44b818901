use Rattle.std.proofs.Common.{◌≡◌, ◌<◌, ◌∙◌, ap, sym, subst}
use Rattle.bodies.specs.Bodies.{BodyView}
use Rattle.stopped_threads.specs.Serves.{IsServe, Behind, last_of}
use Rattle.stopped_threads.proofs.ServeLemmas.{serve_keeps, served_more}
use Rattle.stopped_threads.proofs.served.MoreToServe.again.Goals as goal

pub invariant_of-result : goal.invariant_of-result
invariant_of-result g c =
    let e = g.J.HandshakeOp in let i = c.served.inside in let m = c.served.invariant in let job = c.self.inside.job in let s = c.serve_body-last in
    let kept = serve_keeps e.number e.whom e.asks e.may_answer job i.body s.new.body s.result s.ensures in (
      kept.2 m.0,
      subst (λ n. 0 < n) (sym kept.0) m.1,
      served_more e.number e.whom e.asks e.may_answer job i.out.value.body i.body s.new.body i.first (last_of i.first i.later) s.result m.2 s.ensures,
    )

pub returns-clause-served : goal.returns-clause-served
returns-clause-served g c =
    let e = g.J.HandshakeOp in let s = c.serve_body-last in
    let body_is : c.served.inside.body ≡ c.args.self.served.body = ap (λ (v : Behind). v.body) c.served.view_is ∙ ap (λ u. u.served.body) c.self.view_is in
    let job_is : c.self.inside.job ≡ c.args.self.job = ap (λ u. u.job) c.self.view_is in
    subst (λ j. IsServe e.number e.whom e.asks e.may_answer j c.args.self.served.body s.new.body s.result) job_is
    (subst (λ (b : BodyView). IsServe e.number e.whom e.asks e.may_answer c.self.inside.job b s.new.body s.result) body_is s.ensures)
