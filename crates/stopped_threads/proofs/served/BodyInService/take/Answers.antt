use Rattle.std.proofs.Common.{◌<◌, ◌∙◌, sym, subst}
use Rattle.stopped_threads.specs.Serves.{IsServe}
use Rattle.stopped_threads.proofs.ServeLemmas.{serve_keeps, served_once, out_and_served}
use Rattle.stopped_threads.proofs.served.BodyInService.take.Goals as goal

pub returns-clause-out : goal.returns-clause-out
returns-clause-out g c =
    let e = g.J.HandshakeOp in let t = c.in_ok-outgoing in let s = c.serve_body-first in
    let serve = subst (λ b. IsServe e.number e.whom e.asks e.may_answer t.job b s.new.body s.result) c.into_body-body.ensures s.ensures in
    (out_and_served e.number e.whom e.asks e.may_answer t.job c.args.place c.args.name c.of.result.value t.outgoing s.new.body s.result (c.of.ensures ∙ t.ensures.held) t.ensures.body.0 t.ensures.body.2 serve).0

pub returns-clause-served : goal.returns-clause-served
returns-clause-served g c =
    let e = g.J.HandshakeOp in let t = c.in_ok-outgoing in let s = c.serve_body-first in
    let serve = subst (λ b. IsServe e.number e.whom e.asks e.may_answer t.job b s.new.body s.result) c.into_body-body.ensures s.ensures in
    (t.job, (out_and_served e.number e.whom e.asks e.may_answer t.job c.args.place c.args.name c.of.result.value t.outgoing s.new.body s.result (c.of.ensures ∙ t.ensures.held) t.ensures.body.0 t.ensures.body.2 serve).1)

pub invariant_of-result : goal.invariant_of-result
invariant_of-result g c =
    let e = g.J.HandshakeOp in let t = c.in_ok-outgoing in let s = c.serve_body-first in
    let serve = subst (λ b. IsServe e.number e.whom e.asks e.may_answer t.job b s.new.body s.result) c.into_body-body.ensures s.ensures in
    let kept = serve_keeps e.number e.whom e.asks e.may_answer t.job t.outgoing s.new.body s.result serve in
    let out = (out_and_served e.number e.whom e.asks e.may_answer t.job c.args.place c.args.name c.of.result.value t.outgoing s.new.body s.result (c.of.ensures ∙ t.ensures.held) t.ensures.body.0 t.ensures.body.2 serve).1 in (
      kept.2 t.ensures.body.3,
      subst (λ n. 0 < n) (sym kept.0) t.ensures.body.1,
      served_once e.number e.whom e.asks e.may_answer t.job c.of.result.value.body s.new.body s.result out,
    )
