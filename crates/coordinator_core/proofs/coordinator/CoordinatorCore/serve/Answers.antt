use Rattle.std.proofs.Common.{◌≡◌, ◌∙◌, Some, ap, subst, rules}
use Rattle.std.specs.Prelude.{slice_get}
use Rattle.stopped_threads.specs.Holding.{Holding}
use Rattle.desk.specs.Fields.{at}
use Rattle.coordinator_core.proofs.Served.{serves, unserved, leaves, each_ok, each_err, each_fault}
use Rattle.coordinator_core.proofs.coordinator.CoordinatorCore.serve.Goals as goal

pub returns-clause-served : goal.returns-clause-served
returns-clause-served g c =
    let stands = c.in-Some.ensures.some in let said = c.serve_refusal.ensures in
    let held = ap (λ (v : Holding). v.held) c.self.view_is in
    each_ok (λ r did. serves (at c.args.desk.now) c.args.self.now _ c.args.place c.in-Some.index r.0 r.1 stands.0 did.0 did.1
    (subst (λ bs. slice_get bs c.in-Some.index ≡ Some stands.0) held stands.1.0, stands.1.1)
    (said.0, said.1, said.2 ∙ c.in_default-serve_refusal.is) (subst (λ bs. slice_get bs c.in-Some.index ≡ Some did.0) held did.2)
    (search rules) did.4) c.serve_lent.result c.serve_lent.ensures.served

pub returns-clause-unserved : goal.returns-clause-unserved
returns-clause-unserved g c =
    let stands = c.in-Some.ensures.some in let said = c.serve_refusal.ensures in
    let held = ap (λ (v : Holding). v.held) c.self.view_is in
    each_err (λ e did stays. (
      unserved (at c.args.desk.now) c.args.self.now c.args.place c.in-Some.index c.args.room.now e stands.0 did.0
          (subst (λ bs. slice_get bs c.in-Some.index ≡ Some stands.0) held stands.1.0, stands.1.1)
          (said.0, said.1, said.2 ∙ c.in_default-serve_refusal.is) (subst (λ bs. slice_get bs c.in-Some.index ≡ Some did.0) held did.1) did.2,
      stays,
    ))
    c.serve_lent.result c.serve_lent.ensures.why c.serve_lent.ensures.refused

pub returns-clause-left : goal.returns-clause-left
returns-clause-left g c =
    let e = g.J.HandshakeOp in let stands = c.in-Some.ensures.some in
    let held = ap (λ (v : Holding). v.held) c.self.view_is in
    each_fault (λ why did. leaves e.number e.whom e.asks e.may_answer c.args.self.now _ c.args.place c.in-Some.index _ _ why stands.0 did.0 did.1
    (subst (λ bs. slice_get bs c.in-Some.index ≡ Some stands.0) held stands.1.0, stands.1.1)
    (subst (λ bs. slice_get bs c.in-Some.index ≡ Some did.0) held did.2)
    (search rules) did.4) c.serve_lent.result c.serve_lent.ensures.left

pub returns-clause-entered : goal.returns-clause-entered
returns-clause-entered g c = each_ok (λ r did. (_, did.5)) c.serve_lent.result c.serve_lent.ensures.served
