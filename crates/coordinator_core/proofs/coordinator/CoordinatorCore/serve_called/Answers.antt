use Rattle.std.proofs.Common.{◌≡◌, Some, ap, subst, rules}
use Rattle.std.specs.Prelude.{slice_get}
use Rattle.stopped_threads.specs.Holding.{Holding}
use Rattle.coordinator_core.proofs.Left.{left_at, where_refused}
use Rattle.coordinator_core.proofs.coordinator.CoordinatorCore.serve_called.Goals as goal

pub returns-in_err-finished-clause-left : goal.returns-in_err-finished-clause-left
returns-in_err-finished-clause-left g c =
    let e = g.J.HandshakeOp in let stands = c.in-Some.ensures.some in let did = c.in_err-finished.ensures.left in
    let held = ap (λ (v : Holding). v.held) c.self.view_is in
    where_refused c.from_residual.result
    (left_at e.number e.whom e.asks e.may_answer c.args.self.now _ c.args.place c.in-Some.index c.args.room.now c.serve_lent.new.room _ stands.0
    (subst (λ bs. slice_get bs c.in-Some.index ≡ Some stands.0) held stands.1.0, stands.1.1)
    (did.0, did.1, subst (λ bs. slice_get bs c.in-Some.index ≡ Some did.0) held did.2, search rules, did.4))
