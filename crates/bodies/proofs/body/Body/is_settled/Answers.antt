use Rattle.std.proofs.Common.{subst}
use Rattle.std.specs.Prelude.{IsTrue, ◌↔◌}
use Rattle.frames.specs.ImageView.{ImageView, IsSettled}
use Rattle.bodies.proofs.Keeping.{index_is}
use Rattle.bodies.proofs.body.Body.is_settled.Goals as goal

pub returns : goal.returns
returns g c =
    subst (λ (i : ImageView). IsTrue c.is_settled.result ↔ IsSettled i)
    (index_is c.self.inside.parts.value c.deref.result.now c.args.self.now c.index.result.now c.self.invariant.1.0 c.self.view_is c.deref.ensures c.index.ensures) c.is_settled.ensures
