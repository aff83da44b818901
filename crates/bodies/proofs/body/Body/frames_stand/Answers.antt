use Rattle.std.proofs.Common.{subst}
use Rattle.bodies.specs.Bodies.{BodyView, AreStanding}
use Rattle.bodies.proofs.Keeping.{all_stand}
use Rattle.bodies.proofs.body.Body.frames_stand.Goals as goal

pub returns-clause-standing : goal.returns-clause-standing
returns-clause-standing g c = subst (λ (p : BodyView). AreStanding p.image p.seat) c.self.view_is (all_stand _ _ _ c.self.invariant.1.1)
