use Rattle.std.proofs.Common.{◌∙◌, List, [], ◌∷◌, ◌++◌, ap}
use Rattle.bodies.specs.Bodies.{BodyView}
use Rattle.stopped_threads.specs.Holding.{Holding}
use Rattle.coordinator_core.proofs.Arms.{arms_same}
use Rattle.coordinator.proofs.coordinator.Coordinator.hold_due.Goals as goal

pub returns-in-Asleep : goal.returns-in-Asleep
returns-in-Asleep g c =
    let taken = c.hold_soon-receipt.result.body ∷ [] in (
      (taken, c.hold_soon-receipt.ensures.1 ∙ ap (λ (held : List BodyView). held ++ taken) (ap (λ (h : Holding). h.held) c.self.view_is)),
      ap (λ (h : Holding). h.operated) c.self.view_is,
      arms_same _ _ (ap (λ (h : Holding). h.armer) c.self.view_is),
    )
