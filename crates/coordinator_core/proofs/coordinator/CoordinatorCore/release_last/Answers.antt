use Rattle.std.proofs.Common.{◌≡◌, ℕ, List, Option, Some, None, ap, sym, subst}
use Rattle.std.specs.Prelude.{IfSome, slice_get}
use Rattle.std.specs.List.{remove}
use Rattle.bodies.specs.Bodies.{BodyView}
use Rattle.berths.specs.Berths.{Moved, moved}
use Rattle.berths.specs.declared.room.BodyAct.TheVariants.{Released}
use Rattle.stopped_threads.specs.Holding.{Holding}
use Rattle.coordinator_core.specs.Done.{Releases}
use Rattle.coordinator_core.proofs.coordinator.CoordinatorCore.release_last.Goals as goal

by_last : (old : Holding) (bodies : List BodyView) (index : ℕ) (said : Option Moved)
    → IfSome said (λ r. (body : BodyView) × (slice_get old.held index ≡ Some body) × (r ≡ moved body (Released old.operated)) × (bodies ≡ remove old.held index))
    → IfSome said (λ r. Releases old (record old { held = bodies }) r.body.seat.place r)
by_last old bodies index None d = tt
by_last old bodies index (Some r) d =
    (index, d.0, (d.1, sym (ap (λ (m : Moved). m.body.seat.place) d.2)), ap (λ (bs : List BodyView). record old { held = bs }) d.3, d.2)

pub returns-clause-released : goal.returns-clause-released
returns-clause-released g c =
    let old : Holding = record { held = c.self.inside.bodies; armer = c.self.inside.armer.seen; operated = c.self.inside.operated } in
    let new : Holding = record old { held = c.release_into.new.self } in
    subst (λ (v : Holding). IfSome c.release_into.result (λ r. Releases v new r.body.seat.place r)) c.self.view_is
    (by_last old c.release_into.new.self _ c.release_into.result c.release_into.ensures.released)
