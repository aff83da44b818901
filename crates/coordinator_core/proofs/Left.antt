-- A held body that isn't served.
use Rattle.std.proofs.Common.{◌≡◌, ℕ, inl, inr}
use Rattle.std.specs.Prelude.{Result, Ok, Err, OnErr, Some, slice_get, slice_set}
use Rattle.frames.specs.ImageView.{ImageView}
use Rattle.bodies.specs.Bodies.{BodyView}
use Rattle.operations.specs.declared.Ask.{Ask}
use Rattle.berths.specs.Berths.{Berthing}
use Rattle.stopped_threads.specs.Held.{StandsAt}
use Rattle.stopped_threads.specs.Holding.{Holding}
use Rattle.stopped_threads.specs.Serves.{IsLeftUnserved}
use Rattle.stopped_threads.specs.declared.serving.Unserved.{Unserved}
use Rattle.stopped_threads.specs.declared.serving.Unserved.TheVariants.{NoJob, NotEntered}
use Rattle.coordinator_core.specs.Done.{Leaves}
use Rattle.coordinator_core.specs.Called.{IsLeft}
use Rattle.coordinator_core.proofs.Served.{leaves}

pub left_stays : {J N : Type 0} (number whom : J → ℕ) (asks : J → Ask) (may_answer : J → ImageView → ℕ → Type 0) (old new : Holding) (place : ℕ) (room left : Berthing N) (why : Unserved)
    → Leaves number whom asks may_answer old new place room left why → IsLeft place old new
left_stays number whom asks may_answer old new place room left NoJob (i, body, after, stands, is, r) = inr (i, body, after, stands, is, inl r.0)
left_stays number whom asks may_answer old new place room left (NotEntered done) (i, body, after, stands, is, r) = inr (i, body, after, stands, is, inr r.0)

-- The body at the index is the one of the place's thread.
pub left_at : {J N : Type 0} (number whom : J → ℕ) (asks : J → Ask) (may_answer : J → ImageView → ℕ → Type 0) (old new : Holding) (place index : ℕ) (room left : Berthing N) (why : Unserved) (stood : BodyView)
    → StandsAt old.held index place stood
    → (body : BodyView) × (after : BodyView) × (slice_get old.held index ≡ Some body) × (new ≡ record old { held = slice_set old.held index after }) × IsLeftUnserved number whom asks may_answer body room why after left
    → IsLeft place old new
left_at number whom asks may_answer old new place index room left why stood stands did =
    left_stays number whom asks may_answer old new place room left why
    (leaves number whom asks may_answer old new place index room left why stood did.0 did.1 stands did.2 did.3 did.4)

pub where_refused : {A E P : Type 0} (said : Result A E) → P → OnErr said P
where_refused (Ok a) p = tt
where_refused (Err e) p = p
