-- The results of a coordinator's calls behind locks. `stopped_threads` defines what both coordinators share.
use Rattle.std.specs.Prelude.{◌≡◌, ◌≢◌, ◌<◌, ℕ, List, Some, slice_get, slice_set}
use Rattle.frames.specs.ImageView.{ImageView}
use Rattle.bodies.specs.Bodies.{BodyView}
use Rattle.operations.specs.declared.Ask.{Ask}
use Rattle.desk.specs.Machine.{State, Book, Stands}
use Rattle.desk.specs.JobsFit.{jobs_fit, request_of}
use Rattle.desk.specs.Refusals.{reclaim_refused}
use Rattle.desk.specs.declared.faults.ReclaimFault.{ReclaimFault}
use Rattle.berths.specs.Berths.{acted}
use Rattle.berths.specs.declared.room.BerthAct.TheVariants as berth
use Rattle.stopped_threads.specs.declared.faults.HoldFault.TheVariants as hold
use Rattle.stopped_threads.specs.Holding.{Holding}
use Rattle.stopped_threads.specs.Refused.{MayHold, hold_refused}
use Rattle.stopped_threads.specs.Serves.{IsServe}
use Rattle.coordinator.specs.declared.holding.Unheld.{Unheld}
use Rattle.coordinator.specs.declared.holding.Unheld.TheVariants as unheld

-- Why a thread isn't held: a fault other than NotSafe, or the receipt that the body of a thread that may be held wasn't
-- in its berth.
abbrev pub IsUnheld : {N : Type 0} → Holding → ℕ → ℕ → Unheld N → Type 0
IsUnheld c places place (unheld.Fault fault) = hold_refused c places place fault × (fault ≢ hold.NotSafe)
IsUnheld c places place (unheld.NotSafe receipt)
    = (place < places) × ((name : ℕ) × MayHold c place name × (receipt ≡ acted place name berth.Absent))

-- The body at the index is published, its thread's job runs on it, and the job's reply is entered. The others stay the
-- same.
abbrev pub Serves : {J : Type 0} → (J → ℕ) → (J → ℕ) → (J → Ask) → (J → ImageView → ℕ → Type 0) → Holding → Holding → ℕ → Stands → Type 0
Serves number whom asks may_answer old new index done
    = (body : BodyView) × (after : BodyView) × (job : _) × (slice_get old.held index ≡ Some body)
    × (new ≡ record old { held = slice_set old.held index after }) × IsServe number whom asks may_answer job body after done

-- Why a code isn't reclaimed with these jobs: the first refusal of the desk's first step with the handshake of their
-- targets, even if there is no memory for that handshake.
abbrev pub not_reclaimed : {J : Type 0} → (J → ℕ) → (J → Ask) → ℕ → List J → ReclaimFault → Type 0
not_reclaimed whom asks serial jobs fault
    = (s : State) × (book : Book) × (moment : ℕ) × reclaim_refused s serial (request_of whom asks jobs) (λ r. jobs_fit whom asks r jobs) book moment fault
