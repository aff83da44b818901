-- Serving and releasing over a lent desk and room. `stopped_threads` defines what both coordinators share.
use Rattle.std.specs.Prelude.{◌≡◌, ◌≢◌, ℕ, None, slice_set}
use Rattle.std.specs.List.{remove}
use Rattle.frames.specs.ImageView.{ImageView}
use Rattle.bodies.specs.Bodies.{BodyView}
use Rattle.operations.specs.declared.Ask.{Ask}
use Rattle.desk.specs.Finishing.{FinishSeen}
use Rattle.desk.specs.Machine.{State}
use Rattle.berths.specs.Berths.{Berthing, Moved, moved}
use Rattle.berths.specs.declared.room.BodyAct.TheVariants as body_act
use Rattle.berths.specs.declared.room.Holder.TheVariants.{Out}
use Rattle.thread_list.specs.Moves.{IsAnswered}
use Rattle.stopped_threads.specs.Held.{StandsAt}
use Rattle.stopped_threads.specs.Holding.{Holding}
use Rattle.stopped_threads.specs.Refused.{In, InSome, IsServeFaultBy}
use Rattle.stopped_threads.specs.Serves.{IsLeftUnserved, not_served}
use Rattle.stopped_threads.specs.declared.serving.Unserved.{Unserved}

-- The held body of the place, which the desk doesn't refuse, is published, the reply of its job of this number is
-- entered, and the operation is cleared for it. The others stay the same.
abbrev pub ServesBy : ((State → Type 0) → Type 0) → (old new : Holding) → (place number : ℕ) → FinishSeen → Type 0
ServesBy by old new place number finish
    = (index : ℕ) × (body : BodyView) × (after : BodyView) × StandsAt old.held index place body × IsServeFaultBy by old index place None
    × (new ≡ record old { held = slice_set old.held index after }) × IsAnswered number body finish after

-- The held body of the place becomes another one, by this relation. The others stay the same.
abbrev pub Becomes : (BodyView → BodyView → Type 0) → (old new : Holding) → (place : ℕ) → Type 0
Becomes R old new place
    = (index : ℕ) × (body : BodyView) × (after : BodyView) × StandsAt old.held index place body × (new ≡ record old { held = slice_set old.held index after }) × R body after

-- A held body that isn't served, and its lent room, before and after.
abbrev pub Leaves : {J N : Type 0} → (J → ℕ) → (J → ℕ) → (J → Ask) → (J → ImageView → ℕ → Type 0) → (old new : Holding) → (place : ℕ) → (room left : Berthing N) → Unserved → Type 0
Leaves number whom asks may_answer old new place room left why
    = Becomes (λ body after. IsLeftUnserved number whom asks may_answer body room why after left) old new place

abbrev pub Serves : (old new : Holding) → (place number : ℕ) → FinishSeen → Type 0
Serves old new place number finish = ServesBy InSome old new place number finish

-- The desk in this state doesn't refuse to serve the held body of the place, but the body isn't served for this reason.
abbrev pub IsUnserved : {N : Type 0} → State → Holding → ℕ → Berthing N → Unserved → Type 0
IsUnserved s old place room why
    = (index : ℕ) × (body : BodyView) × StandsAt old.held index place body × IsServeFaultBy (In s) old index place None × not_served room s body.name why

-- The held body of the place didn't come out of the room.
abbrev pub IsElsewhere : {N : Type 0} → Holding → ℕ → Berthing N → Type 0
IsElsewhere old place room
    = (index : ℕ) × (body : BodyView) × StandsAt old.held index place body × (room.holder ≡ Out body.name → room.place ≢ body.seat.place)

-- The body of the place leaves the held ones. By the receipt it went into its berth unchanged.
abbrev pub Releases : Holding → Holding → ℕ → Moved → Type 0
Releases old new place receipt
    = (index : ℕ) × (body : BodyView) × StandsAt old.held index place body × (new ≡ record old { held = remove old.held index })
    × (receipt ≡ moved body (body_act.Released old.operated))
