-- The steps of a drive: it opens a request, holds threads and serves them.
use Rattle.std.specs.Prelude.{◌≡◌, ◌⊎◌, ◌++◌, ◌∷◌, [], ℕ, true, false, Some, slice_set}
use Rattle.bodies.specs.Bodies.{BodyView, IsPublished}
use Rattle.desk.specs.Finishing.{FinishSeen}
use Rattle.desk.specs.Fields.{DeskSeen, Enters}
use Rattle.desk.specs.Machine.{Stands}
use Rattle.desk.specs.declared.entries.Entry.{Entry}
use Rattle.berths.specs.Berths.{Berthing, Moved, Went, oldest_number}
use Rattle.berths.specs.declared.room.BodyAct.TheVariants as body_act
use Rattle.thread_list.specs.Moves.{IsAnswered}
use Rattle.stopped_threads.specs.Held.{StandsAt, is_held}
use Rattle.stopped_threads.specs.Holding.{Holding}
use Rattle.coordinator_core.specs.Done.{Becomes}

-- Nothing is entered, or the oldest waiting request is opened.
abbrev pub MayOpen : (old new : DeskSeen) → Type 0
MayOpen old new = (new ≡ old) ⊎ ((n : ℕ) × (receipt : Stands) × Enters old new (Entry.Open n) receipt)

-- By the receipt the body of the place came out of its room. It is held after the others.
abbrev pub Takes : (old new : Holding) → (place : ℕ) → Moved → Type 0
Takes old new place receipt
    = (is_held place old.held ≡ false) × ((name : ℕ) × Went place name body_act.Held receipt) × (new ≡ record old { held = old.held ++ receipt.body ∷ [] })

-- The body of the place is held: it was before, or it came out of its room. The room's oldest job has this number.
abbrev pub Calls : {N : Type 0} → (old new : Holding) → (place number : ℕ) → Berthing N → Type 0
Calls old new place number room
    = (((new ≡ old) × (is_held place old.held ≡ true)) ⊎ ((receipt : Moved) × Takes old new place receipt)) × (room.place ≡ place)
    × (oldest_number room.jobs ≡ Some number)

-- The held body of the place is published, the reply of its job of this number is entered, and the operation is cleared
-- for it. The others stay the same.
abbrev pub ServesCalled : (old new : Holding) → (place number : ℕ) → FinishSeen → Type 0
ServesCalled old new place number finish
    = (index : ℕ) × (body : BodyView) × (after : BodyView) × StandsAt old.held index place body × (new ≡ record old { held = slice_set old.held index after })
    × IsAnswered number body finish after

-- Nothing changes, or the held body of the place is published.
abbrev pub IsLeft : (place : ℕ) → (old new : Holding) → Type 0
IsLeft place old new = (new ≡ old) ⊎ Becomes (λ body after. (after ≡ body) ⊎ IsPublished body after) old new place
