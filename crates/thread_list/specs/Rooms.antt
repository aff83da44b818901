-- What a step of a thread does to the room that is lent to it, and when the room doesn't let it.
use Rattle.std.specs.Prelude.{◌≡◌, ◌≢◌, ◌⊎◌, ◌==◌, [], ◌∷◌, ℕ, Bool, true, false, Option, Some, None}
use Rattle.frames.specs.BoardViews.{stored_as}
use Rattle.bodies.specs.Bodies.{BodyView, SpareView, IsPublished}
use Rattle.berths.specs.Berths.{Berthing, Moved, Went}
use Rattle.berths.specs.declared.room.BodyAct.TheVariants.{Served}
use Rattle.berths.specs.declared.room.Holder.TheVariants.{Vacant, Out, Home}
use Rattle.thread_list.specs.Moves.{Running, IsFirst, Gives, as_polled}

-- The room doesn't take the body of this name and place: it bears another name, has a body, or is of another place.
abbrev pub Declines : {N : Type 0} → Berthing N → ℕ → ℕ → Type 0
Declines room name place = room.holder ≡ Out name → room.place ≢ place

-- The room has no seat for a thread that starts at the place.
abbrev pub HasNoSeat : {N : Type 0} → Berthing N → ℕ → Type 0
HasNoSeat room place = room.place ≡ place → (spare : _) → room.holder ≢ Vacant spare

-- The room doesn't let the named thread of this place go: the room is another's, or an operation is pending for the thread.
abbrev pub KeepsName : {N : Type 0} → Berthing N → ℕ → ℕ → Type 0
KeepsName room name place = room.holder ≡ Out name → room.place ≡ place → room.jobs ≡ [] → room.mark ≢ 0

-- The body doesn't come out of the room to serve: the room is of another place, a census keeps the body, or it isn't there.
abbrev pub KeepsBody : {N : Type 0} → Berthing N → ℕ → ℕ → Type 0
KeepsBody room name place = room.place ≡ place → room.mark ≡ 0 → (body : BodyView) → room.holder ≡ Home body → body.name ≢ name

-- The body that the thread had in hand is in the room, and nothing else of that changed.
abbrev pub GoesIn : {N : Type 0} → Running → Berthing N → Berthing N → Type 0
GoesIn old before after = (body : BodyView) × (old.body ≡ Some body) × (after ≡ record before { holder = Home body })

-- The body came out of the room, and nothing else of that changed.
abbrev pub ComesOut : {N : Type 0} → Running → Berthing N → Berthing N → Type 0
ComesOut new before after = (before.holder ≡ Home new.crossed.body) × (after ≡ record before { holder = Out new.name })

-- The seat of the room is that of the thread, whose first body, with an empty stack and published once, came back out of it.
abbrev pub MovesIn : {N : Type 0} → ℕ → Moved → Berthing N → Berthing N → Type 0
MovesIn name crossed before after
    = (seat : SpareView) × (before.holder ≡ Vacant seat) × IsFirst name seat crossed.body × (after ≡ record before { holder = Out name })

-- The room is vacant, with the seat of this body, which no longer counts as published. No operation was pending for its thread.
abbrev pub IsVacant : {N : Type 0} → Moved → Berthing N → Berthing N → Type 0
IsVacant m before after
    = (before.jobs ≡ []) × (before.mark ≡ 0)
    × (after ≡ record before { holder = Vacant (record { seat = stored_as m.body.seat 0; poller = m.body.poller }) })

-- No job came with the body if the number is 0; otherwise the oldest one, of that number, did.
abbrev pub job_out : {N : Type 0} → Bool → ℕ → ℕ → Berthing N → Berthing N → Type 0
job_out true name n before after = (before.jobs ≡ []) × (after.jobs ≡ [])
job_out false name n before after = before.jobs ≡ record { number = n; whom = name } ∷ after.jobs

-- The body came out of the room to serve, with the job of this number, and no census kept it.
abbrev pub HandsOut : {N : Type 0} → ℕ → Berthing N → Berthing N → ℕ → Type 0
HandsOut name before after n
    = (before.mark ≡ 0) × (after ≡ record before { holder = Out name; jobs = after.jobs }) × job_out (n == 0) name n before after

-- A stopped thread's body doesn't come out of the room, or, where the thread has it in hand, doesn't go in.
abbrev pub WaitsAt : {N : Type 0} → Berthing N → ℕ → ℕ → Option BodyView → Type 0
WaitsAt room name place None = KeepsBody room name place
WaitsAt room name place (Some body) = Declines room name place

-- Nothing changed, since the room keeps or declines the body.
abbrev pub Waits : {N : Type 0} → Running → Running → Berthing N → Berthing N → Type 0
Waits old new before after = (new ≡ old) × (after ≡ before) × WaitsAt before old.name old.place old.body

-- The body went in, and a census keeps it.
abbrev pub IsKeptIn : {N : Type 0} → Running → Running → Berthing N → Berthing N → Type 0
IsKeptIn old new before after = Gives old new × GoesIn old before after × (before.mark ≢ 0)

-- The body came out without a job and was published, and a poll after that found a number.
abbrev pub PollsStill : {N : Type 0} → Running → Running → Berthing N → Berthing N → Type 0
PollsStill old new before after
    = HandsOut old.name before after 0
    × ((published : BodyView) × (found : ℕ) × (found ≢ 0) × (new.body ≡ Some (as_polled published found))
    × Went old.place old.name (Served None) new.crossed × IsPublished new.crossed.body published)

-- A thread stays stopped.
abbrev pub StaysStopped : {N : Type 0} → Running → Running → Berthing N → Berthing N → Type 0
StaysStopped old new before after
    = (new.state ≡ old.state) × (Waits old new before after ⊎ (IsKeptIn old new before after ⊎ PollsStill old new before after))
