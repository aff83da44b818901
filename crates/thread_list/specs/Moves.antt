-- What contracts see of a running thread, and what a poll leads to.
use Rattle.std.specs.Prelude.{◌≡◌, ◌≢◌, ◌⊎◌, ◌<◌, ◌==◌, ◌++◌, ◌∷◌, [], ℕ, Option, Some, None, Bool, true, false, if◌then◌else◌, IfSome}
use Rattle.thread_state.specs.declared.State.{State}
use Rattle.thread_state.specs.declared.State.TheVariants.{InJava, InVm, AtPoll}
use Rattle.thread_state.specs.PollRule.{polled, exchanged}
use Rattle.thread_state.specs.declared.Back.{Back}
use Rattle.thread_state.specs.States.{cross, either, state_of}
use Rattle.frames.specs.declared.CodeId.{CodeId}
use Rattle.frames.specs.declared.Frame.{Frame}
use Rattle.frames.specs.ImageView.{ImageView, HasFrames, IsSettled}
use Rattle.bodies.specs.Bodies.{BodyView, SpareView, IsCalled, IsPublished}
use Rattle.bodies.specs.declared.body.Called.{Called}
use Rattle.operations.specs.Asks.{reply}
use Rattle.desk.specs.declared.entries.Entry.{Entry}
use Rattle.desk.specs.Finishing.{FinishSeen}
use Rattle.berths.specs.Berths.{Moved, moved, Outed, Went}
use Rattle.berths.specs.declared.room.ToldJob.{ToldJob}
use Rattle.berths.specs.declared.room.BodyAct.TheVariants.{MovedIn, Given, Resumed, Served, Vacated}
use Rattle.thread_list.specs.declared.polls.Poll.{Poll}
use Rattle.thread_list.specs.declared.polls.Poll.TheVariants.{Go, Stop}

-- What contracts see of a running thread: its name and place, its state, its body while it has that in hand, how many methods
-- there are, and how its body last moved. It went into its berth on the way into native code or a wait, or in a stop by steps; or
-- it came out again from there, at the start, or where an exit was refused after the thread had served.
pub record Running : Type 0 where
  pub name : ℕ
  pub place : ℕ
  pub methods : ℕ
  pub state : State
  pub body : Option BodyView
  pub crossed : Moved

-- The states in which a thread owns itself between its calls.
abbrev pub owns : State → Bool
owns InJava = true
owns InVm = true
owns (AtPoll back) = true
owns state = false

-- The thread runs its own code, in Java or in the VM.
abbrev pub is_running : State → Bool
is_running InJava = true
is_running InVm = true
is_running state = false

-- A body is of the name and the place, and has ended a publication.
abbrev pub IsOf : ℕ → ℕ → Option BodyView → Type 0
IsOf name place None = Unit {0}
IsOf name place (Some p) = (p.name ≡ name) × (p.seat.place ≡ place) × (p.seat.stored ≢ 0)

abbrev pub is_there : Option BodyView → Bool
is_there None = false
is_there (Some p) = true

-- A thread without its body in hand has the receipt that its berth took the body.
abbrev pub IsGiven : ℕ → ℕ → Option BodyView → Moved → Type 0
IsGiven name place (Some p) crossed = Unit {0}
IsGiven name place None crossed = Went place name Given crossed

-- The first body of a thread, in the seat that came out of its place, with an empty stack, was published once.
pub record IsFirst (name : ℕ) (seat : SpareView) (body : BodyView) : Type 0 where
  pub image : ImageView
  pub empty : image.frames ≡ []
  pub published : IsPublished (record { name = name; image = image; seat = seat.seat; poller = seat.poller }) body

-- It is the same thread: what no call changes.
abbrev pub SameThread : Running → Running → Type 0
SameThread old new = (new.name ≡ old.name) × (new.place ≡ old.place) × (new.methods ≡ old.methods)

-- A frame of the method goes on the stack, by the hint's code if that is found in use.
abbrev pub Calls : Running → Running → ℕ → Option CodeId → Called → Type 0
Calls old new method hint said
    = (before : BodyView) × (after : BodyView) × (old.body ≡ Some before) × (new.body ≡ Some after)
    × IsCalled before after method hint said × (after.name ≡ before.name) × (after.poller ≡ before.poller)

-- A frame of the method goes on the stack, by a hint whose slot is below `slots`, or by none.
abbrev pub CallsByHint : ℕ → Running → Running → ℕ → Called → Type 0
CallsByHint slots old new method said
    = (hint : Option CodeId) × IfSome hint (λ c. c.slot < slots) × Calls old new method hint said

-- The answer of a poll that found this number: go on at 0, otherwise stop for it.
abbrev pub poll_of : ℕ → Poll
poll_of n = if n == 0 then Go else Stop n

-- A thread polls on its way from a state: the state to which the poll leads by the number found, and the poll's answer.
abbrev pub Crosses : State → ℕ → Poll → State → Type 0
Crosses from found said to = (cross from (found == 0) ≡ Some to) × (said ≡ poll_of found)

-- A body after a poll that found this number. All else of it stays.
abbrev pub as_polled : BodyView → ℕ → BodyView
as_polled p found = record { name = p.name; image = p.image; seat = p.seat; poller = polled p.poller found }

-- A thread in this state polls with its body in hand and goes on or stops.
abbrev pub Polls : Running → Running → State → Poll → Type 0
Polls old new from said
    = (found : ℕ) × (before : BodyView) × (old.body ≡ Some before) × (new.body ≡ Some (as_polled before found)) × Crosses from found said new.state

-- A frame leaves the stack, and the thread polls.
abbrev pub Leaves : Running → Running → Poll → Type 0
Leaves old new said
    = (found : ℕ) × (frame : Frame) × (before : BodyView) × (after : BodyView) × (old.body ≡ Some before) × (new.body ≡ Some after)
    × (before.image.frames ≡ after.image.frames ++ frame ∷ []) × HasFrames before.image after.image after.image.frames
    × (after.name ≡ before.name) × (after.seat ≡ before.seat) × (after.poller ≡ polled before.poller found) × Crosses from_java found said new.state
  where
    from_java : State
    from_java = InJava

-- The operation is cleared for a body.
abbrev pub IsCleared : ℕ → BodyView → BodyView → Type 0
IsCleared op old new
    = (op ≢ 0 → (found : ℕ) × (new.poller ≡ exchanged old.poller op found)) × (new.name ≡ old.name) × (new.image ≡ old.image) × (new.seat ≡ old.seat)

-- A body is published, and the operation is cleared for it.
abbrev pub IsOperated : ℕ → BodyView → BodyView → Type 0
IsOperated op old new = (published : BodyView) × IsPublished old published × IsCleared op published new

-- The body has a Finish: it was published, the answer of the job of this number was entered (by the body's frames and the
-- operation's ask), and then the operation was cleared for it.
pub record IsAnswered (number : ℕ) (old : BodyView) (finish : FinishSeen) (new : BodyView) : Type 0 where
  pub published : IsPublished old finish.body
  pub entered : finish.stands.entry ≡ Entry.Finish number old.name (reply finish.ask old.image.frames)
  pub cleared : IsCleared number finish.body new

-- A turn of a stopped thread: its body came out of its berth to serve and was published. Where a job came with it, the body got a
-- Finish with the answer to that job's ask.
abbrev pub IsTurn : ℕ → ℕ → Moved → Option FinishSeen → BodyView → Type 0
IsTurn place name out None after = Went place name (Served None) out × IsPublished out.body after
IsTurn place name out (Some finish) after
    = (job : ToldJob) × (0 < job.number) × Went place name (Served (Some job)) out × (finish.ask ≡ job.ask) × IsAnswered job.number out.body finish after

-- The first turn of a stop, which is also the last if there was only one.
abbrev pub first_of : Option Outed → Outed → Outed
first_of None last = last
first_of (Some first) last = first

-- A stopped thread after a turn: how its body moved in the first turn and in the last, the Finish entered there, and the body.
pub record Stopping : Type 0 where
  pub first : Outed
  pub last : Outed
  pub finish : Option FinishSeen
  pub body : BodyView

-- The state after a turn that began with this body.
abbrev pub TakesTurn : BodyView → Stopping → Type 0
TakesTurn before t = (t.last.given ≡ moved before Given) × IsTurn before.seat.place before.name t.last.out t.finish t.body

-- A body of the same thread, which has ended a publication.
abbrev pub SameBody : BodyView → BodyView → Type 0
SameBody old new = (new.name ≡ old.name) × (new.seat.place ≡ old.seat.place) × (new.seat.stored ≢ 0)

-- A turn, in which a body of the thread went into its berth, and after which a poll let the thread go on.
abbrev pub IsLastTurn : ℕ → ℕ → Outed → Option FinishSeen → BodyView → Type 0
IsLastTurn place name last finish new
    = (after : BodyView) × Went place name Given last.given × IsTurn place name last.out finish after × (new ≡ as_polled after 0)

-- The body in hand went into its berth.
abbrev pub Gives : Running → Running → Type 0
Gives old new = (before : BodyView) × (old.body ≡ Some before) × (new.body ≡ None) × (new.crossed ≡ moved before Given)

-- A thread that got this body back polls, and continues where `back` leads, or stops there.
abbrev pub GoesBack : BodyView → Running → Back → Poll → Type 0
GoesBack body new back said
    = (found : ℕ) × (new.body ≡ Some (as_polled body found)) × (either (found == 0) (state_of back) back ≡ Some new.state) × (said ≡ poll_of found)

-- As `GoesBack`, by the state in which the thread polls.
abbrev pub ComesBack : BodyView → Running → State → Poll → Type 0
ComesBack body new from said
    = (found : ℕ) × (new.body ≡ Some (as_polled body found)) × (cross from (found == 0) ≡ Some new.state) × (said ≡ poll_of found)

-- The thread's body came out of its berth, for it to go on.
abbrev pub IsResumed : Running → Type 0
IsResumed new = Went new.place new.name Resumed new.crossed

-- The thread goes on with the body that came out of its berth for its last turn.
abbrev pub HasServed : ℕ → ℕ → Moved → BodyView → Type 0
HasServed place name out body
    = (given : Moved) × (finish : Option FinishSeen) × IsLastTurn place name (record { given = given; out = out }) finish body

-- The body came out of its berth for its thread to continue, and a poll let it; or it came out to serve, and a later poll let it.
abbrev pub GoesOn : ℕ → ℕ → Moved → BodyView → Type 0
GoesOn place name out body
    = (Went place name Resumed out × (body ≡ as_polled out.body 0)) ⊎ HasServed place name out body

-- A thread that has started goes on with the body that came out of its berth.
abbrev pub IsStarted : Running → BodyView → Type 0
IsStarted new body = GoesOn new.place new.name new.crossed body

-- A place was given up by the name, with an empty stack that is published.
abbrev pub IsVacated : ℕ → ℕ → Moved → Type 0
IsVacated place name m = Went place name Vacated m × (m.body.image.frames ≡ []) × IsSettled m.body.image

-- A thread that served, and whose stack then has frames, continues with the body that came out of its berth.
abbrev pub IsKept : ℕ → ℕ → Moved → Option BodyView → Type 0
IsKept place name out None = true ≡ false
IsKept place name out (Some body) = HasServed place name out body

-- The thread stopped with a publication of this body.
abbrev pub HasStopped : Option BodyView → Outed → Type 0
HasStopped None first = true ≡ false
HasStopped (Some body) first = (published : BodyView) × IsPublished body published × (first.given ≡ moved published Given)

-- A place was given up with a publication of this body.
abbrev pub IsGivenUp : Option BodyView → Moved → Type 0
IsGivenUp None m = true ≡ false
IsGivenUp (Some body) m = IsPublished body m.body

-- A place was given up with a publication of the body that the thread had after this turn, in which it served.
abbrev pub IsGivenUpAfter : ℕ → ℕ → Outed → Option FinishSeen → Moved → Type 0
IsGivenUpAfter place name last finish m = (after : BodyView) × IsLastTurn place name last finish after × IsPublished after m.body
