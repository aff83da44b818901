-- What a thread's `BodyState` says: the thread's state, and its body while the thread has it in hand.
use Rattle.std.specs.Prelude.{◌≡◌, ◌<◌, Option, Some, None, Bool, true, false}
use Rattle.thread_state.specs.declared.State.{State}
use Rattle.thread_state.specs.declared.State.TheVariants as state
use Rattle.bodies.specs.Bodies.{BodyView}
use Rattle.frames.specs.ImageView.{IsSettled}
use Rattle.operations.specs.Asks.{reply}
use Rattle.operations.specs.Jobs.{DoneView}
use Rattle.berths.specs.Berths.{Moved}
use Rattle.berths.specs.declared.room.BodyAct.TheVariants.{Served}
use Rattle.thread_list.specs.declared.body_state.BodyState.{BodyState}
use Rattle.thread_list.specs.declared.body_state.BodyState.TheVariants.{InJava, InVm, AtPoll, InNative, Blocked, Given, Serves}

abbrev pub state_in : {N : Type 0} → BodyState N → State
state_in (InJava body) = state.InJava
state_in (InVm body) = state.InVm
state_in (AtPoll back body) = state.AtPoll back
state_in (InNative back) = state.InNative back
state_in Blocked = state.Blocked
state_in (Given back receipt) = state.AtPoll back
state_in (Serves back body done) = state.Serving back

abbrev pub body_in : {N : Type 0} → BodyState N → Option BodyView
body_in (InJava body) = Some body
body_in (InVm body) = Some body
body_in (AtPoll back body) = Some body
body_in (InNative back) = None
body_in Blocked = None
body_in (Given back receipt) = None
body_in (Serves back body done) = Some body

-- The receipt that the body of a thread that has stopped is in its berth.
abbrev pub given_in : {N : Type 0} → BodyState N → Option Moved
given_in (InJava body) = None
given_in (InVm body) = None
given_in (AtPoll back body) = None
given_in (InNative back) = None
given_in Blocked = None
given_in (Given back receipt) = Some receipt
given_in (Serves back body done) = None

-- How the body last moved: by the receipt that a stopped thread keeps, or else by this one.
abbrev pub last_of : Option Moved → Moved → Moved
last_of None crossed = crossed
last_of (Some given) crossed = given

-- A job's answer on this body, where the body came out of its berth with that job.
abbrev pub IsAnswer : BodyView → Moved → DoneView → Type 0
IsAnswer body crossed done
    = (body.name ≡ done.target) × (0 < done.op) × (done.reply ≡ reply done.ask body.image.frames) × (crossed.act ≡ Served (Some (record { number = done.op; ask = done.ask })))

-- The answer of its job, if that isn't entered yet.
abbrev pub answer_in : {N : Type 0} → BodyState N → Option DoneView
answer_in (InJava body) = None
answer_in (InVm body) = None
answer_in (AtPoll back body) = None
answer_in (InNative back) = None
answer_in Blocked = None
answer_in (Given back receipt) = None
answer_in (Serves back body done) = Some done

-- An answer, if there is one, is this body's.
abbrev pub IsAnswered : Option BodyView → Moved → Option DoneView → Type 0
IsAnswered None crossed said = Unit {0}
IsAnswered (Some body) crossed None = Unit {0}
IsAnswered (Some body) crossed (Some done) = IsAnswer body crossed done

-- A body on which jobs run is settled.
abbrev pub IsReady : Option BodyView → Type 0
IsReady None = Unit {0}
IsReady (Some body) = IsSettled body.image

abbrev pub serves : State → Bool
serves (state.Serving back) = true
serves s = false
