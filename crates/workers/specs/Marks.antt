-- What each mark of a script does to a running thread, which is in Java before and after.
use Rattle.std.specs.Prelude.{◌≡◌, ◌⊎◌, ◌≤◌, ◌^◌, ℕ, ◌||◌, Bool, true, false, Option, Some}
use Rattle.thread_state.specs.declared.Back.TheVariants.{Java}
use Rattle.thread_state.specs.declared.State.{State}
use Rattle.thread_state.specs.declared.State.TheVariants.{InJava, InVm, NativeTrans, BlockedTrans, AtPoll, Serving}
use Rattle.thread_state.specs.States.{state_of}
use Rattle.frames.specs.declared.CodeId.{CodeId}
use Rattle.bodies.specs.Bodies.{BodyView, IsCalled}
use Rattle.bodies.specs.declared.body.Called.{Called}
use Rattle.bodies.specs.declared.body.Called.TheVariants.{Compiled, Interpreted}
use Rattle.interp.specs.declared.mark.Mark.{Mark}
use Rattle.interp.specs.declared.mark.Mark.TheVariants as mark
use Rattle.thread_list.specs.declared.polls.Poll.{Poll}
use Rattle.thread_list.specs.declared.polls.Poll.TheVariants.{Go}
use Rattle.thread_list.specs.Moves.{Running, SameThread, Polls, Leaves, ComesBack}
use Rattle.thread_list.specs.declared.faults.CallFault.{CallFault}
use Rattle.thread_list.specs.declared.faults.CallFault.TheVariants.{NoSuchMethod}
use Rattle.thread_list.specs.Refused.{call_refused, return_refused}
use Rattle.workers.specs.declared.worker.Refused.{Refused}
use Rattle.workers.specs.declared.worker.Refused.TheVariants as refused

-- The view of a worker in contracts: its thread, and whether some frame has been compiled so far.
pub record Working : Type 0 where
  pub thread : Running
  pub compiled : Bool

-- The state in which a thread continues: after a stop at a poll, the state to which the poll leads; otherwise its own state.
abbrev pub goes_on : State → State
goes_on (AtPoll back) = state_of back
goes_on state = state

-- A thread that was at a poll has stopped there, and continued when a poll let it go. In any other state nothing changes.
abbrev pub SettlesFrom : State → Running → Running → Type 0
SettlesFrom (AtPoll back) old new = (after : BodyView) × ComesBack after new (Serving back) Go
SettlesFrom state old new = new ≡ old

abbrev pub Settles : Running → Running → Type 0
Settles old new = SettlesFrom old.state old new

-- A frame leaves the stack, and the thread polls.
abbrev pub Returns : Running → Running → Type 0
Returns old new = (mid : Running) × (said : Poll) × Leaves old mid said × Settles mid new

-- The thread polls at a back edge.
abbrev pub Turns : Running → Running → Type 0
Turns old new = (mid : Running) × (said : Poll) × Polls old mid InJava said × Settles mid new

-- The thread returns from native code, and polls.
abbrev pub GoesNative : Running → Type 0
GoesNative new = (mid : Running) × (said : Poll) × ComesBack mid.crossed.body mid (NativeTrans Java) said × Settles mid new

-- The thread returns from the VM, and polls.
abbrev pub ComesFromVm : Running → Running → Type 0
ComesFromVm old new = (mid : Running) × (said : Poll) × Polls old mid InVm said × Settles mid new

abbrev pub GoesVm : Running → Running → Type 0
GoesVm old new = ComesFromVm (record old { state = InVm }) new

-- The thread was blocked. It polls as it returns into the VM, and then returns from the VM.
abbrev pub Blocks : Running → Type 0
Blocks new = (mid : Running) × (vm : Running) × (said : Poll) × ComesBack mid.crossed.body mid BlockedTrans said × Settles mid vm × ComesFromVm vm new

abbrev pub is_compiled : Called → Bool
is_compiled (Compiled serial) = true
is_compiled Interpreted = false

-- A method is entered with some hint. Whether some frame has been compiled so far follows from the call.
abbrev pub Enters : Running → Bool → ℕ → Running → Bool → Type 0
Enters old before method new after
    = (hint : Option CodeId) × (said : Called) × (body : BodyView) × (with_frame : BodyView) × (old.body ≡ Some body) × (new.body ≡ Some with_frame)
    × IsCalled body with_frame method hint said × (after ≡ before || is_compiled said)

-- The effect of a mark on a thread, and on whether some frame has been compiled so far.
abbrev pub Marked : Running → Bool → Mark → Running → Bool → Type 0
Marked old before (mark.In method) new after = Enters old before method new after
Marked old before (mark.Out method) new after = Returns old new × (after ≡ before)
Marked old before mark.Edge new after = Turns old new × (after ≡ before)
Marked old before mark.Native new after = GoesNative new × (after ≡ before)
Marked old before mark.Vm new after = GoesVm old new × (after ≡ before)
Marked old before mark.Block new after = Blocks new × (after ≡ before)
Marked old before mark.Tick new after = (new ≡ old) × (after ≡ before)

-- The effect of a mark on a worker.
abbrev pub Does : Working → Mark → Working → Type 0
Does s m t = Marked s.thread s.compiled m t.thread t.compiled × SameThread s.thread t.thread

-- Why a method isn't entered: the thread refuses the call, or the number is too great for a method.
abbrev pub enter_refused : Running → ℕ → CallFault → Type 0
enter_refused old method fault = call_refused old method fault ⊎ ((2 ^ 32 ≤ method) × (fault ≡ NoSuchMethod))

-- Why a mark is refused: the method of a call doesn't exist or the stack is full, or a return finds no frame.
abbrev pub IsRefused : Running → Mark → Refused → Type 0
IsRefused old (mark.In method) (refused.Call fault) = enter_refused old method fault
IsRefused old (mark.Out method) (refused.Return fault) = return_refused old fault
IsRefused old mark why = ⊥
