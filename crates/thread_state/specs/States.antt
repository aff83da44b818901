-- The states of a thread and the moves between them. (HotSpot's thread states; AtPoll and Serving are our own)
use Rattle.std.specs.Prelude.{Bool, true, false, Option, Some, None}
use Rattle.thread_state.specs.declared.Back.{Back}
use Rattle.thread_state.specs.declared.Back.TheVariants.{Java, Vm}
use Rattle.thread_state.specs.declared.State.{State}
use Rattle.thread_state.specs.declared.State.TheVariants.{Vacant, New, InJava, InVm, InNative, Blocked, NewTrans, NativeTrans, BlockedTrans, AtPoll, Serving}
use Rattle.thread_state.specs.declared.Move.{Move}
use Rattle.thread_state.specs.declared.Move.TheVariants as move

-- The state after a move. Every other pair is illegal. (HotSpot's runtime overview: a thread in native or blocked wakes
-- into a transition state)
abbrev pub step : State → Move → Option State
step Vacant move.Start = Some New
step New move.Wake = Some NewTrans
step (InNative back) move.Wake = Some (NativeTrans back)
step Blocked move.Wake = Some BlockedTrans
step InJava move.ToVm = Some InVm
step InJava move.ToNative = Some (InNative Java)
step InVm move.ToNative = Some (InNative Vm)
step InVm move.Block = Some Blocked
step (AtPoll back) move.Take = Some (Serving back)
step InJava move.Exit = Some Vacant
step InVm move.Exit = Some Vacant
step state move = None

-- The state of a return.
abbrev pub state_of : Back → State
state_of Java = InJava
state_of Vm = InVm

-- The state after a poll: the next state, or a stop if the poll is armed.
abbrev pub either : Bool → State → Back → Option State
either true state back = Some state
either false state back = Some (AtPoll back)

-- The state after a poll in each state. In every other state no thread polls. (HotSpot's runtime overview: polls at
-- returns, in loops and at transitions; a thread that comes back from native stops there if it is armed)
abbrev pub cross : State → Bool → Option State
cross InJava go = either go InJava Java
cross InVm go = either go InJava Java
cross NewTrans go = either go InJava Java
cross (NativeTrans back) go = either go (state_of back) back
cross BlockedTrans go = either go InVm Vm
cross (Serving back) go = either go (state_of back) back
cross state go = None

-- In a safe state the thread's stack can't change. (JEP 312: a safepoint-safe state. HotSpot's runtime overview: native
-- and blocked are safe)
abbrev pub is_safe : State → Bool
is_safe New = true
is_safe (InNative back) = true
is_safe Blocked = true
is_safe (AtPoll back) = true
is_safe state = false

-- A thread may publish its stack while it is new, runs or serves.
abbrev pub may_publish : State → Bool
may_publish New = true
may_publish InJava = true
may_publish InVm = true
may_publish (Serving back) = true
may_publish state = false

-- The thread is between two states or serves, and continues by a poll.
abbrev pub may_cross : State → Bool
may_cross NewTrans = true
may_cross (NativeTrans back) = true
may_cross BlockedTrans = true
may_cross (Serving back) = true
may_cross state = false

-- The thread runs Java code.
abbrev pub is_in_java : State → Bool
is_in_java InJava = true
is_in_java state = false

-- The thread runs in the VM.
abbrev pub is_in_vm : State → Bool
is_in_vm InVm = true
is_in_vm state = false

-- The thread is stopped at a poll and serves itself.
abbrev pub is_serving : State → Bool
is_serving (Serving back) = true
is_serving state = false
