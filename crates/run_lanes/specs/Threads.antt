-- How an accepted act changes a thread.
use Rattle.std.specs.Prelude.{ℕ, ◌+◌, ◌-◌, true, false, unwrap_or}
use Rattle.thread_state.specs.declared.State.{State}
use Rattle.thread_state.specs.declared.Move.TheVariants as move
use Rattle.thread_state.specs.States.{step, cross}
use Rattle.system.specs.declared.answers.Answer.{Answer}
use Rattle.system.specs.declared.answers.Answer.TheVariants as answer
use Rattle.system.specs.declared.events.Act.{Act}
use Rattle.system.specs.declared.events.Act.TheVariants as act

-- The state after an act that doesn't poll.
abbrev pub moved : State → Act → State
moved state act.Wake = unwrap_or (step state move.Wake) state
moved state act.ToVm = unwrap_or (step state move.ToVm) state
moved state act.ToNative = unwrap_or (step state move.ToNative) state
moved state act.Block = unwrap_or (step state move.Block) state
moved state act.Take = unwrap_or (step state move.Take) state
moved state other = state

-- The state after an act with its answer. After a poll the answer says whether the thread goes on.
abbrev pub state_after : State → Act → Answer → State
state_after state act answer.Go = unwrap_or (cross state true) state
state_after state act (answer.Stop number) = unwrap_or (cross state false) state
state_after state act other = moved state act

abbrev pub left : ℕ → Act → ℕ
left depth act.Leave = depth - 1
left depth other = depth

-- The number of frames after an act with its answer.
abbrev pub depth_after : ℕ → Act → Answer → ℕ
depth_after depth act answer.Entered = depth + 1
depth_after depth act other = left depth act
