-- The texts of faults.
use Rattle.std.specs.Prelude.{ℕ, List, ◌++◌, codes}
use Rattle.thread_state.specs.declared.State.{State}
use Rattle.thread_state.specs.StateText.{state_text}
use Rattle.thread_list.specs.declared.faults.CallFault.{CallFault}
use Rattle.thread_list.specs.declared.faults.CallFault.TheVariants as call
use Rattle.thread_list.specs.declared.faults.ReturnFault.{ReturnFault}
use Rattle.thread_list.specs.declared.faults.ReturnFault.TheVariants as returns
use Rattle.thread_list.specs.declared.parts.PartsFault.{PartsFault}
use Rattle.thread_list.specs.declared.parts.PartsFault.TheVariants.{BadSize, NoMemory}
use Rattle.thread_list.specs.declared.faults.ExitFault.{ExitFault}
use Rattle.thread_list.specs.declared.faults.ExitFault.TheVariants as exit

-- A thread isn't in Java, but in this state.
abbrev pub not_in_java : State → List ℕ
not_in_java state = codes "not in Java, but in " ++ state_text state

abbrev pub call_fault_text : CallFault → List ℕ
call_fault_text (call.Illegal state) = not_in_java state
call_fault_text call.NoSuchMethod = codes "no such method"
call_fault_text call.DepthFull = codes "the stack has 256 frames"

abbrev pub return_fault_text : ReturnFault → List ℕ
return_fault_text (returns.Illegal state) = not_in_java state
return_fault_text returns.EmptyStack = codes "the stack is empty"

abbrev pub exit_fault_text : ExitFault → List ℕ
exit_fault_text (exit.Illegal state) = codes "not in Java or in the VM, but in " ++ state_text state
exit_fault_text exit.StackNotEmpty = codes "the stack isn't empty"

abbrev pub parts_fault_text : PartsFault → List ℕ
parts_fault_text BadSize = codes "a size is 0, or above its limit"
parts_fault_text NoMemory = codes "no memory"
