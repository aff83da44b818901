-- The text of each state: its name, and the state of return in parentheses if it has one.
use Rattle.std.specs.Prelude.{ℕ, List, ◌++◌, codes}
use Rattle.thread_state.specs.declared.Back.{Back}
use Rattle.thread_state.specs.declared.Back.TheVariants.{Java, Vm}
use Rattle.thread_state.specs.declared.State.{State}
use Rattle.thread_state.specs.declared.State.TheVariants.{Vacant, New, InJava, InVm, InNative, Blocked, NewTrans, NativeTrans, BlockedTrans, AtPoll, Serving}

abbrev pub back_text : Back → List ℕ
back_text Java = codes "Java"
back_text Vm = codes "Vm"

-- A name and a state of return in parentheses.
abbrev pub with_back : List ℕ → Back → List ℕ
with_back name back = name ++ codes "(" ++ back_text back ++ codes ")"

abbrev pub state_text : State → List ℕ
state_text Vacant = codes "Vacant"
state_text New = codes "New"
state_text InJava = codes "InJava"
state_text InVm = codes "InVm"
state_text (InNative back) = with_back (codes "InNative") back
state_text Blocked = codes "Blocked"
state_text NewTrans = codes "NewTrans"
state_text (NativeTrans back) = with_back (codes "NativeTrans") back
state_text BlockedTrans = codes "BlockedTrans"
state_text (AtPoll back) = with_back (codes "AtPoll") back
state_text (Serving back) = with_back (codes "Serving") back
