-- Where a thread goes on after a poll.
use Rattle.std.proofs.Common.{◌≡◌, Bool, true, false, Some, refl, ap, sym, ◌∙◌}
use Rattle.thread_state.specs.declared.Back.{Back}
use Rattle.thread_state.specs.declared.Back.TheVariants.{Java, Vm}
use Rattle.thread_state.specs.declared.State.{State}
use Rattle.thread_state.specs.declared.State.TheVariants.{AtPoll}
use Rattle.thread_state.specs.States.{either, state_of}
use Rattle.workers.specs.Marks.{goes_on}

goes_on_there : (back : Back) → goes_on (state_of back) ≡ state_of back
goes_on_there Java = refl
goes_on_there Vm = refl

some_is : (s t : State) → Some s ≡ Some t → s ≡ t
some_is s t e = cc e

pub lands : (back : Back) (go : Bool) (s : State) → either go (state_of back) back ≡ Some s → goes_on s ≡ state_of back
lands back true s e = ap goes_on (sym (some_is (state_of back) s e)) ∙ goes_on_there back
lands back false s e = ap goes_on (sym (some_is (AtPoll back) s e))
