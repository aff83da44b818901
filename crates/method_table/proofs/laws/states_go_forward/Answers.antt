-- By induction over the edits.
use Rattle.method_table.proofs.Forward as law
use Rattle.method_table.proofs.laws.states_go_forward.Goals as goal

pub returns : goal.returns
returns c = law.states_go_forward
