-- By induction over the events.
use Rattle.system.proofs.Once as law
use Rattle.system.proofs.laws.running_once.Goals as goal

pub returns : goal.returns
returns c = law.run_at_most_once
