-- By induction over the events.
use Rattle.system.proofs.NoRetiredStands as law
use Rattle.system.proofs.laws.covering.Goals as goal

pub returns : goal.returns
returns c = law.covered_is_by_moments
