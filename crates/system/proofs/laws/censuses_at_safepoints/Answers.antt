-- By the cases of the event in a reachable world.
use Rattle.system.proofs.Safely as law
use Rattle.system.proofs.laws.censuses_at_safepoints.Goals as goal

pub returns : goal.returns
returns c = law.censuses_run
