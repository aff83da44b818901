-- By the names that were given out before the Open.
use Rattle.tie.proofs.DeskTargets as law
use Rattle.tie.proofs.desk_laws.desks_have_the_targets.Goals as goal

pub returns : goal.returns
returns c = law.desks_have_the_targets
