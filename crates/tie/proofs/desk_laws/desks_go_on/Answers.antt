-- By induction over the events.
use Rattle.tie.proofs.DeskRuns as law
use Rattle.tie.proofs.desk_laws.desks_go_on.Goals as goal

pub returns : goal.returns
returns c = law.desks_go_on
