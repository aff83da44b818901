-- By induction over the events.
use Rattle.tie.proofs.DeskRuns as law
use Rattle.tie.proofs.desk_laws.desks_follow_the_events.Goals as goal

pub returns : goal.returns
returns c = law.desks_follow_the_events
