-- By induction over the events.
use Rattle.tie.proofs.DeskRuns as law
use Rattle.tie.proofs.desk_laws.replies_are_the_cores.Goals as goal

pub returns : goal.returns
returns c = law.replies_are_the_cores
