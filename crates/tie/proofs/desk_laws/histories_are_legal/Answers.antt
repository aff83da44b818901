-- By induction over the events.
use Rattle.tie.proofs.DeskRuns as law
use Rattle.tie.proofs.desk_laws.histories_are_legal.Goals as goal

pub returns : goal.returns
returns c = law.histories_are_legal
