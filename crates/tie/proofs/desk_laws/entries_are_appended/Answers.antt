-- By induction over the events.
use Rattle.tie.proofs.DeskRuns as law
use Rattle.tie.proofs.desk_laws.entries_are_appended.Goals as goal

pub returns : goal.returns
returns c = law.entries_are_appended
