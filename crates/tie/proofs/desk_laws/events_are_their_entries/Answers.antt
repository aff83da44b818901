-- By the cases of an event.
use Rattle.tie.proofs.DeskRuns as law
use Rattle.tie.proofs.desk_laws.events_are_their_entries.Goals as goal

pub returns : goal.returns
returns c = law.events_are_their_entries
