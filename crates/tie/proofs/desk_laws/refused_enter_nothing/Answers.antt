-- Event by event.
use Rattle.tie.proofs.DeskRuns as law
use Rattle.tie.proofs.desk_laws.refused_enter_nothing.Goals as goal

pub returns : goal.returns
returns c = law.refused_enter_nothing
