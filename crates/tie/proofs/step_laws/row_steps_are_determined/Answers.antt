-- By the kinds of step.
use Rattle.tie.proofs.DeterminedRows as law
use Rattle.tie.proofs.step_laws.row_steps_are_determined.Goals as goal

pub returns : goal.returns
returns c = law.row_steps_are_determined
