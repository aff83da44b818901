-- By the kinds of step.
use Rattle.tie.proofs.Determined as law
use Rattle.tie.proofs.step_laws.board_steps_are_determined.Goals as goal

pub returns : goal.returns
returns c = law.board_steps_are_determined
