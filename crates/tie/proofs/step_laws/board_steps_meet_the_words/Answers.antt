-- By the kinds of step.
use Rattle.tie.proofs.Determined as law
use Rattle.tie.proofs.step_laws.board_steps_meet_the_words.Goals as goal

pub returns : goal.returns
returns c = law.board_steps_meet_the_words
