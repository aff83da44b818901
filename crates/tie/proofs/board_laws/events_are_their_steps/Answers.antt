-- By the cases of an event.
use Rattle.tie.proofs.Events as law
use Rattle.tie.proofs.board_laws.events_are_their_steps.Goals as goal

pub returns : goal.returns
returns c = law.events_are_their_steps
