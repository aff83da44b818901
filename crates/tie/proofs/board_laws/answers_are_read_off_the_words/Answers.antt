-- By the cases of an event.
use Rattle.tie.proofs.Answered as law
use Rattle.tie.proofs.board_laws.answers_are_read_off_the_words.Goals as goal

pub returns : goal.returns
returns c = law.answers_are_read_off
