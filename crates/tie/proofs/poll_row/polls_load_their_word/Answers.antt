-- By the outcomes of the event.
use Rattle.tie.proofs.PollAnswered as law
use Rattle.tie.proofs.poll_row.polls_load_their_word.Goals as goal

pub returns : goal.returns
returns c = law.polls_load_their_word
