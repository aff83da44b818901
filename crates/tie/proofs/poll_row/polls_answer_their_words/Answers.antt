-- By the outcomes of the next event.
use Rattle.tie.proofs.PollAnswered as law
use Rattle.tie.proofs.poll_row.polls_answer_their_words.Goals as goal

pub returns : goal.returns
returns c = law.polls_answer_their_words
