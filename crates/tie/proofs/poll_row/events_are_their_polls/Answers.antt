-- By the outcomes of the next event.
use Rattle.tie.proofs.PollLaws as law
use Rattle.tie.proofs.poll_row.events_are_their_polls.Goals as goal

pub returns : goal.returns
returns c = law.events_are_their_polls
