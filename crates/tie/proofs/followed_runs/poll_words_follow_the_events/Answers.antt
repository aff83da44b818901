-- By induction over the events and their steps.
use Rattle.tie.proofs.FollowedRows as law
use Rattle.tie.proofs.followed_runs.poll_words_follow_the_events.Goals as goal

pub returns : goal.returns
returns c = law.poll_words_follow_the_events
