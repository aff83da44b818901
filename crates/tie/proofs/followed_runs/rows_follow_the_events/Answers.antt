-- By induction over the events and their steps.
use Rattle.tie.proofs.FollowedRows as law
use Rattle.tie.proofs.followed_runs.rows_follow_the_events.Goals as goal

pub returns : goal.returns
returns c = law.rows_follow_the_events
