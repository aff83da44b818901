-- By induction over the events and their steps.
use Rattle.tie.proofs.Followed as law
use Rattle.tie.proofs.followed_runs.boards_follow_the_events.Goals as goal

pub returns : goal.returns
returns c = law.boards_follow_the_events
