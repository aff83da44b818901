-- By induction over the events and their steps.
use Rattle.tie.proofs.FollowedRows as law
use Rattle.tie.proofs.followed_runs.runs_are_their_polls.Goals as goal

pub returns : goal.returns
returns c = law.runs_are_their_polls
