-- By induction over the events and their steps.
use Rattle.tie.proofs.Followed as law
use Rattle.tie.proofs.followed_runs.runs_are_their_steps.Goals as goal

pub returns : goal.returns
returns c = law.runs_are_their_steps
