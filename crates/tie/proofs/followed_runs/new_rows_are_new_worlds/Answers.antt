-- By induction over the events and their steps.
use Rattle.tie.proofs.FollowedRows as law
use Rattle.tie.proofs.followed_runs.new_rows_are_new_worlds.Goals as goal

pub returns : goal.returns
returns c = law.new_rows_are_new_worlds
