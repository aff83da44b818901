-- By induction over the events and their steps.
use Rattle.tie.proofs.Followed as law
use Rattle.tie.proofs.followed_runs.new_boards_are_new_worlds.Goals as goal

pub returns : goal.returns
returns c = law.new_boards_are_new_worlds
