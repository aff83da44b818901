-- By the definition of Round.
use Rattle.tie.proofs.Answered as law
use Rattle.tie.proofs.board_laws.rounds_read_the_moment.Goals as goal

pub returns : goal.returns
returns c = law.rounds_read_the_moment
