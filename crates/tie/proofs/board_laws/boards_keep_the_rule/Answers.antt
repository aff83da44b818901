-- By induction over the events.
use Rattle.tie.proofs.Board as law
use Rattle.tie.proofs.board_laws.boards_keep_the_rule.Goals as goal

pub returns : goal.returns
returns c = law.boards_keep_the_rule
