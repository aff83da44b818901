use Rattle.board.proofs.Elsewhere.{moments_elsewhere_refused}
use Rattle.board.proofs.law.no_moment_is_of_another_word.Goals as goal

pub returns : goal.returns
returns c = moments_elsewhere_refused
