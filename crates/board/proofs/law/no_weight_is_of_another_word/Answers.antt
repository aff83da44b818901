use Rattle.board.proofs.Elsewhere.{weights_elsewhere_refused}
use Rattle.board.proofs.law.no_weight_is_of_another_word.Goals as goal

pub returns : goal.returns
returns c = weights_elsewhere_refused
