use Rattle.board.proofs.Elsewhere.{looks_elsewhere_refused}
use Rattle.board.proofs.law.no_look_is_of_another_word.Goals as goal

pub returns : goal.returns
returns c = looks_elsewhere_refused
