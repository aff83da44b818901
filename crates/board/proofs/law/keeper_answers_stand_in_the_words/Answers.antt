use Rattle.board.proofs.Answered.{keeper_answers_stand}
use Rattle.board.proofs.law.keeper_answers_stand_in_the_words.Goals as goal

pub returns : goal.returns
returns c = keeper_answers_stand
