use Rattle.board.proofs.Answered.{answers_stand}
use Rattle.board.proofs.law.answers_stand_in_the_words.Goals as goal

pub returns : goal.returns
returns c = answers_stand
