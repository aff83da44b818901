use Rattle.board.proofs.Indices.{words_inside}
use Rattle.board.proofs.law.words_lie_lines_inside.Goals as goal

pub returns : goal.returns
returns c = words_inside
