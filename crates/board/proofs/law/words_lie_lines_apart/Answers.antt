use Rattle.board.proofs.Indices.{words_apart}
use Rattle.board.proofs.law.words_lie_lines_apart.Goals as goal

pub returns : goal.returns
returns c = words_apart
