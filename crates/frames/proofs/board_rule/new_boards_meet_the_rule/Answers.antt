use Rattle.frames.proofs.BoardLaws.{first_kept}
use Rattle.frames.proofs.board_rule.new_boards_meet_the_rule.Goals as goal

pub returns : goal.returns
returns c = first_kept
