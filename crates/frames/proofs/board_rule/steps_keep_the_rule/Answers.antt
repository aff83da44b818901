use Rattle.frames.proofs.BoardLaws.{step_keeps}
use Rattle.frames.proofs.board_rule.steps_keep_the_rule.Goals as goal

pub returns : goal.returns
returns c = step_keeps
