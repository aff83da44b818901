use Rattle.frames.proofs.BoardLaws.{count_by_serials}
use Rattle.frames.proofs.board_rule.counts_sum_over_all_serials.Goals as goal

pub returns : goal.returns
returns c = count_by_serials
