use Rattle.poll.proofs.Refused.{clears_refused}
use Rattle.poll.proofs.law.no_clear_is_of_another_word.Goals as goal

pub returns : goal.returns
returns c = clears_refused
