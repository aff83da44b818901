use Rattle.poll.proofs.Refused.{arms_refused}
use Rattle.poll.proofs.law.no_arming_is_of_another_word.Goals as goal

pub returns : goal.returns
returns c = arms_refused
