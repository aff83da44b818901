use Rattle.poll.proofs.Refused.{elsewhere_refused}
use Rattle.poll.proofs.law.no_poll_is_of_another_word.Goals as goal

pub returns : goal.returns
returns c = elsewhere_refused
