use Rattle.desk.proofs.Once.{at_most_once}
use Rattle.desk.proofs.law.at_most_once.Goals as goal

pub returns : goal.returns
returns c = at_most_once
