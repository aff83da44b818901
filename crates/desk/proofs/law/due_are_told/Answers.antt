use Rattle.desk.proofs.DueTold.{due_are_told}
use Rattle.desk.proofs.law.due_are_told.Goals as goal

pub returns : goal.returns
returns c = due_are_told
