use Rattle.std.proofs.Common.{◌∙◌}
use Rattle.desk.proofs.LiveNames.{due_there}
use Rattle.desk.proofs.targets.is_due_name.Goals as goal

pub returns-in-Some : goal.returns-in-Some
returns-in-Some g c = let found = c.in-Some.ensures in c.is_due.ensures ∙ due_there 0 _ _ _ _ found.0 _ c.requires.rising found.1 found.2
