use Rattle.std.proofs.Common.{sym}
use Rattle.desk.proofs.LiveNames.{there_lives}
use Rattle.desk.proofs.lists.lives.Goals as goal

pub returns-in-Some : goal.returns-in-Some
returns-in-Some c = let found = c.in-Some.ensures in sym (there_lives _ _ _ found.0 found.1 found.2)
