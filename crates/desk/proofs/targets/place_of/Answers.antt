use Rattle.desk.proofs.LiveNames.{place_there}
use Rattle.desk.proofs.targets.place_of.Goals as goal

pub returns-in-Some : goal.returns-in-Some
returns-in-Some c = let found = c.in-Some.ensures in place_there 0 _ _ _ found.0 _ c.requires.rising found.1 found.2
