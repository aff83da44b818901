-- By induction over the events.
use Rattle.system.proofs.Worlds.{worlds_are_sound}
use Rattle.system.proofs.laws.worlds_are_sound.Goals as goal

pub returns : goal.returns
returns c = worlds_are_sound
