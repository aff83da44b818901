-- By induction over the events.
use Rattle.system.proofs.NoRetiredStands as law
use Rattle.system.proofs.laws.reclaiming.Goals as goal

pub returns : goal.returns
returns c = law.retired_stand_nowhere
