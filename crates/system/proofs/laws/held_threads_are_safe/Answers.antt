-- By induction over the events.
use Rattle.system.proofs.Worlds.{held_are_safe}
use Rattle.system.proofs.laws.held_threads_are_safe.Goals as goal

pub returns : goal.returns
returns c = held_are_safe
