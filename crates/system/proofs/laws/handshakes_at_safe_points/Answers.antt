-- By the cases of the event in a reachable world.
use Rattle.system.proofs.Safely as law
use Rattle.system.proofs.laws.handshakes_at_safe_points.Goals as goal

pub returns : goal.returns
returns c = law.handshakes_run
