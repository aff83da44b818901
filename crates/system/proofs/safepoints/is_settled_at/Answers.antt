use Rattle.system.proofs.Censusing.{settled_test}
use Rattle.system.proofs.safepoints.is_settled_at.Goals as goal

pub returns-in-Some : goal.returns-in-Some
returns-in-Some c = rw c.in-Some.is (settled_test c.in-Some.thread.image c.is_settled.result c.is_settled.ensures)
