use Rattle.std.proofs.Common.{length}
use Rattle.test_soak.proofs.driver.Driver.close_some.Given as goal

abbrev pub decreases-loop-op : goal.decreases-loop-op
decreases-loop-op g l = length l.rest.items
