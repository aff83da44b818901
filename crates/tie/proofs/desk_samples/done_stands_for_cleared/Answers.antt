-- Both sides compute to the same.
use Rattle.std.specs.Prelude.{refl}
use Rattle.tie.proofs.desk_samples.done_stands_for_cleared.Goals as goal

pub returns : goal.returns
returns c = (refl, refl)
