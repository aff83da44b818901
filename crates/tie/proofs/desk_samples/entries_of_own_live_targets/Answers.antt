-- Both sides compute to the same.
use Rattle.std.specs.Prelude.{refl}
use Rattle.tie.proofs.desk_samples.entries_of_own_live_targets.Goals as goal

pub returns : goal.returns
returns c = refl
