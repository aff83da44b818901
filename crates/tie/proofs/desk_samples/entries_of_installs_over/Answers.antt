-- Both sides compute to the same.
use Rattle.std.specs.Prelude.{refl}
use Rattle.tie.proofs.desk_samples.entries_of_installs_over.Goals as goal

pub returns : goal.returns
returns c = refl
