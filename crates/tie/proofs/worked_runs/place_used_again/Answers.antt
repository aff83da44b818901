-- Both sides compute to the same numbers.
use Rattle.std.specs.Prelude.{refl}
use Rattle.tie.proofs.worked_runs.place_used_again.Goals as goal

pub returns : goal.returns
returns c = refl
