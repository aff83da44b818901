-- Both sides compute to one list.
use Rattle.std.specs.Prelude.{refl}
use Rattle.rows.proofs.traps.least_first.Goals as goal

pub returns : goal.returns
returns c = refl
