-- Both sides compute to one list.
use Rattle.std.specs.Prelude.{refl}
use Rattle.rows.proofs.rows.install_over.Goals as goal

pub returns : goal.returns
returns c = refl
