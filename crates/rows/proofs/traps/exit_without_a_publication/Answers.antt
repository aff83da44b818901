-- Both sides compute to one list.
use Rattle.std.specs.Prelude.{refl}
use Rattle.rows.proofs.traps.exit_without_a_publication.Goals as goal

pub returns : goal.returns
returns c = refl
