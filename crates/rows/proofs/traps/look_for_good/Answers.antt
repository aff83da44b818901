-- Both sides compute to one list.
use Rattle.std.specs.Prelude.{refl}
use Rattle.rows.proofs.traps.look_for_good.Goals as goal

pub returns : goal.returns
returns c = refl
