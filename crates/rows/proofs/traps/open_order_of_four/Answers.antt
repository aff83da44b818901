-- Both sides compute to one list.
use Rattle.std.specs.Prelude.{refl}
use Rattle.rows.proofs.traps.open_order_of_four.Goals as goal

pub returns : goal.returns
returns c = refl
