-- Both sides compute to one list.
use Rattle.std.specs.Prelude.{refl}
use Rattle.rows.proofs.rows.asks_of_a_stack.Goals as goal

pub returns : goal.returns
returns c = refl
