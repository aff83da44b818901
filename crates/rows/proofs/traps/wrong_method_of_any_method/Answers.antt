-- Both sides compute to one list.
use Rattle.std.specs.Prelude.{refl}
use Rattle.rows.proofs.traps.wrong_method_of_any_method.Goals as goal

pub returns : goal.returns
returns c = refl
