-- Both sides compute to one list.
use Rattle.std.specs.Prelude.{refl}
use Rattle.rows.proofs.traps.depth_full_before_wrong_method.Goals as goal

pub returns : goal.returns
returns c = refl
