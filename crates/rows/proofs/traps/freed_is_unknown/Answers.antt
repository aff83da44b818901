-- Both sides compute to one list.
use Rattle.std.specs.Prelude.{refl}
use Rattle.rows.proofs.traps.freed_is_unknown.Goals as goal

pub returns : goal.returns
returns c = refl
