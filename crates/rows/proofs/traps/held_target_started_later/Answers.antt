-- Both sides compute to one list.
use Rattle.std.specs.Prelude.{refl}
use Rattle.rows.proofs.traps.held_target_started_later.Goals as goal

pub returns : goal.returns
returns c = refl
