-- Both sides compute to one list.
use Rattle.std.specs.Prelude.{refl}
use Rattle.rows.proofs.traps.publication_of_a_held_thread.Goals as goal

pub returns : goal.returns
returns c = refl
