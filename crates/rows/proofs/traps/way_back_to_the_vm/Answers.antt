-- Both sides compute to one list.
use Rattle.std.specs.Prelude.{refl}
use Rattle.rows.proofs.traps.way_back_to_the_vm.Goals as goal

pub returns : goal.returns
returns c = refl
