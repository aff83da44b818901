-- Both sides compute to one list.
use Rattle.std.specs.Prelude.{refl}
use Rattle.rows.proofs.rows.publication_code_by_code.Goals as goal

pub returns : goal.returns
returns c = refl
