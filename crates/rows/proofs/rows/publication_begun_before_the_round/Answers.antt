-- Both sides compute to one list.
use Rattle.std.specs.Prelude.{refl}
use Rattle.rows.proofs.rows.publication_begun_before_the_round.Goals as goal

pub returns : goal.returns
returns c = refl
