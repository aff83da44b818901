-- Where no model was there before, a fault leaves none.
use Rattle.std.proofs.Common.{◌≡◌, ℕ, Option, Some, None, refl, true, false, sym}
use Rattle.std.proofs.lemmas.Bool.{false≢true}
use Rattle.std.specs.Prelude.{is_some}
use Rattle.system.specs.Stands.{are_sizes}
use Rattle.system.specs.declared.machine.NewFault.TheVariants as fault
use Rattle.model.specs.Stepped.{Stepped}
use Rattle.model.specs.Face.{NewTold, no_memory}

pub still_none : (held : Option Stepped) (places slots methods : ℕ) → is_some held ≡ false → are_sizes places slots methods ≡ true → NewTold no_memory places slots methods held held
still_none None places slots methods none sized = (fault.NoMemory, refl, sized)
still_none (Some model) places slots methods none sized = absurd (false≢true (sym none))
