-- Marks that were made one after another.
use Rattle.std.specs.Prelude.{◌≡◌, List, [], ◌∷◌}
use Rattle.interp.specs.declared.mark.Mark.{Mark}

-- These marks lead from s to t: `marked` says what one mark may lead to.
abbrev pub Chain : {S : Type 0} → (S → Mark → S → Type 0) → S → List Mark → S → Type 0
Chain marked s [] t = s ≡ t
Chain {S} marked s (m ∷ ms) t = (u : S) × marked s m u × Chain marked u ms t
