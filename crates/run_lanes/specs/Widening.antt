-- Lists that grow.
use Rattle.std.specs.Prelude.{ℕ, suc, List, ◌++◌, ◌-◌, length, replicate}

-- The list, extended with blanks so that this position exists.
abbrev pub widened : {A : Type 0} → A → ℕ → List A → List A
widened blank at list = list ++ replicate (suc at - length list) blank
