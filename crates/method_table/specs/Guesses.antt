-- The slot cache at the start.
use Rattle.std.specs.Prelude.{ℕ, List, replicate}

abbrev pub no_guess : List ℕ
no_guess = replicate 1024 0
