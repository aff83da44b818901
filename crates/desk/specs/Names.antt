-- Lists of names.
use Rattle.std.specs.Prelude.{ℕ, List}

-- the names in order, and the capacity without the first name
pub record NamesSeen : Type 0 where
  pub items : List ℕ
  pub capacity : ℕ
