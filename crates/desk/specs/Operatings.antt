-- An entered Operate as contracts see it.
use Rattle.std.specs.Prelude.{ℕ, List}
use Rattle.desk.specs.Machine.{Stands}

-- the entry and its place in the history, and the census of the bodies
pub record OperatingSeen : Type 0 where
  pub stands : Stands
  pub list : List (ℕ × ℕ)
