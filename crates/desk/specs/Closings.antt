-- An entered Close as contracts see it.
use Rattle.std.specs.Prelude.{ℕ}
use Rattle.operations.specs.declared.Kind.{Kind}
use Rattle.desk.specs.Machine.{Stands}

-- the entry and its place in the history, the kind of the closed request, and the number of the oldest request open
-- then
pub record ClosingSeen : Type 0 where
  pub stands : Stands
  pub kind : Kind
  pub oldest : ℕ
