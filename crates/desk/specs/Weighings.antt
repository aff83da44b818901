-- A weighing as contracts see it.
use Rattle.std.specs.Prelude.{ℕ}
use Rattle.board.specs.declared.weighed.Weighed.{Weighed}

-- the serial of the code, the result, and the length of the history then
pub record WeighingSeen : Type 0 where
  pub serial : ℕ
  pub said : Weighed
  pub length : ℕ
