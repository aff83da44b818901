-- The result of a job as contracts see it. (JEP 312: a callback is executed for each chosen thread)
use Rattle.std.specs.Prelude.{ℕ}
use Rattle.operations.specs.declared.Ask.{Ask}

-- The operation's number, the target's name, the ask and the reply.
pub record DoneView : Type 0 where
  pub op : ℕ
  pub target : ℕ
  pub ask : Ask
  pub reply : ℕ
