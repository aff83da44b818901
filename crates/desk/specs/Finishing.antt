-- An entered Finish as contracts see it.
use Rattle.bodies.specs.Bodies.{BodyView}
use Rattle.operations.specs.declared.Ask.{Ask}
use Rattle.desk.specs.Machine.{Stands}

-- the entry and its place in the history, the operation's ask, and the body of the job's run at the time of the entry
pub record FinishSeen : Type 0 where
  pub stands : Stands
  pub ask : Ask
  pub body : BodyView
