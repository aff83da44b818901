-- A method's items, or those of a loop's body: the first, and what follows it.
use Rattle.std.specs.Prelude.{ℕ}
use Rattle.script.specs.declared.items.Action.{Action}

pub data Body : Type 0 where
  finish : Body
  act : Action → Body → Body
  -- turns, what each turn does, and what follows the loop
  loop : ℕ → Body → Body → Body
