-- What a JSON array is as a body: a body that also keeps the places of values that are no items.
use Rattle.std.specs.Prelude.{ℕ, suc, ◌+◌}
use Rattle.script.specs.declared.items.Action.{Action}
use Rattle.script.specs.Body.{Body, finish, act, loop}

pub data Outline : Type 0 where
  end : Outline
  action : Action → Outline → Outline
  turns : ℕ → Outline → Outline → Outline
  -- a value that is no item
  wrong : Outline → Outline

-- a body in which nothing is wrong
abbrev pub sound : Body → Outline
sound finish = end
sound (act a rest) = action a (sound rest)
sound (loop n b rest) = turns n (sound b) (sound rest)

-- how many items there are, those of inner bodies among them
abbrev pub count : Outline → ℕ
count end = 0
count (action a rest) = suc (count rest)
count (turns n b rest) = suc (count b + count rest)
count (wrong rest) = suc (count rest)
