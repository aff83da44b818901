-- The script that the types of `src/` hold.
use Rattle.std.specs.Prelude.{List, [], ◌∷◌, map}
use Rattle.script.specs.declared.items.Item.{Item}
use Rattle.script.specs.declared.items.Item.TheOpen.{Item-F}
use Rattle.script.specs.declared.items.Item.TheFolds.{fold-Item}
use Rattle.script.specs.declared.items.Script.{Script}
use Rattle.script.specs.Body.{Body, finish, act, loop}

-- each item before what follows it
abbrev pub joined : List (Body → Body) → Body → Body
joined [] rest = rest
joined (f ∷ fs) rest = f (joined fs rest)

abbrev pub item_step : Item-F (Body → Body) → Body → Body
item_step (Item-F.Action a) rest = act a rest
item_step (Item-F.Loop n v) rest = loop n (joined v.items finish) rest

-- an item, before what follows it
abbrev pub item_view : Item → Body → Body
item_view = fold-Item (Body → Body) item_step

-- items, before what follows them
abbrev pub items_before : List Item → Body → Body
items_before is rest = joined (map item_view is) rest

-- the body that items are
abbrev pub body_view : List Item → Body
body_view is = items_before is finish

-- the bodies of a script's methods, in order
abbrev pub bodies : Script → List Body
bodies s = map (λ m. body_view m.items.items) s.methods.items
