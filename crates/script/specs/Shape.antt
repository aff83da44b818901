-- What one JSON value is as an item, by its words and keys.
use Rattle.std.specs.Prelude.{ℕ, ◌==◌, List, Option, Some, None, option_map, option_and_then, if◌then◌else◌, codes, bytes_eq}
use Rattle.serde_json.specs.Data.{Data, null, boolean, number, string, array, object, Items, Members}
use Rattle.serde_json.specs.Find.{get, as_number, as_u64, as_array}
use Rattle.serde_json.specs.Events.{members_len}
use Rattle.script.specs.declared.items.Action.{Action}
use Rattle.script.specs.declared.items.Action.TheVariants.{Native, Vm, Block, Tick, Call}

-- an action, or a loop of so many turns over values that are still to be read
pub data Shape : Type 0 where
  one : Action → Shape
  many : ℕ → Items → Shape

-- the text that names an action
abbrev pub action_named : List ℕ → Option Action
action_named s =
    if bytes_eq s (codes "native") then Some Native
    else (if bytes_eq s (codes "vm") then Some Vm
    else (if bytes_eq s (codes "block") then Some Block
    else (if bytes_eq s (codes "tick") then Some Tick
    else None)))

-- the whole number below 2^64 at a key
abbrev pub number_at : List ℕ → Data → Option ℕ
number_at k d = option_and_then as_u64 (option_and_then as_number (get k d))

-- the array at a key
abbrev pub array_at : List ℕ → Data → Option Items
array_at k d = option_and_then as_array (get k d)

-- `{"call": m}`
abbrev pub call_in : Data → Option Shape
call_in d = option_map (λ m. one (Call m)) (number_at (codes "call") d)

-- `{"loop": n, "body": [..]}`
abbrev pub loop_in : Data → Option Shape
loop_in d = option_and_then (λ n. option_map (many n) (array_at (codes "body") d)) (number_at (codes "loop") d)

-- an object of these keys and no others
abbrev pub object_shape : Members → Option Shape
object_shape ms = if members_len ms == 1 then call_in (object ms) else (if members_len ms == 2 then loop_in (object ms) else None)

abbrev pub shape : Data → Option Shape
shape null = None
shape (boolean b) = None
shape (number n) = None
shape (string s) = option_map one (action_named s)
shape (array ds) = None
shape (object ms) = object_shape ms
