-- What JSON values are as a script, in which each value that is no item is marked as wrong.
use Rattle.std.specs.Prelude.{◌==◌, List, [], ◌∷◌, Option, Some, None, option_map, if◌then◌else◌, codes}
use Rattle.std.specs.Ordering.{nat_cmp, match_ordering}
use Rattle.std.specs.Cmp.Lexicographic.{slice_cmp}
use Rattle.serde_json.specs.Data.{Data, null, boolean, number, string, array, object, Items, no_items, item, Members, no_members, member}
use Rattle.serde_json.specs.Find.{as_array}
use Rattle.serde_json.specs.Events.{members_len}
use Rattle.script.specs.Body.{Body}
use Rattle.script.specs.Outline.{Outline, end, action, turns, wrong, sound}
use Rattle.script.specs.Shape.{Shape, one, many, shape, array_at}

-- an item of that shape and with that body, before what follows it
abbrev pub drawn : Option Shape → Outline → Outline → Outline
drawn None inner rest = wrong rest
drawn (Some (one a)) inner rest = action a rest
drawn (Some (many n ds)) inner rest = turns n inner rest

abbrev mutual
  -- the item that a value is, before what follows it
  pub sketch : Data → Outline → Outline
  sketch null rest = wrong rest
  sketch (boolean b) rest = wrong rest
  sketch (number n) rest = wrong rest
  sketch (string s) rest = drawn (shape (string s)) end rest
  sketch (array ds) rest = wrong rest
  sketch (object ms) rest = drawn (shape (object ms)) (inner_outline ms) rest

  -- the outline of the array at the key `body`
  pub inner_outline : Members → Outline
  inner_outline no_members = end
  inner_outline (member k d ms) = match_ordering (slice_cmp nat_cmp (codes "body") k) (inner_outline ms) (array_outline d) (inner_outline ms)

  pub array_outline : Data → Outline
  array_outline null = end
  array_outline (boolean b) = end
  array_outline (number n) = end
  array_outline (string s) = end
  array_outline (array ds) = outline ds
  array_outline (object ms) = end

  -- the body that the values of an array are
  pub outline : Items → Outline
  outline no_items = end
  outline (item d ds) = sketch d (outline ds)

-- the methods that the values of an array are; a value that is no array is no method
abbrev pub method_outlines : Items → List (Option Outline)
method_outlines no_items = []
method_outlines (item d ds) = option_map outline (as_array d) ∷ method_outlines ds

-- the value of the one key `methods` of an object
abbrev pub methods_in : Data → Option Items
methods_in null = None
methods_in (boolean b) = None
methods_in (number n) = None
methods_in (string s) = None
methods_in (array ds) = None
methods_in (object ms) = if members_len ms == 1 then array_at (codes "methods") (object ms) else None

-- a method whose body has nothing wrong
abbrev pub some_sound : Body → Option Outline
some_sound b = Some (sound b)
