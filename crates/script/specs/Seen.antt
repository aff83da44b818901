-- The shape that the type of `src/` holds.
use Rattle.serde_json.specs.View.{items_view}
use Rattle.script.specs.Shape as spec
use Rattle.script.specs.declared.shape.Shape.{Shape}
use Rattle.script.specs.declared.shape.Shape.TheVariants.{Action, Loop}

abbrev pub shape_view : Shape → spec.Shape
shape_view (Action a) = spec.one a
shape_view (Loop n body) = spec.many n (items_view body.now.items)
