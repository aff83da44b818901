use Rattle.std.proofs.Common.{◌+◌, ◌*◌}
use Rattle.serde_json.specs.Data.{depth, items_depth}
use Rattle.serde_json.specs.View.{view, items_view}
use Rattle.script.proofs.SoFar.{SoFar}
use Rattle.script.proofs.reading.+reading.Given as goal

abbrev pub decreases-read_item : goal.decreases-read_item
decreases-read_item l = 2 * depth (view l.value.now)

abbrev pub decreases-read_items : goal.decreases-read_items
decreases-read_items l = 2 * items_depth (items_view l.values.now.items) + 1

abbrev pub invariant-read_items-loop-number : goal.invariant-read_items-loop-number
invariant-read_items-loop-number l = SoFar l.fn.walk.place l.fn.walk.items l.values.items l.number l.walk.items l.items.items l.walk.place
