use Rattle.std.proofs.Common.{◌+◌, ◌*◌, ◌-◌}
use Rattle.script.proofs.CheckedSoFar.{CheckedSoFar}
use Rattle.script.proofs.checking.+laying.Given as goal

abbrev pub decreases-lay_item : goal.decreases-lay_item
decreases-lay_item l = 2 * (9 - l.level)

abbrev pub decreases-lay_items : goal.decreases-lay_items
decreases-lay_items l = 2 * (9 - l.level) + 1

abbrev pub invariant-lay_items-loop-number : goal.invariant-lay_items-loop-number
invariant-lay_items-loop-number l = CheckedSoFar l.count l.level l.fn.walk.place l.fn.ops.items l.items.items l.number l.ops.items l.walk.place
