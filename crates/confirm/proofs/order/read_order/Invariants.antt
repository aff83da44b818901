use Rattle.std.proofs.Common.{length}
use Rattle.confirm.proofs.Steps.{Got}
use Rattle.confirm.proofs.order.read_order.Given as goal

abbrev pub invariant-loop-rest : goal.invariant-loop-rest
invariant-loop-rest l = Got l.text l.fn.head.items l.order.owners.items l.order.events.items l.order.lines.items l.rest

abbrev pub decreases-loop-rest : goal.decreases-loop-rest
decreases-loop-rest l = length l.rest
