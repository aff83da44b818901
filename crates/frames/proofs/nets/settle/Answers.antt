use Rattle.std.proofs.Common.{arith}
use Rattle.frames.proofs.Totals.{settled_none, settled_one}
use Rattle.frames.proofs.nets.settle.Goals as goal

pub returns-then-are_zero-clause-items : goal.returns-then-are_zero-clause-items
returns-then-are_zero-clause-items c =
    rw c.clear.ensures.items (settled_none c.args.nets.now.items c.are_zero.result c.requires.once (rw c.deref.ensures.value at c.are_zero.ensures) c.if-are_zero.true)

pub returns-else-are_zero-clause-items : goal.returns-else-are_zero-clause-items
returns-else-are_zero-clause-items c =
    settled_one c.args.nets.now.items c.are_zero.result (omega arith) (rw c.deref.ensures.value at c.are_zero.ensures) c.if-are_zero.false
