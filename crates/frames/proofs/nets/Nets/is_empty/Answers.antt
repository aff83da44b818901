use Rattle.std.proofs.Common.{◌∙◌, sym}
use Rattle.frames.proofs.Cells.{empty_both, empty_not}
use Rattle.frames.proofs.nets.Nets.is_empty.Goals as goal

pub returns-then-are_back : goal.returns-then-are_back
returns-then-are_back c =
    let s = c.self.inside in
    let cells = rw c.deref.ensures.value at c.are_back.ensures in
    let list = rw c.deref-then-are_back.ensures.value at c.are_zero.ensures in
    rw (← c.self.view_is) (empty_both s.cells.items s.list.items c.are_zero.result c.self.invariant.cells_are (sym c.if-are_back.true ∙ cells) list)

pub returns-else-are_back : goal.returns-else-are_back
returns-else-are_back c =
    let s = c.self.inside in
    let cells = rw c.deref.ensures.value at c.are_back.ensures in
    rw (← c.self.view_is) (empty_not s.cells.items s.list.items c.are_back.result c.self.invariant.cells_are cells c.if-are_back.false)
