use Rattle.std.proofs.Common.{ap, length, not, arith}
use Rattle.std.proofs.lemmas.List.Sums.{length-filter}
use Rattle.frames.specs.declared.Change.{Change}
use Rattle.frames.specs.Nets.{is_zero}
use Rattle.frames.proofs.Cells.{flushed_is, count_live}
use Rattle.frames.proofs.nets.Nets.len.Goals as goal

pub returns-then-self : goal.returns-then-self
returns-then-self c =
    let s = c.self.inside in
    let same = ap length (flushed_is s.cells.items s.list.items s.touched.items _ _ s.flushed c.self.invariant c.if-self.true) in
    rw (← c.self.view_is) (omega (arith, c.len.ensures, same))

pub returns-else-self : goal.returns-else-self
returns-else-self c =
    let s = c.self.inside in
    let in_cells = rw c.deref.ensures.value at c.nonzero.ensures in
    let in_list = rw c.deref-else-self.ensures.value at c.nonzero-else-self.ensures in
    let a = length-filter (λ (e : Change). not (is_zero e.by)) s.cells.items in
    let b = length-filter (λ (e : Change). not (is_zero e.by)) s.list.items in
    let all = count_live s.cells.items s.list.items c.self.invariant.cells_are in
    rw (← c.self.view_is) (omega (arith, in_cells, in_list, a, b, all))
