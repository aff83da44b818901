use Rattle.std.proofs.Common.{◌≡◌, length, arith}
use Rattle.std.proofs.lemmas.Bool.Decides.{nat_tests}
use Rattle.frames.proofs.Cells.{unmoved_none}
use Rattle.frames.proofs.nets.Nets.is_unmoved.Goals as goal

pub returns-then-is_empty : goal.returns-then-is_empty
returns-then-is_empty c = λ h.
    let s = c.self.inside in
    let a = c.is_empty.ensures in
    let at_ = c.if-is_empty.true in
    let b = c.is_empty-then-is_empty.ensures in
    let touched : length s.touched.items ≡ 0 = grind (arith, nat_tests) in
    let list : length s.list.items ≡ 0 = grind (arith, nat_tests) in
    rw (← c.self.view_is) (unmoved_none s.cells.items s.list.items s.touched.items c.self.invariant.cells_are c.self.invariant.touched_are touched list)
