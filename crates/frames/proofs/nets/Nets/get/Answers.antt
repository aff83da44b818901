use Rattle.std.proofs.Common.{◌∙◌, ap}
use Rattle.frames.proofs.Cells.{flushed_is}
use Rattle.frames.proofs.nets.Nets.get.Goals as goal

pub returns : goal.returns
returns c =
    let s = c.self.inside in
    let same = flushed_is s.cells.items s.list.items s.touched.items _ _ s.flushed c.self.invariant (ap (λ v. v.flushed) c.self.view_is ∙ c.requires) in
    rw (← c.self.view_is, same) (rw c.deref.ensures.value at c.net_at.ensures)
