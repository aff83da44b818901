use Rattle.std.proofs.Common.{◌≡◌, ◌∙◌, ap, List, true, false}
use Rattle.frames.specs.declared.Change.{Change}
use Rattle.frames.specs.Nets.{NetsView}
use Rattle.frames.proofs.Cells.{flushed_kept, flushed_same}
use Rattle.frames.proofs.nets.Nets.flush_keeping.Goals as goal

pub invariant_of-self : goal.invariant_of-self
invariant_of-self c =
    let s = c.self.inside in
    let open_ : s.flushed ≡ false = ap (λ v. v.flushed) c.self.view_is ∙ c.requires in
    let out = c.move_out.ensures in
    rw (c.settle.ensures.items, c.settle.ensures.capacity, out.places, out.capacity)
    (flushed_kept s.cells.items s.list.items c.move_out.new.cells.items c.move_out.new.list.items s.touched.items c.move_out.new.touched.items _ _ (rw open_ at c.self.invariant) out.cells out.touched out.rest out.totals)

pub returns : goal.returns
returns c =
    let s = c.self.inside in
    let out = c.move_out.ensures in
    let view : List Change → NetsView = λ entries. record { entries = entries; flushed = true } in
    rw (← c.self.view_is, c.settle.ensures.items) (ap view (flushed_same s.cells.items s.list.items c.move_out.new.cells.items c.move_out.new.list.items out.cells out.rest out.totals))
