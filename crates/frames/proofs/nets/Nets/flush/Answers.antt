use Rattle.std.proofs.Common.{◌≡◌, ◌∙◌, ap, List, [], true, false}
use Rattle.frames.specs.declared.Change.{Change}
use Rattle.frames.specs.Nets.{NetsView}
use Rattle.frames.proofs.Cells.{flushed_kept, flushed_same, none_touched, among_rest}
use Rattle.frames.proofs.nets.Nets.flush.Goals as goal

pub invariant_of-self : goal.invariant_of-self
invariant_of-self c =
    let s = c.self.inside in
    let open_ : s.flushed ≡ false = ap (λ v. v.flushed) c.self.view_is ∙ c.requires in
    let out = c.drain.ensures in
    let cells = c.drain.new.cells.items in
    let list = c.drain.new.list.items in
    rw (c.clear.ensures.items, c.clear.ensures.capacity, c.settle.ensures.items, c.settle.ensures.capacity, out.capacity)
    (flushed_kept s.cells.items s.list.items cells list s.touched.items [] _ _ (rw open_ at c.self.invariant) out.cells (none_touched cells out.none) (among_rest cells list out.cells out.none) out.totals)

pub returns : goal.returns
returns c =
    let s = c.self.inside in
    let out = c.drain.ensures in
    let cells = c.drain.new.cells.items in
    let list = c.drain.new.list.items in
    let view : List Change → NetsView = λ entries. record { entries = entries; flushed = true } in
    rw (← c.self.view_is, c.settle.ensures.items) (ap view (flushed_same s.cells.items s.list.items cells list out.cells (among_rest cells list out.cells out.none) out.totals))
