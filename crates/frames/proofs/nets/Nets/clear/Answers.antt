use Rattle.std.proofs.Common.{◌≡◌, ◌∙◌, ap, List, [], true, false}
use Rattle.frames.specs.declared.Change.{Change}
use Rattle.frames.specs.Nets.{NetsView}
use Rattle.frames.proofs.Cells.{none_kept, list_all, dropped}
use Rattle.frames.proofs.nets.Nets.clear.Goals as goal

pub invariant_of-self : goal.invariant_of-self
invariant_of-self c =
    let s = c.self.inside in
    let flushed : s.flushed ≡ true = ap (λ v. v.flushed) c.self.view_is ∙ c.requires in
    let none = dropped s.cells.items s.list.items c.self.invariant.cells_are in
    rw (c.clear.ensures.items, c.clear.ensures.capacity)
    (none_kept s.cells.items s.touched.items _ _ none c.self.invariant.touched_are (c.self.invariant.at_rest flushed) c.self.invariant.has_places c.self.invariant.has_room)

pub returns : goal.returns
returns c =
    let s = c.self.inside in
    let flushed : s.flushed ≡ true = ap (λ v. v.flushed) c.self.view_is ∙ c.requires in
    let none = dropped s.cells.items s.list.items c.self.invariant.cells_are in
    let view : List Change → NetsView = λ entries. record { entries = entries; flushed = false } in
    rw c.clear.ensures.items (ap view (list_all s.cells.items [] none (c.self.invariant.at_rest flushed)))
