use Rattle.std.proofs.Common.{◌≡◌, ◌∙◌, ap, rules, length, false, List}
use Rattle.frames.specs.declared.Change.{Change}
use Rattle.frames.specs.Nets.{NetsView, is_zero}
use Rattle.frames.proofs.Cells.{tested, taken_only}
use Rattle.frames.proofs.nets.Nets.take_only.Goals as goal

pub invariant_of-self : goal.invariant_of-self
invariant_of-self c =
    let s = c.self.inside in
    let open_ : s.flushed ≡ false = ap (λ v. v.flushed) c.self.view_is ∙ c.requires.open in
    let one : length s.touched.items ≡ 1 = search rules in
    let none : length s.list.items ≡ 0 = search rules in
    let some = tested c.has_net.result (is_zero c.index-2.result.now.by) c.has_net.ensures (search rules) in
    let only = taken_only s.cells.items s.list.items s.touched.items _ _ c.index.result.now c.index-2.result.now (rw open_ at c.self.invariant) one none c.index.ensures c.index-2.ensures some in
    rw (open_, c.at_rest.ensures) only.kept

pub returns-clause-some : goal.returns-clause-some
returns-clause-some c =
    let s = c.self.inside in
    let open_ : s.flushed ≡ false = ap (λ v. v.flushed) c.self.view_is ∙ c.requires.open in
    let one : length s.touched.items ≡ 1 = search rules in
    let none : length s.list.items ≡ 0 = search rules in
    let some = tested c.has_net.result (is_zero c.index-2.result.now.by) c.has_net.ensures (search rules) in
    let only = taken_only s.cells.items s.list.items s.touched.items _ _ c.index.result.now c.index-2.result.now (rw open_ at c.self.invariant) one none c.index.ensures c.index-2.ensures some in
    let view : List Change → NetsView = λ entries. record { entries = entries; flushed = false } in
    (rw (← c.self.view_is, c.change.ensures) only.was, rw (open_, c.at_rest.ensures) (ap view only.none))
