use Rattle.std.proofs.Common.{◌≡◌, ◌∙◌, ap, to_z, of_z, w32, List, false, refl, arith}
use Rattle.std.proofs.lemmas.Int.{ints}
use Rattle.frames.specs.declared.Change.{Change}
use Rattle.frames.specs.Nets.{NetsView}
use Rattle.frames.proofs.Cells.{here_within, noted_here, read_same}
use Rattle.frames.proofs.nets.Nets.add.Goals as goal

pub move_by-requires-clause-low : goal.move_by-requires-clause-low
move_by-requires-clause-low c =
    let s = c.self.inside in
    let x = c.index_mut.result.now in
    let is = rw c.cell_of-place.ensures.value at c.index_mut.ensures.value in
    let was = rw c.cell_of-place.ensures.value at c.index.ensures in
    let same = read_same s.cells.items s.list.items c.self.invariant.cells_are c.args.code x c.index.result.now c.is_of.result is was c.is_of.ensures c.if-is_of.true in
    let open_ : s.flushed ≡ false = ap (λ v. v.flushed) c.self.view_is ∙ c.requires.open in
    let w = here_within s.cells.items s.list.items s.touched.items _ _ c.args.code x (rw open_ at c.self.invariant) is same in
    let low = w.low in
    let one = c.requires.one in
    omega (arith, ints, low)

pub move_by-requires-clause-high : goal.move_by-requires-clause-high
move_by-requires-clause-high c =
    let s = c.self.inside in
    let x = c.index_mut.result.now in
    let is = rw c.cell_of-place.ensures.value at c.index_mut.ensures.value in
    let was = rw c.cell_of-place.ensures.value at c.index.ensures in
    let same = read_same s.cells.items s.list.items c.self.invariant.cells_are c.args.code x c.index.result.now c.is_of.result is was c.is_of.ensures c.if-is_of.true in
    let open_ : s.flushed ≡ false = ap (λ v. v.flushed) c.self.view_is ∙ c.requires.open in
    let w = here_within s.cells.items s.list.items s.touched.items _ _ c.args.code x (rw open_ at c.self.invariant) is same in
    let high = w.high in
    let one = c.requires.one in
    omega (arith, ints, high)

pub invariant_of-self : goal.invariant_of-self
invariant_of-self c =
    let s = c.self.inside in
    let x = c.index_mut.result.now in
    let is = rw c.cell_of-place.ensures.value at c.index_mut.ensures.value in
    let was = rw c.cell_of-place.ensures.value at c.index.ensures in
    let same = read_same s.cells.items s.list.items c.self.invariant.cells_are c.args.code x c.index.result.now c.is_of.result is was c.is_of.ensures c.if-is_of.true in
    let open_ : s.flushed ≡ false = ap (λ v. v.flushed) c.self.view_is ∙ c.requires.open in
    let more =
    noted_here s.cells.items s.list.items s.touched.items _ _ c.args.code c.args.by _ x (rw open_ at c.self.invariant) is same refl c.requires.some (rw (← c.self.view_is) at c.requires.within) (rw (← c.self.view_is) at c.requires.room) in
    let one = c.requires.one in
    let by : to_z w32 (of_z w32 c.args.by) ≡ c.args.by = omega (arith, ints) in
    rw (open_, c.move_by.ensures, by, c.cell_of-place.ensures.value) more.kept

pub returns-then-is_of : goal.returns-then-is_of
returns-then-is_of c =
    let s = c.self.inside in
    let x = c.index_mut.result.now in
    let is = rw c.cell_of-place.ensures.value at c.index_mut.ensures.value in
    let was = rw c.cell_of-place.ensures.value at c.index.ensures in
    let same = read_same s.cells.items s.list.items c.self.invariant.cells_are c.args.code x c.index.result.now c.is_of.result is was c.is_of.ensures c.if-is_of.true in
    let open_ : s.flushed ≡ false = ap (λ v. v.flushed) c.self.view_is ∙ c.requires.open in
    let more =
    noted_here s.cells.items s.list.items s.touched.items _ _ c.args.code c.args.by _ x (rw open_ at c.self.invariant) is same refl c.requires.some (rw (← c.self.view_is) at c.requires.within) (rw (← c.self.view_is) at c.requires.room) in
    let view : List Change → NetsView = λ entries. record { entries = entries; flushed = false } in
    let one = c.requires.one in
    let by : to_z w32 (of_z w32 c.args.by) ≡ c.args.by = omega (arith, ints) in
    rw (← c.self.view_is, open_, c.move_by.ensures, by, c.cell_of-place.ensures.value) (ap view more.same)

pub note-requires-clause-within : goal.note-requires-clause-within
note-requires-clause-within c =
    let one = c.requires.one in
    let by : to_z w32 (of_z w32 c.args.by) ≡ c.args.by = omega (arith, ints) in
    rw by (rw (← c.self.view_is) at c.requires.within)
