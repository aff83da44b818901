use Rattle.std.proofs.Common.{◌≡◌, to_z, of_z, w32, false, arith, vec_capacity, refl}
use Rattle.std.proofs.lemmas.Int.{ints}
use Rattle.frames.specs.declared.CodeId.{CodeId}
use Rattle.frames.specs.Nets.{is_zero, AreTouched}
use Rattle.frames.proofs.Cells.{tested_not, noted_listed, noted_taken, noted_put, list_within, list_few}
use Rattle.frames.proofs.nets.note_listed.Goals.{then-not-has_net+else-touch, else-not-has_net}
use Rattle.frames.proofs.nets.note_listed.Goals as goal

pub move_by-requires-clause-low : goal.move_by-requires-clause-low
move_by-requires-clause-low c =
    let code : CodeId = record { slot = c.args.slot; serial = c.args.serial } in
    let at_ = rw c.deref.ensures.value at c.in-Some.ensures.some in
    let w = list_within c.args.cells.now.items c.args.list.now.items c.args.touched.now.items _ _ false code c.in-Some.place c.index_mut.result.now c.requires.kept c.requires.new at_ c.index_mut.ensures.value in
    let low = w.low in
    let one = c.requires.one in
    omega (arith, ints, low)

pub move_by-requires-clause-high : goal.move_by-requires-clause-high
move_by-requires-clause-high c =
    let code : CodeId = record { slot = c.args.slot; serial = c.args.serial } in
    let at_ = rw c.deref.ensures.value at c.in-Some.ensures.some in
    let w = list_within c.args.cells.now.items c.args.list.now.items c.args.touched.now.items _ _ false code c.in-Some.place c.index_mut.result.now c.requires.kept c.requires.new at_ c.index_mut.ensures.value in
    let high = w.high in
    let one = c.requires.one in
    omega (arith, ints, high)

pub returns-in-Some : goal.returns-in-Some
returns-in-Some c =
    let code : CodeId = record { slot = c.args.slot; serial = c.args.serial } in
    let at_ = rw c.deref.ensures.value at c.in-Some.ensures.some in
    let more =
    noted_listed c.args.cells.now.items c.args.list.now.items c.args.touched.now.items (vec_capacity c.args.touched.now) (vec_capacity c.args.list.now) code c.args.by _ c.in-Some.place c.index_mut.result.now c.requires.kept at_
    c.index_mut.ensures.value refl c.requires.some c.requires.within c.requires.room in
    let one = c.requires.one in
    let by : to_z w32 (of_z w32 c.args.by) ≡ c.args.by = omega (arith, ints) in
    rw (c.move_by.ensures, by) (record { kept = more.kept; moved = more.same })

pub returns-then-touch : goal.returns-then-touch
returns-then-touch c =
    let code : CodeId = record { slot = c.args.slot; serial = c.args.serial } in
    let none = rw c.deref.ensures.value at c.in_default.ensures.none in
    let zero = tested_not c.has_net.result (is_zero c.index.result.now.by) c.has_net.ensures c.if-not-has_net.true in
    let more =
    noted_taken c.args.cells.now.items c.args.list.now.items c.args.touched.now.items c.touch.new.touched.items (vec_capacity c.args.touched.now) (vec_capacity c.args.list.now) code c.args.by c.index.result.now c.requires.kept
    (rw c.cell_of-place.ensures.value at c.index.ensures) zero none (rw c.deref-then-not-has_net.ensures.value at c.touch.ensures.touched) (rw c.cell_of-place.ensures.value at (c.touch.ensures.is c.if-touch.true))
    c.requires.some c.requires.within c.requires.room in
    let one = c.requires.one in
    let by : to_z w32 (of_z w32 c.args.by) ≡ c.args.by = omega (arith, ints) in
    rw (c.new.ensures, by, c.cell_of-place.ensures.value, c.touch.ensures.capacity) (record { kept = more.kept; moved = more.same })

pub put-requires-clause-few : goal.put-requires-clause-few
put-requires-clause-few c = list_few c.args.cells.now.items c.args.list.now.items c.args.touched.now.items _ _ false c.requires.kept

pub returns : goal.returns
returns c =
    let code : CodeId = record { slot = c.args.slot; serial = c.args.serial } in
    let none = rw c.deref.ensures.value at c.in_default.ensures.none in
    let one = c.requires.one in
    let by : to_z w32 (of_z w32 c.args.by) ≡ c.args.by = omega (arith, ints) in
    let put = rw (c.new-2.ensures, by) at c.put.ensures.put in
    let touched : AreTouched c.args.cells.now.items c.if-not-has_net.touched.items × (vec_capacity c.if-not-has_net.touched ≡ vec_capacity c.args.touched.now) = elim c.if-not-has_net.branch [
      | then-not-has_net+else-touch w ↦ rw w.touched-is (rw w.deref-then-not-has_net.ensures.value at w.touch.ensures.touched, w.touch.ensures.capacity)
      | else-not-has_net w ↦ rw w.touched-is (c.requires.kept.touched_are, refl)
    ] in
    let more =
    noted_put c.args.cells.now.items c.args.list.now.items c.put.new.nets.items c.args.touched.now.items c.if-not-has_net.touched.items (vec_capacity c.args.touched.now) (vec_capacity c.args.list.now) code c.args.by
    c.requires.kept c.requires.new none touched.0 put c.requires.some c.requires.within c.requires.room in
    rw (touched.1, c.put.ensures.capacity) (record { kept = more.kept; moved = more.same })
