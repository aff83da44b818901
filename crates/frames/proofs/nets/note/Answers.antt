use Rattle.std.proofs.Common.{◌≡◌, to_z, of_z, w32, arith, rules, vec_capacity, refl, []}
use Rattle.std.proofs.lemmas.Int.{ints}
use Rattle.std.proofs.lemmas.List.{nil_from_length}
use Rattle.frames.specs.declared.CodeId.{CodeId}
use Rattle.frames.specs.Stack.{times}
use Rattle.frames.specs.Nets.{is_zero, codes_in}
use Rattle.frames.proofs.Cells.{tested_not, noted_taken}
use Rattle.frames.proofs.nets.note.Goals as goal

pub returns-then-not-has_net : goal.returns-then-not-has_net
returns-then-not-has_net c =
    let code : CodeId = record { slot = c.args.slot; serial = c.args.serial } in
    let empty : c.args.list.now.items ≡ [] = nil_from_length c.args.list.now.items (search rules) in
    let none : times code (codes_in c.args.list.now.items) ≡ 0 = rw empty refl in
    let zero = tested_not c.has_net.result (is_zero c.index.result.now.by) c.has_net.ensures c.if-not-has_net.true in
    let more =
    noted_taken c.args.cells.now.items c.args.list.now.items c.args.touched.now.items c.touch.new.touched.items (vec_capacity c.args.touched.now) (vec_capacity c.args.list.now) code c.args.by c.index.result.now c.requires.kept
    (rw c.cell_of-place.ensures.value at c.index.ensures) zero none (rw c.deref.ensures.value at c.touch.ensures.touched) (rw c.cell_of-place.ensures.value at (c.touch.ensures.is (c.touch.ensures.taken (search rules))))
    c.requires.some c.requires.within c.requires.room in
    let one = c.requires.one in
    let by : to_z w32 (of_z w32 c.args.by) ≡ c.args.by = omega (arith, ints) in
    rw (c.new.ensures, by, c.cell_of-place.ensures.value, c.touch.ensures.capacity) (record { kept = more.kept; moved = more.same })
