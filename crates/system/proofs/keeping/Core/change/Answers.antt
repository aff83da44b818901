use Rattle.std.proofs.Common.{◌≡◌, refl, arith, pos, ◌+ℤ◌, to_z, of_z, w32}
use Rattle.std.proofs.lemmas.Int.{ints}
use Rattle.activation_index.specs.Cells.{count_at}
use Rattle.system.proofs.Changing.{was_changed, low, high, within, of_serial, change_does, rest_does, refusal_does}
use Rattle.system.proofs.keeping.Core.change.Goals as goal

pub add-requires-clause-low : goal.add-requires-clause-low
add-requires-clause-low c =
    let s = c.args.self.now in let w = c.requires.world in let new = c.change_at.new.places.items in
    let did = rw c.in-Ok-Some.field-0-is at c.in-Ok-Some.ensures in
    let h = low s w.0 c.args.place c.in-Ok-Some.change.code.slot c.in-Ok-Some.change.code.serial c.in-Ok-Some.change.by new (was_changed s w.0 c.args.place c.in-Ok-Some.change new w.2 did) w.2 w.1 in omega (arith, ints, h)

pub add-requires-clause-high : goal.add-requires-clause-high
add-requires-clause-high c =
    let s = c.args.self.now in let w = c.requires.world in let new = c.change_at.new.places.items in
    let did = rw c.in-Ok-Some.field-0-is at c.in-Ok-Some.ensures in
    let h = high s w.0 c.args.place c.in-Ok-Some.change.code.slot c.in-Ok-Some.change.code.serial c.in-Ok-Some.change.by new (was_changed s w.0 c.args.place c.in-Ok-Some.change new w.2 did) w.2 w.1 c.requires.few in omega (arith, ints, h)

pub add-requires-clause-slot : goal.add-requires-clause-slot
add-requires-clause-slot c =
    let s = c.args.self.now in let w = c.requires.world in let new = c.change_at.new.places.items in
    let did = rw c.in-Ok-Some.field-0-is at c.in-Ok-Some.ensures in
    within s w.0 c.args.place c.in-Ok-Some.change.code.slot c.in-Ok-Some.change.code.serial c.in-Ok-Some.change.by new (was_changed s w.0 c.args.place c.in-Ok-Some.change new w.2 did) w.2 w.1

pub add-requires-clause-serial : goal.add-requires-clause-serial
add-requires-clause-serial c =
    let s = c.args.self.now in let w = c.requires.world in let new = c.change_at.new.places.items in
    let did = rw c.in-Ok-Some.field-0-is at c.in-Ok-Some.ensures in
    of_serial s w.0 c.args.place c.in-Ok-Some.change.code.slot c.in-Ok-Some.change.code.serial c.in-Ok-Some.change.by new (was_changed s w.0 c.args.place c.in-Ok-Some.change new w.2 did) w.2 w.1

pub returns-in-Ok-Some : goal.returns-in-Ok-Some
returns-in-Ok-Some c =
    let did = rw c.in-Ok-Some.field-0-is at c.in-Ok-Some.ensures in
    let here : pos (count_at c.add.new.self c.in-Ok-Some.change.code.slot c.in-Ok-Some.change.code.serial) ≡ pos (count_at c.args.self.now.index c.in-Ok-Some.change.code.slot c.in-Ok-Some.change.code.serial) +ℤ c.in-Ok-Some.change.by = (let h = c.add.ensures.here in omega (arith, ints, h)) in
    let same : to_z w32 (of_z w32 c.in-Ok-Some.change.by) ≡ c.in-Ok-Some.change.by = omega (arith, ints) in
    rw same (change_does c.args.self.now _ c.args.place c.in-Ok-Some.change (record { table = refl; records = refl; names = refl; moment = refl; requests = refl }) did here c.add.ensures.others)

pub returns-in-Ok-None : goal.returns-in-Ok-None
returns-in-Ok-None c =
    let did = rw c.in-Ok-None.field-0-is at c.in-Ok-None.ensures in
    rest_does c.args.self.now _ c.args.place (record { table = refl; records = refl; index = refl; names = refl; moment = refl; requests = refl }) did

pub returns-in-Err : goal.returns-in-Err
returns-in-Err c =
    refusal_does c.args.self.now _ c.args.place c.in-Err.refusal (record { table = refl; records = refl; index = refl; names = refl; moment = refl; requests = refl }) c.in-Err.ensures
