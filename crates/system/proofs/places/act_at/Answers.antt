use Rattle.std.proofs.Common.{◌≡◌, ◌∙◌, sym, refl, rules, Some, None}
use Rattle.std.specs.Prelude.{slice_get}
use Rattle.system.proofs.Found.{got, put_back, vacant_at, acted_at}
use Rattle.system.proofs.places.act_at.Goals as goal

pub returns-in-None : goal.returns-in-None
returns-in-None c =
    let at_place : slice_get c.args.places.now.items c.args.place ≡ Some None = got c.args.places.now.items c.args.place c.index_mut.result.now None (search rules) (sym c.index_mut.ensures.value ∙ c.in-None.is) in
    vacant_at (record { act = c.args.act; opens = c.args.operations.now; now = c.args.now }) c.args.table.now c.args.place c.args.places.now.items _ at_place (rw c.in-None.is (put_back c.args.places.now.items c.args.place None at_place))

pub returns-in-Some : goal.returns-in-Some
returns-in-Some c =
    let at_place : slice_get c.args.places.now.items c.args.place ≡ Some (Some c.in-Some.thread) = got c.args.places.now.items c.args.place c.index_mut.result.now (Some c.in-Some.thread) (search rules) (sym c.index_mut.ensures.value ∙ c.in-Some.is) in
    rw c.answer_of.ensures (acted_at (record { act = c.args.act; opens = c.args.operations.now; now = c.args.now }) c.args.table.now c.args.place c.args.places.now.items _ c.in-Some.thread c.act.new.self c.act.result at_place c.act.ensures refl)
