use Rattle.std.proofs.Common.{◌≡◌, ◌∙◌, false, eqb, arith}
use Rattle.std.proofs.lemmas.Bool.Decides.{nat_tests}
use Rattle.activation_index.specs.Counts.{count_in}
use Rattle.activation_index.proofs.Puts.{place_in_le, removed, setted, inserted, kept, absent}
use Rattle.activation_index.proofs.put.Goals as goal

pub insert-requires : goal.insert-requires
insert-requires c = let le = place_in_le c.deref.result.now c.args.serial in omega arith

pub unreachable-requires : goal.unreachable-requires
unreachable-requires c =
    let place = rw c.deref.ensures.value at c.place_of-place.ensures in
    let out = rw (c.deref-2.ensures.value, place) at (c.stands_at.ensures.no c.if-stands_at.false) in
    let zero_ : count_in c.args.entries.now.items c.args.serial ≡ 0 = absent c.args.entries.now.items 0 c.args.serial c.requires.rising out in
    let room = c.requires.room zero_ in
    let full = c.in-Err.ensures.full in
    omega arith

pub returns-then-count-eq0-clause-items : goal.returns-then-count-eq0-clause-items
returns-then-count-eq0-clause-items c =
    let place = rw c.deref.ensures.value at c.place_of-place.ensures in
    let here = rw (c.deref-2.ensures.value, place) at (c.stands_at.ensures.yes c.if-stands_at.true).1 in
    rw (c.remove.ensures.items, place, c.if-count-eq0.true) (removed c.args.entries.now.items c.args.serial here)

pub returns-else-count-eq0-clause-items : goal.returns-else-count-eq0-clause-items
returns-else-count-eq0-clause-items c =
    let place = rw c.deref.ensures.value at c.place_of-place.ensures in
    let here = rw (c.deref-2.ensures.value, place) at (c.stands_at.ensures.yes c.if-stands_at.true).1 in
    let some : eqb c.args.count 0 ≡ false = grind (arith, nat_tests) in
    rw place (setted c.args.entries.now.items c.args.serial c.args.count some here)

pub returns-in-Ok-clause-items : goal.returns-in-Ok-clause-items
returns-in-Ok-clause-items c =
    let place = rw c.deref.ensures.value at c.place_of-place.ensures in
    let out = rw (c.deref-2.ensures.value, place) at (c.stands_at.ensures.no c.if-stands_at.false) in
    let some : eqb c.args.count 0 ≡ false = grind (arith, nat_tests) in
    let items = rw place at c.in-Ok.ensures.items in
    items ∙ inserted c.args.entries.now.items c.args.serial c.args.count some out

pub returns-else-count-ne0-clause-items : goal.returns-else-count-ne0-clause-items
returns-else-count-ne0-clause-items c =
    let place = rw c.deref.ensures.value at c.place_of-place.ensures in
    let out = rw (c.deref-2.ensures.value, place) at (c.stands_at.ensures.no c.if-stands_at.false) in
    let none : c.args.count ≡ 0 = grind arith in
    rw none (kept c.args.entries.now.items c.args.serial out)
