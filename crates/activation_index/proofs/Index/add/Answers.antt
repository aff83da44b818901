use Rattle.std.proofs.Common.{◌≡◌, arith}
use Rattle.std.specs.Prelude.{pos, ◌+ℤ◌}
use Rattle.std.proofs.lemmas.Int.{ints}
use Rattle.activation_index.specs.Counts.{count_in}
use Rattle.activation_index.proofs.Puts.{count_in_here, count_in_other, rising_put, few_put, room_for, length-put}
use Rattle.activation_index.proofs.Index.add.Goals as goal

pub put-requires-clause-room : goal.put-requires-clause-room
put-requires-clause-room c = λ none some.
    let sum : pos c.moved-count.result ≡ pos (count_in c.self.inside.entries.items c.args.serial) +ℤ c.args.by = omega (arith, ints, rw (c.count_of.ensures, c.deref.ensures.value) at c.moved-count.ensures.value) in
    let asked = rw (← c.self.view_is) at c.requires.room in
    let room = room_for c.self.inside.entries.items c.args.serial c.moved-count.result c.self.inside.slots c.args.by sum (asked c.self.invariant.2) none some in
    omega (arith, room, c.deref.ensures.len, c.self.invariant.0)

pub invariant_of-self : goal.invariant_of-self
invariant_of-self c =
    let sum : pos c.moved-count.result ≡ pos (count_in c.self.inside.entries.items c.args.serial) +ℤ c.args.by = omega (arith, ints, rw (c.count_of.ensures, c.deref.ensures.value) at c.moved-count.ensures.value) in
    let asked = rw (← c.self.view_is) at c.requires.room in
    let room = room_for c.self.inside.entries.items c.args.serial c.moved-count.result c.self.inside.slots c.args.by sum (asked c.self.invariant.2) in
    let few = few_put c.self.inside.entries.items 0 c.args.serial c.moved-count.result c.self.inside.slots c.self.invariant.2 c.self.invariant.1 room in (
      omega (arith, c.put.ensures.capacity, c.self.invariant.0),
      rw c.put.ensures.items few,
      rw c.put.ensures.items (rising_put c.self.inside.entries.items 0 c.args.serial c.moved-count.result (omega arith) c.self.invariant.2),
    )

pub returns-clause-here : goal.returns-clause-here
returns-clause-here c =
    let now = count_in_here c.self.inside.entries.items 0 c.args.serial c.moved-count.result c.self.invariant.2 in
    rw (← c.self.view_is, c.put.ensures.items, now) (omega (arith, ints, rw (c.count_of.ensures, c.deref.ensures.value) at c.moved-count.ensures.value))

pub returns-clause-others : goal.returns-clause-others
returns-clause-others c = λ other ne. rw (← c.self.view_is, c.put.ensures.items) (count_in_other c.self.inside.entries.items c.args.serial c.moved-count.result other ne)

pub returns-clause-rising : goal.returns-clause-rising
returns-clause-rising c = rw c.put.ensures.items (rising_put c.self.inside.entries.items 0 c.args.serial c.moved-count.result (omega arith) c.self.invariant.2)

pub returns-clause-few : goal.returns-clause-few
returns-clause-few c =
    let sum : pos c.moved-count.result ≡ pos (count_in c.self.inside.entries.items c.args.serial) +ℤ c.args.by = omega (arith, ints, rw (c.count_of.ensures, c.deref.ensures.value) at c.moved-count.ensures.value) in
    let asked = rw (← c.self.view_is) at c.requires.room in
    let room = room_for c.self.inside.entries.items c.args.serial c.moved-count.result c.self.inside.slots c.args.by sum (asked c.self.invariant.2) in
    let few = few_put c.self.inside.entries.items 0 c.args.serial c.moved-count.result c.self.inside.slots c.self.invariant.2 c.self.invariant.1 room in
    rw c.put.ensures.items few

pub returns-clause-taken : goal.returns-clause-taken
returns-clause-taken c =
    let now = count_in_here c.self.inside.entries.items 0 c.args.serial c.moved-count.result c.self.invariant.2 in
    rw (← c.self.view_is, c.put.ensures.items, now) (length-put c.self.inside.entries.items 0 c.args.serial c.moved-count.result c.self.invariant.2)
