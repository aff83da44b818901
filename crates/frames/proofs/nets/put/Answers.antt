use Rattle.std.proofs.Common.{arith}
use Rattle.frames.proofs.Totals.{pushed_put, set_put, length_settled}
use Rattle.frames.proofs.nets.put.Goals as goal

pub returns-then-len-lt-MOVED-clause-put : goal.returns-then-len-lt-MOVED-clause-put
returns-then-len-lt-MOVED-clause-put c = rw c.push_reserved.ensures.items (pushed_put c.args.nets.now.items c.args.net (omega arith))

pub unreachable-requires : goal.unreachable-requires
unreachable-requires c =
    let all = rw c.deref.ensures.value at c.in-None.ensures.none in
    let few = c.requires.few in
    let same = length_settled c.args.nets.now.items c.requires.once in
    omega arith

pub returns-clause-put : goal.returns-clause-put
returns-clause-put c =
    let place = rw c.deref.ensures.value at c.in-Some.ensures.some in
    set_put c.args.nets.now.items c.in-Some.place _ c.args.net c.requires.fits place.0 place.1
