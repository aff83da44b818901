use Rattle.std.proofs.Common.{sym}
use Rattle.activation_index.proofs.Places.{found}
use Rattle.activation_index.proofs.Puts.{absent}
use Rattle.activation_index.proofs.count_of.Goals as goal

pub returns-then-stands_at : goal.returns-then-stands_at
returns-then-stands_at c =
    let here = rw c.place_of-place.ensures at (c.stands_at.ensures.yes c.if-stands_at.true).1 in
    rw c.place_of-place.ensures (found c.args.entries.now 0 c.args.serial (record { serial = 0; count = 0 }) c.requires here)

pub returns-else-stands_at : goal.returns-else-stands_at
returns-else-stands_at c =
    let out = rw c.place_of-place.ensures at (c.stands_at.ensures.no c.if-stands_at.false) in
    sym (absent c.args.entries.now 0 c.args.serial c.requires out)
