use Rattle.std.proofs.Common.{◌≡◌}
use Rattle.berths.specs.Berths.{moved, Went}
use Rattle.thread_list.specs.Moves.{SameBody, IsTurn}
use Rattle.berths.specs.declared.room.BodyAct.TheVariants.{Given}
use Rattle.thread_list.proofs.serving.served.Given as goal

abbrev pub invariant-loop : goal.invariant-loop
invariant-loop g l =
    (goal.iterator-loop g).can_next l.iterator' × (goal.iterator-loop g).is_finite l.iterator' × SameBody l.fn.body l.turned.body
    × (l.turned.first.given ≡ moved l.fn.body Given) × Went l.fn.body.seat.place l.fn.body.name Given l.turned.last.given
    × IsTurn l.fn.body.seat.place l.fn.body.name l.turned.last.out l.turned.finish l.turned.body
