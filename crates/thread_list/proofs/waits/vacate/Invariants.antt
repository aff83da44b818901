use Rattle.std.proofs.Common.{◌≡◌, ◌<◌, [], Some}
use Rattle.std.specs.Prelude.{IfSome, IfNone}
use Rattle.thread_list.specs.Moves.{SameBody, HasStopped, IsLastTurn, first_of}
use Rattle.thread_list.proofs.waits.vacate.Given as goal

abbrev pub invariant-loop : goal.invariant-loop
invariant-loop g l =
    (goal.iterator-loop g).can_next l.iterator' × (goal.iterator-loop g).is_finite l.iterator' × SameBody l.fn.body l.body × (0 < l.body.name) × (l.body.image.frames ≡ [])
    × IfNone l.last (l.body ≡ l.fn.body) × IfSome l.last (λ turn. HasStopped (Some l.fn.body) (first_of turn.first turn.last))
    × IfSome l.last (λ turn. IsLastTurn l.fn.body.seat.place l.fn.body.name turn.last turn.finish l.body)
