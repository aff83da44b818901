use Rattle.std.proofs.Common.{◌≡◌, ◌++◌, length}
use Rattle.thread_list.specs.Sized.{seats_in, pollers_in}
use Rattle.thread_list.proofs.parts.seats_of.Given as goal

abbrev pub invariant-loop-seat : goal.invariant-loop-seat
invariant-loop-seat l = record {
  seats : seats_in l.all.items ++ l.seats.items ≡ l.fn.seats.items;
  pollers : pollers_in l.all.items ++ l.pollers.items ≡ l.fn.pollers.items;
  count : length l.seats.items ≡ length l.pollers.items;
}

abbrev pub decreases-loop-seat : goal.decreases-loop-seat
decreases-loop-seat l = length l.seats.items
