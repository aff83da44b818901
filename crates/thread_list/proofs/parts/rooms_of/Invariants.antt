use Rattle.std.proofs.Common.{◌≡◌, ◌≤◌, ◌+◌, length}
use Rattle.std.specs.Prelude.{vec_len, vec_capacity, All}
use Rattle.berths.specs.Berths.{IsRoom}
use Rattle.thread_list.proofs.InOrder.{AreDownFrom}
use Rattle.thread_list.specs.Sharing.{places_in}
use Rattle.thread_list.specs.Sized.{AreSeatsOf, ArePollersOf, seats_in, pollers_in}
use Rattle.thread_list.proofs.parts.rooms_of.Given as goal

abbrev pub invariant-loop-both : goal.invariant-loop-both
invariant-loop-both g l = record {
  lists : length l.seats.items ≡ vec_len l.lists;
  seats : AreSeatsOf g.N.Name.board (seats_in l.seats.items);
  rooms : All IsRoom l.lists.items;
  down : AreDownFrom (length l.fn.seats.items) (places_in l.rooms.items);
  pollers : ArePollersOf g.N.Name.poll_row (pollers_in l.seats.items);
  many : vec_len l.rooms + length l.seats.items ≡ length l.fn.seats.items;
  room : length l.fn.seats.items ≤ vec_capacity l.rooms;
}

abbrev pub decreases-loop-both : goal.decreases-loop-both
decreases-loop-both g l = length l.seats.items
