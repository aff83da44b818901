use Rattle.std.proofs.Common.{length}
use Rattle.board.specs.Boards.{first_seat}
use Rattle.poll.specs.Rows.{first_poller}
use Rattle.test_words.proofs.Popped.{IsEach}
use Rattle.test_words.proofs.tests.tables.places_of.Given as goal

abbrev pub invariant-loop-seat : goal.invariant-loop-seat
invariant-loop-seat g l = record {
  seats : IsEach (first_seat g.N.Name.board) l.seats.items;
  pollers : IsEach (first_poller g.N.Name.poll_row) l.pollers.items;
}

abbrev pub decreases-loop-seat : goal.decreases-loop-seat
decreases-loop-seat g l = length l.seats.items
