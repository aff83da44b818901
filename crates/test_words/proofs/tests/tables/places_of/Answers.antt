use Rattle.std.proofs.Common.{◌≡◌, ap, subst, ◌<◌, length, rules}
use Rattle.board.specs.Boards.{SeatSeen, first_seat}
use Rattle.poll.specs.Rows.{PollerSeen, first_poller}
use Rattle.test_words.proofs.Popped.{last_is, rest_is}
use Rattle.test_words.proofs.tests.tables.places_of.Goals as goal

pub new-requires-clause-tables : goal.new-requires-clause-tables
new-requires-clause-tables g c =
    let i = c.loop-seat.invariant in (
      ap (λ (s : SeatSeen). s.board) (last_is (first_seat g.N.Name.board) c.loop-seat.seats.items c.pop.new.self.items c.in-Some.seat c.in-Some.ensures.items i.seats),
      ap (λ (p : PollerSeen). p.table) (last_is (first_poller g.N.Name.poll_row) c.loop-seat.pollers.items c.pop-in-Some.new.self.items c.in-Some-pop.poller c.in-Some-pop.ensures.items i.pollers),
    )

pub new-requires-clause-uncounted : goal.new-requires-clause-uncounted
new-requires-clause-uncounted g c =
    ap (λ (s : SeatSeen). s.seen.counted) (last_is (first_seat g.N.Name.board) c.loop-seat.seats.items c.pop.new.self.items c.in-Some.seat c.in-Some.ensures.items c.loop-seat.invariant.seats)

pub loop-seat-preserved : goal.loop-seat-preserved
loop-seat-preserved g c =
    let i = c.loop-seat.invariant in record {
      seats = rest_is (first_seat g.N.Name.board) c.loop-seat.seats.items c.pop.new.self.items c.in-Some.seat c.in-Some.ensures.items i.seats;
      pollers = rest_is (first_poller g.N.Name.poll_row) c.loop-seat.pollers.items c.pop-in-Some.new.self.items c.in-Some-pop.poller c.in-Some-pop.ensures.items i.pollers;
    }

pub loop-seat-init : goal.loop-seat-init
loop-seat-init g c = record {
  seats = λ k low. c.requires.each_seat k (subst (λ n. k < n) c.requires.seats low);
  pollers = λ k low. c.requires.each_poller k (let is : length c.args.pollers.items ≡ c.args.places = search rules in subst (λ n. k < n) is low);
}
