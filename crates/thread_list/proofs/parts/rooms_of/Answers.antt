use Rattle.std.proofs.Common.{◌≡◌, ◌∙◌, sym, ap, arith, rules, length, length-append, ◌+◌, ◌++◌, ◌∷◌, subst, [], ℕ}
use Rattle.frames.specs.declared.board_rule.SeatView.{SeatView}
use Rattle.bodies.specs.Bodies.{SeatsView}
use Rattle.berths.specs.Berths.{IsRoom, Berthing}
use Rattle.thread_list.specs.Sharing.{AreInOrder, places_in}
use Rattle.thread_list.proofs.InOrder.{AreDownFrom, down_push, turned}
use Rattle.thread_list.proofs.Paired.{front, last_of, long, map_reverse, rest_of}
use Rattle.thread_list.proofs.Popped.{all_last}
use Rattle.thread_list.proofs.parts.rooms_of.Goals as goal

pub new-pair-requires-clause-tables : goal.new-pair-requires-clause-tables
new-pair-requires-clause-tables g c =
    let i = c.loop-both.invariant in (
      (i.seats (length c.pop.new.self.items) c.in-Some.both.seat (last_of (λ (b : SeatsView). b.seat) c.loop-both.seats.items c.pop.new.self.items c.in-Some.both c.in-Some.ensures.items)).0,
      (i.pollers (length c.pop.new.self.items) c.in-Some.both.poller (last_of (λ (b : SeatsView). b.poller) c.loop-both.seats.items c.pop.new.self.items c.in-Some.both c.in-Some.ensures.items)).0,
    )

pub new-pair-requires-clause-place : goal.new-pair-requires-clause-place
new-pair-requires-clause-place g c =
    let i = c.loop-both.invariant in
    (i.pollers (length c.pop.new.self.items) c.in-Some.both.poller (last_of (λ (b : SeatsView). b.poller) c.loop-both.seats.items c.pop.new.self.items c.in-Some.both c.in-Some.ensures.items)).1
    ∙ sym (ap (λ (s : SeatView). s.place) (i.seats (length c.pop.new.self.items) c.in-Some.both.seat (last_of (λ (b : SeatsView). b.seat) c.loop-both.seats.items c.pop.new.self.items c.in-Some.both c.in-Some.ensures.items)).1)

pub new-pair-requires-clause-unused : goal.new-pair-requires-clause-unused
new-pair-requires-clause-unused g c =
    let i = c.loop-both.invariant in
    let is = (i.seats (length c.pop.new.self.items) c.in-Some.both.seat (last_of (λ (b : SeatsView). b.seat) c.loop-both.seats.items c.pop.new.self.items c.in-Some.both c.in-Some.ensures.items)).1 in
    (ap (λ (s : SeatView). s.stored) is, ap (λ (s : SeatView). s.counted) is)

pub loop-both-preserved : goal.loop-both-preserved
loop-both-preserved g c =
    let i = c.loop-both.invariant in
    let placed : Berthing g.row.N.Denot → ℕ = λ r. r.place in
    let rooms = c.loop-both.rooms.items in
    let place : c.new.result.place ≡ length c.pop.new.self.items =
    ap placed c.new.ensures ∙ c.place.ensures.value ∙ ap (λ (s : SeatView). s.place) c.new-pair.ensures.0
    ∙ ap (λ (s : SeatView). s.place) (i.seats (length c.pop.new.self.items) c.in-Some.both.seat (last_of (λ (b : SeatsView). b.seat) c.loop-both.seats.items c.pop.new.self.items c.in-Some.both c.in-Some.ensures.items)).1 in
    let less = ap length c.in-Some.ensures.items ∙ length-append c.pop.new.self.items (c.in-Some.both ∷ []) in
    let many : length rooms + length c.loop-both.seats.items ≡ length c.args.seats.items = search rules in
    let last : c.new.result.place + length (places_in rooms) + 1 ≡ length c.args.seats.items = omega (arith, place, less, many, long placed rooms) in
    let front_is : places_in c.push_reserved.new.self.items ≡ places_in rooms ++ c.new.result.place ∷ [] =
    ap places_in c.push_reserved.ensures.items ∙ front placed rooms c.new.result in record {
      lists = search rules;
      rooms = (all_last IsRoom c.loop-both.lists.items c.pop-in-Some.new.self.items c.in-Some-pop.jobs (search rules) i.rooms).0;
      down = subst (AreDownFrom (length c.args.seats.items)) (sym front_is) (down_push (length c.args.seats.items) c.new.result.place (places_in rooms) i.down last);
      many = search rules;
      room = search rules;
      seats = λ k s h. i.seats k s (rest_of (λ (b : SeatsView). b.seat) c.loop-both.seats.items c.pop.new.self.items c.in-Some.both k s c.in-Some.ensures.items h);
      pollers = λ k p h. i.pollers k p (rest_of (λ (b : SeatsView). b.poller) c.loop-both.seats.items c.pop.new.self.items c.in-Some.both k p c.in-Some.ensures.items h);
    }

pub returns-clause-order : goal.returns-clause-order
returns-clause-order g c =
    let rooms = c.loop-both.rooms.items in
    let placed : Berthing g.row.N.Denot → ℕ = λ r. r.place in
    let many : length rooms ≡ length c.args.seats.items = search rules in
    subst AreInOrder (sym (ap places_in c.reverse.ensures.items ∙ map_reverse placed rooms))
    (turned (length c.args.seats.items) (places_in rooms) c.loop-both.invariant.down (long placed rooms ∙ many))
