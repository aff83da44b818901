use Rattle.std.proofs.Common.{arith, ◌≡◌, ℕ, ◌<◌, List, [], ◌∷◌, ◌++◌, length, sym, refl, ap, ◌∙◌, subst, Some, slice_get}
use Rattle.std.specs.Mem.Slots.{slots_items}
use Rattle.atomic_table.specs.Table.{Final, Seen}
use Rattle.frames.specs.declared.board_rule.BoardView.TheVariants.{Keeper, Thread}
use Rattle.frames.specs.declared.board_rule.SeatView.{SeatView}
use Rattle.board.specs.Boards.{BoardId, SeatSeen, IsBoard, keeper_of, thread_of, ended_of, stamp_of, both_of}
use Rattle.board.specs.Closing.{IsLeftBy, AreVacant}
use Rattle.board.proofs.Closings.{joins, left_by, left_vacant, none_left, all_seen, seen_with, last_there, still_there}
use Rattle.board.proofs.board.Board.close.Goals as goal

-- the seat that is taken out is the last one of those that are left
pub join_seat-requires : goal.join_seat-requires
join_seat-requires c =
    let i = c.loop-seat.invariant in let mine = c.self.invariant in
    let same : c.into_seat-keeper.result.table_id ≡ c.self.inside.table.shared.table_id
    = c.into_seat-keeper.ensures.table ∙ (ap (λ (b : BoardId). b.table) c.requires.keeper ∙ sym (ap (λ (b : BoardId). b.table) c.self.view_is)) in
    let n : ℕ = length c.pop.new.self.items in
    let items : c.loop-seat.seats.items ≡ c.pop.new.self.items ++ c.in-Some.seat ∷ [] = c.in-Some.ensures.items in
    let there = i.rest n c.in-Some.seat (subst (λ xs. slice_get xs n ≡ Some c.in-Some.seat) (sym items) (last_there c.pop.new.self.items c.in-Some.seat n refl)) in
    let view = ap (λ m. m.0) c.into_seat-seat.ensures.view in let words = mine.1 in let some_place = mine.3 in (
      i.table ∙ same,
      c.into_seat-seat.ensures.table ∙ (ap (λ (b : BoardId). b.table) (c.requires.seats n c.in-Some.seat there) ∙ sym (ap (λ (b : BoardId). b.table) c.self.view_is)),
      ap (λ m. m.1) c.into_seat-seat.ensures.view,
      omega arith,
      joins _ _ _ _ _ i.closing (view ∙ ap (λ v. Thread (thread_of v) (stamp_of v)) (sym view)),
    )

pub loop-seat-preserved : goal.loop-seat-preserved
loop-seat-preserved c =
    let i = c.loop-seat.invariant in let j = c.join_seat.ensures in
    let left : List SeatSeen = c.pop.new.self.items in let us : List SeatView = ended_of c.loop-seat.keeper.me.0 in
    let items : c.loop-seat.seats.items ≡ left ++ c.in-Some.seat ∷ [] = c.in-Some.ensures.items in
    let after : c.join_seat.new.seat.me.0 ≡ both_of c.loop-seat.keeper.me.0 c.into_seat-seat.result.me.0 = ap (λ m. m.0) j.2 in
    let knew : ended_of c.join_seat.new.seat.me.0 ≡ c.in-Some.seat.seen ∷ us = ap ended_of after ∙ ap (λ m. thread_of m.0 ∷ us) c.into_seat-seat.ensures.view in record {
      table = j.0 ∙ i.table;
      closing = after ∙ sym (ap (λ v. Keeper (keeper_of v) (ended_of v) (stamp_of v)) after);
      keeper = ap keeper_of after ∙ i.keeper;
      rest = λ k s e. i.rest k s (subst (λ xs. slice_get xs k ≡ Some s) (sym items) (still_there left c.in-Some.seat s k e));
      ended = ap (λ l. all_seen left ++ l) knew ∙ (sym (seen_with left c.in-Some.seat us) ∙ (ap (λ l. all_seen l ++ us) (sym items) ∙ i.ended));
    }

pub returns-clause-rule : goal.returns-clause-rule
returns-clause-rule c =
    let i = c.loop-seat.invariant in let empty = c.in_default.ensures.cases in
    let k : keeper_of c.loop-seat.keeper.me.0 ≡ c.args.keeper.seen = i.keeper ∙ ap keeper_of c.into_seat-keeper.ensures.view in
    let us : ended_of c.loop-seat.keeper.me.0 ≡ all_seen c.args.seats.items = none_left c.loop-seat.seats.items _ _ (omega arith) i.ended in
    let words = slots_items c.close_with.result.words in let homes = slots_items c.close_with.result.slots in
    subst (IsLeftBy c.args.keeper c.args.seats.items) (sym c.of.ensures)
    (left_by (c.self.inside.slots, c.self.inside.places) c.args.keeper c.args.seats.items (stamp_of c.loop-seat.keeper.me.0) c.loop-seat.keeper.id c.loop-seat.keeper.me.0 words homes
    (i.closing ∙ (λ j. Keeper (k j) (us j) (stamp_of c.loop-seat.keeper.me.0)))
    (subst (λ (n : ℕ × ℕ). Final (Seen (IsBoard n) c.loop-seat.keeper.id c.loop-seat.keeper.me.0) words homes) c.self.invariant.0 c.close_with.ensures.values.2))

pub returns-clause-vacant : goal.returns-clause-vacant
returns-clause-vacant c vacant slot low =
    let places : c.args.self.places ≡ c.of.result.places = sym (ap (λ b. b.places) c.self.view_is) ∙ sym (ap (λ b. b.places) c.of.ensures) in
    let slots : c.args.self.slots ≡ c.of.result.slots = sym (ap (λ b. b.slots) c.self.view_is) ∙ sym (ap (λ b. b.slots) c.of.ensures) in
    left_vacant c.args.keeper c.args.seats.items c.of.result (returns-clause-rule c) (subst (λ n. AreVacant n c.args.seats.items) places vacant) slot (subst (λ n. slot < n) slots low)
