use Rattle.std.proofs.Common.{◌≡◌, ℕ, ◌++◌, slice_get, Some}
use Rattle.board.specs.Boards.{SeatSeen, keeper_of, ended_of, IsClosing}
use Rattle.board.proofs.Closings.{all_seen}
use Rattle.board.proofs.board.Board.close.Given as goal

abbrev pub invariant-loop-seat : goal.invariant-loop-seat
invariant-loop-seat l = record {
  table : l.keeper.table_id ≡ l.initial.keeper.table_id;
  closing : IsClosing l.keeper.me.0;
  keeper : keeper_of l.keeper.me.0 ≡ keeper_of l.initial.keeper.me.0;
  rest : (i : ℕ) (s : SeatSeen) → slice_get l.seats.items i ≡ Some s → slice_get l.initial.seats.items i ≡ Some s;
  ended : all_seen l.seats.items ++ ended_of l.keeper.me.0 ≡ all_seen l.initial.seats.items;
}

abbrev pub decreases-loop-seat : goal.decreases-loop-seat
decreases-loop-seat l = goal.left-loop-seat l
