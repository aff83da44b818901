use Rattle.std.proofs.Common.{[], ◌≡◌, ◌<◌, ℕ, length, Some, slice_get}
use Rattle.frames.specs.declared.board_rule.BoardView.TheVariants.{Keeper}
use Rattle.board.specs.Boards.{first_seat, board_id}
use Rattle.frames.specs.BoardViews.{keeper_view}
use Rattle.board.proofs.board.Board.new.Given as goal

abbrev pub invariant-loop-place : goal.invariant-loop-place
invariant-loop-place l = record {
  table : l.seat.table_id ≡ l.table.shared.table_id;
  keeper : l.seat.me.0 ≡ Keeper (keeper_view l.fn.slots l.place) [] 0;
  count : length l.seats.items ≡ l.place;
  each : (k : ℕ) → k < l.place → slice_get l.seats.items k ≡ Some (first_seat (board_id l.table.shared.table_id l.fn.slots l.fn.places) k);
}
