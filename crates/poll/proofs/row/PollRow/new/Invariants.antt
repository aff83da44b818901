use Rattle.std.proofs.Common.{◌≡◌, ◌<◌, ℕ, length, Some, slice_get, []}
use Rattle.poll.specs.declared.views.Watch.TheVariants.{Armer}
use Rattle.poll.specs.Rows.{armer_at, first_poller}
use Rattle.poll.proofs.row.PollRow.new.Given as goal

abbrev pub invariant-loop-place : goal.invariant-loop-place
invariant-loop-place l = record {
  table : l.seat.table_id ≡ l.table.shared.table_id;
  armer : l.seat.me.0 ≡ Armer (armer_at l.fn.places l.place) [] 0;
  count : length l.pollers.items ≡ l.place;
  each : (k : ℕ) → k < l.place → slice_get l.pollers.items k ≡ Some (first_poller l.table.shared.table_id k);
}
