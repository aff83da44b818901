use Rattle.std.proofs.Common.{◌≡◌, ℕ, ◌<◌, length, slice_index, slice_get, Some}
use Rattle.std.specs.Slots.{slots_items}
use Rattle.poll.specs.Rows.{word_at, arming_of, ended_of, IsClosing, PollerSeen}
use Rattle.poll.proofs.Seats.{AreEnded}
use Rattle.poll.proofs.row.PollRow.close.Given as goal

abbrev pub invariant-loop-poller : goal.invariant-loop-poller
invariant-loop-poller l = record {
  table : l.seat.table_id ≡ l.initial.seat.table_id;
  closing : IsClosing l.seat.me.0;
  armed : arming_of l.seat.me.0 ≡ arming_of l.initial.seat.me.0;
  rest : (k : ℕ) (p : PollerSeen) → slice_get l.pollers.items k ≡ Some p → slice_get l.initial.pollers.items k ≡ Some p;
  ended : AreEnded (ended_of l.seat.me.0) (length l.pollers.items) l.initial.pollers.items;
}

abbrev pub decreases-loop-poller : goal.decreases-loop-poller
decreases-loop-poller l = goal.left-loop-poller l

abbrev pub invariant-loop-place : goal.invariant-loop-place
invariant-loop-place l = record {
  count : length l.last.items ≡ length l.initial.last.items;
  taken : (k : ℕ) → k < l.place → slice_index l.last.items k ≡ slice_index (slots_items l.closed.words) (word_at k);
}
