use Rattle.std.proofs.Common.{◌≡◌, ◌≤◌, length, slice_index}
use Rattle.bench_steps.proofs.polls.arms.Given as goal

abbrev pub invariant-loop-turn : goal.invariant-loop-turn
invariant-loop-turn l = record {
  row : l.armer.table ≡ l.fn.row;
  its_row : l.poller.table ≡ l.fn.row;
  place : 1 ≤ length l.armer.seen.armed;
  number : slice_index l.armer.seen.armed 0 ≤ l.turn;
}
