use Rattle.std.proofs.Common.{◌≡◌}
use Rattle.bench_steps.proofs.polls.misses.Given as goal

abbrev pub invariant-loop-turn : goal.invariant-loop-turn
invariant-loop-turn l = record {
  row : l.poller.table ≡ l.fn.row;
}
