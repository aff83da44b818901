use Rattle.std.proofs.Common.{◌≡◌}
use Rattle.test_words.proofs.tests.poll_rows.clear_many.Given as goal

abbrev pub invariant-loop : goal.invariant-loop
invariant-loop l = record {
  table : l.poller.table ≡ l.initial.poller.table;
  place : l.poller.seen.place ≡ l.initial.poller.seen.place;
}
