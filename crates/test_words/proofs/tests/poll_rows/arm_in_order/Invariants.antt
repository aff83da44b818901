use Rattle.std.proofs.Common.{◌≡◌, ◌∷◌, []}
use Rattle.test_words.proofs.tests.poll_rows.arm_in_order.Given as goal

abbrev pub invariant-loop-n : goal.invariant-loop-n
invariant-loop-n l = record {
  table : l.armer.table ≡ l.initial.armer.table;
  armed : l.armer.seen.armed ≡ l.n ∷ [];
}
