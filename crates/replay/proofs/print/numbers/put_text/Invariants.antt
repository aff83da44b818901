use Rattle.std.proofs.Common.{◌≡◌, ◌+◌, ◌≤◌, ◌++◌, drop, length, vec_len, vec_capacity}
use Rattle.replay.proofs.print.numbers.put_text.Given as goal

abbrev pub invariant-loop-b : goal.invariant-loop-b
invariant-loop-b l = record {
  text : l.text.items ++ drop l.b-index l.word ≡ l.fn.text.items ++ l.word;
  grown : vec_len l.text ≡ vec_len l.fn.text + l.b-index;
  room : vec_len l.fn.text + length l.word ≤ vec_capacity l.text;
  kept : vec_capacity l.fn.text ≤ vec_capacity l.text;
}
