use Rattle.std.proofs.Common.{◌≡◌, ◌≤◌, ◌-◌, take, vec_len, vec_capacity}
use Rattle.std.specs.Io.KnownBytes.{Appends}
use Rattle.replay.proofs.stream.flush.Given as goal

abbrev pub decreases-loop-at : goal.decreases-loop-at
decreases-loop-at g l = vec_len l.waits - l.at

abbrev pub invariant-loop-at : goal.invariant-loop-at
invariant-loop-at g l = record {
  le : l.at ≤ vec_len l.waits;
  fresh : g.W.Sink.failures l.sink ≡ 0;
  waits : l.waits.items ≡ l.fn.waits.items;
  kept : vec_capacity l.fn.waits ≤ vec_capacity l.waits;
  got : Appends (g.W.Sink.got l.fn.sink) (g.W.Sink.got l.sink) (take l.at l.waits.items);
}
