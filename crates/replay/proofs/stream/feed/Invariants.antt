use Rattle.std.proofs.Common.{◌≡◌, ◌≤◌, ◌<◌, ◌-◌, ◌^◌, length, take, vec_len, vec_capacity}
use Rattle.replay.specs.Streams.{Fed}
use Rattle.replay.proofs.stream.feed.Given as goal

abbrev pub decreases-loop-at : goal.decreases-loop-at
decreases-loop-at g l = length l.bytes - l.at

abbrev pub invariant-loop-at : goal.invariant-loop-at
invariant-loop-at g l = record {
  le : l.at ≤ length l.bytes;
  fresh : g.W.Sink.failures l.sink ≡ 0;
  text_room : 2 ^ 16 ≤ vec_capacity l.text;
  waits_room : 2 ^ 17 ≤ vec_capacity l.waits;
  few_wait : vec_len l.waits < 2 ^ 16;
  start : l.at ≡ 0 → g.W.Sink.got l.sink ≡ g.W.Sink.got l.fn.sink;
  fed : Fed (record { system = l.fn.system; held = l.fn.held; waits = l.fn.waits.items; got = g.W.Sink.got l.fn.sink }) (take l.at l.bytes)
      (record { system = l.system; held = l.held; waits = l.waits.items; got = g.W.Sink.got l.sink });
}
