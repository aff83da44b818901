use Rattle.std.proofs.Common.{◌≡◌, ◌<◌, ◌≤◌, ◌^◌, [], vec_len, vec_capacity}
use Rattle.replay.specs.Outcome.{SoFar}
use Rattle.replay.proofs.stream.answer_all.Given as goal

abbrev pub invariant-loop-turn : goal.invariant-loop-turn
invariant-loop-turn g l = record {
  reads : g.R.Source.reads l.source ≡ l.turn;
  source : g.R.Source.failures l.source ≡ 0;
  sink : g.W.Sink.failures l.sink ≡ 0;
  room : 0 < vec_len l.block;
  text_room : 2 ^ 16 ≤ vec_capacity l.text;
  waits_room : 2 ^ 17 ≤ vec_capacity l.waits;
  none_wait : vec_len l.waits ≡ 0;
  none : l.waits.items ≡ [];
  so_far : SoFar (g.R.Source.left l.fn.source) (g.R.Source.left l.source) (g.W.Sink.got l.fn.sink) (g.W.Sink.got l.sink) l.system l.held;
}
