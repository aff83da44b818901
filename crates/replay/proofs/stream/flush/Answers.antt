use Rattle.std.proofs.Common.{refl, arith}
use Rattle.replay.proofs.Streams.{appends_rest}
use Rattle.replay.proofs.stream.flush.Goals as goal

pub loop-at-preserved : goal.loop-at-preserved
loop-at-preserved g c = record {
  le = grind (arith, c.in_ok-at.ensures.bound);
  fresh = c.in_ok-at.ensures.failures;
  waits = refl;
  kept = c.loop-at.invariant.kept;
  got = appends_rest (g.W.Sink.got c.args.sink.now) (g.W.Sink.got c.loop-at.sink) (g.W.Sink.got c.write.new.self) c.args.waits.now.items c.loop-at.at c.in_ok-at.field-0 c.loop-at.invariant.got (rw c.deref.ensures.value at c.in_ok-at.ensures.bytes);
}
