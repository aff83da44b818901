use Rattle.std.proofs.Common.{◌<◌, ◌≤◌, ◌+◌, List, ℕ, length, take, length-take, subst, ap, arith}
use Rattle.replay.proofs.Whole.{more_read, read_end, block_is}
use Rattle.run_picture.specs.Runs.{seen, shown_by}
use Rattle.run_picture.specs.Reading.{Read}
use Rattle.run_picture.proofs.BytesTold.{so_far_new, so_far_more, marked_all}
use Rattle.run_picture.proofs.reading.read_run.Goals as goal

pub loop-turn-init : goal.loop-turn-init
loop-turn-init g c = record {
  reads = c.requires.unread;
  source = c.requires.source;
  room = c.in-Ok.ensures;
  few = omega (arith, c.new-reading.ensures.lines);
  so_far = so_far_new (g.R.Source.left c.args.source.now) c.args.part c.new-reading.result.system c.new-reading.result.held (seen c.new-reading.result.run) c.new-reading.ensures.system c.new-reading.ensures.held c.new-reading.ensures.part c.new-reading.ensures.lines (ap shown_by c.new-reading.ensures.marks);
}

pub returns-then-n-eq0-clause-marked : goal.returns-then-n-eq0-clause-marked
returns-then-n-eq0-clause-marked g c =
    let consumed = read_end (g.R.Source.left c.loop-turn.source) (g.R.Source.left c.read.new.self) c.in-Ok-read.n c.read.new.buf c.if-n-eq0.true c.in-Ok-read.ensures.bytes.0 in
    let room : 0 < length c.read.new.buf = omega (arith, c.read.auto.buf, c.deref_mut.ensures.len, c.loop-turn.invariant.room) in
    let end = c.in-Ok-read.ensures.bytes.1 c.if-n-eq0.true room in
    marked_all (g.R.Source.left c.args.source.now) (g.R.Source.left c.loop-turn.source) (g.R.Source.left c.read.new.self) c.args.part c.loop-turn.reading.system c.loop-turn.reading.held (seen c.loop-turn.reading.run) (seen c.in-Ok-finish.run') c.loop-turn.invariant.so_far consumed end c.in-Ok-finish.ensures

pub loop-turn-preserved : goal.loop-turn-preserved
loop-turn-preserved g c =
    let taken : Read c.loop-turn.reading.system c.loop-turn.reading.held (seen c.loop-turn.reading.run) (take c.in-Ok-read.n c.read.new.buf) c.take_all.new.self.system c.take_all.new.self.held (seen c.take_all.new.self.run)
    = subst (λ (z : List ℕ). Read c.loop-turn.reading.system c.loop-turn.reading.held (seen c.loop-turn.reading.run) (take c.in-Ok-read.n z) c.take_all.new.self.system c.take_all.new.self.held (seen c.take_all.new.self.run)) (block_is c.read.new.buf c.loop-turn.block.items c.loop-turn.block.len (omega (arith, c.read.auto.buf, c.deref_mut.ensures.len))) (rw c.deref.ensures.value at c.in-Ok-take_all.ensures.read) in
    let few : c.take_all.new.self.run.lines ≤ c.loop-turn.reading.run.lines + length (take c.in-Ok-read.n c.read.new.buf)
    = subst (λ (z : List ℕ). c.take_all.new.self.run.lines ≤ c.loop-turn.reading.run.lines + length (take c.in-Ok-read.n z)) (block_is c.read.new.buf c.loop-turn.block.items c.loop-turn.block.len (omega (arith, c.read.auto.buf, c.deref_mut.ensures.len))) (rw c.deref.ensures.value at c.in-Ok-take_all.ensures.few) in
    record {
      reads = more_read c.in-Ok-read.n (g.R.Source.reads c.loop-turn.source) (g.R.Source.reads c.read.new.self) c.loop-turn.turn c.if-n-eq0.false c.in-Ok-read.ensures.reads c.loop-turn.invariant.reads;
      source = c.in-Ok-read.ensures.failures;
      room = c.loop-turn.invariant.room;
      few = omega (arith, few, length-take c.in-Ok-read.n c.read.new.buf, c.in-Ok-read.ensures.bound, c.read.auto.buf, c.deref_mut.ensures.len, c.loop-turn.invariant.room, c.loop-turn.invariant.few);
      so_far = so_far_more (g.R.Source.left c.args.source.now) (g.R.Source.left c.loop-turn.source) (g.R.Source.left c.read.new.self) c.args.part c.loop-turn.reading.system c.take_all.new.self.system c.loop-turn.reading.held c.take_all.new.self.held (seen c.loop-turn.reading.run) (seen c.take_all.new.self.run) (take c.in-Ok-read.n c.read.new.buf) c.loop-turn.invariant.so_far c.in-Ok-read.ensures.bytes.0 taken;
    }
