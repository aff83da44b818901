use Rattle.std.proofs.Common.{◌<◌, ℕ, List, length, take, subst, arith}
use Rattle.replay.specs.Streams.{Point, FedBy}
use Rattle.replay.proofs.Whole.{so_far_more, more_read, unwritten, fed_all, finished_wrote, gave_up_wrote, unread, too_many, read_end, block_is}
use Rattle.replay.proofs.Ending.{held_piece, held_fits}
use Rattle.replay.proofs.stream.answer_all.Goals as goal

pub finish-requires-clause-piece : goal.finish-requires-clause-piece
finish-requires-clause-piece g c = held_piece (g.R.Source.left c.args.source.now) (g.R.Source.left c.loop-turn.source) (g.W.Sink.got c.args.sink.now) (g.W.Sink.got c.loop-turn.sink) c.loop-turn.system c.loop-turn.held c.loop-turn.invariant.so_far

pub finish-requires-clause-fits : goal.finish-requires-clause-fits
finish-requires-clause-fits g c = held_fits (g.R.Source.left c.args.source.now) (g.R.Source.left c.loop-turn.source) (g.W.Sink.got c.args.sink.now) (g.W.Sink.got c.loop-turn.sink) c.loop-turn.system c.loop-turn.held c.loop-turn.invariant.so_far

pub returns-then-n-eq0-clause-wrote : goal.returns-then-n-eq0-clause-wrote
returns-then-n-eq0-clause-wrote g c =
    let consumed = read_end (g.R.Source.left c.loop-turn.source) (g.R.Source.left c.read.new.self) c.in-Ok.n c.read.new.buf c.if-n-eq0.true c.in-Ok.ensures.bytes.0 in
    let room : 0 < length c.read.new.buf = omega (arith, c.read.auto.buf, c.deref_mut.ensures.len, c.loop-turn.invariant.room) in
    let end = c.in-Ok.ensures.bytes.1 c.if-n-eq0.true room in
    finished_wrote c.finish.result (g.R.Source.left c.args.source.now) (g.R.Source.left c.loop-turn.source) (g.R.Source.left c.read.new.self) (g.W.Sink.got c.args.sink.now) (g.W.Sink.got c.loop-turn.sink) (g.W.Sink.got c.finish.new.sink) c.loop-turn.system c.loop-turn.held c.loop-turn.invariant.so_far consumed end c.finish.ensures.finished

pub returns-in-Err-clause-wrote : goal.returns-in-Err-clause-wrote
returns-in-Err-clause-wrote g c =
    let old : Point = record { system = c.loop-turn.system; held = c.loop-turn.held; waits = c.loop-turn.waits.items; got = g.W.Sink.got c.loop-turn.sink } in
    let new : Point = record { system = c.feed.new.system; held = c.feed.new.held; waits = c.feed.new.waits.items; got = g.W.Sink.got c.feed.new.sink } in
    let fed : FedBy c.feed.result old (take c.in-Ok.n c.read.new.buf) new
    = subst (λ (z : List ℕ). FedBy c.feed.result old (take c.in-Ok.n z) new) (block_is c.read.new.buf c.loop-turn.block.items c.loop-turn.block.len (omega (arith, c.read.auto.buf, c.deref_mut.ensures.len))) (rw c.deref.ensures.value at c.feed.ensures.fed) in
    gave_up_wrote (Unit {0}) c.feed.result c.in-Err.halt c.give_up.result (g.W.Sink.failures c.give_up.new.sink)
    (g.R.Source.left c.args.source.now) (g.R.Source.left c.loop-turn.source) (g.R.Source.left c.read.new.self) (g.W.Sink.got c.args.sink.now) (g.W.Sink.got c.give_up.new.sink)
    old new (take c.in-Ok.n c.read.new.buf) c.in-Err.is (record { so = c.loop-turn.invariant.so_far; consumed = c.in-Ok.ensures.bytes.0; none = c.loop-turn.invariant.none }) fed c.give_up.ensures

pub returns-in-Err-flush-clause-wrote : goal.returns-in-Err-flush-clause-wrote
returns-in-Err-flush-clause-wrote g c =
    let old : Point = record { system = c.loop-turn.system; held = c.loop-turn.held; waits = c.loop-turn.waits.items; got = g.W.Sink.got c.loop-turn.sink } in
    let new : Point = record { system = c.feed.new.system; held = c.feed.new.held; waits = c.feed.new.waits.items; got = g.W.Sink.got c.feed.new.sink } in
    let fed : FedBy c.feed.result old (take c.in-Ok.n c.read.new.buf) new
    = subst (λ (z : List ℕ). FedBy c.feed.result old (take c.in-Ok.n z) new) (block_is c.read.new.buf c.loop-turn.block.items c.loop-turn.block.len (omega (arith, c.read.auto.buf, c.deref_mut.ensures.len))) (rw c.deref.ensures.value at c.feed.ensures.fed) in
    let all = fed_all c.feed.result c.in-Ok-feed.field-0 old new (take c.in-Ok.n c.read.new.buf) c.in-Ok-feed.is fed in
    unwritten (g.R.Source.left c.args.source.now) (g.R.Source.left c.loop-turn.source) (g.R.Source.left c.read.new.self) (g.W.Sink.got c.args.sink.now) (g.W.Sink.got c.flush.new.sink)
    old new (take c.in-Ok.n c.read.new.buf) (record { so = c.loop-turn.invariant.so_far; consumed = c.in-Ok.ensures.bytes.0; none = c.loop-turn.invariant.none }) all c.in-Err-flush.ensures.part.0

pub loop-turn-preserved : goal.loop-turn-preserved
loop-turn-preserved g c =
    let old : Point = record { system = c.loop-turn.system; held = c.loop-turn.held; waits = c.loop-turn.waits.items; got = g.W.Sink.got c.loop-turn.sink } in
    let new : Point = record { system = c.feed.new.system; held = c.feed.new.held; waits = c.feed.new.waits.items; got = g.W.Sink.got c.feed.new.sink } in
    let fed : FedBy c.feed.result old (take c.in-Ok.n c.read.new.buf) new
    = subst (λ (z : List ℕ). FedBy c.feed.result old (take c.in-Ok.n z) new) (block_is c.read.new.buf c.loop-turn.block.items c.loop-turn.block.len (omega (arith, c.read.auto.buf, c.deref_mut.ensures.len))) (rw c.deref.ensures.value at c.feed.ensures.fed) in
    let all = fed_all c.feed.result c.in-Ok-feed.field-0 old new (take c.in-Ok.n c.read.new.buf) c.in-Ok-feed.is fed in
    record {
      reads = more_read c.in-Ok.n (g.R.Source.reads c.loop-turn.source) (g.R.Source.reads c.read.new.self) c.loop-turn.turn c.if-n-eq0.false c.in-Ok.ensures.reads c.loop-turn.invariant.reads;
      source = c.in-Ok.ensures.failures;
      sink = c.in-Ok-flush.ensures.done.2;
      room = c.loop-turn.invariant.room;
      text_room = c.feed.ensures.text_room;
      waits_room = omega (arith, c.feed.ensures.waits_room, c.flush.ensures.kept);
      none_wait = c.in-Ok-flush.ensures.none_wait;
      none = c.in-Ok-flush.ensures.done.1;
      so_far = so_far_more (g.R.Source.left c.args.source.now) (g.R.Source.left c.loop-turn.source) (g.R.Source.left c.read.new.self) (g.W.Sink.got c.args.sink.now) (g.W.Sink.got c.flush.new.sink)
          old new (take c.in-Ok.n c.read.new.buf) (record { so = c.loop-turn.invariant.so_far; consumed = c.in-Ok.ensures.bytes.0; none = c.loop-turn.invariant.none }) all c.in-Ok-flush.ensures.done.0;
    }

pub returns-in_default-clause-wrote : goal.returns-in_default-clause-wrote
returns-in_default-clause-wrote g c = unread (g.R.Source.left c.args.source.now) (g.R.Source.left c.loop-turn.source) (g.R.Source.left c.read.new.self) (g.W.Sink.got c.args.sink.now) (g.W.Sink.got c.loop-turn.sink) c.loop-turn.system c.loop-turn.held c.loop-turn.invariant.so_far c.in_default.ensures.bytes

pub returns-clause-wrote : goal.returns-clause-wrote
returns-clause-wrote g c = too_many (g.R.Source.left c.args.source.now) (g.R.Source.left c.loop-turn.source) (g.W.Sink.got c.args.sink.now) (g.W.Sink.got c.loop-turn.sink) c.loop-turn.system c.loop-turn.held c.loop-turn.invariant.so_far
