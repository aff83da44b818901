use Rattle.std.proofs.Common.{◌∙◌, sym, ap, refl, [], ◌∷◌, Err}
use Rattle.replay.specs.Streams.{Point}
use Rattle.replay.proofs.Ending.{AtEnd, fed_stopped, fed_broken, sink_kept, ended_all, ended_part, ended_broken, ended_stopped}
use Rattle.replay.proofs.stream.finish.Goals as goal

pub returns-in-Err-NoMemory-clause-finished : goal.returns-in-Err-NoMemory-clause-finished
returns-in-Err-NoMemory-clause-finished g c =
    let old : Point = record { system = c.args.system.now; held = c.args.held.now; waits = c.args.waits.now.items; got = g.W.Sink.got c.args.sink.now } in
    let new : Point = record { system = c.feed.new.system; held = c.feed.new.held; waits = c.feed.new.waits.items; got = g.W.Sink.got c.feed.new.sink } in
    let end : AtEnd old = record { some = sym c.is_empty.ensures ∙ c.if-is_empty.false; piece = c.requires.piece; fits = c.requires.fits; none = c.requires.none } in
    let is = c.in-Err-NoMemory.is ∙ ap Err c.in-Err-NoMemory.field-0-is in (
      sink_kept c.feed.result (g.W.Sink.got c.args.sink.now) (g.W.Sink.got c.feed.new.sink) is (c.feed.ensures.quiet refl),
      λ world at. ended_stopped old c.feed.new.waits.items (g.W.Sink.got c.feed.new.sink) end (fed_stopped c.feed.result old new (10 ∷ []) is c.feed.ensures.fed) world at,
    )

pub returns-in-Err-WriteFailed-clause-finished : goal.returns-in-Err-WriteFailed-clause-finished
returns-in-Err-WriteFailed-clause-finished g c = λ world at.
    let old : Point = record { system = c.args.system.now; held = c.args.held.now; waits = c.args.waits.now.items; got = g.W.Sink.got c.args.sink.now } in
    let new : Point = record { system = c.feed.new.system; held = c.feed.new.held; waits = c.feed.new.waits.items; got = g.W.Sink.got c.feed.new.sink } in
    let end : AtEnd old = record { some = sym c.is_empty.ensures ∙ c.if-is_empty.false; piece = c.requires.piece; fits = c.requires.fits; none = c.requires.none } in
    let is = c.in-Err-WriteFailed.is ∙ ap Err c.in-Err-WriteFailed.field-0-is in
    ended_broken old (g.W.Sink.got c.feed.new.sink) end (fed_broken c.feed.result old new (10 ∷ []) is c.feed.ensures.fed) world at

pub returns-in-Ok-flush-clause-finished : goal.returns-in-Ok-flush-clause-finished
returns-in-Ok-flush-clause-finished g c = λ world at.
    let old : Point = record { system = c.args.system.now; held = c.args.held.now; waits = c.args.waits.now.items; got = g.W.Sink.got c.args.sink.now } in
    let new : Point = record { system = c.feed.new.system; held = c.feed.new.held; waits = c.feed.new.waits.items; got = g.W.Sink.got c.feed.new.sink } in
    let end : AtEnd old = record { some = sym c.is_empty.ensures ∙ c.if-is_empty.false; piece = c.requires.piece; fits = c.requires.fits; none = c.requires.none } in
    ended_all old new (g.W.Sink.got c.flush.new.sink) end c.in-Ok.ensures.fed c.in-Ok-flush.ensures.done.0 world at

pub returns-in-Err-clause-finished : goal.returns-in-Err-clause-finished
returns-in-Err-clause-finished g c = λ world at.
    let old : Point = record { system = c.args.system.now; held = c.args.held.now; waits = c.args.waits.now.items; got = g.W.Sink.got c.args.sink.now } in
    let new : Point = record { system = c.feed.new.system; held = c.feed.new.held; waits = c.feed.new.waits.items; got = g.W.Sink.got c.feed.new.sink } in
    let end : AtEnd old = record { some = sym c.is_empty.ensures ∙ c.if-is_empty.false; piece = c.requires.piece; fits = c.requires.fits; none = c.requires.none } in
    ended_part old new (g.W.Sink.got c.flush.new.sink) end c.in-Ok.ensures.fed c.in-Err.ensures.part.0 world at
