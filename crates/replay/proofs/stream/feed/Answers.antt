use Rattle.std.proofs.Common.{◌≡◌, refl, ◌-◌, take, drop, length, arith, ℕ, List, length-drop, length-take}
use Rattle.replay.proofs.Lists.{rest_all}
use Rattle.replay.proofs.Feeds.{fed_none, next_line, last_piece, all_fed, stopped_at, broken_at}
use Rattle.replay.proofs.stream.feed.Goals as goal

length-of : (at : ℕ) (bytes : List ℕ) → length (take (length bytes - at) (drop at bytes)) ≡ length bytes - at
length-of at bytes = omega (arith, length-take (length bytes - at) (drop at bytes), length-drop at bytes)

-- The bytes behind those that are fed.
abbrev piece_of : ℕ → List ℕ → List ℕ
piece_of at bytes = take (length bytes - at) (drop at bytes)

pub loop-at-init : goal.loop-at-init
loop-at-init g c = record {
  le = omega arith;
  fresh = c.requires.fresh;
  text_room = c.requires.text_room;
  waits_room = c.requires.waits_room;
  few_wait = c.requires.few_wait;
  start = λ first. refl;
  fed = λ world at tail piece holds. fed_none world tail c.args.bytes.now
      (record { system = c.args.system.now; held = c.args.held.now; waits = c.args.waits.now.items; got = g.W.Sink.got c.args.sink.now }) at piece holds;
}

pub returns-then-n-piece-clause-fed : goal.returns-then-n-piece-clause-fed
returns-then-n-piece-clause-fed g c = last_piece (record { system = c.args.system.now; held = c.args.held.now; waits = c.args.waits.now.items; got = g.W.Sink.got c.args.sink.now })
    (record { system = c.loop-at.system; held = c.loop-at.held; waits = c.loop-at.waits.items; got = g.W.Sink.got c.loop-at.sink })
    c.args.bytes.now (piece_of c.loop-at.at c.args.bytes.now) c.add.new.self c.loop-at.at c.find_end-n.result
    c.loop-at.invariant.fed (rest_all c.loop-at.at c.args.bytes.now) c.find_end-n.ensures.at (omega arith) c.find_end-n.ensures.bound c.add.ensures

pub returns-in-Err-clause-fed : goal.returns-in-Err-clause-fed
returns-in-Err-clause-fed g c = stopped_at (record { system = c.args.system.now; held = c.args.held.now; waits = c.args.waits.now.items; got = g.W.Sink.got c.args.sink.now })
    (record { system = c.loop-at.system; held = c.loop-at.held; waits = c.loop-at.waits.items; got = g.W.Sink.got c.loop-at.sink })
    c.args.bytes.now (piece_of c.loop-at.at c.args.bytes.now) c.end_line.new.waits.items c.loop-at.at c.find_end-n.result
    c.loop-at.invariant.fed (record { rest_is = rest_all c.loop-at.at c.args.bytes.now; first = c.find_end-n.ensures.at; below = omega arith }) c.in-Err.ensures.none c.in-Err.ensures.no_memory

pub returns-in-Err-relieve-clause-fed : goal.returns-in-Err-relieve-clause-fed
returns-in-Err-relieve-clause-fed g c = broken_at (record { system = c.args.system.now; held = c.args.held.now; waits = c.args.waits.now.items; got = g.W.Sink.got c.args.sink.now })
    (record { system = c.loop-at.system; held = c.loop-at.held; waits = c.loop-at.waits.items; got = g.W.Sink.got c.loop-at.sink })
    c.args.bytes.now (piece_of c.loop-at.at c.args.bytes.now) c.end_line.new.system c.end_line.new.held c.end_line.new.waits.items (g.W.Sink.got c.relieve.new.sink) c.loop-at.at c.find_end-n.result
    c.loop-at.invariant.fed (record { rest_is = rest_all c.loop-at.at c.args.bytes.now; first = c.find_end-n.ensures.at; below = omega arith }) c.in-Ok.ensures.done c.in-Ok.ensures.held c.in-Err-relieve.ensures.part.0

pub loop-at-preserved : goal.loop-at-preserved
loop-at-preserved g c = record {
  le = grind (arith, length-of c.loop-at.at c.args.bytes.now);
  fresh = c.in-Ok-relieve.ensures.done.1;
  text_room = c.end_line.ensures.text_room;
  waits_room = omega (arith, c.end_line.ensures.waits_room, c.relieve.ensures.kept);
  few_wait = c.in-Ok-relieve.ensures.few_wait;
  start = λ first. absurd (omega (arith, first));
  fed = next_line (record { system = c.args.system.now; held = c.args.held.now; waits = c.args.waits.now.items; got = g.W.Sink.got c.args.sink.now })
      (record { system = c.loop-at.system; held = c.loop-at.held; waits = c.loop-at.waits.items; got = g.W.Sink.got c.loop-at.sink })
      c.args.bytes.now (piece_of c.loop-at.at c.args.bytes.now)
      (record { system = c.end_line.new.system; held = c.end_line.new.held; waits = c.relieve.new.waits.items; got = g.W.Sink.got c.relieve.new.sink })
      c.end_line.new.waits.items c.loop-at.at c.find_end-n.result
      c.loop-at.invariant.fed (record { rest_is = rest_all c.loop-at.at c.args.bytes.now; first = c.find_end-n.ensures.at; below = omega arith }) c.in-Ok.ensures.done c.in-Ok.ensures.held c.in-Ok-relieve.ensures.done.0;
}

pub returns-clause-fed : goal.returns-clause-fed
returns-clause-fed g c = all_fed (record { system = c.args.system.now; held = c.args.held.now; waits = c.args.waits.now.items; got = g.W.Sink.got c.args.sink.now })
    (record { system = c.loop-at.system; held = c.loop-at.held; waits = c.loop-at.waits.items; got = g.W.Sink.got c.loop-at.sink })
    c.args.bytes.now c.loop-at.at c.loop-at.invariant.fed (omega arith)

pub returns-in-Err-clause-quiet : goal.returns-in-Err-clause-quiet
returns-in-Err-clause-quiet g c = λ one. c.loop-at.invariant.start (omega (arith, one))
