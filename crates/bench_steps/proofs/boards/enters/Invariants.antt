use Rattle.std.proofs.Common.{◌≡◌, ◌≢◌}
use Rattle.frames.specs.BoardViews.{how_often}
use Rattle.bench_steps.proofs.boards.enters.Given as goal

abbrev pub invariant-loop-turn : goal.invariant-loop-turn
invariant-loop-turn l = record {
  board : l.seat.board ≡ l.fn.board;
  published : l.seat.seen.stored ≢ 0;
  uncounted : how_often l.seat.seen.counted l.fn.code ≡ 0;
}
