use Rattle.std.proofs.Common.{◌≡◌, ◌≤◌, ◌*◌, vec_len}
use Rattle.run_picture.specs.Runs.{seen}
use Rattle.run_picture.specs.Reading.{SoFar}
use Rattle.run_picture.proofs.reading.read_run.Given as goal

abbrev pub invariant-loop-turn : goal.invariant-loop-turn
invariant-loop-turn g l = record {
  reads : g.R.Source.reads l.source ≡ l.turn;
  source : g.R.Source.failures l.source ≡ 0;
  room : vec_len l.block ≡ 65536;
  few : l.reading.run.lines ≤ l.turn * 65536;
  so_far : SoFar (g.R.Source.left l.fn.source) (g.R.Source.left l.source) l.fn.part l.reading.system l.reading.held (seen l.reading.run);
}
