use Rattle.std.proofs.Common.{◌≡◌, ◌-◌, ◌<◌, ◌≤◌, vec_len}
use Rattle.std.specs.Io.KnownBytes.{Consumes}
use Rattle.cli.proofs.check.read_text.Given as goal

abbrev pub invariant-loop-source : goal.invariant-loop-source
invariant-loop-source g l = record {
  fresh : g.R.Source.failures l.source ≡ 0;
  few : g.R.Source.reads l.source ≤ vec_len l.text;
  room : 0 < vec_len l.block;
  taken : Consumes (g.R.Source.left l.fn.source) (g.R.Source.left l.source) l.text.items;
}

abbrev pub decreases-loop-source : goal.decreases-loop-source
decreases-loop-source g l = 1048577 - vec_len l.text
