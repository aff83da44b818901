use Rattle.std.proofs.Common.{refl}
use Rattle.system.proofs.keeping.Core.census.Goals as goal

pub returns : goal.returns
returns c = record {
  pairs = c.in_ok-counts.counts.items;
  counts_are = rw (c.in_ok-list.ensures, c.in_ok-code_counts.ensures, c.deref.ensures.value) refl;
  same = c.in_ok-counts.ensures.census;
  rising = c.in_ok-counts.ensures.rising;
}
