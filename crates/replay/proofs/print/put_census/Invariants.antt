use Rattle.std.proofs.Common.{◌≡◌, ◌≤◌, ◌++◌, drop, vec_capacity}
use Rattle.std.specs.Prelude.{codes}
use Rattle.std.specs.List.{flat_map}
use Rattle.replay.specs.Printed.{counted_text}
use Rattle.replay.proofs.print.put_census.Given as goal

abbrev pub invariant-loop-counted : goal.invariant-loop-counted
invariant-loop-counted l = record {
  text : l.text.items ++ flat_map counted_text (drop l.counted-index l.counts) ≡ l.fn.text.items ++ (codes "census" ++ flat_map counted_text l.counts);
  kept : vec_capacity l.fn.text ≤ vec_capacity l.text;
}
