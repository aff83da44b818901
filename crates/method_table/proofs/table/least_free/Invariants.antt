-- All slots before the search's position are taken.
use Rattle.std.proofs.Common.{◌≡◌, ℕ, ◌<◌, true}
use Rattle.std.specs.Prelude.{slice_get}
use Rattle.method_table.specs.Kept.{holds}
use Rattle.method_table.proofs.table.least_free.Given as goal

abbrev pub invariant-loop-slot : goal.invariant-loop-slot
invariant-loop-slot l = (k : ℕ) → k < l.slot → holds (slice_get l.records k) ≡ true
