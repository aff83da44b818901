use Rattle.std.proofs.Common.{◌≡◌, ◌+◌, ◌*◌, ◌≤◌, ℕ, length}
use Rattle.activation_index.specs.Counts.{count_in, IsRisingFrom}
use Rattle.bodies.specs.Census.{total_count}
use Rattle.bodies.proofs.census.count_bodies.Given as goal

abbrev pub invariant-loop-body : goal.invariant-loop-body
invariant-loop-body g l = record {
  slots : l.index.slots ≡ l.fn.index.slots;
  rising : IsRisingFrom 0 l.index.entries;
  room : length l.index.entries + 256 * length l.rest ≤ length l.fn.index.entries + 256 * length l.fn.bodies;
  high : (serial : ℕ) → count_in l.index.entries serial + 256 * length l.rest ≤ count_in l.fn.index.entries serial + 256 * length l.fn.bodies;
  counts : (serial : ℕ) → count_in l.index.entries serial + total_count serial l.rest ≡ count_in l.fn.index.entries serial + total_count serial l.fn.bodies;
}

abbrev pub decreases-loop-body : goal.decreases-loop-body
decreases-loop-body g l = length l.rest
