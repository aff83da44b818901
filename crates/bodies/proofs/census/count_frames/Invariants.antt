use Rattle.std.proofs.Common.{◌≡◌, ◌+◌, ◌≤◌, ℕ, length}
use Rattle.frames.specs.Stack.{serial_count}
use Rattle.activation_index.specs.Counts.{count_in, IsRisingFrom}
use Rattle.bodies.proofs.census.count_frames.Given as goal

abbrev pub invariant-loop-frame : goal.invariant-loop-frame
invariant-loop-frame l = record {
  slots : l.index.slots ≡ l.fn.index.slots;
  rising : IsRisingFrom 0 l.index.entries;
  room : length l.index.entries + length l.rest ≤ length l.fn.index.entries + length l.fn.frames;
  high : (serial : ℕ) → count_in l.index.entries serial + length l.rest ≤ count_in l.fn.index.entries serial + length l.fn.frames;
  counts : (serial : ℕ) → count_in l.index.entries serial + serial_count serial l.rest ≡ count_in l.fn.index.entries serial + serial_count serial l.fn.frames;
}

abbrev pub decreases-loop-frame : goal.decreases-loop-frame
decreases-loop-frame l = length l.rest
