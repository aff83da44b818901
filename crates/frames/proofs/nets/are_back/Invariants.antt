use Rattle.std.proofs.Common.{◌≡◌, ℕ, ◌<◌, drop, true, false, get_or}
use Rattle.frames.specs.declared.Change.{Change}
use Rattle.frames.specs.Nets.{is_zero, is_in}
use Rattle.frames.proofs.nets.are_back.Given as goal

abbrev pub invariant-loop-place : goal.invariant-loop-place
invariant-loop-place l = (k : ℕ) (d : Change) → k < 1024 → is_zero (get_or l.cells k d).by ≡ false → is_in k (drop l.place-index l.touched) ≡ true
