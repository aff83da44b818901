use Rattle.std.proofs.Common.{◌≡◌, drop, get_or}
use Rattle.std.specs.List.{list_any}
use Rattle.frames.specs.Nets.{is_zero, nothing_at}
use Rattle.frames.proofs.nets.some_rest.Given as goal

abbrev pub invariant-loop-place : goal.invariant-loop-place
invariant-loop-place l =
    list_any (λ k. is_zero (get_or l.cells k (nothing_at 0)).by) l.touched
    ≡ list_any (λ k. is_zero (get_or l.cells k (nothing_at 0)).by) (drop l.place-index l.touched)
