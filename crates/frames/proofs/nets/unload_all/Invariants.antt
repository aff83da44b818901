use Rattle.std.proofs.Common.{◌≡◌, ◌+◌, ◌≤◌, ◌++◌, drop, length, vec_capacity}
use Rattle.frames.specs.declared.CodeId.{CodeId}
use Rattle.frames.specs.Nets.{total, AreCells, AreNetsAmong, AreTouched}
use Rattle.frames.proofs.nets.unload_all.Given as goal

abbrev pub invariant-loop-place : goal.invariant-loop-place
invariant-loop-place l =
    AreCells l.cells.items l.list.items
    × ((code : CodeId) → total (l.cells.items ++ l.list.items) code ≡ total (l.fn.cells.items ++ l.fn.list.items) code)
    × AreNetsAmong l.cells.items (drop l.place-index l.touched)
    × AreTouched l.cells.items l.touched
    × (length l.list.items ≤ 1024 + l.place-index)
    × (vec_capacity l.list ≡ vec_capacity l.fn.list)
