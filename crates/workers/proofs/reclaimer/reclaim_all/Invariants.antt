use Rattle.std.proofs.Common.{◌≤◌, ◌+◌, length, take}
use Rattle.workers.specs.Replacing.{FreesSome}
use Rattle.workers.proofs.reclaimer.reclaim_all.Given as goal

abbrev pub invariant-loop-serial : goal.invariant-loop-serial
invariant-loop-serial g l =
    FreesSome (take l.serial-index l.serials) l.fn.freed.items l.freed.items × (length l.freed.items ≤ length l.fn.freed.items + l.serial-index)
