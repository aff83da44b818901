use Rattle.std.proofs.Common.{◌≡◌, ◌≤◌, vec_len, vec_capacity}
use Rattle.workers.specs.Replacing.{AreInstalls}
use Rattle.workers.proofs.reclaimer.Reclaimer.new.Given as goal

abbrev pub invariant-loop-method : goal.invariant-loop-method
invariant-loop-method g l =
    (vec_len l.in_use ≡ l.method) × (vec_len l.installed ≡ l.method) × (l.methods ≤ vec_capacity l.in_use) × (l.methods ≤ vec_capacity l.installed)
    × AreInstalls 0 l.in_use.items l.installed.items
