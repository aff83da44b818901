use Rattle.std.proofs.Common.{◌≡◌, ◌+◌, length}
use Rattle.workers.specs.Replacing.{ReplacedFirst, CountsMore}
use Rattle.workers.proofs.reclaimer.Reclaimer.replace_each.Given as goal

abbrev pub invariant-loop-method : goal.invariant-loop-method
invariant-loop-method g l =
    (length l.jobs.items + l.method ≡ length l.fn.self.in_use) × ReplacedFirst l.method l.fn.self l.self × CountsMore l.method l.fn.self l.self
