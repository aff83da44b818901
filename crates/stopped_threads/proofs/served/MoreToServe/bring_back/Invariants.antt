use Rattle.std.proofs.Common.{◌≡◌}
use Rattle.stopped_threads.proofs.served.MoreToServe.bring_back.Given as goal

abbrev pub invariant-loop : goal.invariant-loop
invariant-loop g l =
    (goal.iterator-loop g).can_next l.iterator' × (goal.iterator-loop g).is_finite l.iterator' × (l.served.out ≡ l.fn.self.served.out) × (l.served.first ≡ l.fn.self.served.first)
