use Rattle.std.proofs.Common.{◌≡◌}
use Rattle.thread_state.specs.declared.State.TheVariants.{InJava}
use Rattle.workers.proofs.worker.Worker.exit.Given as goal

abbrev pub invariant-loop : goal.invariant-loop
invariant-loop g l =
    (goal.iterator-loop g).can_next l.iterator' × (goal.iterator-loop g).is_finite l.iterator' × (l.thread.state ≡ InJava) × (l.thread.name ≡ l.fn.self.thread.name)
