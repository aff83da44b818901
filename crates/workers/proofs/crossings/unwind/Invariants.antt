use Rattle.std.proofs.Common.{◌≡◌}
use Rattle.thread_state.specs.declared.State.TheVariants.{InJava}
use Rattle.thread_list.specs.Moves.{SameThread}
use Rattle.workers.proofs.crossings.unwind.Given as goal

abbrev pub invariant-loop : goal.invariant-loop
invariant-loop g l =
    (goal.iterator-loop g).can_next l.iterator' × (goal.iterator-loop g).is_finite l.iterator' × (l.thread.state ≡ InJava) × SameThread l.fn.thread l.thread
