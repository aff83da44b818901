use Rattle.system.proofs.Runs.{next_same, copy_needs, on_err}
use Rattle.system.proofs.machine.System.apply_copy.Goals as goal

pub returns-in-Some-clause-answered : goal.returns-in-Some-clause-answered
returns-in-Some-clause-answered c = rw (← c.self.view_is) (next_same c.self.inside.core c.args.event.now _ c.in-Some.ensures.refused)

pub returns-in_err-copy-clause-no_memory : goal.returns-in_err-copy-clause-no_memory
returns-in_err-copy-clause-no_memory c = rw (← c.self.view_is) (λ before stands. on_err c.from_residual.result (copy_needs c.self.inside.core c.args.event.now (λ free. (let done = c.in_err-copy.ensures.succeeds free in cc)) c.in_default.ensures.none before stands))

pub returns-clause-answered : goal.returns-clause-answered
returns-clause-answered c = rw c.in_ok-copy.ensures.same at c.apply.ensures.answered
