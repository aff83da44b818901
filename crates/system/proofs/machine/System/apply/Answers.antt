use Rattle.system.proofs.Runs.{of_world, kept_after, next_of, needs_of}
use Rattle.system.proofs.machine.System.apply.Goals as goal

pub apply_to-requires-clause-world : goal.apply_to-requires-clause-world
apply_to-requires-clause-world c = of_world c.self.inside.core c.self.invariant.0 c.self.invariant.1

pub invariant_of-self : goal.invariant_of-self
invariant_of-self c = kept_after c.self.inside.core c.apply_to.new.core c.args.event c.apply_to.result c.self.invariant.0 c.self.invariant.1 c.self.invariant.2 c.apply_to.ensures.does c.apply_to.ensures.refused

pub returns-clause-answered : goal.returns-clause-answered
returns-clause-answered c = rw (← c.self.view_is) (next_of c.self.inside.core c.apply_to.new.core c.args.event c.apply_to.result c.apply_to.ensures.does)

pub returns-clause-no_memory : goal.returns-clause-no_memory
returns-clause-no_memory c = rw (← c.self.view_is) (needs_of c.self.inside.core c.args.event c.apply_to.result c.apply_to.ensures.succeeds c.apply_to.ensures.no_memory)
