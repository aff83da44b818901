use Rattle.std.proofs.Common.{rules}
use Rattle.thread_list.specs.Moves.{IsCleared}
use Rattle.stopped_threads.proofs.Each.{each_held, each_among, cleared_keeps}
use Rattle.stopped_threads.proofs.held.HeldBodies.clear_all.Goals as goal

pub invariant_of-self : goal.invariant_of-self
invariant_of-self g c =
    let i = c.self.inside in let m = c.self.invariant in
    (m.0, m.1, search rules, each_held (IsCleared c.args.number) i.places i.bodies.items c.clear_all.new.bodies.items (cleared_keeps c.args.number) c.clear_all.ensures.cleared m.3, each_among (IsCleared c.args.number) i.came i.bodies.items c.clear_all.new.bodies.items (cleared_keeps c.args.number) c.clear_all.ensures.cleared m.4)
