use Rattle.std.proofs.Common.{rules}
use Rattle.bodies.specs.Bodies.{IsPublished}
use Rattle.stopped_threads.proofs.Each.{each_held, each_among, published_keeps}
use Rattle.stopped_threads.proofs.held.HeldBodies.publish_all.Goals as goal

pub invariant_of-self : goal.invariant_of-self
invariant_of-self g c =
    let i = c.self.inside in let m = c.self.invariant in
    (m.0, m.1, search rules, each_held IsPublished i.places i.bodies.items c.publish_all.new.bodies.items published_keeps c.publish_all.ensures.published m.3, each_among IsPublished i.came i.bodies.items c.publish_all.new.bodies.items published_keeps c.publish_all.ensures.published m.4)
