use Rattle.std.proofs.Common.{subst}
use Rattle.bodies.specs.Bodies.{IsPublished}
use Rattle.thread_list.specs.Moves.{IsCleared}
use Rattle.stopped_threads.specs.Held.{AreEach}
use Rattle.stopped_threads.specs.Holding.{Holding}
use Rattle.stopped_threads.proofs.Each.{each_both}
use Rattle.stopped_threads.proofs.Published.{cleared_census}
use Rattle.coordinator_core.proofs.coordinator.CoordinatorCore.operate.Goals as goal

pub returns-in-Ok-clause-counted : goal.returns-in-Ok-clause-counted
returns-in-Ok-clause-counted g c = cleared_census c.in-Ok.number _ c.clear_all.new.self c.in-Ok.list.items c.clear_all.ensures c.in-Ok.ensures.counted

pub returns-in-Ok-clause-held : goal.returns-in-Ok-clause-held
returns-in-Ok-clause-held g c =
    let bodies = c.operate_over.new.bodies in
    let published : AreEach IsPublished c.args.self.now.held bodies = subst (λ (v : Holding). AreEach IsPublished v.held bodies) c.self.view_is c.in-Ok.ensures.published in
    each_both IsPublished (IsCleared c.in-Ok.number) c.args.self.now.held bodies c.clear_all.new.self published c.clear_all.ensures
