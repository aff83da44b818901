use Rattle.std.proofs.Common.{sym, subst}
use Rattle.bodies.specs.Bodies.{IsPublished}
use Rattle.bodies.specs.Census.{IsCensus}
use Rattle.thread_list.specs.Moves.{IsCleared}
use Rattle.stopped_threads.specs.Held.{AreEach}
use Rattle.stopped_threads.specs.Holding.{Holding}
use Rattle.stopped_threads.proofs.Each.{each_both}
use Rattle.stopped_threads.proofs.Published.{cleared_census, operated_census}
use Rattle.coordinator.proofs.coordinator.Coordinator.operate.Goals as goal

pub returns-clause-counted : goal.returns-clause-counted
returns-clause-counted g c =
    let i = c.self.inside in
    let counted : IsCensus i.bodies c.in_ok-number.list.items = subst (λ (v : Holding). IsCensus v.held c.in_ok-number.list.items) (sym c.self.view_is) c.in_ok-number.ensures.counted in
    cleared_census c.in_ok-number.number i.bodies c.clear_all.new.self c.in_ok-number.list.items c.clear_all.ensures counted

pub returns-clause-held : goal.returns-clause-held
returns-clause-held g c =
    let i = c.self.inside in
    let published : AreEach IsPublished c.args.self.now.held i.bodies = subst (λ (v : Holding). AreEach IsPublished c.args.self.now.held v.held) (sym c.self.view_is) c.in_ok-number.ensures.published in
    each_both IsPublished (IsCleared c.in_ok-number.number) c.args.self.now.held i.bodies c.clear_all.new.self published c.clear_all.ensures

pub returns-clause-before : goal.returns-clause-before
returns-clause-before g c =
    operated_census c.in_ok-number.number c.args.self.now.held c.clear_all.new.self c.in_ok-number.list.items (returns-clause-held g c) (returns-clause-counted g c)
