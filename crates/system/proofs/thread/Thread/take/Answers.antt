use Rattle.std.proofs.Common.{◌∙◌, sym, refl}
use Rattle.system.proofs.AskedOfThread.{awaits_is, take_goes, take_waits}
use Rattle.system.proofs.thread.Thread.take.Goals as goal

pub returns-then-awaits_census : goal.returns-then-awaits_census
returns-then-awaits_census c = λ w t here.
    rw (take_waits w t (sym here.thread.held ∙ c.if-self.false) (awaits_is c.args.operations.now c.args.self.now w.requests t here ∙ (sym c.awaits_census.ensures ∙ c.if-awaits_census.true))) (refl, refl)

pub returns : goal.returns
returns c = λ w t here.
    rw (take_goes w t (sym here.thread.held ∙ c.if-self.false) (awaits_is c.args.operations.now c.args.self.now w.requests t here ∙ (sym c.awaits_census.ensures ∙ c.if-awaits_census.false))) (c.moves.ensures t here.thread)
