use Rattle.std.proofs.Common.{sym, subst, rules}
use Rattle.stopped_threads.specs.Holding.{Holding}
use Rattle.coordinator.specs.Driving.{HoldsOn}
use Rattle.coordinator.proofs.HoldsMore.{holds_then}
use Rattle.coordinator.proofs.Holdings.{listed_again}
use Rattle.coordinator.proofs.coordinator.Coordinator.counted.Goals as goal

pub returns-in-Err-NoMemory-clause-holds : goal.returns-in-Err-NoMemory-clause-holds
returns-in-Err-NoMemory-clause-holds g c =
    subst (λ (h : Holding). HoldsOn c.args.self.now h) (sym c.in-Err-NoMemory.ensures.refused.2) c.loop.invariant.2

pub loop-preserved : goal.loop-preserved
loop-preserved g c =
    let so = subst (λ (h : Holding). HoldsOn c.args.self.now h) (sym c.in-Err-Refused.ensures-1.refused.2) c.loop.invariant.2 in
    (tt, tt, holds_then c.args.self.now c.operate.new.self c.hold_all.new.self so c.hold_all.ensures)

pub returns-in-Err-Refused-AlreadyDone-clause-counted : goal.returns-in-Err-Refused-AlreadyDone-clause-counted
returns-in-Err-Refused-AlreadyDone-clause-counted g c =
    let so = subst (λ (h : Holding). HoldsOn c.args.self.now h) (sym c.in-Err-Refused-AlreadyDone.ensures-1.refused.2) c.loop.invariant.2 in
    listed_again c.args.self.now c.operate.new.self c.list_again.result so (search rules) c.list_again.ensures
