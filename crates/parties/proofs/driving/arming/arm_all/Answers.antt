use Rattle.std.proofs.Common.{◌≡◌, Option, refl, rules, sym, subst}
use Rattle.stopped_threads.specs.Holding.{Holding}
use Rattle.coordinator_core.specs.declared.drive.Callback.{Callback}
use Rattle.parties.specs.Driven.{Leads, work}
use Rattle.parties.proofs.Driven.{same, then}
use Rattle.parties.proofs.driving.arming.arm_all.Goals as goal
use Rattle.parties.proofs.driving.arming.arm_all.Goals.{then-eq+in_ok-release_all, else-eq}

pub returns-in_err-release_all-clause-leads : goal.returns-in_err-release_all-clause-leads
returns-in_err-release_all-clause-leads g c =
    let called = c.arm_listed.new.drive.called in
    then g.row.N.Denot _ (work c.arm_listed.new.keeps called) _ c.arm_listed.ensures.leads (c.release_all.ensures.leads called)

pub returns-clause-leads : goal.returns-clause-leads
returns-clause-leads g c =
    let mid = c.arm_listed.new.keeps in let called = c.arm_listed.new.drive.called in let keeps = c.if-eq.keeps in
    let ends : c.arm_ends.new.self.called ≡ called = search rules in
    let rest : Leads g.row.N.Denot (work mid called) (work keeps called) = elim c.if-eq.branch [
      | then-eq+in_ok-release_all w ↦ subst (λ (h : Holding). Leads g.row.N.Denot (work mid called) (work h called)) (sym w.keeps-is) (w.release_all.ensures.leads called)
      | else-eq w ↦ same g.row.N.Denot mid keeps called called w.keeps-is refl
    ] in
    subst (λ (o : Option Callback). Leads g.row.N.Denot (work c.args.keeps.now c.args.drive.now.called) (work keeps o)) (sym ends)
    (then g.row.N.Denot _ (work mid called) (work keeps called) c.arm_listed.ensures.leads rest)
