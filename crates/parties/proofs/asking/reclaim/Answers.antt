use Rattle.std.proofs.Common.{◌≡◌, ◌∙◌, ap, rules, subst, true}
use Rattle.std.specs.Prelude.{Option}
use Rattle.operations.specs.declared.Request.{Request}
use Rattle.desk.specs.Fields.{DeskSeen, at}
use Rattle.desk.specs.Refusals.{reclaim_refused}
use Rattle.parties.specs.Asked.{reclaiming_for, targets_at}
use Rattle.parties.proofs.Fits.{reclaim_fits, waits_some, waits_none}
use Rattle.parties.proofs.asking.reclaim.Goals as goal

pub returns-clause-refused : goal.returns-clause-refused
returns-clause-refused g c =
    let desk = c.deref_mut.result.now in
    let same : c.deref-2.result.now ≡ desk = search rules in
    let names = subst (λ (d : DeskSeen). c.in-Ok.names.items ≡ targets_at c.args.targets.now (at d)) same c.in-Ok.ensures in
    let made = c.in-Ok-reclaiming_for in
    let is = made.ensures.request ∙ ap (reclaiming_for c.args.serial) names in
    let f = c.in-Err.refused.fault in (
      desk,
      search rules,
      subst (λ (r : Option Request). reclaim_refused (at desk) c.args.serial r (λ _. true) desk.book desk.keeper.moment f) is
          (reclaim_fits (at desk) c.args.serial made.request _ desk.book desk.keeper.moment f made.ensures.jobs c.in-Err.ensures.err.1),
    )

pub returns-in-Some-asked-clause-begun : goal.returns-in-Some-asked-clause-begun
returns-in-Some-asked-clause-begun g c =
    let desk = c.deref_mut.result.now in
    let same : c.deref-2.result.now ≡ desk = search rules in
    let names = subst (λ (d : DeskSeen). c.in-Ok.names.items ≡ targets_at c.args.targets.now (at d)) same c.in-Ok.ensures in
    let made = c.in-Ok-reclaiming_for in
    let is = made.ensures.request ∙ ap (reclaiming_for c.args.serial) names in
    let did = c.in-Ok-begin_reclaim.ensures in
    let asked = c.in-Some-asked in (
      desk,
      c.begin_reclaim.new.self,
      search rules,
      did.allowed.0,
      did.allowed.1,
      did.round,
      waits_some made.request _ c.in-Ok-begin_reclaim.asked asked.number asked.receipt _ _ is asked.is did.asked did.wanted,
    )

pub returns-in-Ok-begin_reclaim-clause-begun : goal.returns-in-Ok-begin_reclaim-clause-begun
returns-in-Ok-begin_reclaim-clause-begun g c =
    let desk = c.deref_mut.result.now in
    let same : c.deref-2.result.now ≡ desk = search rules in
    let names = subst (λ (d : DeskSeen). c.in-Ok.names.items ≡ targets_at c.args.targets.now (at d)) same c.in-Ok.ensures in
    let made = c.in-Ok-reclaiming_for in
    let is = made.ensures.request ∙ ap (reclaiming_for c.args.serial) names in
    let did = c.in-Ok-begin_reclaim.ensures in (
      desk,
      c.begin_reclaim.new.self,
      search rules,
      did.allowed.0,
      did.allowed.1,
      did.round,
      waits_none made.request _ c.in-Ok-begin_reclaim.asked _ _ is c.in-None.is did.quiet,
    )
