use Rattle.std.proofs.Common.{◌≡◌, Some, None, refl, rules}
use Rattle.coordinator_core.specs.declared.drive.Callback.TheVariants as callback
use Rattle.parties.proofs.Driven.{ran}
use Rattle.parties.proofs.driving.serving.settle.Goals as goal

pub returns-in-Some-Safepoint-clause-leads : goal.returns-in-Some-Safepoint-clause-leads
returns-in-Some-Safepoint-clause-leads g c =
    let keeps = c.args.keeps.now in let number = c.in-Some-Safepoint.field-0-0 in
    let is : c.args.drive.now.called ≡ Some (callback.Safepoint number) = search rules in
    let ends : c.call_ends.new.self.called ≡ None = search rules in
    ran g.row.N.Denot keeps keeps number c.args.drive.now.called c.call_ends.new.self.called is ends refl
