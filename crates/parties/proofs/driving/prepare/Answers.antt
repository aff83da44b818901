use Rattle.parties.specs.Driven.{work}
use Rattle.parties.proofs.Driven.{then}
use Rattle.parties.proofs.driving.prepare.Goals as goal

pub returns-clause-leads : goal.returns-clause-leads
returns-clause-leads g c =
    then g.row.N.Denot _ (work c.arm.new.keeps c.arm.new.drive.called) _ c.arm.ensures.leads c.hold_pass.ensures.leads
