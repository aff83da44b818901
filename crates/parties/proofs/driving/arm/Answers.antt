use Rattle.parties.specs.Driven.{work}
use Rattle.parties.proofs.Driven.{then}
use Rattle.parties.proofs.driving.arm.Goals as goal

pub returns-clause-leads : goal.returns-clause-leads
returns-clause-leads g c =
    then g.row.N.Denot _ (work c.open_and_list.new.keeps c.open_and_list.new.drive.called) _ c.open_and_list.ensures.leads c.arm_all.ensures.leads
