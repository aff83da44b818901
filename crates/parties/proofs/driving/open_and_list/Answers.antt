use Rattle.parties.specs.Driven.{work}
use Rattle.parties.proofs.Driven.{then}
use Rattle.parties.proofs.driving.open_and_list.Goals as goal

pub returns-clause-leads : goal.returns-clause-leads
returns-clause-leads g c =
    then g.row.N.Denot _ (work c.settle.new.keeps c.settle.new.drive.called) _ c.settle.ensures.leads c.begin.ensures.leads
