-- Test by test.
use Rattle.tie.proofs.DeskRefusals as law
use Rattle.tie.proofs.desk_laws.refusals_agree.Goals as goal

pub returns : goal.returns
returns c = law.refusals_agree
