use Rattle.parties.proofs.Driven.{last_released}
use Rattle.parties.proofs.driving.releasing.release_last.Goals as goal

pub returns-clause-released : goal.returns-clause-released
returns-clause-released g c =
    let did = c.release_last.ensures in
    last_released c.args.keeps.now c.release_last.new.self c.release_last.result _ did.released did.same
