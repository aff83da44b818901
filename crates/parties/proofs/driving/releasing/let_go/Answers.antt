use Rattle.parties.proofs.Driven.{released}
use Rattle.parties.proofs.driving.releasing.let_go.Goals as goal

pub returns : goal.returns
returns g c =
    let did = c.release_held.ensures in
    released c.args.keeps.now c.release_held.new.self c.args.place c.release_held.result _ _ _ did.released did.again did.refused
