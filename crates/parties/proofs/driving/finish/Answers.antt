use Rattle.parties.specs.Driven.{work}
use Rattle.parties.proofs.Driven.{closed_then}
use Rattle.parties.proofs.driving.finish.Goals as goal

pub returns-in_ok-release_all-in-Release : goal.returns-in_ok-release_all-in-Release
returns-in_ok-release_all-in-Release g c =
    let called = c.args.drive.now.called in let did = c.close-in-Release.ensures in
    closed_then g.row.N.Denot (work c.args.keeps.now called) c.release_all.new.keeps c.close-in-Release.new.keeps called _ c.close-in-Release.result (c.release_all.ensures.leads called)
    did.closed did.refused did.rests
