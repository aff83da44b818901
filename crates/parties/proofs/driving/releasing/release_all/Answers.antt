use Rattle.parties.proofs.Driven.{released_then}
use Rattle.parties.proofs.driving.releasing.release_all.Goals as goal

pub returns-then-not-branch-clause-leads : goal.returns-then-not-branch-clause-leads
returns-then-not-branch-clause-leads g c called =
    released_then g.row.N.Denot _ c.loop.keeps c.release_last.new.keeps called (c.loop.invariant called) c.in_ok-release_last.ensures.released

pub loop-preserved : goal.loop-preserved
loop-preserved g c called =
    released_then g.row.N.Denot _ c.loop.keeps c.release_last.new.keeps called (c.loop.invariant called) c.in_ok-release_last.ensures.released
