use Rattle.parties.proofs.Driven.{held_then}
use Rattle.parties.proofs.driving.holding.hold_pass.Goals as goal

pub loop-preserved : goal.loop-preserved
loop-preserved g c = held_then g.row.N.Denot _ c.loop.keeps c.hold_next.new.keeps _ _ c.loop.invariant c.in_ok-hold_next.ensures.held
