use Rattle.parties.proofs.Driven.{armed_then}
use Rattle.parties.proofs.driving.arming.arm_listed.Goals as goal

pub loop-preserved : goal.loop-preserved
loop-preserved g c =
    armed_then g.row.N.Denot _ c.loop.keeps c.arm_next.new.keeps _ _ c.loop.invariant c.in_ok-arm_next.ensures.called c.in_ok-arm_next.ensures.armed
