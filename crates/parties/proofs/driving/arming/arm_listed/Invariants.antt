use Rattle.parties.specs.Driven.{Leads, work}
use Rattle.parties.proofs.driving.arming.arm_listed.Given as goal

abbrev pub invariant-loop : goal.invariant-loop
invariant-loop g l = Leads g.row.N.Denot (work l.fn.keeps l.fn.drive.called) (work l.keeps l.drive.called)
