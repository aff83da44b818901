use Rattle.std.proofs.Common.{Option}
use Rattle.coordinator_core.specs.declared.drive.Callback.{Callback}
use Rattle.parties.specs.Driven.{Leads, work}
use Rattle.parties.proofs.driving.releasing.release_all.Given as goal

abbrev pub invariant-loop : goal.invariant-loop
invariant-loop g l = (called : Option Callback) → Leads g.row.N.Denot (work l.fn.keeps called) (work l.keeps called)
