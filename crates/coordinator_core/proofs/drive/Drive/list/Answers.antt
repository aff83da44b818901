use Rattle.std.proofs.Common.{sym, subst}
use Rattle.coordinator_core.specs.Work.{ArePending}
use Rattle.coordinator_core.proofs.Pending.{listed_pending}
use Rattle.coordinator_core.proofs.drive.Drive.list.Goals as goal

pub invariant_of-self : goal.invariant_of-self
invariant_of-self g c =
    let did = c.list_untold-self-inside.ensures in
    subst ArePending (sym did.list) (listed_pending c.args.desk.now _ c.args.armer.now.seen _ c.history_is_legal.ensures)
