use Rattle.std.proofs.Common.{ap}
use Rattle.desk.specs.Machine.{Stands}
use Rattle.thread_list.proofs.shared.Shared.install.Goals as goal

pub returns-clause-installed : goal.returns-clause-installed
returns-clause-installed g c = (c.in_ok-installed.installed.code.slot, ap (λ (r : Stands). r.entry) c.in_ok-installed.ensures.ok.receipt_is)
