use Rattle.std.proofs.Common.{sym}
use Rattle.confirm.proofs.Deeds.{owner_spelled}
use Rattle.confirm.proofs.order.owner_of.Goals as goal

pub returns-in-Number-clause-spelled : goal.returns-in-Number-clause-spelled
returns-in-Number-clause-spelled c = owner_spelled c.args.bytes.now c.in-Number.n (sym c.in-Number.ensures)
