use Rattle.std.proofs.Common.{refl}
use Rattle.system.proofs.PlainActs.{act_does}
use Rattle.system.proofs.keeping.Core.act.Goals as goal

pub returns : goal.returns
returns c = act_does c.args.self.now _ c.args.place c.args.act c.act_at.result (record { table = refl; records = refl; index = refl; names = refl; moment = refl; requests = refl }) (rw c.as_slice.ensures at c.act_at.ensures)
