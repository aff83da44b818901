use Rattle.std.proofs.Common.{refl}
use Rattle.system.proofs.Exits.{exit_does}
use Rattle.system.proofs.keeping.Core.exit.Goals as goal

pub returns : goal.returns
returns c = exit_does c.args.self.now _ c.args.place c.exit_at.result (record { table = refl; records = refl; index = refl; names = refl; moment = refl; requests = refl }) c.exit_at.ensures
