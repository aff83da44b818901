use Rattle.std.proofs.Common.{refl}
use Rattle.system.proofs.CodeEvents.{freed}
use Rattle.system.proofs.keeping.Core.free.Goals as goal

pub returns-in-Ok : goal.returns-in-Ok
returns-in-Ok c = freed c.args.self.now _ c.args.serial c.in-Ok.ensures.accepted (record { table = c.in-Ok.ensures.codes; places = refl; names = refl; moment_is = refl; requests = refl }) refl refl
