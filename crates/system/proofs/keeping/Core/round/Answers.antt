use Rattle.std.proofs.Common.{refl, arith}
use Rattle.system.proofs.LogEvents.{went_round}
use Rattle.system.proofs.keeping.Core.round.Goals as goal

pub returns : goal.returns
returns c = went_round c.args.self.now _ (omega arith) refl
