use Rattle.std.proofs.Common.{sym}
use Rattle.confirm.proofs.Cuts.{cut_first}
use Rattle.confirm.proofs.parts.cut.Goals as goal

pub returns-in-Some-clause-first : goal.returns-in-Some-clause-first
returns-in-Some-clause-first c = cut_first c.args.byte c.args.bytes.now c.in-Some.at (sym c.in-Some.ensures.at)
