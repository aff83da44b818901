use Rattle.std.proofs.Common.{rules}
use Rattle.parties.proofs.coordinating.weigh.Goals as goal

pub returns-in-Some-weigh_code-clause-weighed : goal.returns-in-Some-weigh_code-clause-weighed
returns-in-Some-weigh_code-clause-weighed g c = (c.deref_mut.result.now, search rules, c.in-Some-weigh_code.ensures.from)
