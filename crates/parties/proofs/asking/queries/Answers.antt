use Rattle.std.proofs.Common.{rules}
use Rattle.parties.proofs.Fits.{all_made}
use Rattle.parties.proofs.asking.queries.Goals as goal

pub returns : goal.returns
returns c = all_made _ _ c.args.names.now c.loop-rest.rest.now c.args.ask c.loop-rest.jobs.items (search rules) c.loop-rest.invariant
