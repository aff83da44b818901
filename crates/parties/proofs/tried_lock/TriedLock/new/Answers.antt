use Rattle.std.proofs.Common.{rules}
use Rattle.parties.proofs.tried_lock.TriedLock.new.Goals as goal

pub new-requires : goal.new-requires
new-requires g c = (search rules, λ _. (c.args.value, search rules))
