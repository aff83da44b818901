-- What was told to a thread is not above what its place was armed with last.
use Rattle.tie.proofs.DeskUntold as law
use Rattle.tie.proofs.desk_laws.desks_tell_the_same.Goals as goal

pub returns : goal.returns
returns c = law.desks_tell_the_same
