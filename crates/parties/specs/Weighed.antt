-- The result of a weighing, for a party.
use Rattle.std.specs.Prelude.{Ok, Err}
use Rattle.stopped_threads.specs.declared.faults.Reclaimed.{Reclaimed}
use Rattle.stopped_threads.specs.declared.faults.Reclaimed.TheVariants as became
use Rattle.parties.specs.declared.acts.Fault.TheVariants as fault
use Rattle.parties.specs.Asked.{Told}

-- 0 if the code was freed, otherwise how many activations it has, or the late place.
abbrev pub told_of : {N : Type 0} → Reclaimed N → Told
told_of (became.Freed receipt) = Ok 0
told_of (became.Used n weighing) = Ok n
told_of (became.Late place weighing) = Err (fault.Late place)
