-- What telling comes to where nothing is armed is what it says.
use Rattle.std.proofs.Common.{ℕ, Result, Ok, Err, refl}
use Rattle.thread_state.specs.declared.poll_rule.Arming.{Arming}
use Rattle.desk.specs.Machine.{State}
use Rattle.stopped_threads.specs.declared.faults.Told.{Told}
use Rattle.stopped_threads.specs.declared.faults.Told.TheVariants as told
use Rattle.stopped_threads.specs.declared.faults.TellFault.{TellFault}
use Rattle.stopped_threads.specs.Refused.{tell_said, tell_stays}

pub staying : {N : Type 0} (s : State) (name : ℕ) (armer : Arming) (said : Result (Told N) TellFault) → tell_stays s name armer said → tell_said name armer armer said
staying s name armer (Ok (told.Told r)) stays = cc
staying s name armer (Ok told.Gone) stays = (s, (stays, refl))
staying s name armer (Err fault) stays = (s, stays, refl)
