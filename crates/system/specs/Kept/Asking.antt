-- The answer to a request that the queue refuses.
use Rattle.std.specs.Prelude.{Option, Some, None}
use Rattle.operations.specs.declared.queue.QueueFault.{QueueFault}
use Rattle.operations.specs.declared.queue.QueueFault.TheVariants as fault
use Rattle.system.specs.declared.answers.Refusal.{Refusal}
use Rattle.system.specs.declared.answers.Refusal.TheVariants.{QueueFull, NoTargets, BadTargets}

-- The refusal for a fault of the queue, none for lack of memory.
abbrev pub refusal_of : QueueFault → Option Refusal
refusal_of fault.QueueFull = Some QueueFull
refusal_of fault.NoTargets = Some NoTargets
refusal_of fault.BadTargets = Some BadTargets
refusal_of fault.NoMemory = None
