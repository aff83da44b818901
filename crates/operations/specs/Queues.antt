-- Which requests may wait, and why others are refused. (HotSpot's runtime overview: VM operations wait in a queue)
use Rattle.std.specs.Prelude.{◌≡◌, ℕ, true, false, nat_lt}
use Rattle.operations.specs.declared.Request.{Request}
use Rattle.operations.specs.declared.queue.QueueFault.{QueueFault}
use Rattle.operations.specs.declared.queue.QueueFault.TheVariants.{QueueFull, NoTargets, BadTargets, NoMemory}
use Rattle.operations.specs.Requests.{has_targets, are_targets}

-- The request may join a queue of this length.
abbrev pub MayWait : ℕ → Request → Type 0
MayWait waiting request =
    (nat_lt waiting 64 ≡ true) × (has_targets request ≡ true) × (are_targets request ≡ true)

-- This is the first cause for a refusal: no room, no target, bad targets, no memory.
abbrev pub IsCause : ℕ → Request → QueueFault → Type 0
IsCause waiting request QueueFull = nat_lt waiting 64 ≡ false
IsCause waiting request NoTargets = (nat_lt waiting 64 ≡ true) × (has_targets request ≡ false)
IsCause waiting request BadTargets =
    (nat_lt waiting 64 ≡ true) × (has_targets request ≡ true) × (are_targets request ≡ false)
IsCause waiting request NoMemory = MayWait waiting request
