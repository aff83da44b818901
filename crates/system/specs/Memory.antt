-- Where memory may be refused, and which copies need memory.
use Rattle.std.specs.Prelude.{◌≡◌, ℕ, Bool, true, false, List, take, Some, slice_get}
use Rattle.operations.specs.Requests.{is_census}
use Rattle.system.specs.declared.events.Event.{Event}
use Rattle.system.specs.declared.events.Event.TheVariants as event
use Rattle.system.specs.declared.keeping.Core.{Core}
use Rattle.system.specs.World.{World}
use Rattle.system.specs.Runs.{answer_to, world_after}
use Rattle.system.specs.Facts.{IsSound}
use Rattle.system.specs.Safepoints.{is_accepted}
use Rattle.system.specs.Stands.{Matches, takes_no_memory}

-- The event needs memory, and this world would accept it. A refusal needs none.
pub record NeedsMemory (w : World) (event : Event) : Type 0 where
  pub takes : takes_no_memory event ≡ false
  pub accepted : is_accepted (answer_to w event) ≡ true

-- Every sound world that matches this core would accept the event.
abbrev pub Accepts : Core → Event → Type 0
Accepts s event = (w : World) → IsSound w → Matches s w → is_accepted (answer_to w event) ≡ true

-- A run stopped at this position since the event there needs memory.
pub record StopsAt (w : World) (events : List Event) (position : ℕ) : Type 0 where
  pub event : Event
  pub is_there : slice_get events position ≡ Some event
  pub needs : NeedsMemory (world_after w (take position events)) event

-- A copy needs no memory, except of a handshake, which lists names.
abbrev pub copies_freely : Event → Bool
copies_freely (event.Ask request) = is_census request
copies_freely other = true
