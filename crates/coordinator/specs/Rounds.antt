-- The steps of reclaiming.
use Rattle.std.specs.Prelude.{◌≡◌, ◌⊎◌, ◌<◌, ℕ, true, false, Option, Some, None}
use Rattle.frames.specs.BoardViews.{went_round}
use Rattle.operations.specs.declared.Request.{Request}
use Rattle.desk.specs.declared.entries.Entry.TheVariants.{Ask, Close}
use Rattle.desk.specs.Fields.{DeskSeen, at}
use Rattle.desk.specs.Machine.{Stands}
use Rattle.desk.specs.Pending.{least_pending}
use Rattle.stopped_threads.specs.declared.faults.Reclaimed.{Reclaimed}
use Rattle.stopped_threads.specs.Reclaiming.{IsReclaimed}

-- The request, if there is one, was asked with this number.
abbrev pub IsAskOf : Option Request → Option (ℕ × Stands) → Type 0
IsAskOf request None = request ≡ None
IsAskOf None (Some asked) = true ≡ false
IsAskOf (Some request) (Some asked) = asked.1.entry ≡ Ask asked.0 request

-- The first step: the desk before and after it, and the Ask if there is a handshake.
pub record Beginning : Type 0 where
  pub before : DeskSeen
  pub after : DeskSeen
  pub asked : Option (ℕ × Stands)

-- The step made a round, and the request was asked.
abbrev pub Begins : Option Request → Beginning → Type 0
Begins request b = (b.after.keeper ≡ went_round b.before.keeper b.before.keeper.moment) × IsAskOf request b.asked

-- Reclaiming after its handshake is closed, if there is one.
pub record Shaking : Type 0 where
  pub begun : Beginning
  pub closed : Option Stands

-- The handshake, if there is one, is closed.
abbrev pub IsClosed : Option (ℕ × Stands) → Option Stands → Type 0
IsClosed asked closed
    = ((asked ≡ None) × (closed ≡ None)) ⊎ ((a : ℕ × Stands) × (r : Stands) × (asked ≡ Some a) × (closed ≡ Some r) × (r.entry ≡ Close a.0))

abbrev pub Shakes : Option Request → Shaking → Type 0
Shakes request s = Begins request s.begun × IsClosed s.begun.asked s.closed

-- At this desk the handshake is closed: its number is less than that of each open or waiting request, and of the next
-- one.
abbrev pub IsOver : Option (ℕ × Stands) → DeskSeen → Type 0
IsOver None desk = Unit {0}
IsOver (Some asked) desk = asked.0 < least_pending (at desk)

-- The code was looked for and weighed at a desk at which the handshake was closed.
abbrev pub IsReclaimedBehind : {N : Type 0} → Option (ℕ × Stands) → ℕ → ℕ → Reclaimed N → Type 0
IsReclaimedBehind asked places serial said = (r : IsReclaimed places serial said) × IsOver asked r.before
