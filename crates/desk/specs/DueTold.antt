-- While a handshake is the only open request, the polls of the due threads are armed for it.
use Rattle.std.specs.Prelude.{◌≡◌, ℕ, List, true, Some}
use Rattle.std.specs.List.{list_any}
use Rattle.desk.specs.declared.entries.Entry.{Entry}
use Rattle.desk.specs.declared.entries.Live.{Live}
use Rattle.desk.specs.Machine.{State, after}
use Rattle.desk.specs.Targets.{is_due_target, only_handshake, untold, untold_of}

-- While a handshake is the only open request, a due thread's poll is to be armed for this handshake, unless it was
-- armed before.
abbrev pub AreToldAlone : State → Type 0
AreToldAlone s =
    (number : ℕ) (thread : Live) (last : ℕ) → only_handshake s.opened ≡ Some number → list_any (is_due_target thread) s.opened ≡ true
    → untold s thread.name last ≡ untold_of number last

-- This holds after each history.
abbrev pub DueAreTold : Type 0
DueAreTold = (slots methods : ℕ) (history : List Entry) → AreToldAlone (after slots methods history)
