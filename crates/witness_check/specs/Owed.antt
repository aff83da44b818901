-- The replies to handshakes that are still due.
use Rattle.std.specs.Prelude.{ℕ, ◌==◌, nat_le, Bool, not, ◌||◌, List, [], remove, Option, None, Some}
use Rattle.std.specs.List.{position}
use Rattle.operations.specs.declared.Request.TheVariants.{Handshake}
use Rattle.system.specs.declared.events.Event.{Event}
use Rattle.system.specs.declared.events.Event.TheVariants as event
use Rattle.witness_check.specs.declared.owed.Owed.{Owed}

abbrev pub owed_to : ℕ → ℕ → Owed
owed_to op name = record { op = op; name = name }

-- The targets of the requested handshake; none for a census and for other events.
abbrev pub asked_of : Event → List ℕ
asked_of (event.Ask (Handshake targets ask)) = targets
asked_of other = []

abbrev pub is_of : ℕ → Owed → Bool
is_of name owed = owed.name == name

-- An operation is not for threads that start after its Open. Their replies to it aren't due.
abbrev pub may_owe : ℕ → ℕ → Owed → Bool
may_owe op newest owed = not (owed.op == op) || nat_le owed.name newest

abbrev pub isnt_of : ℕ → Owed → Bool
isnt_of op owed = not (owed.op == op)

abbrev pub paid_at : Option ℕ → List Owed → List Owed
paid_at None owed = owed
paid_at (Some at) owed = remove owed at

-- The thread gives its oldest due reply.
abbrev pub paid : ℕ → List Owed → List Owed
paid name owed = paid_at (position (is_of name) owed) owed
