-- The results that C gets from a party.
use Rattle.std.specs.Prelude.{◌≡◌, ◌==◌, if◌then◌else◌, ℕ, ℤ, Bool, true, Option, Some, None, is_some, Err}
use Rattle.operations.specs.declared.Ask.{Ask}
use Rattle.operations.specs.declared.Ask.TheVariants.{Depth, CountOf, Top}
use Rattle.parties.specs.declared.acts.Act.{Act}
use Rattle.parties.specs.declared.acts.Act.TheVariants as act
use Rattle.parties.specs.declared.party.Role.TheVariants as role
use Rattle.parties.specs.declared.acts.Fault.TheVariants as fault
use Rattle.board.specs.Boards.{BoardId}
use Rattle.poll.specs.Rows.{RowId}
use Rattle.stopped_threads.specs.Holding.{held_nothing}
use Rattle.parties.specs.Acted.{Acts, PartySeen, party_as}
use Rattle.parties.specs.Asked.{Told}
use Rattle.safepoint.specs.Codes.{code_of}

-- An act of a party that exists, in a system of this many places.
abbrev pub Obeys : {N : Type 0} → ℕ → Option (PartySeen N) → Act → Told → Option (PartySeen N) → Type 0
Obeys places (Some old) act said (Some new) = Acts places old act said new
Obeys places old act said new = ⊥

-- An act of a party that may not exist.
abbrev pub Answers : {N : Type 0} → ℕ → Option (PartySeen N) → Act → Told → Option (PartySeen N) → Type 0
Answers places None act said new = (said ≡ Err fault.NotThis) × (new ≡ None)
Answers places (Some old) act said new = Obeys places (Some old) act said new

-- A new party is a client, and has noted nothing.
abbrev pub IsFresh : {N : Type 0} → Option (PartySeen N) → Type 0
IsFresh new = new ≡ Some (party_as role.Shares)

-- The party exists if there was memory for it, and only then.
abbrev pub Arises : {N : Type 0} → Option (PartySeen N) → Bool → Type 0
Arises new made = (is_some new ≡ made) × (made ≡ true → IsFresh new)

abbrev pub Forks : {N : Type 0} → Option (PartySeen N) → Option (PartySeen N) → Option (PartySeen N) → Bool → Type 0
Forks old kept new made = (kept ≡ old) × Arises new made

-- C gets the code of the act's result.
abbrev pub Replies : {N : Type 0} → ℕ → ℤ → Act → Option (PartySeen N) → Option (PartySeen N) → Type 0
Replies places code act old new = (said : Told) × (code ≡ code_of said) × Answers places old act said new

-- The ask of this number, with a serial.
abbrev pub ask_of : ℕ → ℕ → Option Ask
ask_of asks serial = if asks == 0 then Some Depth else if asks == 1 then Some (CountOf serial) else if asks == 2 then Some Top else None

-- A handshake with this ask is submitted. Without an ask nothing is done.
abbrev pub Submits : {N : Type 0} → ℕ → Option Ask → ℤ → ℤ → Option (PartySeen N) → Option (PartySeen N) → Type 0
Submits places (Some ask) bad code old new = Replies places code (act.Submit (Some ask)) old new
Submits places None bad code old new = (code ≡ bad) × (new ≡ old)

-- A new coordinator of a system over this board and row holds nothing.
abbrev pub IsBegun : {N : Type 0} → BoardId → RowId → Option (PartySeen N) → Type 0
IsBegun board row new = new ≡ Some (party_as (role.Coordinates (held_nothing row board.places)))

-- The party exists if there was memory for it, and only then.
abbrev pub Begins : {N : Type 0} → BoardId → RowId → Option (PartySeen N) → Bool → Type 0
Begins board row new made = (is_some new ≡ made) × (made ≡ true → IsBegun board row new)
