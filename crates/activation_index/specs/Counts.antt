-- Counts by serial: a list of entries in rising serial, none of them with count 0.
use Rattle.std.specs.Prelude.{◌≡◌, ℕ, zero, suc, ◌+◌, ◌<◌, ◌≤◌, ◌==◌, nat_lt, List, [], ◌∷◌, if◌then◌else◌}
use Rattle.activation_index.specs.declared.Entry.{Entry}

-- an index as contracts see it
pub record IndexView : Type 0 where
  pub slots : ℕ
  pub entries : List Entry

-- the count of a serial, or 0
abbrev pub count_in : List Entry → ℕ → ℕ
count_in [] serial = 0
count_in (entry ∷ entries) serial = if entry.serial == serial then entry.count else count_in entries serial

-- the entry before the others, if its count isn't 0
abbrev pub with_entry : ℕ → ℕ → List Entry → List Entry
with_entry serial count entries = if count == 0 then entries else record { serial = serial; count = count } ∷ entries

-- how many entries a count needs
abbrev pub entries_for : ℕ → ℕ
entries_for count = if count == 0 then 0 else 1

-- the counts after the serial's count is set
abbrev pub put : List Entry → ℕ → ℕ → List Entry
put [] serial count = with_entry serial count []
put (entry ∷ entries) serial count =
    if nat_lt entry.serial serial then entry ∷ put entries serial count
    else if entry.serial == serial then with_entry serial count entries
    else with_entry serial count (entry ∷ entries)

-- each serial is above the one before, and no count is 0
abbrev pub IsRisingFrom : ℕ → List Entry → Type 0
IsRisingFrom least [] = Unit {0}
IsRisingFrom least (entry ∷ entries) = (least ≤ entry.serial) × (0 < entry.count) × IsRisingFrom (entry.serial + 1) entries

-- the index of the serial's entry, or the index at which it belongs
abbrev pub place_in : List Entry → ℕ → ℕ
place_in [] serial = 0
place_in (entry ∷ entries) serial = if nat_lt entry.serial serial then suc (place_in entries serial) else 0

-- the serial's entry is at this index
abbrev pub IsAt : List Entry → ℕ → ℕ → Type 0
IsAt [] serial place = ⊥
IsAt (entry ∷ entries) serial zero = entry.serial ≡ serial
IsAt (entry ∷ entries) serial (suc place) = IsAt entries serial place

-- the serial's entry isn't at this index
abbrev pub IsNotAt : List Entry → ℕ → ℕ → Type 0
IsNotAt [] serial place = Unit {0}
IsNotAt (entry ∷ entries) serial zero = entry.serial ≡ serial → ⊥
IsNotAt (entry ∷ entries) serial (suc place) = IsNotAt entries serial place
