-- How the table's fields represent its codes.
use Rattle.std.specs.Prelude.{◌≡◌, ℕ, ◌+◌, ◌^◌, ◌<◌, ◌≤◌, ◌==◌, Bool, true, false, not, List, [], ◌∷◌, ◌++◌, length, Option, Some, None, find, slice_get, slice_set, if◌then◌else◌}
use Rattle.frames.specs.declared.CodeId.{CodeId}
use Rattle.method_table.specs.declared.Code.{Code}
use Rattle.method_table.specs.Numbers.{below, last_number}
use Rattle.method_table.specs.Entries.{newest_in}
use Rattle.method_table.specs.Codes.{is_in_use, takes_slot, id_of, code_of}

-- The serials rise by one from the first number.
abbrev pub IsNumberedFrom : ℕ → List Code → Type 0
IsNumberedFrom first [] = Unit {0}
IsNumberedFrom first (code ∷ codes) = (code.serial ≡ first) × IsNumberedFrom (first + 1) codes

-- Records by slot represent codes by serial: each unfreed code has its slot's record.
pub record IsTied (code_at record_at : ℕ → Option Code) : Type 0 where
  pub serials : (serial : ℕ) (code : Code) → code_at serial ≡ Some code → code.serial ≡ serial
  pub listed : (slot : ℕ) (code : Code) → record_at slot ≡ Some code → takes_slot code.state ≡ true → (code_at code.serial ≡ Some code) × (code.slot ≡ slot)
  pub recorded : (serial : ℕ) (code : Code) → code_at serial ≡ Some code → takes_slot code.state ≡ true → record_at code.slot ≡ Some code

-- The code with this name is in use for the method.
pub record IsInUse (code_at : ℕ → Option Code) (method : ℕ) (id : CodeId) : Type 0 where
  pub code : Code
  pub listed : code_at code.serial ≡ Some code
  pub id_is : id ≡ id_of code
  pub method_is : code.method ≡ method
  pub in_use : is_in_use code.state ≡ true

-- The current entry of each method is its code in use.
pub record IsCurrent (code_at : ℕ → Option Code) (current_at : ℕ → Option (Option CodeId)) : Type 0 where
  pub entered : (method : ℕ) (id : CodeId) → current_at method ≡ Some (Some id) → IsInUse code_at method id
  pub current : (serial : ℕ) (code : Code) → code_at serial ≡ Some code → is_in_use code.state ≡ true → current_at code.method ≡ Some (Some (id_of code))

-- The slot's record is of an unfreed code.
abbrev pub holds : Option Code → Bool
holds None = false
holds (Some code) = takes_slot code.state

-- The place has a new value, and all other places are unchanged.
pub record Puts {A : Type 0} (before after : ℕ → Option A) (place : ℕ) (x : Option A) : Type 0 where
  pub here : after place ≡ x
  pub others : (other : ℕ) → (other ≡ place → ⊥) → after other ≡ before other

-- The indexed slot of a code: its own slot until the code is freed.
abbrev pub kept_slot : Option Code → Option ℕ
kept_slot None = None
kept_slot (Some code) = if takes_slot code.state then Some code.slot else None

-- Each unfreed code is the newest of its slot.
abbrev pub AreNewest : List Code → Type 0
AreNewest codes = (serial : ℕ) (code : Code) → code_of codes serial ≡ Some code → takes_slot code.state ≡ true → newest_in codes code.slot ≡ Some code

-- The fields of a table represent its codes.
pub record IsKept (codes : List Code) (slots next : ℕ) (records : List Code) (slot_of : ℕ → Option ℕ) (current : List (Option CodeId)) (taken : ℕ) : Type 0 where
  pub numbered : IsNumberedFrom 1 codes
  pub next_is : next ≡ length codes + 1
  pub not_spent : length codes ≤ last_number
  pub few : length records ≤ slots
  pub few_methods : length current < 2 ^ 32
  pub tied : IsTied (code_of codes) (slice_get records)
  pub indexed : (serial : ℕ) → slot_of serial ≡ kept_slot (code_of codes serial)
  pub entries : IsCurrent (code_of codes) (slice_get current)
  pub full : (slot : ℕ) → slot < taken → holds (slice_get records slot) ≡ true
  pub newest : AreNewest codes

-- The least slot without an unfreed code.
abbrev pub least_free : List Code → ℕ → Option ℕ
least_free records slots = find (λ slot. not (holds (slice_get records slot))) (below slots)

-- The records after a store of the code in its slot or at the end.
abbrev pub with_record : List Code → Code → List Code
with_record records code = if code.slot == length records then records ++ code ∷ [] else slice_set records code.slot code
