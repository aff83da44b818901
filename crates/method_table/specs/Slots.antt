-- The slots of unfreed codes by serial.
use Rattle.std.specs.Prelude.{ℕ, Option, nat_eq}
use Rattle.std.specs.declared.hash.FoldHasher.{FoldHasher}
use Rattle.std.specs.declared.hash.BuildHasherDefault.{BuildHasherDefault}
use Rattle.std.specs.HashMap.{get, HashMap}

abbrev pub Slots : Type 0
Slots = HashMap ℕ ℕ (BuildHasherDefault FoldHasher)

-- The indexed slot of a serial.
abbrev pub slot_in : Slots → ℕ → Option ℕ
slot_in slots serial = get nat_eq slots serial
