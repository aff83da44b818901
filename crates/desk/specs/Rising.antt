-- Live names rise.
use Rattle.std.specs.Prelude.{◌≡◌, ◌≤◌, ℕ, ◌+◌, List, [], ◌∷◌, true}
use Rattle.desk.specs.declared.entries.Entry.{Entry}
use Rattle.desk.specs.Machine.{after, is_legal, names_of}

-- the numbers rise, from this number on
abbrev pub AreRising : ℕ → List ℕ → Type 0
AreRising least [] = Unit {0}
AreRising least (n ∷ ns) = (least ≤ n) × AreRising (n + 1) ns

-- after a legal history the live names rise
abbrev pub LiveNamesRise : Type 0
LiveNamesRise = (slots methods : ℕ) (history : List Entry) → is_legal slots methods history ≡ true → AreRising 0 (names_of (after slots methods history).live)
