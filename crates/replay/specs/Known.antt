-- The bytes that a sink got, if it makes them known.
use Rattle.std.specs.Prelude.{◌≡◌, ℕ, List, ◌++◌, take, Option, Some, None}

-- Known bytes grow by a beginning of bs.
abbrev pub AppendsPart : Option (List ℕ) → Option (List ℕ) → List ℕ → Type 0
AppendsPart None new bs = Unit {0}
AppendsPart (Some xs) None bs = ⊥
AppendsPart (Some xs) (Some ys) bs = (n : ℕ) × (ys ≡ xs ++ take n bs)

-- The first bytes stay, and more are added after them. These and the bytes that wait then are the bytes that waited before, and bs.
pub record GrowsBy (xs waits ys waits' bs : List ℕ) : Type 0 where
  pub more : List ℕ
  pub got : ys ≡ xs ++ more
  pub all : more ++ waits' ≡ waits ++ bs

-- What the sink got, and what waits to be written to it, grow together by bs.
abbrev pub Grows : Option (List ℕ) → List ℕ → Option (List ℕ) → List ℕ → List ℕ → Type 0
Grows None waits new waits' bs = Unit {0}
Grows (Some xs) waits None waits' bs = ⊥
Grows (Some xs) waits (Some ys) waits' bs = GrowsBy xs waits ys waits' bs
