-- One list has the replies to all operations one after another. Each operation has a span of it.
use Rattle.std.specs.Prelude.{◌≡◌, ◌≤◌, ℕ, ◌+◌, ◌-◌, List, [], ◌∷◌, ◌++◌, take, drop}
use Rattle.desk.specs.declared.replies.Span.{Span}
use Rattle.desk.specs.Replies.{Said}

-- the replies in a span
abbrev pub said_in : List (ℕ × ℕ) → Span → Said
said_in all s = record { said = take s.said (drop s.start all); room = s.room }

-- The spans cover the list between two indices without a gap: each begins at the end of the span before it.
abbrev pub AreBehind : ℕ → List Span → ℕ → Type 0
AreBehind from [] to = from ≡ to
AreBehind from (s ∷ ss) to = (s.start ≡ from) × AreBehind (s.start + (s.said + s.room)) ss to

-- no span has more room than a handshake has targets
abbrev pub AreFew : List Span → Type 0
AreFew [] = Unit {0}
AreFew (s ∷ ss) = (s.said + s.room ≤ 64) × AreFew ss

-- the block as contracts see it: the replies to each operation, and memory for more operations and for more replies
pub record RepliesSeen : Type 0 where
  pub lists : List Said
  pub spare : ℕ
  pub places : ℕ

-- no reply yet, and room for this many
abbrev pub silent : ℕ → Said
silent room = record { said = []; room = room }

-- the replies after one more
abbrev pub answered : ℕ × ℕ → Said → Said
answered reply s = record { said = s.said ++ reply ∷ []; room = s.room - 1 }

-- the span after `less` items before it are dropped
abbrev pub earlier : ℕ → Span → Span
earlier less s = record { start = s.start - less; said = s.said; room = s.room }
