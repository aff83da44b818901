-- The last line, with a newline put behind it.
use Rattle.std.proofs.Common.{◌≡◌, ℕ, ◌∙◌, zero, suc, sym, Bool, true, false, cond, List, [], ◌∷◌, ◌++◌, length, take, Option, Some, None, refl, ap, arith, length-append}
use Rattle.std.proofs.Common.{◌⊎◌, inl, inr}
use Rattle.std.specs.Prelude.{◌==◌}
use Rattle.replay.specs.Words.{lines}
use Rattle.replay.specs.Scanned.{first_at}
use Rattle.replay.specs.Known.{AppendsPart}
use Rattle.replay.specs.Streams.{IsPiece, ended, Front, Splits, last_of}
use Rattle.replay.proofs.Splitting.{lines_piece, lines_line, lines_front}

-- The lines of a line with its end.
front_lines : (held : List ℕ) (ls : List (List ℕ)) (rest : List ℕ) → IsPiece held → Front (ended held) ls rest → ls ++ lines rest ≡ held ∷ []
front_lines held ls rest piece f = sym (lines_front ls rest f.each) ∙ ap lines (sym f.whole) ∙ lines_line held [] piece

none_or_one : (ls more : List (List ℕ)) (held : List ℕ) → ls ++ more ≡ held ∷ [] → (ls ≡ []) ⊎ (ls ≡ held ∷ [])
none_or_one [] more held e = inl refl
none_or_one (l ∷ []) more held e = let same : l ≡ held = cc e in inr (ap (λ z. z ∷ []) same)
none_or_one (l ∷ k ∷ ls) more held e = absurd (cc e)

-- They are none or this one.
pub front_of_last : (held : List ℕ) (ls : List (List ℕ)) (rest : List ℕ) → IsPiece held → Front (ended held) ls rest → (ls ≡ []) ⊎ (ls ≡ held ∷ [])
front_of_last held ls rest piece f = none_or_one ls (lines rest) held (front_lines held ls rest piece f)

last_with_end : (held : List ℕ) → last_of (ended held) ≡ ended held ∷ []
last_with_end [] = refl
last_with_end (b ∷ bytes) = refl

-- Cut whole, they are this one.
pub splits_of_last : (held : List ℕ) (ls : List (List ℕ)) (rest : List ℕ) → IsPiece held → Splits (ended held) ls rest → ls ≡ held ∷ []
splits_of_last held [] rest piece s =
    let same : ended held ≡ rest = s.front.whole in
    let one : lines rest ≡ held ∷ [] = front_lines held [] rest piece s.front in
    let behind : last_of (ended held) ≡ held ∷ [] = ap last_of same ∙ sym (lines_piece rest s.partial) ∙ one in
    let longer : ended held ≡ held = cc (sym (last_with_end held) ∙ behind) in
    absurd (omega (arith, ap length longer, length-append held (10 ∷ [])))
splits_of_last held (l ∷ ls) rest piece s = by (none_or_one (l ∷ ls) (lines rest) held (front_lines held (l ∷ ls) rest piece s.front))
  where
    by : ((l ∷ ls ≡ []) ⊎ (l ∷ ls ≡ held ∷ [])) → l ∷ ls ≡ held ∷ []
    by (inl none) = absurd (cc none)
    by (inr one) = one

-- The last of them is this one, and none is before it.
pub stop_of_last : (held : List ℕ) (ls : List (List ℕ)) (line rest : List ℕ) → IsPiece held → Front (ended held) (ls ++ line ∷ []) rest → (ls ≡ []) × (line ≡ held)
stop_of_last held [] line rest piece f = let e : line ∷ lines rest ≡ held ∷ [] = front_lines held (line ∷ []) rest piece f in let same : line ≡ held = cc e in (refl, same)
stop_of_last held (l ∷ []) line rest piece f = absurd (cc (front_lines held (l ∷ line ∷ []) rest piece f))
stop_of_last held (l ∷ k ∷ ls) line rest piece f = absurd (cc (front_lines held (l ∷ k ∷ (ls ++ line ∷ [])) rest piece f))

take_none : (n : ℕ) → take n [] ≡ take {A = ℕ} 0 []
take_none zero = refl
take_none (suc n) = refl

-- What is a beginning of nothing is one of anything.
pub part_of_none : (a b : Option (List ℕ)) (x : List ℕ) → AppendsPart a b [] → AppendsPart a b x
part_of_none None b x h = tt
part_of_none (Some a) None x h = absurd h
part_of_none (Some a) (Some b) x h = (0, h.1 ∙ ap (λ z. a ++ z) (take_none h.0))

-- A beginning of a piece is one.
pub piece_front : (n : ℕ) (xs : List ℕ) → IsPiece xs → IsPiece (take n xs)
piece_front zero xs h = refl
piece_front (suc n) [] h = refl
piece_front (suc n) (x ∷ xs) h = by_byte (x == 10) refl h (piece_front n xs)
  where
    by_byte : (b : Bool) → (x == 10) ≡ b → cond b 0 (suc (first_at 10 xs)) ≡ suc (length xs) → (IsPiece xs → IsPiece (take n xs)) → IsPiece (x ∷ take n xs)
    by_byte true e h more = absurd (omega (arith, h))
    by_byte false e h more = ap (λ b. cond b 0 (suc (first_at 10 (take n xs)))) e ∙ ap suc (more (omega (arith, h)))
