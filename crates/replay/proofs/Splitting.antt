-- Bytes, cut into lines.
use Rattle.std.proofs.Common.{◌≡◌, ℕ, ◌+◌, ◌<◌, ◌∙◌, suc, sym, Bool, true, false, List, [], ◌∷◌, ◌++◌, length, take, refl, ap, cond, arith, append_assoc, Option, None}
use Rattle.std.specs.Prelude.{◌==◌}
use Rattle.std.specs.List.{flat_map, AllByRecursion}
use Rattle.system.specs.World.{World}
use Rattle.replay.specs.Words.{lines, onto_first}
use Rattle.replay.specs.Scanned.{first_at}
use Rattle.replay.specs.Text.{line_text, after_line, told, text}
use Rattle.replay.specs.Streams.{IsPiece, ended, Front, Splits, after_lines, last_of}

pub told_both : (world : Option World) (xs ys : List (List ℕ)) → told world (xs ++ ys) ≡ told world xs ++ told (after_lines world xs) ys
told_both world [] ys = refl
told_both world (x ∷ xs) ys = ap (λ z. line_text world x ++ z) (told_both (after_line world x) xs ys) ∙ sym (append_assoc (line_text world x) (told (after_line world x) xs) (told (after_lines (after_line world x) xs) ys))

pub after_both : (world : Option World) (xs ys : List (List ℕ)) → after_lines world (xs ++ ys) ≡ after_lines (after_lines world xs) ys
after_both world [] ys = refl
after_both world (x ∷ xs) ys = after_both (after_line world x) xs ys

pub flat_both : (xs ys : List (List ℕ)) → flat_map ended (xs ++ ys) ≡ flat_map ended xs ++ flat_map ended ys
flat_both [] ys = refl
flat_both (x ∷ xs) ys = ap (λ z. ended x ++ z) (flat_both xs ys) ∙ sym (append_assoc (ended x) (flat_map ended xs) (flat_map ended ys))

pub all_both : (xs ys : List (List ℕ)) → AllByRecursion IsPiece xs → AllByRecursion IsPiece ys → AllByRecursion IsPiece (xs ++ ys)
all_both [] ys h k = k
all_both (x ∷ xs) ys h k = (h.0, all_both xs ys h.1 k)

-- Lines, and then more lines of what stood behind them.
pub front_on : (bytes more : List ℕ) (xs ys : List (List ℕ)) (rest rest2 : List ℕ) → Front bytes xs rest → Front (rest ++ more) ys rest2 → Front (bytes ++ more) (xs ++ ys) rest2
front_on bytes more xs ys rest rest2 f g = record {
  whole = ap (λ z. z ++ more) f.whole ∙ append_assoc (flat_map ended xs) rest more
      ∙ ap (λ z. flat_map ended xs ++ z) g.whole ∙ sym (append_assoc (flat_map ended xs) (flat_map ended ys) rest2)
      ∙ ap (λ z. z ++ rest2) (sym (flat_both xs ys));
  each = all_both xs ys f.each g.each;
}

-- Bytes up to the first newline have none.
pub front_piece : (xs : List ℕ) → IsPiece (take (first_at 10 xs) xs)
front_piece [] = refl
front_piece (x ∷ xs) = by_byte (x == 10) refl (front_piece xs)
  where
    by_byte : (b : Bool) → (x == 10) ≡ b → IsPiece (take (first_at 10 xs) xs) → IsPiece (take (cond b 0 (suc (first_at 10 xs))) (x ∷ xs))
    by_byte true e h = refl
    by_byte false e h = ap (λ b. cond b 0 (suc (first_at 10 (take (first_at 10 xs) xs)))) e ∙ ap suc h

pub join_pieces : (xs ys : List ℕ) → IsPiece xs → IsPiece ys → IsPiece (xs ++ ys)
join_pieces [] ys h k = k
join_pieces (x ∷ xs) ys h k = by_byte (x == 10) refl h (join_pieces xs ys)
  where
    by_byte : (b : Bool) → (x == 10) ≡ b → cond b 0 (suc (first_at 10 xs)) ≡ suc (length xs) → (IsPiece xs → IsPiece ys → IsPiece (xs ++ ys)) → IsPiece (x ∷ (xs ++ ys))
    by_byte true e h more = absurd (omega (arith, h))
    by_byte false e h more = ap (λ b. cond b 0 (suc (first_at 10 (xs ++ ys)))) e ∙ ap suc (more (omega (arith, h)) k)

-- The newline follows them.
pub then_newline : (xs : List ℕ) → first_at 10 xs < length xs → take (first_at 10 xs + 1) xs ≡ ended (take (first_at 10 xs) xs)
then_newline [] h = absurd (omega arith)
then_newline (x ∷ xs) h = by_byte (x == 10) refl h (then_newline xs)
  where
    by_byte : (b : Bool) → (x == 10) ≡ b → cond b 0 (suc (first_at 10 xs)) < suc (length xs) → (first_at 10 xs < length xs → take (first_at 10 xs + 1) xs ≡ ended (take (first_at 10 xs) xs)) → take (cond b 0 (suc (first_at 10 xs)) + 1) (x ∷ xs) ≡ ended (take (cond b 0 (suc (first_at 10 xs))) (x ∷ xs))
    by_byte true e h more = let is : x ≡ 10 = grind arith in ap (λ z. z ∷ []) is
    by_byte false e h more = let s : suc (first_at 10 xs) + 1 ≡ suc (first_at 10 xs + 1) = omega arith in rw s (ap (λ z. x ∷ z) (more (omega (arith, h))))

pub lines_piece : (rest : List ℕ) → IsPiece rest → lines rest ≡ last_of rest
lines_piece [] h = refl
lines_piece (b ∷ bytes) h = by_byte (b == 10) refl h (lines_piece bytes)
  where
    onto : (b : ℕ) (bytes : List ℕ) → onto_first b (last_of bytes) ≡ (b ∷ bytes) ∷ []
    onto b [] = refl
    onto b (c ∷ bytes) = refl

    by_byte : (is : Bool) → (b == 10) ≡ is → cond is 0 (suc (first_at 10 bytes)) ≡ suc (length bytes) → (IsPiece bytes → lines bytes ≡ last_of bytes) → lines (b ∷ bytes) ≡ (b ∷ bytes) ∷ []
    by_byte true e h more = absurd (omega (arith, h))
    by_byte false e h more = ap (λ is. cond is ([] ∷ lines bytes) (onto_first b (lines bytes))) e ∙ ap (onto_first b) (more (omega (arith, h))) ∙ onto b bytes

pub lines_line : (line bytes : List ℕ) → IsPiece line → lines (line ++ 10 ∷ bytes) ≡ line ∷ lines bytes
lines_line [] bytes h = refl
lines_line (b ∷ line) bytes h = by_byte (b == 10) refl h (lines_line line bytes)
  where
    by_byte : (is : Bool) → (b == 10) ≡ is → cond is 0 (suc (first_at 10 line)) ≡ suc (length line) → (IsPiece line → lines (line ++ 10 ∷ bytes) ≡ line ∷ lines bytes) → lines (b ∷ (line ++ 10 ∷ bytes)) ≡ (b ∷ line) ∷ lines bytes
    by_byte true e h more = absurd (omega (arith, h))
    by_byte false e h more = ap (λ is. cond is ([] ∷ lines (line ++ 10 ∷ bytes)) (onto_first b (lines (line ++ 10 ∷ bytes)))) e ∙ ap (onto_first b) (more (omega (arith, h)))

pub lines_front : (ls : List (List ℕ)) (rest : List ℕ) → AllByRecursion IsPiece ls → lines (flat_map ended ls ++ rest) ≡ ls ++ lines rest
lines_front [] rest h = refl
lines_front (l ∷ ls) rest h = ap lines (append_assoc (ended l) (flat_map ended ls) rest ∙ append_assoc l (10 ∷ []) (flat_map ended ls ++ rest)) ∙ lines_line l (flat_map ended ls ++ rest) h.0 ∙ ap (λ z. l ∷ z) (lines_front ls rest h.1)

-- The text of what begins with these lines.
pub text_of_front : (bytes : List ℕ) (ls : List (List ℕ)) (rest : List ℕ) → Front bytes ls rest → text bytes ≡ told None ls ++ told (after_lines None ls) (lines rest)
text_of_front bytes ls rest f = ap (told None) (ap lines f.whole ∙ lines_front ls rest f.each) ∙ told_both None ls (lines rest)

-- The text of what splits so.
pub text_of_splits : (bytes : List ℕ) (ls : List (List ℕ)) (rest : List ℕ) → Splits bytes ls rest → text bytes ≡ told None ls ++ told (after_lines None ls) (last_of rest)
text_of_splits bytes ls rest s = text_of_front bytes ls rest s.front ∙ ap (λ z. told None ls ++ told (after_lines None ls) z) (lines_piece rest s.partial)
