-- Marks of bytes as they come are the marks of the lines that the bytes are cut into.
use Rattle.std.proofs.Common.{◌≡◌, ℕ, ◌∙◌, sym, Bool, true, false, List, [], ◌∷◌, ◌++◌, take, refl, ap, cond, zero, suc, Option, None}
use Rattle.std.specs.Prelude.{◌==◌}
use Rattle.system.specs.World.{World}
use Rattle.replay.specs.Words.{lines, onto_first}
use Rattle.replay.specs.Text.{after_line}
use Rattle.std.proofs.lemmas.List.{append-nil}
use Rattle.run_picture.specs.Told.{Told}
use Rattle.run_picture.specs.Marks.{told_line, told_lines}
use Rattle.run_picture.specs.Reading.{told_from}

-- What is kept of the beginning is enough.
take_again : (n : ℕ) (begin more : List ℕ) → take n (take n begin ++ more) ≡ take n (begin ++ more)
take_again zero begin more = refl
take_again (suc n) [] more = refl
take_again (suc n) (b ∷ begin) more = ap (λ z. b ∷ z) (take_again n begin more)

-- The first line is longer by these bytes.
abbrev onto : List ℕ → List (List ℕ) → List (List ℕ)
onto [] ls = ls
onto (b ∷ tail) ls = onto_first b (onto tail ls)

onto_line : (tail line : List ℕ) (ls : List (List ℕ)) → onto tail (line ∷ ls) ≡ (tail ++ line) ∷ ls
onto_line [] line ls = refl
onto_line (b ∷ tail) line ls = ap (onto_first b) (onto_line tail line ls)

onto_none : (b : ℕ) (tail : List ℕ) → onto (b ∷ tail) [] ≡ (b ∷ tail) ∷ []
onto_none b [] = refl
onto_none b (c ∷ tail) = ap (onto_first b) (onto_none c tail)

onto_byte : (tail : List ℕ) (b : ℕ) (ls : List (List ℕ)) → onto (tail ++ b ∷ []) ls ≡ onto tail (onto_first b ls)
onto_byte [] b ls = refl
onto_byte (c ∷ tail) b ls = ap (onto_first c) (onto_byte tail b ls)

told_onto : (world : Option World) (tail bytes : List ℕ) → told_from world (take 1025 tail) bytes ≡ told_lines world (onto tail (lines bytes))
told_onto world [] [] = refl
told_onto world (b ∷ tail) [] = ap (told_lines world) (sym (onto_none b tail))
told_onto world tail (b ∷ bytes) = by_byte (b == 10) refl (told_onto (after_line world (take 1025 tail)) [] bytes) (told_onto world (tail ++ b ∷ []) bytes)
  where
    ends : List Told
    ends = told_line world (take 1025 tail) ∷ told_from (after_line world (take 1025 tail)) [] bytes

    goes : List Told
    goes = told_from world (take 1025 (take 1025 tail ++ b ∷ [])) bytes

    cut : Bool → List (List ℕ)
    cut is = onto tail (cond is ([] ∷ lines bytes) (onto_first b (lines bytes)))

    by_byte : (is : Bool) → (b == 10) ≡ is → told_from (after_line world (take 1025 tail)) [] bytes ≡ told_lines (after_line world (take 1025 tail)) (lines bytes)
        → told_from world (take 1025 (tail ++ b ∷ [])) bytes ≡ told_lines world (onto (tail ++ b ∷ []) (lines bytes))
        → cond (b == 10) ends goes ≡ told_lines world (cut (b == 10))
    by_byte true e line piece = ap (λ is. cond is ends goes) e ∙ ap (λ z. told_line world (take 1025 tail) ∷ z) line
        ∙ ap (told_lines world) (sym (onto_line tail [] (lines bytes) ∙ ap (λ z. z ∷ lines bytes) (append-nil tail)) ∙ sym (ap cut e))
    by_byte false e line piece = ap (λ is. cond is ends goes) e ∙ ap (λ z. told_from world z bytes) (take_again 1025 tail (b ∷ [])) ∙ piece
        ∙ ap (told_lines world) (onto_byte tail b (lines bytes) ∙ sym (ap cut e))

pub told_all : (bytes : List ℕ) → told_from None [] bytes ≡ told_lines None (lines bytes)
told_all bytes = told_onto None [] bytes
