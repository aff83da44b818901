-- Words, cut at the first space.
use Rattle.std.proofs.Common.{◌≡◌, ℕ, ◌∙◌, suc, sym, Bool, true, false, List, [], ◌∷◌, length, take, drop, refl, ap, cond, arith}
use Rattle.std.specs.Prelude.{◌==◌}
use Rattle.replay.specs.Words.{words, words_after, onto_first, is_nil}
use Rattle.replay.specs.Scanned.{first_at}

pub words_cut : (bytes : List ℕ) → words bytes ≡ take (first_at 32 bytes) bytes ∷ words_after (drop (first_at 32 bytes) bytes)
words_cut [] = refl
words_cut (b ∷ bytes) = cut_by (b == 32) (words_cut bytes)
  where
    cut_by : (is : Bool) → words bytes ≡ take (first_at 32 bytes) bytes ∷ words_after (drop (first_at 32 bytes) bytes) → cond is ([] ∷ words bytes) (onto_first b (words bytes)) ≡ take (cond is 0 (suc (first_at 32 bytes))) (b ∷ bytes) ∷ words_after (drop (cond is 0 (suc (first_at 32 bytes))) (b ∷ bytes))
    cut_by true h = refl
    cut_by false h = ap (onto_first b) h

pub none_left : (tail : List ℕ) → is_nil (words_after tail) ≡ (length tail == 0)
none_left [] = refl
none_left (space ∷ bytes) = let no : (length (space ∷ bytes) == 0) ≡ false = grind arith in ap is_nil (words_cut bytes) ∙ sym no
