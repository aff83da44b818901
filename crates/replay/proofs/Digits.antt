-- A number that ends a line, read at once.
use Rattle.std.proofs.Common.{◌≡◌, ℕ, ◌+◌, ◌∙◌, sym, List, [], ◌∷◌, length, take, drop, Option, Some, refl, ap, subst, arith}
use Rattle.std.specs.Prelude.{option_map, option_and_then}
use Rattle.replay.specs.Words.{words, words_after, number}
use Rattle.replay.specs.Scanned.{first_at}
use Rattle.replay.specs.Grammar.{took, none_after, last_number}
use Rattle.replay.proofs.Lists.{take_all}
use Rattle.replay.proofs.Spellings.{IsWord, words_word, decimal_word, decimal_of_number}

-- A number has no space in it.
number_word : (word : List ℕ) (n : ℕ) → number word ≡ Some n → IsWord word
number_word word n read =
    let is = decimal_of_number word n read in
    subst (λ (w : List ℕ). IsWord w) (sym is.0) (decimal_word n is.1)

abbrev alone : ℕ → ℕ × List (List ℕ)
alone n = (n, [])

-- The bytes behind the first, where they are a number.
pub number_last : (k n : ℕ) (tail : List ℕ) → length tail ≡ k + 1 → number (take k (drop 1 tail)) ≡ Some n → Some n ≡ last_number (words_after tail)
number_last k n [] all read = absurd (omega (arith, all))
number_last k n (b ∷ bytes) all read =
    let is : number bytes ≡ Some n = ap number (sym (take_all k bytes (omega (arith, all)))) ∙ read in
    ap (λ o. option_and_then (λ taken. none_after taken.0 taken.1) (option_map alone o)) (sym is)
    ∙ ap last_number (sym (words_word bytes (number_word bytes n is)))
