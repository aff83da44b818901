-- Which words spell the number of a line.
use Rattle.std.proofs.Common.{◌≡◌, ℕ, ◌^◌, ◌<◌, ◌≤◌, Bool, true, false, List, Option, Some, None, refl, ap, ◌∙◌, arith}
use Rattle.std.specs.Prelude.{nat_le, decimal, option_and_then, if◌then◌else◌}
use Rattle.replay.specs.Words.{number}
use Rattle.replay.proofs.Spellings.{number_of_decimal, decimal_of_number}
use Rattle.run_picture.specs.Words.{line_of}

abbrev from_one : ℕ → Option ℕ
from_one n = if nat_le 1 n then Some n else None

-- A number in decimal, from 1 on.
pub line_of_decimal : (word : List ℕ) (n : ℕ) → word ≡ decimal n → 1 ≤ n → n < 2 ^ 40 → line_of word ≡ Some n
line_of_decimal word n is some few =
    let spelled : number word ≡ Some n = ap number is ∙ number_of_decimal n few in
    let first : nat_le 1 n ≡ true = grind (arith, some) in
    ap (λ o. option_and_then from_one o) spelled ∙ ap (λ (b : Bool). if b then Some n else None) first

-- No other word.
pub no_line_of : (word : List ℕ) → ((n : ℕ) → word ≡ decimal n → 1 ≤ n → n < 2 ^ 40 → ⊥) → line_of word ≡ None
no_line_of word none = by_number (number word) refl
  where
    by_least : (n : ℕ) (b : Bool) → nat_le 1 n ≡ b → number word ≡ Some n → (if b then Some n else None) ≡ None
    by_least n false e spelled = refl
    by_least n true e spelled =
        let is = decimal_of_number word n spelled in
        absurd (none n is.0 (grind (arith, e)) is.1)

    by_number : (o : Option ℕ) → number word ≡ o → option_and_then from_one o ≡ None
    by_number None e = refl
    by_number (Some n) e = by_least n (nat_le 1 n) refl e
