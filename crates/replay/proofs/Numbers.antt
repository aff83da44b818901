-- A number, read digit by digit.
use Rattle.std.proofs.Common.{◌≡◌, ℕ, ◌+◌, ◌-◌, ◌*◌, ◌^◌, ◌<◌, ◌≤◌, ◌∙◌, suc, sym, Bool, true, false, not, List, [], ◌∷◌, length, take, drop, Option, Some, None, refl, ap, cond, arith}
use Rattle.std.specs.Prelude.{◌==◌, ◌&&◌, nat_lt, option_map, option_and_then}
use Rattle.std.proofs.Common.{Bor}
use Rattle.replay.proofs.Lists.{rest_all}
use Rattle.replay.specs.Words.{words, words_after, is_nil, is_digit, are_digits, value_from, value, number, starts_well}
use Rattle.replay.specs.Scanned.{first_at, digits_from, begins_well}
use Rattle.replay.specs.Grammar.{took, numbers}
use Rattle.replay.proofs.Cuts.{words_cut}

-- A number digit by digit: too great as soon as a beginning is.
abbrev number_from : ℕ → List ℕ → Option ℕ
number_from n [] = Some n
number_from n (b ∷ bytes) = cond (is_digit b) (cond (nat_lt (n * 10 + (b - 48)) (2 ^ 40)) (number_from (n * 10 + (b - 48)) bytes) None) None

abbrev said : Bool → ℕ → Option ℕ
said ok n = cond (ok && nat_lt n (2 ^ 40)) (Some n) None

value_up : (n : ℕ) (bytes : List ℕ) → n ≤ value_from n bytes
value_up n [] = omega arith
value_up n (b ∷ bytes) = let up = value_up (n * 10 + (b - 48)) bytes in omega arith

too_big : (n : ℕ) (bytes : List ℕ) (ok : Bool) → nat_lt n (2 ^ 40) ≡ false → None ≡ said ok (value_from n bytes)
too_big n bytes false h = refl
too_big n bytes true h =
    let up = value_up n bytes in
    let no : nat_lt (value_from n bytes) (2 ^ 40) ≡ false = grind (arith, up) in
    ap (λ b. cond b (Some (value_from n bytes)) None) (sym no)

from_digits : (n : ℕ) (bytes : List ℕ) → n < 2 ^ 40 → number_from n bytes ≡ said (are_digits bytes) (value_from n bytes)
from_digits n [] h = let is : nat_lt n (2 ^ 40) ≡ true = grind arith in ap (λ b. cond b (Some n) None) (sym is)
from_digits n (b ∷ bytes) h = by_digit (is_digit b) (nat_lt (n * 10 + (b - 48)) (2 ^ 40)) refl (λ small. from_digits (n * 10 + (b - 48)) bytes small)
  where
    by_digit : (d small : Bool) → nat_lt (n * 10 + (b - 48)) (2 ^ 40) ≡ small → (n * 10 + (b - 48) < 2 ^ 40 → number_from (n * 10 + (b - 48)) bytes ≡ said (are_digits bytes) (value_from (n * 10 + (b - 48)) bytes)) → cond d (cond small (number_from (n * 10 + (b - 48)) bytes) None) None ≡ said (d && are_digits bytes) (value_from (n * 10 + (b - 48)) bytes)
    by_digit false small e rest = refl
    by_digit true false e rest = too_big (n * 10 + (b - 48)) bytes (are_digits bytes) e
    by_digit true true e rest = rest (grind arith)

number_read : (word : List ℕ) → starts_well word ≡ true → number word ≡ number_from 0 word
number_read word h = ap (λ b. said (b && are_digits word) (value word)) h ∙ sym (from_digits 0 word (omega arith))

no_number : (word : List ℕ) → starts_well word ≡ false → number word ≡ None
no_number word h = ap (λ b. said (b && are_digits word) (value word)) h

-- the first word
abbrev first_word : List ℕ → List ℕ
first_word bytes = take (first_at 32 bytes) bytes

-- digits are read up to the first space
digits_cut : (n : ℕ) (bytes : List ℕ) → digits_from n bytes ≡ option_map (λ v. (v, drop (first_at 32 bytes) bytes)) (number_from n (take (first_at 32 bytes) bytes))
digits_cut n [] = refl
digits_cut n (b ∷ bytes) = by_space (b == 32) (digits_cut (n * 10 + (b - 48)) bytes)
  where
    next : ℕ
    next = n * 10 + (b - 48)

    by_digit : (d small : Bool) → digits_from (n * 10 + (b - 48)) bytes ≡ option_map (λ v. (v, drop (first_at 32 bytes) bytes)) (number_from (n * 10 + (b - 48)) (take (first_at 32 bytes) bytes))
        → cond d (cond small (digits_from (n * 10 + (b - 48)) bytes) None) None ≡ option_map (λ v. (v, drop (first_at 32 bytes) bytes)) (cond d (cond small (number_from (n * 10 + (b - 48)) (take (first_at 32 bytes) bytes)) None) None)
    by_digit false small h = refl
    by_digit true false h = refl
    by_digit true true h = h

    by_space : (s : Bool) → digits_from (n * 10 + (b - 48)) bytes ≡ option_map (λ v. (v, drop (first_at 32 bytes) bytes)) (number_from (n * 10 + (b - 48)) (take (first_at 32 bytes) bytes))
        → cond s (Some (n, b ∷ bytes)) (cond (is_digit b) (cond (nat_lt (n * 10 + (b - 48)) (2 ^ 40)) (digits_from (n * 10 + (b - 48)) bytes) None) None)
        ≡ option_map (λ v. (v, drop (cond s 0 (suc (first_at 32 bytes))) (b ∷ bytes))) (number_from n (take (cond s 0 (suc (first_at 32 bytes))) (b ∷ bytes)))
    by_space true h = refl
    by_space false h = by_digit (is_digit b) (nat_lt (n * 10 + (b - 48)) (2 ^ 40)) h

begins : (bytes : List ℕ) → begins_well bytes ≡ starts_well (take (first_at 32 bytes) bytes)
begins [] = refl
begins (b ∷ []) = by_space (b == 32)
  where
    by_space : (s : Bool) → cond s false true ≡ starts_well (take (cond s 0 1) (b ∷ []))
    by_space true = refl
    by_space false = refl
begins (b ∷ c ∷ bytes) = by_space (b == 32) (c == 32)
  where
    by_space : (s t : Bool) → cond s false (cond t true (not (b == 48))) ≡ starts_well (take (cond s 0 (suc (cond t 0 (suc (first_at 32 bytes))))) (b ∷ c ∷ bytes))
    by_space true t = refl
    by_space false true = refl
    by_space false false = refl

-- a number, and the words behind it
abbrev with_words : ℕ × List ℕ → ℕ × List (List ℕ)
with_words taken = (taken.0, words_after taken.1)

abbrev seen : ℕ × Bor (List ℕ) → ℕ × List ℕ
seen taken = (taken.0, taken.1.now)

abbrev seen_words : ℕ × Bor (List ℕ) → ℕ × List (List ℕ)
seen_words taken = (taken.0, words_after taken.1.now)

abbrev before : List ℕ → ℕ → ℕ × List ℕ
before rest n = (n, rest)

abbrev before_words : List ℕ → ℕ → ℕ × List (List ℕ)
before_words rest n = (n, words_after rest)

-- what the next word is, as a number
took_cut : (bytes : List ℕ) → took (words bytes) ≡ option_map (before_words (drop (first_at 32 bytes) bytes)) (number (take (first_at 32 bytes) bytes))
took_cut bytes = ap took (words_cut bytes)

map_twice : (o : Option ℕ) (rest : List ℕ) → option_map (before_words rest) o ≡ option_map with_words (option_map (before rest) o)
map_twice None rest = refl
map_twice (Some n) rest = refl

pub next_read : (bytes : List ℕ) → begins_well bytes ≡ true → took (words bytes) ≡ option_map with_words (digits_from 0 bytes)
next_read bytes h =
    took_cut bytes
    ∙ ap (option_map (before_words (drop (first_at 32 bytes) bytes))) (number_read (take (first_at 32 bytes) bytes) (sym (begins bytes) ∙ h))
    ∙ map_twice (number_from 0 (take (first_at 32 bytes) bytes)) (drop (first_at 32 bytes) bytes)
    ∙ ap (option_map with_words) (sym (digits_cut 0 bytes))

pub no_next : (bytes : List ℕ) → begins_well bytes ≡ false → took (words bytes) ≡ None
no_next bytes h =
    took_cut bytes
    ∙ ap (option_map (before_words (drop (first_at 32 bytes) bytes))) (no_number (take (first_at 32 bytes) bytes) (sym (begins bytes) ∙ h))

twice : (r : Option (ℕ × Bor (List ℕ))) → option_map with_words (option_map seen r) ≡ option_map seen_words r
twice None = refl
twice (Some taken) = refl

-- the bytes behind the first
behind : (b : ℕ) (bytes : List ℕ) → take (length (b ∷ bytes) - 1) (drop 1 (b ∷ bytes)) ≡ bytes
behind b bytes = rest_all 1 (b ∷ bytes)

pub next_taken : (tail : List ℕ) (r : Option (ℕ × Bor (List ℕ))) → 1 ≤ length tail → begins_well (take (length tail - 1) (drop 1 tail)) ≡ true
    → option_map seen r ≡ digits_from 0 (take (length tail - 1) (drop 1 tail))
    → option_map seen_words r ≡ took (words_after tail)
next_taken [] r some well read = absurd (omega (arith, some))
next_taken (b ∷ bytes) r some well read =
    sym (twice r)
    ∙ ap (option_map with_words) (read ∙ ap (digits_from 0) (behind b bytes))
    ∙ sym (next_read bytes (ap begins_well (sym (behind b bytes)) ∙ well))

pub next_missing : (tail : List ℕ) → 1 ≤ length tail → begins_well (take (length tail - 1) (drop 1 tail)) ≡ false → None ≡ took (words_after tail)
next_missing [] some ill = absurd (omega (arith, some))
next_missing (b ∷ bytes) some ill = sym (no_next bytes (ap begins_well (sym (behind b bytes)) ∙ ill))

abbrev pair : ℕ → List (List ℕ) → ℕ × List (List ℕ)
pair n words = (n, words)

-- A first word that is no number.
pub no_numbers : (args : List (List ℕ)) → is_nil args ≡ false → took args ≡ None → numbers args ≡ None
no_numbers [] some missing = absurd (cc some)
no_numbers (word ∷ words) some missing = by_number (number word) missing
  where
    by_number : (o : Option ℕ) → option_map (λ n. pair n words) o ≡ None → option_and_then (λ n. option_map (λ ns. n ∷ ns) (numbers words)) o ≡ None
    by_number None h = refl
    by_number (Some n) h = absurd (cc h)
