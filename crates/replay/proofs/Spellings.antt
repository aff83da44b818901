-- Words and numbers, both ways.
use Rattle.std.proofs.Common.{◌≡◌, ◌≢◌, ℕ, ◌^◌, ◌<◌, ◌∙◌, zero, suc, sym, Bool, true, false, not, List, [], ◌∷◌, ◌++◌, length, get_or, Some, None, refl, ap, cond, arith, rules, map}
use Rattle.std.specs.Prelude.{◌==◌, ◌&&◌, nat_lt, nat_le, decimal}
use Rattle.std.specs.List.{AllByRecursion}
use Rattle.std.proofs.lemmas.Str.Parse.{IsNumeralModel, numerals_by_fold}
use Rattle.std.proofs.lemmas.Fmt.{digits_decimal, digits_value-decimal, decimal-digits_value, decimal_nonempty, decimal_digit, first_decimal}
use Rattle.std.proofs.lemmas.Option.{cond_some}
use Rattle.replay.specs.Words.{words, spaced, onto_first, is_digit, are_digits, is_numeral, starts_well, value_from, value, number}
use Rattle.replay.specs.Scanned.{first_at}
use Rattle.replay.specs.Spelling.{AreSmall}

own : IsNumeralModel (λ ds. are_digits ds ≡ true) (value_from 0)
own = numerals_by_fold _ (search rules) value_from (search rules)

-- No space stands in the word.
abbrev pub IsWord : List ℕ → Type 0
IsWord word = first_at 32 word ≡ length word

-- Digits are a word.
digits_word : (word : List ℕ) → are_digits word ≡ true → IsWord word
digits_word [] h = refl
digits_word (b ∷ bytes) h = by_digit (is_digit b) (nat_le 48 b) refl refl h (digits_word bytes)
  where
    by_digit : (d e : Bool) → is_digit b ≡ d → nat_le 48 b ≡ e → (d && are_digits bytes) ≡ true → (are_digits bytes ≡ true → IsWord bytes) → IsWord (b ∷ bytes)
    by_digit false e p q h more = absurd (cc h)
    by_digit true false p q h more = absurd (cc (sym p ∙ ap (λ x. x && nat_le b 57) q))
    by_digit true true p q h more =
        let no : (b == 32) ≡ false = grind (arith, q) in
        ap (λ is. cond is 0 (suc (first_at 32 bytes))) no ∙ ap suc (more h)

pub decimal_word : (n : ℕ) → n < 2 ^ 40 → IsWord (decimal n)
decimal_word n h = digits_word (decimal n) (digits_decimal own n (omega arith))

starts_by : (ds : List ℕ) → 0 < length ds → (get_or ds 0 0 ≢ 48) → starts_well ds ≡ true
starts_by [] some h = absurd (omega (arith, some))
starts_by (b ∷ []) some h = refl
starts_by (b ∷ c ∷ ds) some h = let no : (b == 48) ≡ false = grind (arith, h) in ap not no

decimal_starts : (n : ℕ) → n < 2 ^ 64 → starts_well (decimal n) ≡ true
decimal_starts zero h = ap starts_well (decimal_digit 0 (omega arith))
decimal_starts (suc n) h = starts_by (decimal (suc n)) (decimal_nonempty (suc n) h) (λ e. omega (arith, first_decimal (suc n) (omega arith) h, e))

pub number_of_decimal : (n : ℕ) → n < 2 ^ 40 → number (decimal n) ≡ Some n
number_of_decimal n h =
    let wide : n < 2 ^ 64 = omega arith in
    let v = digits_value-decimal own n wide in
    let small : nat_lt (value (decimal n)) (2 ^ 40) ≡ true = grind (arith, v, h) in
    ap (λ b. cond ((b && are_digits (decimal n)) && nat_lt (value (decimal n)) (2 ^ 40)) (Some (value (decimal n))) None) (decimal_starts n wide)
    ∙ ap (λ b. cond (b && nat_lt (value (decimal n)) (2 ^ 40)) (Some (value (decimal n))) None) (digits_decimal own n wide)
    ∙ ap (λ b. cond b (Some (value (decimal n))) None) small
    ∙ ap Some v

starts_one : (word : List ℕ) → starts_well word ≡ true → (0 < length word) × (get_or word 0 0 ≡ 48 → length word ≡ 1)
starts_one [] h = absurd (cc h)
starts_one (b ∷ []) h = (omega arith, λ e. refl)
starts_one (b ∷ c ∷ word) h = (omega arith, λ e. absurd (cc (ap (λ k. not (k == 48)) (sym e) ∙ h)))

both : (a b : Bool) → (a && b) ≡ true → (a ≡ true) × (b ≡ true)
both true b h = (refl, h)
both false b h = absurd (cc h)

-- A word is a number only as its decimal.
pub decimal_of_number : (word : List ℕ) (n : ℕ) → number word ≡ Some n → (word ≡ decimal n) × (n < 2 ^ 40)
decimal_of_number word n h =
    let parts = cond_some (is_numeral word && nat_lt (value word) (2 ^ 40)) (value word) n h in
    let tests = both (is_numeral word) (nat_lt (value word) (2 ^ 40)) parts.0 in
    let numeral = both (starts_well word) (are_digits word) tests.0 in
    let one = starts_one word numeral.0 in
    let small : value word < 2 ^ 40 = grind (arith, tests.1) in
    (sym (decimal-digits_value own word numeral.1 one.0 one.1 (omega (arith, small))) ∙ ap decimal parts.1, omega (arith, small, parts.1))

-- Lines and words, both ways.
spaced_onto : (b : ℕ) (ws : List (List ℕ)) → spaced (onto_first b ws) ≡ b ∷ spaced ws
spaced_onto b [] = refl
spaced_onto b (w ∷ []) = refl
spaced_onto b (w ∷ v ∷ ws) = refl

spaced_cut : (ws : List (List ℕ)) → 0 < length ws → spaced ([] ∷ ws) ≡ 32 ∷ spaced ws
spaced_cut [] h = absurd (omega (arith, h))
spaced_cut (w ∷ ws) h = refl

some_words : (line : List ℕ) → 0 < length (words line)
some_words [] = omega arith
some_words (b ∷ bytes) = by_space (b == 32) (some_words bytes)
  where
    longer : (ws : List (List ℕ)) → 0 < length ws → 0 < length (onto_first b ws)
    longer [] h = absurd (omega (arith, h))
    longer (w ∷ ws) h = omega arith

    by_space : (s : Bool) → 0 < length (words bytes) → 0 < length (cond s ([] ∷ words bytes) (onto_first b (words bytes)))
    by_space true h = omega arith
    by_space false h = longer (words bytes) h

pub spaced_words : (line : List ℕ) → spaced (words line) ≡ line
spaced_words [] = refl
spaced_words (b ∷ bytes) = by_space (b == 32) refl (spaced_words bytes)
  where
    by_space : (s : Bool) → (b == 32) ≡ s → spaced (words bytes) ≡ bytes → spaced (cond s ([] ∷ words bytes) (onto_first b (words bytes))) ≡ b ∷ bytes
    by_space true e h = let is : 32 ≡ b = grind (arith, e) in spaced_cut (words bytes) (some_words bytes) ∙ ap (λ z. 32 ∷ z) h ∙ ap (λ z. z ∷ bytes) is
    by_space false e h = spaced_onto b (words bytes) ∙ ap (λ z. b ∷ z) h

pub words_word : (word : List ℕ) → IsWord word → words word ≡ word ∷ []
words_word [] h = refl
words_word (b ∷ word) h = by_space (b == 32) refl h (words_word word)
  where
    by_space : (s : Bool) → (b == 32) ≡ s → cond s 0 (suc (first_at 32 word)) ≡ suc (length word) → (IsWord word → words word ≡ word ∷ []) → words (b ∷ word) ≡ (b ∷ word) ∷ []
    by_space true e h more = absurd (omega (arith, h))
    by_space false e h more = ap (λ is. cond is ([] ∷ words word) (onto_first b (words word))) e ∙ ap (onto_first b) (more (omega (arith, h)))

words_more : (word bytes : List ℕ) → IsWord word → words (word ++ 32 ∷ bytes) ≡ word ∷ words bytes
words_more [] bytes h = refl
words_more (b ∷ word) bytes h = by_space (b == 32) refl h (words_more word bytes)
  where
    by_space : (s : Bool) → (b == 32) ≡ s → cond s 0 (suc (first_at 32 word)) ≡ suc (length word) → (IsWord word → words (word ++ 32 ∷ bytes) ≡ word ∷ words bytes) → words (b ∷ (word ++ 32 ∷ bytes)) ≡ (b ∷ word) ∷ words bytes
    by_space true e h more = absurd (omega (arith, h))
    by_space false e h more = ap (λ is. cond is ([] ∷ words (word ++ 32 ∷ bytes)) (onto_first b (words (word ++ 32 ∷ bytes)))) e ∙ ap (onto_first b) (more (omega (arith, h)))

pub words_spaced : (word : List ℕ) (ws : List (List ℕ)) → IsWord word → AllByRecursion IsWord ws → words (spaced (word ∷ ws)) ≡ word ∷ ws
words_spaced word [] h k = words_word word h
words_spaced word (next ∷ ws) h k = words_more word (spaced (next ∷ ws)) h ∙ ap (λ z. word ∷ z) (words_spaced next ws k.0 k.1)

pub decimals_words : (ns : List ℕ) → AreSmall ns → AllByRecursion IsWord (map decimal ns)
decimals_words [] h = tt
decimals_words (n ∷ ns) h = (decimal_word n h.0, decimals_words ns h.1)
