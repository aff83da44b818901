-- Lines, words and numbers.
use Rattle.std.specs.Prelude.{ℕ, ◌+◌, ◌-◌, ◌*◌, ◌^◌, Bool, true, false, not, ◌&&◌, ◌==◌, nat_lt, nat_le, List, [], ◌∷◌, ◌++◌, Option, Some, None, if◌then◌else◌}

-- The list before is longer by the byte.
abbrev pub onto_first : ℕ → List (List ℕ) → List (List ℕ)
onto_first b [] = (b ∷ []) ∷ []
onto_first b (word ∷ words) = (b ∷ word) ∷ words

-- Lines: cut at each byte 10. A rest that isn't empty is a line.
abbrev pub lines : List ℕ → List (List ℕ)
lines [] = []
lines (b ∷ bytes) = if b == 10 then [] ∷ lines bytes else onto_first b (lines bytes)

-- Words: cut at each space. An extra space makes an empty word, which is no keyword and no number.
abbrev pub words : List ℕ → List (List ℕ)
words [] = [] ∷ []
words (b ∷ bytes) = if b == 32 then [] ∷ words bytes else onto_first b (words bytes)

-- Words with one space between two.
abbrev pub spaced : List (List ℕ) → List ℕ
spaced [] = []
spaced (word ∷ []) = word
spaced (word ∷ next ∷ words) = word ++ 32 ∷ spaced (next ∷ words)

abbrev pub is_digit : ℕ → Bool
is_digit b = nat_le 48 b && nat_le b 57

abbrev pub are_digits : List ℕ → Bool
are_digits [] = true
are_digits (b ∷ bytes) = is_digit b && are_digits bytes

-- There is a digit, and the first digit isn't a 0 with more digits after it.
abbrev pub starts_well : List ℕ → Bool
starts_well [] = false
starts_well (b ∷ []) = true
starts_well (b ∷ c ∷ bytes) = not (b == 48)

-- 0, or digits of which the first isn't 0.
abbrev pub is_numeral : List ℕ → Bool
is_numeral word = starts_well word && are_digits word

-- The value of more digits after a number.
abbrev pub value_from : ℕ → List ℕ → ℕ
value_from value [] = value
value_from value (b ∷ bytes) = value_from (value * 10 + (b - 48)) bytes

abbrev pub value : List ℕ → ℕ
value word = value_from 0 word

-- The number that a word spells, at most 2 ^ 40 - 1.
abbrev pub number : List ℕ → Option ℕ
number word = if is_numeral word && nat_lt (value word) (2 ^ 40) then Some (value word) else None

-- The rest after a word: nothing, or a space and more words.
abbrev pub words_after : List ℕ → List (List ℕ)
words_after [] = []
words_after (space ∷ bytes) = words bytes

abbrev pub is_nil : List (List ℕ) → Bool
is_nil [] = true
is_nil (word ∷ words) = false
