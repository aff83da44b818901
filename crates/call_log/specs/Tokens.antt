-- Tokens of a line.
use Rattle.std.specs.Prelude.{ℕ, suc, ◌+◌, ◌-◌, ◌*◌, ◌^◌, ◌==◌, nat_lt, bytes_eq, decimal, map, List, [], ◌∷◌, Option, Some, None, option_and_then, if◌then◌else◌}
use Rattle.std.specs.List.{slice_split}
use Rattle.call_log.specs.declared.word.Word.{Word}
use Rattle.call_log.specs.declared.tokens.Token.{Token}
use Rattle.call_log.specs.declared.tokens.Token.TheVariants as token
use Rattle.call_log.specs.Words.{word_text, word_of}

-- The value of a number followed by these digits; None as soon as a prefix is too great.
abbrev pub value : ℕ → List ℕ → Option ℕ
value n [] = Some n
value n (b ∷ bytes) = if nat_lt (n * 10 + (b - 48)) (2 ^ 40) then value (n * 10 + (b - 48)) bytes else None

-- The number that has these bytes as its decimal.
abbrev pub number : List ℕ → Option ℕ
number bytes = option_and_then (λ n. if bytes_eq bytes (decimal n) then Some n else None) (value 0 bytes)

abbrev pub token_by : Option Word → Option ℕ → Token
token_by (Some word) n = token.Word word
token_by None (Some n) = token.Number n
token_by None None = token.Other

abbrev pub token_of : List ℕ → Token
token_of bytes = token_by (word_of bytes) (number bytes)

-- A line is cut at each space.
abbrev pub tokens_of : List ℕ → List Token
tokens_of line = map token_of (slice_split (λ b. b == 32) line)

-- How a token is spelled.
abbrev pub token_text : Token → List ℕ
token_text (token.Number n) = decimal n
token_text (token.Word word) = word_text word
token_text token.Other = []

-- How many tokens at the beginning are numbers.
abbrev pub count_from : List Token → ℕ
count_from (token.Number n ∷ tokens) = suc (count_from tokens)
count_from _ = 0

-- The numbers at the beginning of the tokens.
abbrev pub numbers_from : List Token → List ℕ
numbers_from (token.Number n ∷ tokens) = n ∷ numbers_from tokens
numbers_from _ = []

-- The position of the first newline, or the length if there is none.
abbrev pub end_of : List ℕ → ℕ
end_of [] = 0
end_of (b ∷ bytes) = if b == 10 then 0 else suc (end_of bytes)
