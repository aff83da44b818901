-- What is wrong with a line.
use Rattle.std.specs.Prelude.{ℕ, ◌+◌, ◌-◌, ◌%◌, ◌==◌, nat_lt, Bool, true, false, not, ◌&&◌, ◌||◌, is_some, length, drop, slice_index_or, List, Option, Some, None, if◌then◌else◌}
use Rattle.call_log.specs.declared.word.Word.TheVariants as word
use Rattle.call_log.specs.declared.tokens.Token.{Token}
use Rattle.call_log.specs.declared.tokens.Token.TheVariants as token
use Rattle.call_log.specs.declared.faults.Fault.{Fault}
use Rattle.call_log.specs.declared.faults.Fault.TheVariants as fault
use Rattle.call_log.specs.Arity.{call_range, answer_range, is_within}
use Rattle.call_log.specs.Tokens.{count_from}

abbrev pub at : List Token → ℕ → Token
at tokens i = slice_index_or tokens i token.Other

abbrev pub is_number : Token → Bool
is_number (token.Number n) = true
is_number _ = false

abbrev pub is_minus : Token → Bool
is_minus (token.Word word.Minus) = true
is_minus _ = false

abbrev pub is_question : Token → Bool
is_question (token.Word word.Question) = true
is_question _ = false

abbrev pub is_colon : Token → Bool
is_colon (token.Word word.Colon) = true
is_colon _ = false

abbrev pub is_semicolon : Token → Bool
is_semicolon (token.Word word.Semicolon) = true
is_semicolon _ = false

abbrev pub calls : Token → Bool
calls (token.Word w) = is_some (call_range w)
calls _ = false

abbrev pub answers : Token → Bool
answers (token.Word w) = is_some (answer_range w)
answers _ = false

abbrev pub takes : Token → ℕ → Bool
takes (token.Word w) count = is_within (call_range w) count
takes _ count = false

abbrev pub says : Token → ℕ → Bool
says (token.Word w) count = is_within (answer_range w) count
says _ count = false

abbrev pub same : Bool → Bool → Bool
same true b = b
same false b = not b

-- Faults in the stream, the tickets and the call's word.
abbrev pub head_fault : List Token → Option Fault
head_fault tokens =
    if not (is_number (at tokens 0)) then Some fault.Stream
    else if not (is_number (at tokens 1)) then Some fault.Before
    else if not (is_number (at tokens 2) || is_minus (at tokens 2)) then Some fault.After
    else if not (calls (at tokens 3)) then Some fault.Call
    else None

-- Faults in the colon, the answer's word and the count of numbers after it.
abbrev pub answer_fault : List Token → ℕ → Token → ℕ → Option Fault
answer_fault tokens colon answer values =
    if not (is_colon (at tokens colon)) then Some fault.Colon
    else if not (answers answer) || not (same (is_question answer) (is_minus (at tokens 2))) then Some fault.Answer
    else if not (says answer values) then Some fault.Values
    else None

-- Faults in what follows the answer, with this count of numbers after the semicolon.
abbrev pub jobs_fault : List Token → ℕ → ℕ → Option Fault
jobs_fault tokens end numbers =
    if length tokens == end then None
    else if is_semicolon (at tokens end) && nat_lt 0 numbers && (numbers % 4 == 0) && nat_lt end (length tokens) && (length tokens - end == numbers + 1) then None
    else Some fault.Jobs

abbrev pub or_else : Option Fault → Option Fault → Option Fault
or_else (Some fault) next = Some fault
or_else None next = next

-- The position of the colon, and the position after the last part that isn't a job.
abbrev pub colon_at : List Token → ℕ
colon_at tokens = 4 + count_from (drop 4 tokens)

abbrev pub end_at : List Token → ℕ
end_at tokens = colon_at tokens + 2 + count_from (drop (colon_at tokens + 2) tokens)

abbrev pub arguments_fault : List Token → Option Fault
arguments_fault tokens = if takes (at tokens 3) (count_from (drop 4 tokens)) then None else Some fault.Arguments

-- The first part of a line that isn't well-formed.
abbrev pub line_fault : List Token → Option Fault
line_fault tokens =
    or_else (head_fault tokens) (or_else (arguments_fault tokens)
    (or_else (answer_fault tokens (colon_at tokens) (at tokens (colon_at tokens + 1)) (count_from (drop (colon_at tokens + 2) tokens)))
    (jobs_fault tokens (end_at tokens) (count_from (drop (end_at tokens + 1) tokens)))))
