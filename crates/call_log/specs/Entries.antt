-- The call of a line.
use Rattle.std.specs.Prelude.{ℕ, ◌+◌, drop, List, [], ◌∷◌, Option, Some, None}
use Rattle.call_log.specs.declared.word.Word.{Word}
use Rattle.call_log.specs.declared.word.Word.TheVariants as word
use Rattle.call_log.specs.declared.tokens.Token.{Token}
use Rattle.call_log.specs.declared.tokens.Token.TheVariants as token
use Rattle.call_log.specs.declared.lists.Job.{Job}
use Rattle.call_log.specs.declared.entry.Entry.{Entry}
use Rattle.call_log.specs.Tokens.{numbers_from}
use Rattle.call_log.specs.Faults.{at, colon_at, end_at}

abbrev pub number_in : Token → ℕ
number_in (token.Number n) = n
number_in _ = 0

abbrev pub after_in : Token → Option ℕ
after_in (token.Number n) = Some n
after_in _ = None

abbrev pub word_in : Token → Word
word_in (token.Word w) = w
word_in _ = word.Question

abbrev pub answer_in : Token → Option Word
answer_in (token.Word word.Question) = None
answer_in (token.Word w) = Some w
answer_in _ = None

-- Each group of four numbers as a job.
abbrev pub jobs_in : List ℕ → List Job
jobs_in (op ∷ name ∷ reply ∷ ticket ∷ more) = record { op = op; name = name; reply = reply; ticket = ticket } ∷ jobs_in more
jobs_in _ = []

-- The call that the tokens spell.
abbrev pub entry_of : List Token → Entry
entry_of tokens = record {
  stream = number_in (at tokens 0);
  before = number_in (at tokens 1);
  after = after_in (at tokens 2);
  call = word_in (at tokens 3);
  args = numbers_from (drop 4 tokens);
  answer = answer_in (at tokens (colon_at tokens + 1));
  values = numbers_from (drop (colon_at tokens + 2) tokens);
  jobs = jobs_in (numbers_from (drop (end_at tokens + 1) tokens));
}
