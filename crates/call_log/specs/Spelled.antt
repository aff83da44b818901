-- How a log is spelled.
use Rattle.std.specs.Prelude.{ℕ, Bool, List, [], ◌∷◌, ◌++◌, Option, Some, None, codes, decimal, if◌then◌else◌}
use Rattle.std.specs.List.{flat_map}
use Rattle.call_log.specs.declared.word.Word.{Word}
use Rattle.call_log.specs.declared.lists.Job.{Job}
use Rattle.call_log.specs.declared.entry.Entry.{Entry}
use Rattle.call_log.specs.Words.{word_text}

abbrev pub after_text : Option ℕ → List ℕ
after_text None = codes "-"
after_text (Some ticket) = decimal ticket

abbrev pub answer_text : Option Word → List ℕ
answer_text None = codes "?"
answer_text (Some word) = word_text word

-- A space and a number.
abbrev pub number_text : ℕ → List ℕ
number_text n = 32 ∷ decimal n

abbrev pub numbers_text : List ℕ → List ℕ
numbers_text numbers = flat_map number_text numbers

abbrev pub job_text : Job → List ℕ
job_text job = number_text job.op ++ number_text job.name ++ number_text job.reply ++ number_text job.ticket

abbrev pub jobs_text : List Job → List ℕ
jobs_text [] = []
jobs_text (job ∷ jobs) = codes " ;" ++ flat_map job_text (job ∷ jobs)

-- The part of a line before the colon.
unfoldable pub head_text : Entry → List ℕ
head_text entry = decimal entry.stream ++ number_text entry.before ++ 32 ∷ after_text entry.after ++ 32 ∷ word_text entry.call ++ numbers_text entry.args

-- The part of a line from the colon on.
unfoldable pub tail_text : Entry → List ℕ
tail_text entry = codes " : " ++ answer_text entry.answer ++ numbers_text entry.values ++ jobs_text entry.jobs

-- The line of a call.
abbrev pub line_text : Entry → List ℕ
line_text entry = head_text entry ++ tail_text entry

abbrev pub first_text : Bool → List ℕ
first_text jobs = if jobs then codes "witness 1 jobs" else codes "witness 1"

abbrev pub size_text : ℕ → ℕ → ℕ → List ℕ
size_text places slots methods = codes "size" ++ number_text places ++ number_text slots ++ number_text methods

-- The first two lines.
abbrev pub header_text : Bool → ℕ → ℕ → ℕ → List ℕ
header_text jobs places slots methods = (first_text jobs ++ 10 ∷ size_text places slots methods) ++ 10 ∷ []

abbrev pub ended_text : Entry → List ℕ
ended_text entry = line_text entry ++ 10 ∷ []

abbrev pub calls_text : List Entry → List ℕ
calls_text calls = flat_map ended_text calls
