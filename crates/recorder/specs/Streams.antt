-- The calls of one thread of the machine.
use Rattle.std.specs.Prelude.{◌≡◌, ◌⊎◌, ◌<◌, ℕ, Bool, true, not, ◌&&◌, ◌==◌, nat_lt, nat_le, List, [], ◌∷◌, ◌++◌, Option, Some, None}
use Rattle.std.specs.List.{flat_map}
use Rattle.call_log.specs.declared.word.Word.{Word}
use Rattle.call_log.specs.declared.lists.Job.{Job}
use Rattle.call_log.specs.declared.entry.Entry.{Entry}
use Rattle.call_log.specs.Spelled.{calls_text}
use Rattle.recorder.specs.declared.short.Short.{Short}
use Rattle.recorder.specs.Short.{values}

-- The view of a stream in contracts: its number, the ticket after its last call, whether a call couldn't be noted, and the calls.
pub record Streaming : Type 0 where
  pub number : ℕ
  pub last : ℕ
  pub lost : Bool
  pub calls : List Entry

abbrev pub after_of : Option ℕ → ℕ
after_of None = 0
after_of (Some after) = after

-- The tickets of the jobs rise; they lie above `above` and below `end`, and `above` is below `end`.
abbrev pub jobs_rise : ℕ → List Job → ℕ → Bool
jobs_rise above [] end = nat_lt above end
jobs_rise above (job ∷ jobs) end = nat_lt above job.ticket && jobs_rise job.ticket jobs end

-- Each call has returned. The tickets rise, those of jobs within their call; all are greater than `from`, and at most `last`.
abbrev pub rise : ℕ → List Entry → ℕ → Bool
rise from [] last = nat_le from last
rise from (e ∷ es) last = nat_lt from e.before && (jobs_rise e.before e.jobs (after_of e.after) && rise (after_of e.after) es last)

abbrev pub logged : ℕ → ℕ → ℕ → Word → List ℕ → Word → List ℕ → List Job → Entry
logged stream before after what args answer values jobs = record {
  stream = stream;
  before = before;
  after = Some after;
  call = what;
  args = args;
  answer = Some answer;
  values = values;
  jobs = jobs;
}

-- One entry is added. It has two new tickets, and the tickets of its jobs rise between them.
abbrev pub IsAdded : Streaming → Streaming → Word → List ℕ → Word → List ℕ → List Job → Type 0
IsAdded old new what args answer values jobs =
    (before : ℕ) × (after : ℕ) × (old.last < before) × (jobs_rise before jobs after ≡ true)
    × (new ≡ record old { last = after; calls = old.calls ++ logged old.number before after what args answer values jobs ∷ [] })

-- The stream is marked as lost, since a call couldn't be noted. It is unchanged otherwise.
abbrev pub IsLost : Streaming → Streaming → Type 0
IsLost old new = new ≡ record old { lost = true }

-- The entry is added, or the stream is lost.
abbrev pub Adds : Streaming → Streaming → Word → List ℕ → Word → List ℕ → List Job → Type 0
Adds old new what args answer values jobs = IsLost old new ⊎ IsAdded old new what args answer values jobs

-- A call is noted with an answer of at most one number. A call for which the core has no answer isn't noted.
abbrev pub Notes : Streaming → Streaming → Word → List ℕ → Option Short → Type 0
Notes old new what args None = (new ≡ old) ⊎ IsLost old new
Notes old new what args (Some said) = Adds old new what args said.word (values said) []

-- All jobs belong to the thread of this name.
abbrev pub are_of : ℕ → List Job → Bool
are_of name [] = true
are_of name (job ∷ jobs) = (job.name == name) && are_of name jobs

-- The entry is added with some jobs, all of the thread of this name, or the stream is lost.
abbrev pub AddsOwn : Streaming → Streaming → Word → List ℕ → Word → List ℕ → ℕ → Type 0
AddsOwn old new what args answer values name =
    IsLost old new ⊎ ((jobs : List Job) × (are_of name jobs ≡ true) × IsAdded old new what args answer values jobs)

-- The entry is added with some jobs, or the stream is lost.
abbrev pub AddsRun : Streaming → Streaming → Word → List ℕ → Word → List ℕ → Type 0
AddsRun old new what args answer values = IsLost old new ⊎ ((jobs : List Job) × IsAdded old new what args answer values jobs)

-- As `AddsRun`, for an answer with at most one number. A call for which the core has no answer isn't noted.
abbrev pub NotesRun : Streaming → Streaming → Word → List ℕ → Option Short → Type 0
NotesRun old new what args None = (new ≡ old) ⊎ IsLost old new
NotesRun old new what args (Some said) = AddsRun old new what args said.word (values said)

-- No stream is lost.
abbrev pub are_whole : List Streaming → Bool
are_whole [] = true
are_whole (s ∷ ss) = not s.lost && are_whole ss

-- The lines of the calls of all streams.
abbrev pub texts : List Streaming → List ℕ
texts streams = flat_map (λ s. calls_text s.calls) streams
