-- The tickets of each stream rise.
use Rattle.std.specs.Prelude.{ℕ, ◌+◌, nat_lt, nat_le, Bool, true, false, ◌&&◌, List, [], ◌∷◌, replicate, slice_get, slice_set, Option, Some, None, if◌then◌else◌}
use Rattle.call_log.specs.declared.lists.Job.{Job}
use Rattle.call_log.specs.declared.entry.Entry.{Entry}

-- The first ticket that may follow a call in its stream.
abbrev pub free_from : Option ℕ → ℕ
free_from None = 1099511627776
free_from (Some ticket) = if nat_lt ticket 1099511627776 then ticket + 1 else 1099511627776

-- The tickets of the jobs rise, from this first one on and below the end.
abbrev pub jobs_rise : ℕ → ℕ → List Job → Bool
jobs_rise first end [] = true
jobs_rise first end (job ∷ jobs) = nat_le first job.ticket && nat_lt job.ticket end && jobs_rise (job.ticket + 1) end jobs

abbrev pub is_late : Option ℕ → Entry → Bool
is_late None entry = false
is_late (Some first) entry =
    nat_le first entry.before && nat_lt entry.before (free_from entry.after)
    && jobs_rise entry.before (free_from entry.after) entry.jobs

-- The call has a valid stream number, begins after the earlier calls of its stream, and ends after it begins. Its jobs ran in between, one
-- after the other.
abbrev pub starts_late : List ℕ → Entry → Bool
starts_late least entry = is_late (slice_get least entry.stream) entry

-- The tickets of each stream rise, where the list has for each stream the first ticket that may come next.
abbrev pub rise : List ℕ → List Entry → Bool
rise least [] = true
rise least (entry ∷ calls) = if starts_late least entry then rise (slice_set least entry.stream (free_from entry.after)) calls else false

abbrev pub all_rise : List Entry → Bool
all_rise calls = rise (replicate 1024 0) calls
