-- The state that the events and answers so far determine.
use Rattle.std.specs.Prelude.{ℕ, ◌==◌, nat_le, Bool, true, false, not, ◌&&◌, ◌||◌, List, [], ◌∷◌, ◌++◌, map, filter, length, replicate, slice_get, slice_index, slice_set, Option, Some, None, option_map, option_and_then, if◌then◌else◌}
use Rattle.std.specs.List.{position}
use Rattle.system.specs.declared.events.Event.{Event}
use Rattle.system.specs.declared.events.Event.TheVariants as event
use Rattle.system.specs.declared.answers.Answer.{Answer}
use Rattle.system.specs.declared.answers.Answer.TheVariants as answer
use Rattle.call_log.specs.declared.word.Word.{Word}
use Rattle.call_log.specs.declared.word.Word.TheVariants as word
use Rattle.call_log.specs.declared.lists.Job.{Job}
use Rattle.call_log.specs.declared.entry.Entry.{Entry}
use Rattle.call_runs.specs.declared.stage.Stage.{Stage}
use Rattle.call_runs.specs.Says.{census_by}
use Rattle.call_runs.specs.Whole.{is_reclaim}
use Rattle.witness_check.specs.declared.owed.Owed.{Owed}
use Rattle.witness_check.specs.declared.seen.Replied.{Replied}
use Rattle.witness_check.specs.declared.seen.Seen.{Seen}
use Rattle.witness_check.specs.Owed.{is_of, may_owe, isnt_of, owed_to, asked_of, paid}

-- The names that were given out, the last of them, and those that exited; by place, the name that started there last; the last number of a
-- request, which is the number of requests; the number of the operation that was opened last; the numbers of the closed ones; the due
-- replies to handshakes, the oldest handshake first; and the replies that were given.
pub record Sight : Type 0 where
  pub started : List ℕ
  pub exited : List ℕ
  pub newest : ℕ
  pub here : List ℕ
  pub asked : ℕ
  pub opened : ℕ
  pub closed : List ℕ
  pub owed : List Owed
  pub done : List Replied

abbrev pub sight : Seen → Sight
sight seen = record {
  started = seen.started.items;
  exited = seen.exited.items;
  newest = seen.newest;
  here = seen.here.items;
  asked = seen.asked;
  opened = seen.opened;
  closed = seen.closed.items;
  owed = seen.owed.items;
  done = seen.done.items;
}

abbrev pub nothing_seen : Sight
nothing_seen = record {
  started = [];
  exited = [];
  newest = 0;
  here = replicate 64 0;
  asked = 0;
  opened = 0;
  closed = [];
  owed = [];
  done = [];
}

abbrev pub is_in : ℕ → List ℕ → Bool
is_in name [] = false
is_in name (n ∷ names) = (n == name) || is_in name names

abbrev pub is_none : List ℕ → Bool
is_none [] = true
is_none (n ∷ numbers) = false

abbrev pub is_next : ℕ → List ℕ → Bool
is_next name [] = false
is_next name (value ∷ values) = value == name

abbrev pub behind : List ℕ → List ℕ
behind [] = []
behind (value ∷ values) = values

-- The values are the names that haven't exited, in the order of their starts.
abbrev pub are_live : List ℕ → List ℕ → List ℕ → Bool
are_live [] exited values = is_none values
are_live (name ∷ names) exited values =
    if is_in name exited then are_live names exited values
    else is_next name values && are_live names exited (behind values)

abbrev pub is_reply : Replied → List ℕ → Bool
is_reply job (name ∷ reply ∷ values) = (name == job.name) && (reply == job.reply)
is_reply job other = false

-- The values are the names and replies of the operation's jobs, in the order of their Finishes.
abbrev pub are_replies : List Replied → ℕ → List ℕ → Bool
are_replies [] op values = is_none values
are_replies (job ∷ jobs) op values =
    if job.op == op then is_reply job values && are_replies jobs op (behind (behind values))
    else are_replies jobs op values

abbrev pub op_of : Entry → ℕ
op_of entry = slice_index entry.args 0

-- No request is open or waiting.
abbrev pub is_idle : Sight → Bool
is_idle seen = nat_le seen.asked (length seen.closed)

abbrev pub is_live_call : Word → Bool
is_live_call word.Live = true
is_live_call other = false

abbrev pub is_replies_call : Word → Bool
is_replies_call word.Replies = true
is_replies_call other = false

-- The recorded answer of a reading call agrees with the state: the live names, the replies of an operation, or for a reclaiming that some
-- request is open or waiting.
abbrev pub sees_by : Option Word → Sight → Entry → Bool
sees_by None seen entry = true
sees_by (Some word.Names) seen entry = is_live_call entry.call && are_live seen.started seen.exited entry.values
sees_by (Some word.Replies) seen entry = is_replies_call entry.call && are_replies seen.done (op_of entry) entry.values
sees_by (Some word.AlreadyOpen) seen entry = is_reclaim entry.call && not (is_idle seen)
sees_by (Some other) seen entry = false

abbrev pub sees : Sight → Entry → Bool
sees seen entry = sees_by entry.answer seen entry

abbrev pub name_at : Sight → ℕ → ℕ
name_at seen place = slice_index seen.here place

-- The reply of a Finish at a place: it is the oldest due reply of the thread there.
abbrev pub reply_of : Sight → ℕ → ℕ → Option Replied
reply_of seen place reply =
    option_map (λ owed. record { op = owed.op; name = name_at seen place; reply = reply })
    (option_and_then (slice_get seen.owed) (position (is_of (name_at seen place)) seen.owed))

-- The recorded job has this reply.
abbrev pub is_that : Option Job → Option Replied → Bool
is_that (Some job) (Some replied) = (job.op == replied.op) && (job.name == replied.name) && (job.reply == replied.reply)
is_that (Some job) None = false
is_that None replied = false

-- A reply must be that of the call's next job.
abbrev pub runs_next : Sight → Entry → Stage → ℕ → Answer → Bool
runs_next seen entry stage place (answer.Reply reply) = is_that (slice_get entry.jobs stage.jobs) (reply_of seen place reply)
runs_next seen entry stage place other = true

abbrev pub counted_by : Word → Sight → Entry → Answer → Bool
counted_by word.Operate seen entry (answer.Census list) = census_by entry.answer entry.values seen.opened
counted_by other seen entry said = true

-- A census by hand must answer the number of its operation. While a census is open it is the only operation, so it is the one opened last.
abbrev pub is_counted : Sight → Entry → Answer → Bool
is_counted seen entry said = counted_by entry.call seen entry said

-- A call's next event is lawful in this state: a reading call's answer agrees with the state, a job is the recorded one, a census is the
-- answered one, and a reclaiming asks only where no request is open or waiting.
abbrev pub allows : Bool → Sight → Entry → Stage → Event → Answer → Bool
allows recorded seen entry stage (event.Resolve method) said = sees seen entry
allows recorded seen entry stage (event.At place deed) said = not recorded || runs_next seen entry stage place said
allows recorded seen entry stage event.Operate said = is_counted seen entry said
allows recorded seen entry stage (event.Ask request) said = not (is_reclaim entry.call) || is_idle seen
allows recorded seen entry stage other said = true

-- A thread starts at a place.
abbrev pub started_at : Sight → ℕ → ℕ → Sight
started_at seen name place = record seen { started = seen.started ++ name ∷ []; newest = name; here = slice_set seen.here place name }

abbrev pub replied_by : Sight → Option Replied → Sight
replied_by seen None = seen
replied_by seen (Some made) = record seen { owed = paid made.name seen.owed; done = seen.done ++ made ∷ [] }

abbrev pub replied : Sight → ℕ → ℕ → Sight
replied seen place reply = replied_by seen (reply_of seen place reply)

abbrev pub replied_in : Sight → Event → ℕ → Sight
replied_in seen (event.At place deed) reply = replied seen place reply
replied_in seen other reply = seen

-- Takes one more event with its answer into the state. An operation is not for threads that start after its Open.
abbrev pub noted : Sight → Event → Answer → Sight
noted seen event (answer.Thread name place) = started_at seen name place
noted seen event (answer.Exited name) = record seen { exited = seen.exited ++ name ∷ [] }
noted seen event (answer.Asked n) = record seen { asked = n; owed = seen.owed ++ map (owed_to n) (asked_of event) }
noted seen event (answer.Opened n kind) = record seen { opened = n; owed = filter (may_owe n seen.newest) seen.owed }
noted seen event (answer.Closed n) = record seen { closed = seen.closed ++ n ∷ []; owed = filter (isnt_of n) seen.owed }
noted seen event (answer.Reply reply) = replied_in seen event reply
noted seen event other = seen
