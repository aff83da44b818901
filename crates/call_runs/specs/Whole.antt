-- The runs of calls: events without a place, whole runs, and when a call is over.
use Rattle.std.specs.Prelude.{ℕ, ◌+◌, ◌==◌, nat_lt, nat_le, Bool, true, false, not, ◌&&◌, ◌||◌, bytes_eq, length, drop, List, [], ◌∷◌, Option, Some, None, option_map, if◌then◌else◌}
use Rattle.operations.specs.declared.Ask.{Ask as AskKind}
use Rattle.operations.specs.declared.Ask.TheVariants.{Depth, CountOf, Top}
use Rattle.operations.specs.declared.Request.{Request}
use Rattle.operations.specs.declared.Request.TheVariants.{Handshake, Census}
use Rattle.system.specs.declared.events.Event.{Event}
use Rattle.system.specs.declared.events.Event.TheVariants as event
use Rattle.system.specs.declared.answers.Answer.{Answer}
use Rattle.system.specs.declared.answers.Answer.TheVariants as answer
use Rattle.call_log.specs.declared.word.Word.{Word}
use Rattle.call_log.specs.declared.word.Word.TheVariants as word
use Rattle.call_log.specs.declared.entry.Entry.{Entry}
use Rattle.call_log.specs.Words.{word_text}
use Rattle.call_runs.specs.declared.stage.At.{At}
use Rattle.call_runs.specs.declared.stage.At.TheVariants as at
use Rattle.call_runs.specs.declared.stage.Stage.{Stage}
use Rattle.call_runs.specs.Says.{says, fits, is_done, answers, counts_said, census_by}
use Rattle.call_runs.specs.Runs.{arg, when, turned, is_sent, at_place}

abbrev pub is_reclaim : Word → Bool
is_reclaim word.Reclaim = true
is_reclaim word.ReclaimDepth = true
is_reclaim word.ReclaimTop = true
is_reclaim word.ReclaimCount = true
is_reclaim other = false

abbrev pub closed_by : Bool → Entry → ℕ → Bool
closed_by true entry n = census_by entry.answer entry.values n
closed_by false entry n = says entry word.Handshake (n ∷ [])

abbrev pub once_more : Stage → Stage
once_more stage = record { at = stage.at; place = stage.place; jobs = stage.jobs; served = stage.served; times = stage.times + 1; asked = stage.asked; begun = stage.begun }

abbrev pub closes_by : Word → Entry → Stage → ℕ → Option Stage
closes_by word.Drive entry stage n = when (closed_by stage.served entry n) (turned stage at.Over)
closes_by word.DriveFour entry stage n = when (nat_lt stage.times 1000000) (once_more stage)
closes_by other entry stage n = when (n == stage.asked) (turned stage at.Looking)

-- A drive ends with its Close. A drive of four handshakes makes as many Closes as it answers. A reclaiming closes the handshake that it
-- asked for, and goes on with looks.
abbrev pub closes : Entry → Stage → ℕ → Option Stage
closes entry stage n = closes_by entry.call entry stage n

abbrev pub is_named : Entry → Word → Bool
is_named entry w = bytes_eq (word_text entry.call) (word_text w)

abbrev pub counted : Stage → Stage
counted stage = record { at = stage.at; place = stage.place; jobs = stage.jobs; served = true; times = stage.times; asked = stage.asked; begun = stage.begun }

abbrev pub opens_next : Entry → Stage → Answer → Option Stage
opens_next entry stage (answer.Opened n kind) = when (not (is_reclaim entry.call) || (n == stage.asked)) stage
opens_next entry stage other = when (fits entry other) (turned stage at.Over)

abbrev pub tells_one : Stage → Answer → Option Stage
tells_one stage answer.Told = Some stage
tells_one stage answer.Gone = Some stage
tells_one stage other = None

abbrev pub counts_all : Entry → Stage → Answer → Option Stage
counts_all entry stage (answer.Census list) = when (not (is_named entry word.Drive) || counts_said entry list) (counted stage)
counts_all entry stage other = None

abbrev pub closes_one : Entry → Stage → Answer → Option Stage
closes_one entry stage (answer.Closed n) = closes entry stage n
closes_one entry stage other = None

-- A drive opens a request, arms the polls of the targets, holds, serves and releases safe threads, and closes.
abbrev pub drives : Entry → Stage → Event → Answer → Option Stage
drives entry stage event.Open said = opens_next entry stage said
drives entry stage (event.Tell name) said = tells_one stage said
drives entry stage event.Operate said = counts_all entry stage said
drives entry stage (event.Close None) said = closes_one entry stage said
drives entry stage other said = None

abbrev pub operates_by : Entry → Stage → Answer → Option Stage
operates_by entry stage (answer.Census list) = when (counts_said entry list) (turned stage at.Operated)
operates_by entry stage other = when (fits entry other) (turned stage at.Over)

abbrev pub operates : Entry → Stage → Event → Answer → Option Stage
operates entry stage event.Operate said = operates_by entry stage said
operates entry stage other said = None

abbrev pub are_args : Entry → ℕ → List ℕ → Bool
are_args entry from numbers = nat_le from (length entry.args) && bytes_eq (drop from entry.args) numbers

abbrev pub is_handshake : Entry → List ℕ → AskKind → Bool
is_handshake entry targets Depth =
    (is_named entry word.SubmitDepth && are_args entry 0 targets) || (is_named entry word.ReclaimDepth && are_args entry 1 targets)
is_handshake entry targets Top =
    (is_named entry word.SubmitTop && are_args entry 0 targets) || (is_named entry word.ReclaimTop && are_args entry 1 targets)
is_handshake entry targets (CountOf serial) =
    (is_named entry word.SubmitCount && (serial == arg entry 0) && are_args entry 1 targets)
    || (is_named entry word.ReclaimCount && (serial == arg entry 1) && are_args entry 2 targets)

-- The call asks for this request.
abbrev pub is_request : Entry → Request → Bool
is_request entry Census = is_named entry word.SubmitCensus
is_request entry (Handshake targets ask) = is_handshake entry targets ask

abbrev pub started : Stage → ℕ → Stage
started stage place = record { at = at.Started; place = place; jobs = stage.jobs; served = stage.served; times = stage.times; asked = stage.asked; begun = stage.begun }

abbrev pub starts : Entry → Stage → Answer → Option Stage
starts entry stage (answer.Thread name place) = when (says entry word.Thread (name ∷ place ∷ [])) (started stage place)
starts entry stage other = when (fits entry other) (turned stage at.Over)

-- The event has no place and is the only event of the call.
abbrev pub sole : Entry → Event → Bool
sole entry (event.Install method) = is_named entry word.Install && (method == arg entry 0)
sole entry (event.Invalidate serial) = is_named entry word.Invalidate && (serial == arg entry 0)
sole entry (event.Tell name) = is_named entry word.Tell && (name == arg entry 0)
sole entry event.Open = is_named entry word.Open
sole entry (event.Close None) = is_named entry word.Close && are_args entry 0 []
sole entry (event.Close (Some n)) = is_named entry word.Close && are_args entry 0 (n ∷ [])
sole entry (event.Ask request) = is_request entry request
sole entry other = false

abbrev pub weighs : Entry → Stage → Answer → Option Stage
weighs entry stage (answer.NotLooked place) = when (says entry word.Late (place ∷ [])) (turned stage at.Over)
weighs entry stage (answer.Used count) = when (says entry word.Used (count ∷ [])) (turned stage at.Over)
weighs entry stage answer.Retired = when (says entry word.Freed []) (turned stage at.Weighed)
weighs entry stage other = when (fits entry other) (turned stage at.Over)

abbrev pub looks_one : Entry → Stage → ℕ → Answer → Option Stage
looks_one entry stage serial answer.Clear = when (serial == arg entry 0) stage
looks_one entry stage serial answer.Late = when (serial == arg entry 0) stage
looks_one entry stage serial other = None

-- A reclaiming looks at places, weighs the code, and frees what it retires.
abbrev pub looks : Entry → Stage → Event → Answer → Option Stage
looks entry stage (event.Look serial place) said = looks_one entry stage serial said
looks entry stage (event.Weigh serial) said = if serial == arg entry 0 then weighs entry stage said else None
looks entry stage other said = None

abbrev pub is_refused : Answer → Bool
is_refused (answer.Refused why) = true
is_refused other = false

abbrev pub asking : Stage → ℕ → Stage
asking stage n = record { at = at.Asked; place = stage.place; jobs = stage.jobs; served = stage.served; times = stage.times; asked = n; begun = stage.begun }

abbrev pub asks_first : Entry → Stage → Request → Answer → Option Stage
asks_first entry stage request (answer.Asked n) = when (is_request entry request) (asking stage n)
asks_first entry stage request other = None

-- A reclaiming asks for a handshake if it has jobs, and makes the round; or it is refused.
abbrev pub reclaims : Entry → Stage → Event → Answer → Option Stage
reclaims entry stage (event.Ask request) said = asks_first entry stage request said
reclaims entry stage event.Round said = when (is_named entry word.Reclaim && is_done said) (turned stage at.Looking)
reclaims entry stage (event.Weigh serial) said = when ((serial == arg entry 0) && is_refused said && fits entry said) (turned stage at.Over)
reclaims entry stage (event.Resolve method) said = when (says entry word.AlreadyOpen []) (turned stage at.Over)
reclaims entry stage other said = None

-- The call only reads state, and its recorded answer is one that such a call gives.
abbrev pub is_look : Entry → Bool
is_look entry = (is_named entry word.Live && answers entry word.Names) || (is_named entry word.Replies && answers entry word.Replies)

abbrev pub others : Entry → Stage → Event → Answer → Option Stage
others entry stage event.Start said = if is_named entry word.Start then starts entry stage said else None
others entry stage (event.Resolve method) said = when (is_look entry) (turned stage at.Over)
others entry stage event said = when (sole entry event && fits entry said) (turned stage at.Over)

abbrev pub fresh : Entry → Stage → Event → Answer → Option Stage
fresh entry stage event said = if is_reclaim entry.call then reclaims entry stage event said else others entry stage event said

abbrev pub round : Stage → Event → Answer → Option Stage
round stage event.Round said = when (is_done said) (turned stage at.Driving)
round stage other said = None

abbrev pub is_freed : Entry → Event → Answer → Bool
is_freed entry (event.Free serial) said = (serial == arg entry 0) && is_done said
is_freed entry other said = false

abbrev pub whole_by : At → Entry → Stage → Event → Answer → Option Stage
whole_by at.Fresh entry stage event said = fresh entry stage event said
whole_by at.Driving entry stage event said = drives entry stage event said
whole_by at.Gathering entry stage event said = operates entry stage event said
whole_by at.Asked entry stage event said = round stage event said
whole_by at.Looking entry stage event said = looks entry stage event said
whole_by at.Weighed entry stage event said = when (is_freed entry event said) (turned stage at.Over)
whole_by other entry stage event said = None

abbrev pub whole : Entry → Stage → Event → Answer → Option Stage
whole entry stage event said = whole_by stage.at entry stage event said

abbrev pub goes_on : Bool → Entry → Stage → Event → Answer → Option Stage
goes_on recorded entry stage (event.At place deed) said = at_place recorded entry stage place deed said
goes_on recorded entry stage other said = whole entry stage other said

-- A refused event follows other events of its call, the last of which isn't an Enter answered WrongMethod. No call makes one: a refused
-- event is the only event of its call, or follows such an Enter.
abbrev pub comes_late : Stage → Answer → Bool
comes_late stage said = stage.begun && is_refused said && not (is_sent stage.at)

abbrev pub begun : Stage → Stage
begun stage = record { at = stage.at; place = stage.place; jobs = stage.jobs; served = stage.served; times = stage.times; asked = stage.asked; begun = true }

-- The stage of the call after its next event with this answer; None where no run of the call continues this way.
abbrev pub next : Bool → Entry → Stage → Event → Answer → Option Stage
next recorded entry stage event said = if comes_late stage said then None else option_map begun (goes_on recorded entry stage event said)

abbrev pub first_at : Word → At
first_at word.Stop = at.AtPoll
first_at word.Exit = at.Served
first_at word.Operate = at.Gathering
first_at word.Drive = at.Driving
first_at word.DriveFour = at.Driving
first_at other = at.Fresh

-- The stage before the first event.
abbrev pub first : Entry → Stage
first entry = record { at = first_at entry.call; place = arg entry 0; jobs = 0; served = false; times = 0; asked = 0; begun = false }

abbrev pub ended_by : At → Entry → Stage → Bool
ended_by at.Over entry stage = true
ended_by at.Operated entry stage = true
ended_by at.Driving entry stage = is_named entry word.DriveFour && says entry word.Closed (stage.times ∷ [])
ended_by other entry stage = false

abbrev pub is_ended : Entry → Stage → Bool
is_ended entry stage = ended_by stage.at entry stage

abbrev pub over_by : Option Word → Bool → Bool
over_by None ended = true
over_by (Some said) ended = ended

-- The call made all its events, and all its recorded jobs ran. A call that hadn't returned may be at any stage.
abbrev pub is_over : Bool → Entry → Stage → Bool
is_over recorded entry stage = over_by entry.answer (is_ended entry stage && (not recorded || (stage.jobs == length entry.jobs)))
