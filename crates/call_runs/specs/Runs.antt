-- The runs of calls: the acts at the place of a call.
use Rattle.std.specs.Prelude.{ℕ, ◌+◌, ◌==◌, nat_lt, Bool, true, false, not, ◌&&◌, ◌||◌, bytes_eq, length, slice_index, slice_get, List, [], ◌∷◌, Option, Some, None, if◌then◌else◌}
use Rattle.system.specs.declared.events.Act.{Act}
use Rattle.system.specs.declared.events.Act.TheVariants as act
use Rattle.system.specs.declared.answers.Answer.{Answer}
use Rattle.system.specs.declared.answers.Answer.TheVariants as answer
use Rattle.system.specs.declared.answers.Refusal.TheVariants as refusal
use Rattle.call_log.specs.declared.word.Word.{Word}
use Rattle.call_log.specs.declared.word.Word.TheVariants as word
use Rattle.call_log.specs.declared.lists.Job.{Job}
use Rattle.call_log.specs.declared.entry.Entry.{Entry}
use Rattle.call_log.specs.Words.{word_text}
use Rattle.call_runs.specs.declared.stage.At.{At}
use Rattle.call_runs.specs.declared.stage.At.TheVariants as at
use Rattle.call_runs.specs.declared.stage.Stage.{Stage}
use Rattle.call_runs.specs.Says.{says, fits, is_done}

abbrev pub arg : Entry → ℕ → ℕ
arg entry i = slice_index entry.args i

abbrev pub when : Bool → Stage → Option Stage
when lawful stage = if lawful then Some stage else None

abbrev pub turned : Stage → At → Stage
turned stage to = record { at = to; place = stage.place; jobs = stage.jobs; served = stage.served; times = stage.times; asked = stage.asked; begun = stage.begun }

-- A publication is a Begin, any number of Changes, and an End.
abbrev pub begins : Stage → Act → Answer → At → Option Stage
begins stage act.Begin said to = when (is_done said) (turned stage to)
begins stage other said to = None

abbrev pub is_changed : Answer → Bool
is_changed (answer.Changed serial by) = true
is_changed other = false

abbrev pub publishes : Stage → Act → Answer → At → Option Stage
publishes stage act.Change said to = when (is_changed said) stage
publishes stage act.End said to = when (is_done said) (turned stage to)
publishes stage other said to = None

abbrev pub wakes : Stage → Act → Answer → Option Stage
wakes stage act.Wake said = when (is_done said) (turned stage at.StartAwake)
wakes stage other said = None

-- A poll within a call either goes on or stops the thread. After a stop a turn follows.
abbrev pub crosses : Stage → Answer → Option Stage → Option Stage
crosses stage answer.Go over = over
crosses stage (answer.Stop n) over = Some (turned stage at.AtPoll)
crosses stage other over = None

abbrev pub has_reply : Option Job → ℕ → Bool
has_reply None reply = false
has_reply (Some job) reply = job.reply == reply

-- Where jobs are recorded, the reply must be that of the call's next job.
abbrev pub is_job : Bool → Entry → ℕ → ℕ → Bool
is_job false entry jobs reply = true
is_job true entry jobs reply = has_reply (slice_get entry.jobs jobs) reply

abbrev pub served_once : Stage → At → Stage
served_once stage to = record { at = to; place = stage.place; jobs = stage.jobs + 1; served = true; times = stage.times; asked = stage.asked; begun = stage.begun }

abbrev pub finishes : Bool → Entry → Stage → Answer → At → Option Stage
finishes recorded entry stage (answer.Reply reply) to = when (nat_lt stage.jobs 1000000 && is_job recorded entry stage.jobs reply) (served_once stage to)
finishes recorded entry stage other to = None

abbrev pub clears : Stage → Act → Answer → At → Option Stage
clears stage act.Clear said to = when (is_done said) (turned stage to)
clears stage other said to = None

abbrev pub stopped : Stage → Stage
stopped stage = record { at = at.Served; place = stage.place; jobs = stage.jobs; served = stage.served; times = 1; asked = stage.asked; begun = stage.begun }

abbrev pub stop_word : Bool → Word
stop_word true = word.Served
stop_word false = word.Ok

-- After the last turn a start is over, an exit publishes again, and a stop answers whether that turn ran a job.
abbrev pub turn_over_by : Word → Entry → Stage → Option Stage
turn_over_by word.Start entry stage = Some (turned stage at.Over)
turn_over_by word.Exit entry stage = Some (stopped stage)
turn_over_by other entry stage = when (says entry (stop_word stage.served) []) (turned stage at.Over)

abbrev pub turn_over : Entry → Stage → Option Stage
turn_over entry stage = turn_over_by entry.call entry stage

-- A turn is a Take, a publication, each Finish with its Clear, and a poll.
abbrev pub polls : Bool → Entry → Stage → Act → Answer → Option Stage
polls recorded entry stage act.Finish said = finishes recorded entry stage said at.TurnFinished
polls recorded entry stage act.Cross said = crosses stage said (turn_over entry stage)
polls recorded entry stage other said = None

abbrev pub taken : Stage → Stage
taken stage = record { at = at.Taken; place = stage.place; jobs = stage.jobs; served = false; times = stage.times; asked = stage.asked; begun = stage.begun }

abbrev pub takes_by : Entry → Stage → Answer → Option Stage
takes_by entry stage answer.Done = Some (taken stage)
takes_by entry stage other = when (fits entry other) (turned stage at.Over)

abbrev pub takes : Entry → Stage → Act → Answer → Option Stage
takes entry stage act.Take said = takes_by entry stage said
takes entry stage other said = None

abbrev pub exit_word : ℕ → Word
exit_word times = if times == 0 then word.Exited else word.ServedExited

abbrev pub exits_by : Entry → Stage → Answer → Option Stage
exits_by entry stage (answer.Exited name) = when (says entry (exit_word stage.times) (name ∷ [])) (turned stage at.Over)
exits_by entry stage other = when (fits entry other) (turned stage at.Over)

-- An exit is a publication and an Exit. Where operations are pending, a poll that stops, turns and another publication come between them.
-- An exit that must be repeated publishes again.
abbrev pub exits : Entry → Stage → Act → Answer → Option Stage
exits entry stage act.Begin said = when (is_done said) (turned stage at.ExitBegun)
exits entry stage act.Exit said = exits_by entry stage said
exits entry stage act.Edge said = crosses stage said None
exits entry stage act.FromVm said = crosses stage said None
exits entry stage other said = None

abbrev pub leaves : Entry → Stage → Act → Answer → Option Stage
leaves entry stage act.Begin said = when (is_done said) (turned stage at.ExitBegun)
leaves entry stage act.Exit said = when (not (is_done said) && fits entry said) (turned stage at.Over)
leaves entry stage other said = None

-- Acts that are the only event of their call.
abbrev pub single_word : Act → Option Word
single_word act.Leave = Some word.Ret
single_word act.Edge = Some word.Edge
single_word act.ToVm = Some word.ToVm
single_word act.FromVm = Some word.FromVm
single_word act.ToNative = Some word.ToNative
single_word act.Block = Some word.Block
single_word act.Release = Some word.Release
single_word other = None

abbrev pub single_by : Option Word → Entry → Stage → Answer → Option Stage
single_by None entry stage said = None
single_by (Some w) entry stage said = when (bytes_eq (word_text entry.call) (word_text w) && fits entry said) (turned stage at.Over)

abbrev pub single : Entry → Stage → Act → Answer → Option Stage
single entry stage deed said = single_by (single_word deed) entry stage said

abbrev pub is_sent : At → Bool
is_sent at.Sent = true
is_sent other = false

abbrev pub entered : Entry → Word → List ℕ → Answer → Bool
entered entry word numbers answer.Entered = says entry word numbers
entered entry word numbers (answer.Refused why) = fits entry (answer.Refused why)
entered entry word numbers other = false

abbrev pub by_hint : Entry → Stage → ℕ → Answer → Option Stage
by_hint entry stage serial answer.WrongMethod = Some (turned stage at.Sent)
by_hint entry stage serial other = when (entered entry word.Compiled (serial ∷ []) other) (turned stage at.Over)

-- A call of a method is an Enter with the code of its hint. If that is answered WrongMethod, or if there is no hint, it is an Enter
-- without a code.
abbrev pub enters : Entry → Stage → ℕ → Option ℕ → Answer → Option Stage
enters entry stage method None said =
    when ((method == arg entry 1) && ((length entry.args == 2) || is_sent stage.at) && entered entry word.Interpreted [] said) (turned stage at.Over)
enters entry stage method (Some serial) said =
    if not (method == arg entry 1) || not (serial == arg entry 2) || is_sent stage.at then None
    else if not (length entry.args == 3) then None
    else by_hint entry stage serial said

abbrev pub calls : Entry → Stage → Act → Answer → Option Stage
calls entry stage (act.Enter method code) said = enters entry stage method code said
calls entry stage other said = None

-- A return to Java is a Wake and a poll.
abbrev pub wakes_by : Entry → Stage → Answer → Option Stage
wakes_by entry stage answer.Done = Some (turned stage at.Awake)
wakes_by entry stage other = when (fits entry other) (turned stage at.Over)

abbrev pub returns : Entry → Stage → Act → Answer → Option Stage
returns entry stage act.Wake said = wakes_by entry stage said
returns entry stage other said = None

abbrev pub back : Entry → Stage → Act → Answer → Option Stage
back entry stage act.Cross said = when (not (is_done said) && fits entry said) (turned stage at.Over)
back entry stage other said = None

-- Where the core answers Illegal because the thread isn't held, a Serve answers NotHeld.
abbrev pub is_unserved : Entry → Answer → Bool
is_unserved entry (answer.Refused (refusal.Illegal state)) = fits entry (answer.Refused (refusal.Illegal state)) || says entry word.NotHeld []
is_unserved entry (answer.Refused why) = fits entry (answer.Refused why)
is_unserved entry other = false

abbrev pub opens_by : Entry → Stage → Answer → At → Option Stage
opens_by entry stage answer.Done to = when (says entry word.Ok []) (turned stage to)
opens_by entry stage other to = when (fits entry other) (turned stage at.Over)

-- A publication by itself, and a Serve, which begins with one.
abbrev pub opens : Entry → Stage → Act → Answer → At → Option Stage
opens entry stage act.Begin said to = opens_by entry stage said to
opens entry stage act.Finish said to = when (is_unserved entry said) (turned stage at.Over)
opens entry stage other said to = None

abbrev pub hold_at : Bool → At
hold_at true = at.Caught
hold_at false = at.Over

abbrev pub holds_by : Entry → Stage → Answer → Option Stage
holds_by entry stage answer.Done = when (says entry word.Ok [] || says entry word.NotSafe []) (turned stage (hold_at (says entry word.NotSafe [])))
holds_by entry stage other = when (fits entry other) (turned stage at.Over)

-- A Hold also answers NotSafe where the core allows it but the thread hasn't brought its body yet. The core's events are then a Hold and a
-- Release.
abbrev pub holds : Entry → Stage → Act → Answer → Option Stage
holds entry stage act.Hold said = holds_by entry stage said
holds entry stage other said = None

abbrev pub frees : Stage → Act → Answer → Option Stage
frees stage act.Release said = when (is_done said) (turned stage at.Over)
frees stage other said = None

abbrev pub serves : Bool → Entry → Stage → Act → Answer → Option Stage
serves recorded entry stage act.Finish said = finishes recorded entry stage said at.ServeFinished
serves recorded entry stage other said = None

abbrev pub fresh_by : Word → Entry → Stage → Act → Answer → Option Stage
fresh_by word.Call entry stage deed said = calls entry stage deed said
fresh_by word.FromNative entry stage deed said = returns entry stage deed said
fresh_by word.Unblock entry stage deed said = returns entry stage deed said
fresh_by word.Publish entry stage deed said = opens entry stage deed said at.Begun
fresh_by word.Serve entry stage deed said = opens entry stage deed said at.ServeBegun
fresh_by word.Hold entry stage deed said = holds entry stage deed said
fresh_by other entry stage deed said = single entry stage deed said

-- The first act of a call.
abbrev pub fresh_act : Entry → Stage → Act → Answer → Option Stage
fresh_act entry stage deed said = fresh_by entry.call entry stage deed said

abbrev pub polls_first : Stage → Act → Answer → Option Stage
polls_first stage act.Cross said = crosses stage said (Some (turned stage at.Over))
polls_first stage other said = None

-- The next act at the call's own place.
abbrev pub own_by : At → Bool → Entry → Stage → Act → Answer → Option Stage
own_by at.Fresh recorded entry stage deed said = fresh_act entry stage deed said
own_by at.Started recorded entry stage deed said = begins stage deed said at.StartBegun
own_by at.StartBegun recorded entry stage deed said = publishes stage deed said at.StartEnded
own_by at.StartEnded recorded entry stage deed said = wakes stage deed said
own_by at.StartAwake recorded entry stage deed said = polls_first stage deed said
own_by at.Awake recorded entry stage deed said = back entry stage deed said
own_by at.Begun recorded entry stage deed said = publishes stage deed said at.Over
own_by at.AtPoll recorded entry stage deed said = takes entry stage deed said
own_by at.Taken recorded entry stage deed said = begins stage deed said at.TurnBegun
own_by at.TurnBegun recorded entry stage deed said = publishes stage deed said at.TurnEnded
own_by at.TurnEnded recorded entry stage deed said = polls recorded entry stage deed said
own_by at.TurnFinished recorded entry stage deed said = clears stage deed said at.TurnEnded
own_by at.Served recorded entry stage deed said = leaves entry stage deed said
own_by at.ExitBegun recorded entry stage deed said = publishes stage deed said at.ExitEnded
own_by at.ExitEnded recorded entry stage deed said = exits entry stage deed said
own_by at.ServeBegun recorded entry stage deed said = publishes stage deed said at.ServeEnded
own_by at.ServeEnded recorded entry stage deed said = serves recorded entry stage deed said
own_by at.ServeFinished recorded entry stage deed said = clears stage deed said at.Over
own_by at.Sent recorded entry stage deed said = calls entry stage deed said
own_by at.Caught recorded entry stage deed said = frees stage deed said
own_by other recorded entry stage deed said = None

abbrev pub own : Bool → Entry → Stage → Act → Answer → Option Stage
own recorded entry stage deed said = own_by stage.at recorded entry stage deed said

abbrev pub in_drive : Option Stage → Stage → Option Stage
in_drive None stage = None
in_drive (Some made) stage = Some (record { at = at.Driving; place = stage.place; jobs = made.jobs; served = stage.served; times = stage.times; asked = stage.asked; begun = stage.begun })

-- An act at a place within a drive.
abbrev pub drives_at : Bool → Entry → Stage → Act → Answer → Option Stage
drives_at recorded entry stage act.Hold said = when (is_done said) stage
drives_at recorded entry stage act.Begin said = when (is_done said) stage
drives_at recorded entry stage act.Change said = when (is_changed said) stage
drives_at recorded entry stage act.End said = when (is_done said) stage
drives_at recorded entry stage act.Finish said = in_drive (finishes recorded entry stage said at.Driving) stage
drives_at recorded entry stage act.Clear said = when (is_done said) stage
drives_at recorded entry stage act.Release said = when (is_done said) stage
drives_at recorded entry stage other said = None

-- Acts at held threads, which the caller publishes for a census.
abbrev pub gathers : Stage → Act → Answer → Option Stage
gathers stage act.Begin said = when (is_done said) stage
gathers stage act.Change said = when (is_changed said) stage
gathers stage act.End said = when (is_done said) stage
gathers stage other said = None

abbrev pub own_here : Bool → Bool → Entry → Stage → Act → Answer → Option Stage
own_here here recorded entry stage deed said = if here then own recorded entry stage deed said else None

abbrev pub at_place_by : At → Bool → Entry → Stage → ℕ → Act → Answer → Option Stage
at_place_by at.Driving recorded entry stage place deed said = drives_at recorded entry stage deed said
at_place_by at.Gathering recorded entry stage place deed said = gathers stage deed said
at_place_by at.Operated recorded entry stage place deed said = clears stage deed said at.Operated
at_place_by other recorded entry stage place deed said = own_here (place == stage.place) recorded entry stage deed said

abbrev pub at_place : Bool → Entry → Stage → ℕ → Act → Answer → Option Stage
at_place recorded entry stage place deed said = at_place_by stage.at recorded entry stage place deed said
