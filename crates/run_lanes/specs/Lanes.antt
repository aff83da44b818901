-- What a line changes in the lanes, and to which lane a thin line leads from its mark.
use Rattle.std.specs.Prelude.{ℕ, Bool, true, false, Option, None, option_and_then, slice_get}
use Rattle.system.specs.declared.answers.Answer.{Answer}
use Rattle.system.specs.declared.answers.Answer.TheVariants as answer
use Rattle.system.specs.declared.events.Act.{Act}
use Rattle.system.specs.declared.events.Act.TheVariants as act
use Rattle.replay.specs.declared.engine.Reply.{Reply}
use Rattle.replay.specs.declared.engine.Reply.TheVariants.{BadLine, BadSize, Answered}
use Rattle.run_lanes.specs.declared.looks.Lane.{Lane}
use Rattle.run_lanes.specs.declared.requests.Operations.{Operations}
use Rattle.run_lanes.specs.declared.threads.Threads.{Threads}
use Rattle.run_lanes.specs.Rows.{number_in}
use Rattle.run_lanes.specs.Served.{served_at}
use Rattle.run_lanes.specs.Requests.{lane_in, undone, uncleared}

-- The name of the thread at a place.
abbrev pub name_at : Threads → ℕ → Option ℕ
name_at threads place = option_and_then (λ row. number_in row.number row.paint) (slice_get threads.threads.rows.items place)

-- The lanes of the next operations of a thread, by its name and place: that of its next Finish, and that of its next Clear.
abbrev pub undone_of : Operations → ℕ → ℕ → Option Lane
undone_of operations place name = option_and_then (lane_in operations.rows) (undone (served_at operations.served.places.items place) name operations.asked.items)

abbrev pub uncleared_of : Operations → ℕ → ℕ → Option Lane
uncleared_of operations place name = option_and_then (lane_in operations.rows) (uncleared (served_at operations.served.places.items place) name operations.asked.items)

-- The operation of an act that isn't a stop: a Finish belongs to the operation whose callback ran, a Clear to the one that is cleared, and
-- a Hold to the one that is to be served.
abbrev pub served_by : Threads → Operations → ℕ → Act → Option Lane
served_by threads operations place act.Finish = option_and_then (undone_of operations place) (name_at threads place)
served_by threads operations place act.Clear = option_and_then (uncleared_of operations place) (name_at threads place)
served_by threads operations place act.Hold = option_and_then (uncleared_of operations place) (name_at threads place)
served_by threads operations place other = None

-- Whether an act belongs to the operation that its thread serves.
abbrev pub serves : Act → Bool
serves act.Finish = true
serves act.Clear = true
serves act.Hold = true
serves other = false

abbrev pub is_stop : Answer → Bool
is_stop (answer.Stop number) = true
is_stop other = false

-- Whether a line changed anything.
abbrev pub is_accepted : Reply → Bool
is_accepted BadLine = false
is_accepted BadSize = false
is_accepted (Answered (answer.Refused why)) = false
is_accepted (Answered other) = true
