-- Words for events and answers, close to those of the lines, and what it means that a row of them holds.
use Rattle.std.specs.Prelude.{◌≡◌, ℕ, ℤ, List, map, Some, None}
use Rattle.frames.specs.declared.Frame.{Frame}
use Rattle.method_table.specs.declared.CodeState.TheVariants.{InUse, NotEntrant, Zombie, Freed}
use Rattle.operations.specs.declared.Ask.TheVariants.{Depth, CountOf, Top}
use Rattle.operations.specs.declared.Kind.TheVariants as kind
use Rattle.operations.specs.declared.Request.TheVariants as request
use Rattle.system.specs.declared.events.Act.TheVariants as act
use Rattle.system.specs.declared.events.Event.{Event}
use Rattle.system.specs.declared.events.Event.TheVariants as event
use Rattle.system.specs.declared.answers.CodeCount.{CodeCount}
use Rattle.system.specs.declared.answers.Refusal.{Refusal}
use Rattle.system.specs.declared.answers.Answer.{Answer}
use Rattle.system.specs.declared.answers.Answer.TheVariants as answer
use Rattle.system.specs.Log.{Entry}
use Rattle.system.specs.World.{start_world}
use Rattle.system.specs.Runs.{answers}

infix 70 ◌⇒◌
-- A line and its answer.
abbrev pub ◌⇒◌ : Event → Answer → Entry
◌⇒◌ event answer = record { event = event; answer = answer }

-- A system of these sizes answers the events of the row as the row says.
abbrev pub Plays : ℕ → ℕ → ℕ → List Entry → Type 0
Plays places slots methods row = answers (start_world places slots methods) (map (λ line. line.event) row) ≡ map (λ line. line.answer) row

-- Events.
abbrev pub begin : ℕ → Event
begin place = event.At place act.Begin

abbrev pub change : ℕ → Event
change place = event.At place act.Change

abbrev pub end : ℕ → Event
end place = event.At place act.End

abbrev pub wake : ℕ → Event
wake place = event.At place act.Wake

abbrev pub cross : ℕ → Event
cross place = event.At place act.Cross

abbrev pub leave : ℕ → Event
leave place = event.At place act.Leave

abbrev pub edge : ℕ → Event
edge place = event.At place act.Edge

abbrev pub to_vm : ℕ → Event
to_vm place = event.At place act.ToVm

abbrev pub from_vm : ℕ → Event
from_vm place = event.At place act.FromVm

abbrev pub to_native : ℕ → Event
to_native place = event.At place act.ToNative

abbrev pub block : ℕ → Event
block place = event.At place act.Block

abbrev pub exit : ℕ → Event
exit place = event.At place act.Exit

abbrev pub take : ℕ → Event
take place = event.At place act.Take

abbrev pub finish : ℕ → Event
finish place = event.At place act.Finish

abbrev pub clear : ℕ → Event
clear place = event.At place act.Clear

abbrev pub hold : ℕ → Event
hold place = event.At place act.Hold

abbrev pub release : ℕ → Event
release place = event.At place act.Release

abbrev pub stack : ℕ → Event
stack place = event.At place act.Stack

abbrev pub enter : ℕ → ℕ → Event
enter place method = event.At place (act.Enter method None)

abbrev pub enter_code : ℕ → ℕ → ℕ → Event
enter_code place method serial = event.At place (act.Enter method (Some serial))

abbrev pub start : Event
start = event.Start

abbrev pub round : Event
round = event.Round

abbrev pub open_oldest : Event
open_oldest = event.Open

abbrev pub operate : Event
operate = event.Operate

abbrev pub close : Event
close = event.Close None

abbrev pub close_of : ℕ → Event
close_of n = event.Close (Some n)

abbrev pub install : ℕ → Event
install n = event.Install n

abbrev pub invalidate : ℕ → Event
invalidate n = event.Invalidate n

abbrev pub weigh : ℕ → Event
weigh n = event.Weigh n

abbrev pub free : ℕ → Event
free n = event.Free n

abbrev pub tell : ℕ → Event
tell n = event.Tell n

abbrev pub count : ℕ → Event
count n = event.Count n

abbrev pub state : ℕ → Event
state n = event.CodeState n

abbrev pub resolve : ℕ → Event
resolve n = event.Resolve n

abbrev pub look : ℕ → ℕ → Event
look serial place = event.Look serial place

abbrev pub ask_depth : List ℕ → Event
ask_depth targets = event.Ask (request.Handshake targets Depth)

abbrev pub ask_top : List ℕ → Event
ask_top targets = event.Ask (request.Handshake targets Top)

abbrev pub ask_count : ℕ → List ℕ → Event
ask_count serial targets = event.Ask (request.Handshake targets (CountOf serial))

abbrev pub ask_census : Event
ask_census = event.Ask request.Census

-- Answers.
abbrev pub ok : Answer
ok = answer.Done

abbrev pub no_change : Answer
no_change = answer.NoChange

abbrev pub go : Answer
go = answer.Go

abbrev pub entered : Answer
entered = answer.Entered

abbrev pub wrong_method : Answer
wrong_method = answer.WrongMethod

abbrev pub none : Answer
none = answer.NoCode

abbrev pub is_clear : Answer
is_clear = answer.Clear

abbrev pub late : Answer
late = answer.Late

abbrev pub retired : Answer
retired = answer.Retired

abbrev pub told : Answer
told = answer.Told

abbrev pub gone : Answer
gone = answer.Gone

abbrev pub in_use : Answer
in_use = answer.State InUse

abbrev pub not_entrant : Answer
not_entrant = answer.State NotEntrant

abbrev pub zombie : Answer
zombie = answer.State Zombie

abbrev pub freed : Answer
freed = answer.State Freed

abbrev pub exited : ℕ → Answer
exited n = answer.Exited n

abbrev pub stop : ℕ → Answer
stop n = answer.Stop n

abbrev pub reply : ℕ → Answer
reply n = answer.Reply n

abbrev pub code : ℕ → Answer
code n = answer.Code n

abbrev pub not_looked : ℕ → Answer
not_looked n = answer.NotLooked n

abbrev pub used : ℕ → Answer
used n = answer.Used n

abbrev pub asked : ℕ → Answer
asked n = answer.Asked n

abbrev pub closed : ℕ → Answer
closed n = answer.Closed n

abbrev pub counts : ℕ → Answer
counts n = answer.Count n

abbrev pub thread : ℕ → ℕ → Answer
thread name place = answer.Thread name place

abbrev pub changes : ℕ → ℤ → Answer
changes serial by = answer.Changed serial by

abbrev pub open_handshake : ℕ → Answer
open_handshake n = answer.Opened n kind.Handshake

abbrev pub open_census : ℕ → Answer
open_census n = answer.Opened n kind.Census

abbrev pub frames : List Frame → Answer
frames stack = answer.Frames stack

abbrev pub interpreted : ℕ → Frame
interpreted method = record { method = method; code = None }

-- The method, slot and serial of a frame; the lines leave the slot out.
abbrev pub compiled : ℕ → ℕ → ℕ → Frame
compiled method slot serial = record { method = method; code = Some (record { slot = slot; serial = serial }) }

abbrev pub census : List CodeCount → Answer
census counts = answer.Census counts

abbrev pub counted : ℕ → ℕ → CodeCount
counted serial count = record { serial = serial; count = count }

abbrev pub refused : Refusal → Answer
refused refusal = answer.Refused refusal
