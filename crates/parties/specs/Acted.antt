-- The results of a party's acts.
use Rattle.std.specs.Prelude.{◌≡◌, ◌≢◌, ◌⊎◌, ◌&&◌, ◌++◌, ◌∷◌, [], ℕ, Bool, List, true, false, not, length, nat_lt, if◌then◌else◌, Ok, Err, Option, Some, None}
use Rattle.thread_state.specs.declared.State.{State}
use Rattle.thread_state.specs.declared.State.TheVariants.{InJava, InVm, AtPoll, InNative, Blocked, NativeTrans, BlockedTrans, Serving}
use Rattle.thread_state.specs.declared.Back.{Back}
use Rattle.thread_state.specs.declared.Back.TheVariants.{Java}
use Rattle.thread_state.specs.declared.Move.TheVariants as movement
use Rattle.thread_state.specs.States as table
use Rattle.frames.specs.declared.CodeId.{CodeId}
use Rattle.operations.specs.declared.job.queries.Query.{Query}
use Rattle.bodies.specs.Bodies.{BodyView, SpareView, IsCalled, IsPublished}
use Rattle.bodies.specs.declared.body.Called.{Called}
use Rattle.bodies.specs.declared.body.Called.TheVariants.{Compiled, Interpreted}
use Rattle.berths.specs.Berths.{Moved, Berthing}
use Rattle.berths.specs.declared.room.BodyAct.TheVariants as moved
use Rattle.thread_list.specs.declared.polls.Poll.{Poll}
use Rattle.thread_list.specs.declared.polls.Poll.TheVariants.{Go, Stop}
use Rattle.thread_list.specs.declared.faults.CallFault.TheVariants as call
use Rattle.thread_list.specs.declared.faults.ReturnFault.TheVariants as returns
use Rattle.thread_list.specs.Moves.{Running, SameThread, Polls, Leaves, Gives, ComesBack, IsFirst, IsResumed, IsVacated, IsGivenUp, is_running}
use Rattle.thread_list.specs.Steps.{Starting, StopsNext, EndsServing, PollsIn}
use Rattle.thread_list.specs.Rooms.{StaysStopped}
use Rattle.thread_list.specs.Refused.{HasFrames, PollsOn}
use Rattle.thread_list.specs.Refused.{call_accepted, call_refused, return_refused}
use Rattle.desk.specs.Finishing.{FinishSeen}
use Rattle.stopped_threads.specs.Held.{is_held}
use Rattle.stopped_threads.specs.Holding.{Holding}
use Rattle.desk.specs.declared.entries.Live.{Live}
use Rattle.desk.specs.declared.entries.Entry.{Entry}
use Rattle.desk.specs.Fields.{DeskSeen, at}
use Rattle.desk.specs.Refusals.{start_refused}
use Rattle.parties.specs.Asked.{Told, WasEntered, WasStarted, Submits, Installs, Invalidates, Begins, FindsReply, FindsNext, FindsKind, FindsPending, Forgets, TargetsSeen, no_targets, targets_behind}
use Rattle.parties.specs.Pairs.{first_of, or_zero}
use Rattle.coordinator_core.specs.Work.{IsLegal, DriveSeen, idle}
use Rattle.coordinator_core.specs.declared.drive.Callback.{Callback}
use Rattle.coordinator_core.specs.declared.drive.Callback.TheVariants as callback
use Rattle.parties.specs.Coordinated as coordinated
use Rattle.parties.specs.Driven.{Advances, work}
use Rattle.parties.specs.declared.acts.Act.{Act}
use Rattle.parties.specs.declared.acts.Act.TheVariants as act
use Rattle.parties.specs.declared.acts.Fault.{Fault}
use Rattle.parties.specs.declared.acts.Fault.TheVariants as fault
use Rattle.parties.specs.declared.party.Role.{Role}
use Rattle.parties.specs.declared.party.Role.TheVariants as role

-- The result of a poll as a number, 0 to continue.
abbrev pub number_of : Poll → ℕ
number_of Go = 0
number_of (Stop n) = n

-- A thread that leaves has the receipt that its place was given up.
abbrev pub IsRole : {N : Type 0} → Role N → Type 0
IsRole role.Shares = Unit {0}
IsRole (role.Starts e) = Unit {0}
IsRole (role.Runs r) = Unit {0}
IsRole (role.Leaves m) = m.act ≡ moved.Vacated
IsRole (role.Coordinates c) = Unit {0}

-- A party as contracts see it: its role, the targets of its next request, the counts of its last census as serials with
-- frames, a job that came out of the desk and had no room, and the state of its work on the open requests.
pub record PartySeen (N : Type 0) : Type 0 where
  pub role : Role N
  pub targets : TargetsSeen
  pub counts : List (ℕ × ℕ)
  pub hand : Option Query
  pub drive : DriveSeen

abbrev pub party_as : {N : Type 0} → Role N → PartySeen N
party_as role = record { role = role; targets = no_targets; counts = []; hand = None; drive = idle }

-- The result of a call as a number: the serial of its code, or 0.
abbrev pub serial_of : Called → ℕ
serial_of (Compiled serial) = serial
serial_of Interpreted = 0

abbrev pub Edge : Running → Told → Running → Type 0
Edge old (Ok n) new = (old.state ≡ InJava) × ((said : Poll) × Polls old new InJava said × (n ≡ number_of said))
Edge old (Err fault.Illegal) new = (old.state ≢ InJava) × (new ≡ old)
Edge old (Err e) new = ⊥

abbrev pub CallsIn : ℕ → Running → Told → Running → Type 0
CallsIn method old (Ok n) new
    = call_accepted old method × (new.state ≡ old.state) × ((hint : Option CodeId) × (said : Called) × (before : BodyView) × (after : BodyView) × (old.body ≡ Some before) × (new.body ≡ Some after) × IsCalled before after method hint said × (n ≡ serial_of said))
CallsIn method old (Err fault.Illegal) new = (old.state ≢ InJava) × (new ≡ old)
CallsIn method old (Err fault.NoSuchMethod) new = call_refused old method call.NoSuchMethod × (new ≡ old)
CallsIn method old (Err fault.DepthFull) new = call_refused old method call.DepthFull × (new ≡ old)
CallsIn method old (Err e) new = ⊥

abbrev pub Returns : Running → Told → Running → Type 0
Returns old (Ok n) new = (old.state ≡ InJava) × ((said : Poll) × Leaves old new said × (n ≡ number_of said))
Returns old (Err fault.Illegal) new = (old.state ≢ InJava) × (new ≡ old)
Returns old (Err fault.EmptyStack) new = return_refused old returns.EmptyStack × (new ≡ old)
Returns old (Err e) new = ⊥

abbrev pub Publishes : Running → Told → Running → Type 0
Publishes old (Ok n) new = (n ≡ 0) × (is_running old.state ≡ true) × (new.state ≡ old.state) × ((before : BodyView) × (after : BodyView) × (old.body ≡ Some before) × (new.body ≡ Some after) × IsPublished before after)
Publishes old (Err fault.Illegal) new = (is_running old.state ≡ false) × (new ≡ old)
Publishes old (Err e) new = ⊥

abbrev pub IntoVm : Running → Told → Running → Type 0
IntoVm old (Ok n) new = (n ≡ 0) × (old.state ≡ InJava) × (new ≡ record old { state = InVm })
IntoVm old (Err fault.Illegal) new = (old.state ≢ InJava) × (new ≡ old)
IntoVm old (Err e) new = ⊥

abbrev pub OutOfVm : Running → Told → Running → Type 0
OutOfVm old (Ok n) new = (old.state ≡ InVm) × ((said : Poll) × Polls old new InVm said × (n ≡ number_of said))
OutOfVm old (Err fault.Illegal) new = (old.state ≢ InVm) × (new ≡ old)
OutOfVm old (Err e) new = ⊥

abbrev pub IntoNative : Running → Told → Running → Type 0
IntoNative old (Ok n) new = (n ≡ 0) × (table.step old.state movement.ToNative ≡ Some new.state) × Gives old new
IntoNative old (Err fault.Illegal) new = (table.step old.state movement.ToNative ≡ None) × (new ≡ old)
IntoNative old (Err fault.Again) new = new ≡ old
IntoNative old (Err e) new = ⊥

abbrev pub OutOfNative : Running → Told → Running → Type 0
OutOfNative old (Ok n) new = IsResumed new × ((said : Poll) × (n ≡ number_of said) × ((back : Back) × (old.state ≡ InNative back) × ComesBack new.crossed.body new (NativeTrans back) said))
OutOfNative old (Err fault.Illegal) new = ((back : Back) → old.state ≢ InNative back) × (new ≡ old)
OutOfNative old (Err fault.Again) new = new ≡ old
OutOfNative old (Err e) new = ⊥

abbrev pub Blocks : Running → Told → Running → Type 0
Blocks old (Ok n) new = (n ≡ 0) × (old.state ≡ InVm) × (new.state ≡ Blocked) × Gives old new
Blocks old (Err fault.Illegal) new = (old.state ≢ InVm) × (new ≡ old)
Blocks old (Err fault.Again) new = new ≡ old
Blocks old (Err e) new = ⊥

abbrev pub Unblocks : Running → Told → Running → Type 0
Unblocks old (Ok n) new = IsResumed new × (old.state ≡ Blocked) × ((said : Poll) × (n ≡ number_of said) × ComesBack new.crossed.body new BlockedTrans said)
Unblocks old (Err fault.Illegal) new = (old.state ≢ Blocked) × (new ≡ old)
Unblocks old (Err fault.Again) new = new ≡ old
Unblocks old (Err e) new = ⊥

-- The thread has an operation to serve, or continues; or it stays stopped at its room.
abbrev pub Next : (N : Type 0) → Running → Told → Running → Type 0
Next N old (Ok n) new = StopsNext old new n
Next N old (Err fault.Illegal) new = ((back : Back) → old.state ≢ AtPoll back) × (new ≡ old)
Next N old (Err fault.Again) new = (new ≡ old) ⊎ ((before : Berthing N) × (after : Berthing N) × StaysStopped old new before after)
Next N old (Err e) new = ⊥

-- By the receipt the job's reply was entered. The thread polled, and the number is the poll's.
abbrev pub IsEnded : Running → ℕ → FinishSeen → Running → Type 0
IsEnded old n finish new = (said : Poll) × EndsServing old new said finish × (n ≡ number_of said)

abbrev pub Serves : Running → Told → Running → Type 0
Serves old (Ok n) new = (finish : FinishSeen) × IsEnded old n finish new
Serves old (Err fault.Illegal) new = ((back : Back) → old.state ≢ Serving back) × (new ≡ old)
Serves old (Err fault.Again) new = new ≡ old
Serves old (Err e) new = ⊥

-- A thread that exits with a pending operation publishes and polls.
abbrev pub PollsAtExit : Running → Running → ℕ → Type 0
PollsAtExit old new n
    = (is_running old.state ≡ true) × ((said : Poll) × PollsOn old new said × (n ≡ number_of said))

-- A thread whose exit is refused, or that polled for a pending operation.
abbrev pub StaysOn : Running → Told → Running → Type 0
StaysOn old (Ok n) new = SameThread old new × (n ≢ 0) × PollsAtExit old new n
StaysOn old (Err fault.Illegal) new = (is_running old.state ≡ false) × (new ≡ old)
StaysOn old (Err fault.StackNotEmpty) new = (is_running old.state ≡ true) × HasFrames old.body × (new ≡ old)
StaysOn old (Err fault.Again) new = (new ≡ old) ⊎ (SameThread old new × PollsAtExit old new 0)
StaysOn old (Err e) new = ⊥

-- The thread's place was given up, after a publication of its empty stack.
abbrev pub GivesUp : Running → Moved → Type 0
GivesUp old m = IsVacated old.place old.name m × IsGivenUp old.body m

-- An act of a thread.
abbrev pub OfThread : {N : Type 0} → (Running → Told → Running → Type 0) → Role N → Told → Role N → Type 0
OfThread does (role.Runs old) said (role.Runs new) = SameThread old new × does old said new
OfThread does (role.Runs old) said new = ⊥
OfThread does old said new = (said ≡ Err fault.NotThis) × (new ≡ old)

-- Why a Start isn't entered.
abbrev pub StartFails : ℕ → Fault → Type 0
StartFails places (fault.Start f) = (d : DeskSeen) × IsLegal d × start_refused (at d) places d.book f
StartFails places fault.Again = Unit {0}
StartFails places e = ⊥

-- A thread that starts: its first body, with an empty stack that was published once, came back out of its berth, and
-- the thread polled on its way into Java.
abbrev pub Arrives : ℕ → Running → Type 0
Arrives name r = IsResumed r × PollsIn r.crossed.body r Java × ((seat : SpareView) × IsFirst name seat r.crossed.body)

-- The started thread has the name and place that were entered.
abbrev pub Started : Starting → Told → Running → Type 0
Started e (Ok n) r = (r.name ≡ e.name) × (r.place ≡ e.place) × (r.methods ≡ e.methods) × (n ≡ e.name) × Arrives e.name r
Started e (Err f) r = ⊥

abbrev pub Starts : {N : Type 0} → ℕ → Role N → Told → Role N → Type 0
Starts places role.Shares (Ok n) (role.Runs r) = (e : Starting) × WasStarted e.name e.place × Started e (Ok n) r
Starts places role.Shares (Err e) role.Shares = StartFails places e
Starts places role.Shares (Err fault.Again) (role.Starts e) = WasStarted e.name e.place
Starts places role.Shares said new = ⊥
Starts places (role.Starts e) said (role.Runs r) = Started e said r
Starts places (role.Starts e) said (role.Starts e') = (said ≡ Err fault.Again) × (e' ≡ e)
Starts places (role.Starts e) said new = ⊥
Starts places old said new = (said ≡ Err fault.NotThis) × (new ≡ old)

-- An exit of a thread: the thread exited, and the party is a client; or its place is given up, without an Exit yet; or it continues.
abbrev pub Exits : {N : Type 0} → Role N → Told → Role N → Type 0
Exits (role.Runs old) (Ok n) role.Shares = (n ≡ 0) × ((m : Moved) × GivesUp old m × WasEntered (Entry.Exit m.body.name))
Exits (role.Runs old) (Ok n) (role.Runs new) = StaysOn old (Ok n) new
Exits (role.Runs old) (Err e) (role.Leaves m) = (e ≡ fault.Again) × GivesUp old m
Exits (role.Runs old) (Err e) (role.Runs new) = StaysOn old (Err e) new
Exits (role.Runs old) said new = ⊥
Exits (role.Leaves m) (Ok n) role.Shares = (n ≡ 0) × WasEntered (Entry.Exit m.body.name)
Exits (role.Leaves m) (Err e) (role.Leaves m') = (e ≡ fault.Again) × (m' ≡ m)
Exits (role.Leaves m) said new = ⊥
Exits old said new = (said ≡ Err fault.NotThis) × (new ≡ old)

-- The number of a state.
abbrev pub code_of : State → ℕ
code_of InJava = 0
code_of InVm = 1
code_of (AtPoll back) = 2
code_of (InNative back) = 3
code_of Blocked = 4
code_of (Serving back) = 5
code_of s = 6

abbrev pub Tells : (Running → ℕ) → Running → Told → Running → Type 0
Tells what old said new = (said ≡ Ok (what old)) × (new ≡ old)

-- A thread in this state has its stack, and no poll has stopped it.
abbrev pub has_stack : State → Bool
has_stack InJava = true
has_stack InVm = true
has_stack (Serving back) = true
has_stack s = false

-- How many frames the thread's stack has.
abbrev pub Deep : Running → Told → Running → Type 0
Deep old (Ok n) new = (has_stack old.state ≡ true) × ((b : BodyView) → old.body ≡ Some b → n ≡ length b.image.frames) × (new ≡ old)
Deep old (Err fault.Illegal) new = (has_stack old.state ≡ false) × (new ≡ old)
Deep old (Err e) new = ⊥

-- An act of the coordinator.
abbrev pub OfCoordinator : {N : Type 0} → (Holding → Told → Holding → Type 0) → Role N → Told → Role N → Type 0
OfCoordinator does (role.Coordinates old) said (role.Coordinates new) = does old said new
OfCoordinator does (role.Coordinates old) said new = ⊥
OfCoordinator does old said new = (said ≡ Err fault.NotThis) × (new ≡ old)

abbrev pub Opens : Holding → Told → Holding → Type 0
Opens old said new = coordinated.Opens said × (new ≡ old)

abbrev pub Weighs : (N : Type 0) → ℕ → ℕ → Holding → Told → Holding → Type 0
Weighs N places serial old said new = coordinated.Weighs N places serial said × (new ≡ old)

-- All but the role stays the same.
abbrev pub SameNotes : {N : Type 0} → PartySeen N → PartySeen N → Type 0
SameNotes old new = (new.targets ≡ old.targets) × (new.counts ≡ old.counts) × (new.hand ≡ old.hand) × (new.drive ≡ old.drive)

-- An act that changes only the role of the party.
abbrev pub ActsAs : {N : Type 0} → (Role N → Told → Role N → Type 0) → PartySeen N → Told → PartySeen N → Type 0
ActsAs does old said new = does old.role said new.role × SameNotes old new

-- A party's call at the desk doesn't change the party.
abbrev pub AsksOf : {N : Type 0} → (Told → Type 0) → PartySeen N → Told → PartySeen N → Type 0
AsksOf does old said new = does said × (new ≡ old)

-- A party's call at the desk with the noted targets.
abbrev pub AsksWith : {N : Type 0} → (TargetsSeen → Told → Type 0) → PartySeen N → Told → PartySeen N → Type 0
AsksWith does old said new = does old.targets said × (new ≡ record old { targets = targets_behind said old.targets })

-- The name is noted after the others, if there is memory for it.
abbrev pub Notes : {N : Type 0} → ℕ → PartySeen N → Told → PartySeen N → Type 0
Notes name old (Ok n) new = (n ≡ 0) × (new ≡ record old { targets = record old.targets { names = old.targets.names ++ name ∷ [] } })
Notes name old (Err fault.NoMemory) new = new ≡ old
Notes name old (Err e) new = ⊥

-- The targets are all threads that are live when the next request is submitted.
abbrev pub NotesAll : {N : Type 0} → PartySeen N → Told → PartySeen N → Type 0
NotesAll old said new = (said ≡ Ok 0) × (new ≡ record old { targets = record { names = []; are_all = true } })

abbrev pub Operates : {N : Type 0} → PartySeen N → Told → PartySeen N → Type 0
Operates old said new
    = OfCoordinator (λ before told after. coordinated.Operates before told new.counts after) old.role said new.role
    × (new.targets ≡ old.targets) × (new.hand ≡ old.hand) × (new.drive ≡ old.drive) × coordinated.SameCounts said old.counts new.counts

-- A Tell may put the job in hand into its berth.
abbrev pub TellsName : {N : Type 0} → ℕ → PartySeen N → Told → PartySeen N → Type 0
TellsName name old said new
    = OfCoordinator (coordinated.Tells name) old.role said new.role × (new.targets ≡ old.targets) × (new.counts ≡ old.counts) × (new.drive ≡ old.drive)
    × coordinated.KeepsHand (λ j. j.op) (λ j. j.target) name said old.hand new.hand

-- How many frames the code had in the last operated census.
abbrev pub Counts : {N : Type 0} → ℕ → PartySeen N → Told → PartySeen N → Type 0
Counts serial old said new = (said ≡ Ok (or_zero (first_of serial old.counts))) × (new ≡ old)

-- Advances the work on the open requests.
abbrev pub Advancing : {N : Type 0} → PartySeen N → Told → PartySeen N → Type 0
Advancing {N} old said new
    = OfCoordinator (λ before told after. Advances N (work before old.drive.called) old.counts told (work after new.drive.called) new.counts) old.role said new.role
    × (new.targets ≡ old.targets) × (new.hand ≡ old.hand) × (said ≡ Err fault.NotThis → new ≡ old)

-- The operation of the host's next callback, and the place of its held thread; 0 without one.
abbrev pub operation_of : Option Callback → ℕ
operation_of None = 0
operation_of (Some (callback.Handshake number place)) = number
operation_of (Some (callback.Safepoint number)) = number

abbrev pub place_of : Option Callback → ℕ
place_of (Some (callback.Handshake number place)) = place
place_of called = 0

abbrev pub Shows : {N : Type 0} → (DriveSeen → ℕ) → PartySeen N → Told → PartySeen N → Type 0
Shows what old said new = (said ≡ Ok (what old.drive)) × (new ≡ old)

-- The first due thread with a greater name that isn't held.
abbrev pub awaited_after : List BodyView → (name : ℕ) → List Live → Option Live
awaited_after held name [] = None
awaited_after held name (l ∷ ls) = if nat_lt name l.name && not (is_held l.place held) then Some l else awaited_after held name ls

-- The work of a coordinator waits for the due threads that it doesn't hold.
abbrev pub awaited_of : {N : Type 0} → Role N → (name : ℕ) → List Live → Option Live
awaited_of (role.Coordinates holding) name due = awaited_after holding.held name due
awaited_of r name due = None

abbrev pub number_or_zero : (Live → ℕ) → Option Live → ℕ
number_or_zero what None = 0
number_or_zero what (Some l) = what l

abbrev pub ShowsAwaited : {N : Type 0} → (Live → ℕ) → (name : ℕ) → PartySeen N → Told → PartySeen N → Type 0
ShowsAwaited what name old said new = (said ≡ Ok (number_or_zero what (awaited_of old.role name old.drive.due))) × (new ≡ old)

abbrev pub Acts : {N : Type 0} → ℕ → PartySeen N → Act → Told → PartySeen N → Type 0
Acts places old act.Start said new = ActsAs (Starts places) old said new
Acts places old (act.Call method) said new = ActsAs (OfThread (CallsIn method)) old said new
Acts places old act.Ret said new = ActsAs (OfThread Returns) old said new
Acts places old act.BackEdge said new = ActsAs (OfThread Edge) old said new
Acts places old act.Publish said new = ActsAs (OfThread Publishes) old said new
Acts places old act.ToVm said new = ActsAs (OfThread IntoVm) old said new
Acts places old act.FromVm said new = ActsAs (OfThread OutOfVm) old said new
Acts places old act.ToNative said new = ActsAs (OfThread IntoNative) old said new
Acts places old act.FromNative said new = ActsAs (OfThread OutOfNative) old said new
Acts places old act.Block said new = ActsAs (OfThread Blocks) old said new
Acts places old act.Unblock said new = ActsAs (OfThread Unblocks) old said new
Acts {N} places old act.StopNext said new = ActsAs (OfThread (Next N)) old said new
Acts places old act.StopServe said new = ActsAs (OfThread Serves) old said new
Acts places old act.Exit said new = ActsAs Exits old said new
Acts places old act.Name said new = ActsAs (OfThread (Tells (λ r. r.name))) old said new
Acts places old act.Place said new = ActsAs (OfThread (Tells (λ r. r.place))) old said new
Acts places old act.Depth said new = ActsAs (OfThread Deep) old said new
Acts places old act.State said new = ActsAs (OfThread (Tells (λ r. code_of r.state))) old said new
Acts places old (act.Target name) said new = Notes name old said new
Acts places old act.TargetAll said new = NotesAll old said new
Acts places old (act.Submit ask) said new = AsksWith (Submits ask) old said new
Acts places old (act.Install method) said new = AsksOf (Installs method) old said new
Acts places old (act.Invalidate serial) said new = AsksOf (Invalidates serial) old said new
Acts places old (act.Reply op name) said new = AsksOf (FindsReply op name) old said new
Acts places old (act.LiveAfter name) said new = AsksOf (FindsNext name) old said new
Acts places old act.OpenKind said new = AsksOf FindsKind old said new
Acts places old act.Pending said new = AsksOf FindsPending old said new
Acts places old act.Forget said new = AsksOf Forgets old said new
Acts places old act.Open said new = ActsAs (OfCoordinator Opens) old said new
Acts places old (act.Tell name) said new = TellsName name old said new
Acts places old (act.Hold place) said new = ActsAs (OfCoordinator (coordinated.Holds places place)) old said new
Acts places old (act.Serve place) said new = ActsAs (OfCoordinator (coordinated.Serves places place)) old said new
Acts places old (act.Release place) said new = ActsAs (OfCoordinator (coordinated.Releases places place)) old said new
Acts places old act.Operate said new = Operates old said new
Acts places old (act.Counted serial) said new = Counts serial old said new
Acts {N} places old act.Advance said new = Advancing old said new
Acts places old act.CalledOperation said new = Shows (λ d. operation_of d.called) old said new
Acts places old act.CalledPlace said new = Shows (λ d. place_of d.called) old said new
Acts places old (act.AwaitedAfter name) said new = ShowsAwaited (λ l. l.name) name old said new
Acts places old (act.AwaitedPlace name) said new = ShowsAwaited (λ l. l.place) name old said new
Acts places old act.Awaited said new = Shows (λ d. d.awaited) old said new
Acts places old (act.Close number) said new = ActsAs (OfCoordinator (coordinated.Closes number)) old said new
Acts places old (act.Reclaim serial) said new = AsksWith (Begins serial) old said new
Acts {N} places old (act.Weigh serial) said new = ActsAs (OfCoordinator (Weighs N places serial)) old said new
