-- What the calls of both coordinators answer: each refusal where its own test holds, and those before it don't.
use Rattle.std.specs.Prelude.{◌≡◌, ◌⊎◌, ◌<◌, ◌≤◌, ◌++◌, ℕ, Bool, true, false, List, [], ◌∷◌, Option, Some, None, Result, Ok, Err, if◌then◌else◌, slice_get, slice_index, length}
use Rattle.thread_state.specs.declared.poll_rule.Arming.{Arming}
use Rattle.thread_state.specs.PollRule.{armed_with}
use Rattle.bodies.specs.Bodies.{BodyView}
use Rattle.operations.specs.declared.Kind.{Kind}
use Rattle.operations.specs.declared.Kind.TheVariants as kind
use Rattle.desk.specs.declared.entries.Target.{Target}
use Rattle.desk.specs.declared.entries.Standing.{Standing}
use Rattle.desk.specs.declared.entries.Standing.TheVariants as stand
use Rattle.desk.specs.declared.entries.Progress.{Progress}
use Rattle.desk.specs.declared.entries.Progress.TheVariants as is
use Rattle.desk.specs.declared.faults.CloseFault.{CloseFault}
use Rattle.desk.specs.Machine.{State, Current}
use Rattle.desk.specs.Targets.{standing, untold, progress, name_at}
use Rattle.desk.specs.Refusals.{chosen, holds_target, close_refused, operate_refused, MayOperate}
use Rattle.stopped_threads.specs.declared.faults.Told.{Told}
use Rattle.stopped_threads.specs.declared.faults.Told.TheVariants as told
use Rattle.stopped_threads.specs.declared.faults.TellFault.{TellFault}
use Rattle.stopped_threads.specs.declared.faults.TellFault.TheVariants as tell
use Rattle.stopped_threads.specs.declared.finding.Found.{Found}
use Rattle.stopped_threads.specs.declared.finding.Found.TheVariants as found
use Rattle.stopped_threads.specs.declared.faults.HoldFault.{HoldFault}
use Rattle.stopped_threads.specs.declared.faults.HoldFault.TheVariants as hold
use Rattle.stopped_threads.specs.declared.faults.ServeFault.{ServeFault}
use Rattle.stopped_threads.specs.declared.faults.ServeFault.TheVariants as serve
use Rattle.stopped_threads.specs.declared.faults.ReleaseFault.{ReleaseFault}
use Rattle.stopped_threads.specs.declared.faults.ReleaseFault.TheVariants as release
use Rattle.stopped_threads.specs.declared.faults.OperateFault.{OperateFault}
use Rattle.stopped_threads.specs.declared.faults.OperateFault.TheVariants as operate
use Rattle.stopped_threads.specs.Held.{is_held, StandsAt}
use Rattle.stopped_threads.specs.Holding.{Holding}
use Rattle.berths.specs.Berths.{Moved, Went, acted, Berthing, IsAbsent, is_told}
use Rattle.berths.specs.declared.room.BodyAct.TheVariants as body_act
use Rattle.berths.specs.declared.room.BerthAct.{BerthAct}
use Rattle.berths.specs.declared.room.BerthAct.TheVariants as berth

-- The name stands to the open requests as this target.
abbrev pub IsAsked : State → ℕ → Target → Type 0
IsAsked s name t = standing s name ≡ stand.Asked t

-- The oldest open request of the target that isn't in its berth yet: its number is greater than the one with which the target's
-- place was last armed.
abbrev pub IsUntold : State → ℕ → Arming → Target → ℕ → Type 0
IsUntold s name armer t number = IsAsked s name t × (untold s name (slice_index armer.armed t.place) ≡ Some number)

-- All of the target's open requests are in its berth already.
abbrev pub WasTold : State → ℕ → Arming → Target → Type 0
WasTold s name armer t = IsAsked s name t × (untold s name (slice_index armer.armed t.place) ≡ None)

-- What goes into the berth of a target: the mark of a census, or its job.
abbrev pub told_act : Kind → ℕ → BerthAct
told_act kind.Census number = berth.Marked number
told_act kind.Handshake number = berth.Told number

-- `tell` puts the oldest request of a target that isn't in its berth yet there, and arms the target's place with that number, and
-- no other place.
abbrev pub tells : {N : Type 0} → State → ℕ → Arming → Arming → Told N → Type 0
tells s name old new (told.Told r)
    = (t : Target) × (number : ℕ) × IsUntold s name old t number × (new ≡ armed_with old t.place number) × (r ≡ acted t.place name (told_act t.kind number))
tells s name old new told.Gone = (standing s name ≡ stand.Gone) × (new ≡ old)

abbrev pub tell_refused : State → ℕ → Arming → TellFault → Type 0
tell_refused s name armer tell.NothingOpen = standing s name ≡ stand.NothingOpen
tell_refused s name armer tell.NotOf = standing s name ≡ stand.NotOf
tell_refused s name armer tell.AlreadyTold = (t : Target) × WasTold s name armer t

abbrev pub tell_said : {N : Type 0} → ℕ → Arming → Arming → Result (Told N) TellFault → Type 0
tell_said name old new (Ok told) = (s : State) × tells s name old new told
tell_said name old new (Err fault) = (s : State) × tell_refused s name old fault × (new ≡ old)

-- The result of `tell` when nothing is armed.
abbrev pub tell_stays : {N : Type 0} → State → ℕ → Arming → Result (Told N) TellFault → Type 0
tell_stays s name armer (Ok (told.Told r)) = true ≡ false
tell_stays s name armer (Ok told.Gone) = standing s name ≡ stand.Gone
tell_stays s name armer (Err fault) = tell_refused s name armer fault

-- What the desk says about a name: a request to arm for its thread, whose place exists; a place that doesn't exist; or the result
-- of `tell`.
abbrev pub IsFound : {N : Type 0} → State → ℕ → Arming → Found N → Type 0
IsFound s name armer (found.Untold t number)
    = IsUntold s name armer t number × (t.place < length armer.armed) × (slice_index armer.armed t.place < number)
IsFound s name armer found.NoPlace = (t : Target) × IsAsked s name t × (length armer.armed ≤ t.place)
IsFound s name armer (found.Said said) = tell_stays s name armer said

-- Why a thread isn't held, by its standing to the open requests and its progress.
abbrev pub hold_fault : Standing → Progress → Option HoldFault
hold_fault stand.NothingOpen p = Some hold.NothingOpen
hold_fault stand.NotOf p = Some hold.NotOf
hold_fault stand.Gone p = Some hold.NotTold
hold_fault (stand.Asked t) is.NotTold = Some hold.NotTold
hold_fault (stand.Asked t) is.Done = Some hold.AlreadyDone
hold_fault (stand.Asked t) (is.Undone number) = None

-- The statement holds in this state of the desk.
abbrev pub In : State → (State → Type 0) → Type 0
In s P = P s

-- The statement holds in some state of the desk. Nobody can say in which, since the desk is under a lock.
abbrev pub InSome : (State → Type 0) → Type 0
InSome P = (s : State) × P s

-- The thread of the name is live at the place, and may be held, or not for this reason, as far as the open requests go.
abbrev pub IsFaultOf : State → Holding → ℕ → ℕ → Option HoldFault → Type 0
IsFaultOf s c place name fault = (name_at place s.live ≡ Some name) × (hold_fault (standing s name) (progress s name (slice_index c.armer.armed place)) ≡ fault)

-- The named thread is live at the place, isn't held, and was armed for an open request of which it has no Finish.
abbrev pub MayHoldBy : ((State → Type 0) → Type 0) → Holding → ℕ → ℕ → Type 0
MayHoldBy by c place name = (is_held place c.held ≡ false) × by (λ s. IsFaultOf s c place name None)

abbrev pub MayHold : Holding → ℕ → ℕ → Type 0
MayHold c place name = MayHoldBy InSome c place name

abbrev pub hold_refused_by : ((State → Type 0) → Type 0) → Holding → ℕ → ℕ → HoldFault → Type 0
hold_refused_by by c places place hold.NoSuchPlace = places ≤ place
hold_refused_by by c places place hold.Vacant = (place < places) × by (λ s. name_at place s.live ≡ None)
hold_refused_by by c places place hold.NothingOpen = (place < places) × by (λ s. (name : ℕ) × IsFaultOf s c place name (Some hold.NothingOpen))
hold_refused_by by c places place hold.NotOf = (place < places) × by (λ s. (name : ℕ) × IsFaultOf s c place name (Some hold.NotOf))
hold_refused_by by c places place hold.NotTold = (place < places) × by (λ s. (name : ℕ) × IsFaultOf s c place name (Some hold.NotTold))
hold_refused_by by c places place hold.AlreadyDone = (place < places) × by (λ s. (name : ℕ) × IsFaultOf s c place name (Some hold.AlreadyDone))
hold_refused_by by c places place hold.Held = (place < places) × by (λ s. (name : ℕ) × IsFaultOf s c place name None) × (is_held place c.held ≡ true)
hold_refused_by by c places place hold.NotSafe = (place < places) × ((name : ℕ) × MayHoldBy by c place name)

abbrev pub hold_refused : Holding → ℕ → ℕ → HoldFault → Type 0
hold_refused c places place fault = hold_refused_by InSome c places place fault

-- A room doesn't give the named thread's body to a holder: the body isn't there, or no operation is pending for the thread.
abbrev pub Withholds : {N : Type 0} → Berthing N → ℕ → ℕ → Type 0
Withholds room name place = IsAbsent room name place ⊎ (is_told room.jobs room.mark ≡ false)

-- Why a place has no held thread: there is no such place, no live thread has it, or its thread isn't held.
abbrev pub HasNoHeldBy : ((State → Type 0) → Type 0) → ℕ → ℕ → ReleaseFault → Type 0
HasNoHeldBy by places place release.NoSuchPlace = places ≤ place
HasNoHeldBy by places place release.Vacant = (place < places) × by (λ s. name_at place s.live ≡ None)
HasNoHeldBy by places place release.NotHeld = (place < places) × by (λ s. (name : ℕ) × (name_at place s.live ≡ Some name))

abbrev pub HasNoHeld : ℕ → ℕ → ReleaseFault → Type 0
HasNoHeld places place fault = HasNoHeldBy InSome places place fault

-- `hold` takes the place's body as it was in its berth, as the receipt shows, and appends it to the held ones.
abbrev pub HoldsBy : ((State → Type 0) → Type 0) → Holding → Holding → ℕ → Moved → Type 0
HoldsBy by old new place receipt
    = (name : ℕ) × MayHoldBy by old place name × Went place name body_act.Held receipt × (new ≡ record old { held = old.held ++ receipt.body ∷ [] })

abbrev pub Holds : Holding → Holding → ℕ → Moved → Type 0
Holds old new place receipt = HoldsBy InSome old new place receipt

-- Why a held thread isn't served, by its progress.
abbrev pub serve_fault_at : Progress → Option ServeFault
serve_fault_at is.NotTold = Some serve.NotTold
serve_fault_at is.Done = Some serve.AlreadyDone
serve_fault_at (is.Undone number) = None

-- In a census none is served.
abbrev pub serve_fault_in : Kind → Progress → Option ServeFault
serve_fault_in kind.Census p = Some serve.NotOf
serve_fault_in kind.Handshake p = serve_fault_at p

-- Why a held thread isn't served, by its standing to the open requests and its progress.
abbrev pub serve_fault : Standing → Progress → Option ServeFault
serve_fault stand.NothingOpen p = Some serve.NothingOpen
serve_fault stand.NotOf p = Some serve.NotOf
serve_fault stand.Gone p = Some serve.NotTold
serve_fault (stand.Asked t) p = serve_fault_in t.kind p

-- What the desk says of the held thread at the index.
abbrev pub IsServeFaultBy : ((State → Type 0) → Type 0) → Holding → ℕ → ℕ → Option ServeFault → Type 0
IsServeFaultBy by c index place fault
    = (body : BodyView) × (slice_get c.held index ≡ Some body)
    × by (λ s. serve_fault (standing s body.name) (progress s body.name (slice_index c.armer.armed place)) ≡ fault)

abbrev pub IsServeFault : Holding → ℕ → ℕ → Option ServeFault → Type 0
IsServeFault c index place fault = IsServeFaultBy InSome c index place fault

-- Why a place isn't served whose thread isn't held.
abbrev pub unserved : ReleaseFault → ServeFault
unserved release.NoSuchPlace = serve.NoSuchPlace
unserved release.Vacant = serve.Vacant
unserved release.NotHeld = serve.NotHeld

-- Why the thread of a place isn't served: it isn't held, or the desk refuses.
abbrev pub serve_refused_by : ((State → Type 0) → Type 0) → Holding → ℕ → ℕ → ServeFault → Type 0
serve_refused_by by c places place fault
    = ((is_held place c.held ≡ false) × ((why : ReleaseFault) × HasNoHeldBy by places place why × (fault ≡ unserved why)))
    ⊎ ((index : ℕ) × (body : BodyView) × StandsAt c.held index place body × IsServeFaultBy by c index place (Some fault))

abbrev pub serve_refused : Holding → ℕ → ℕ → ServeFault → Type 0
serve_refused c places place fault = serve_refused_by InSome c places place fault

-- Why a census isn't operated: the desk refuses it, or else there was no memory.
abbrev pub census_refused : State → List BodyView → OperateFault → Type 0
census_refused s bs (operate.Refused fault) = operate_refused s bs fault
census_refused s bs operate.NoMemory = MayOperate s bs

-- The open request of the number, or without one the oldest, had this number, and no held thread is its target.
abbrev pub MayCloseIn : State → Holding → Option ℕ → ℕ → Type 0
MayCloseIn s c number closed = (o : Current) × (chosen number s.opened ≡ Some o) × (closed ≡ o.number) × (holds_target o.request c.held ≡ false)

abbrev pub MayClose : Holding → Option ℕ → ℕ → Type 0
MayClose c number closed = (s : State) × MayCloseIn s c number closed

-- Why it isn't closed.
abbrev pub not_closed : Holding → Option ℕ → CloseFault → Type 0
not_closed c number fault = (s : State) × close_refused s number c.held fault
