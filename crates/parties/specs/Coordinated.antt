-- The results of the coordinator's acts.
use Rattle.std.specs.Prelude.{◌≡◌, ◌≢◌, ◌<◌, ◌≤◌, ◌⊎◌, ℕ, List, true, false, Ok, Err, Option, Some, Result, slice_index}
use Rattle.thread_state.specs.PollRule.{armed_with}
use Rattle.bodies.specs.Census.{IsCensus}
use Rattle.berths.specs.Berths.{Moved, Acted, acted}
use Rattle.method_table.specs.Codes.{unfreed}
use Rattle.method_table.specs.TableView.{retire_fault}
use Rattle.method_table.specs.declared.table.RetireFault.{RetireFault}
use Rattle.desk.specs.declared.entries.Entry.{Entry}
use Rattle.desk.specs.declared.entries.Progress.TheVariants.{Undone}
use Rattle.desk.specs.declared.entries.Target.{Target}
use Rattle.desk.specs.declared.entries.Standing.TheVariants as stand
use Rattle.desk.specs.Finishing.{FinishSeen}
use Rattle.desk.specs.Fields.{DeskSeen, Enters, at}
use Rattle.desk.specs.Machine.{Stands}
use Rattle.desk.specs.Refusals.{MayOperate, close_refused, open_refused}
use Rattle.desk.specs.Targets.{progress, standing}
use Rattle.desk.specs.Weighings.{WeighingSeen}
use Rattle.thread_list.specs.Moves.{IsOperated}
use Rattle.stopped_threads.specs.declared.faults.Reclaimed.{Reclaimed}
use Rattle.stopped_threads.specs.declared.faults.Reclaimed.TheVariants as became
use Rattle.stopped_threads.specs.declared.faults.HoldFault.TheVariants as hold
use Rattle.stopped_threads.specs.declared.faults.ReleaseFault.TheVariants as release
use Rattle.stopped_threads.specs.declared.faults.ServeFault.TheVariants as serve
use Rattle.stopped_threads.specs.Held.{AreEach, is_held}
use Rattle.stopped_threads.specs.Holding.{Holding}
use Rattle.stopped_threads.specs.Reclaiming.{IsReclaimedFrom}
use Rattle.coordinator_core.specs.Done as done
use Rattle.coordinator_core.specs.Called.{IsLeft}
use Rattle.coordinator_core.specs.Work.{IsLegal}
use Rattle.stopped_threads.specs.Refused as steps
use Rattle.parties.specs.declared.acts.Fault.TheVariants as fault
use Rattle.parties.specs.Asked.{Told, WasEntered}

abbrev pub Opens : Told → Type 0
Opens (Ok n) = WasEntered (Entry.Open n)
Opens (Err (fault.Open f)) = (d : DeskSeen) × IsLegal d × open_refused (at d) f
Opens (Err fault.Again) = Unit {0}
Opens (Err e) = ⊥

-- The named thread's oldest pending request is armed: by the receipt its berth has the job or mark, and its place is
-- armed with that number. Nothing else changes.
abbrev pub Arms : ℕ → Holding → ℕ → Acted → Holding → Type 0
Arms name old n receipt new
    = (d : DeskSeen) × (t : Target) × IsLegal d × steps.IsUntold (at d) name old.armer t n × (0 < n)
    × (receipt ≡ acted t.place name (steps.told_act t.kind n)) × (new ≡ record old { armer = armed_with old.armer t.place n })

-- Nothing is armed, since the name is gone.
abbrev pub IsGone : ℕ → Holding → Holding → Type 0
IsGone name old new = (new ≡ old) × ((d : DeskSeen) × IsLegal d × (standing (at d) name ≡ stand.Gone))

abbrev pub Tells : ℕ → Holding → Told → Holding → Type 0
Tells name old (Ok n) new = (n ≢ 0 → (receipt : Acted) × Arms name old n receipt new) × (n ≡ 0 → IsGone name old new)
Tells name old (Err (fault.Tell f)) new = (new ≡ old) × ((d : DeskSeen) × IsLegal d × steps.tell_refused (at d) name old.armer f)
Tells name old (Err fault.Again) new = new ≡ old
Tells name old (Err e) new = ⊥

-- A job in hand stays there, unless it is the one that was put into its berth.
abbrev pub KeepsHand : {J : Type 0} → (J → ℕ) → (J → ℕ) → ℕ → Told → Option J → Option J → Type 0
KeepsHand number whom name (Ok n) old new = (job : _) → old ≡ Some job → (new ≡ Some job) ⊎ ((whom job ≡ name) × (number job ≡ n))
KeepsHand number whom name (Err e) old new = (job : _) → old ≡ Some job → new ≡ Some job

-- There is no such place, or a desk with a legal history says why.
abbrev pub ByDesk : {F : Type 0} → ℕ → ℕ → F → F → (DeskSeen → Type 0) → Type 0
ByDesk places place none f says = ((places ≤ place) × (f ≡ none)) ⊎ ((d : DeskSeen) × IsLegal d × says d)

-- By the receipt the body of the place came out of its berth. The number is the oldest operation that its thread owes.
abbrev pub IsHold : ℕ → Holding → ℕ → Moved → Holding → Type 0
IsHold place old n receipt new
    = (d : DeskSeen) × IsLegal d × steps.HoldsBy (steps.In (at d)) old new place receipt
    × (progress (at d) receipt.body.name (slice_index old.armer.armed place) ≡ Undone n)

abbrev pub Holds : ℕ → ℕ → Holding → Told → Holding → Type 0
Holds places place old (Ok n) new = (receipt : Moved) × IsHold place old n receipt new
Holds places place old (Err (fault.Hold f)) new
    = ByDesk places place hold.NoSuchPlace f (λ d. steps.hold_refused_by (steps.In (at d)) old places place f) × (new ≡ old)
Holds places place old (Err fault.Again) new = new ≡ old
Holds places place old (Err e) new = ⊥

-- The held body of the place is served.
abbrev pub IsServed : ℕ → Holding → ℕ → FinishSeen → Holding → Type 0
IsServed place old n finish new = (d : DeskSeen) × IsLegal d × done.ServesBy (steps.In (at d)) old new place n finish

abbrev pub Serves : ℕ → ℕ → Holding → Told → Holding → Type 0
Serves places place old (Ok n) new = (finish : FinishSeen) × IsServed place old n finish new
Serves places place old (Err (fault.Serve f)) new
    = ByDesk places place serve.NoSuchPlace f (λ d. steps.serve_refused_by (steps.In (at d)) old places place f) × (new ≡ old)
Serves places place old (Err fault.Again) new = IsLeft place old new
Serves places place old (Err e) new = ⊥

abbrev pub Releases : ℕ → ℕ → Holding → Told → Holding → Type 0
Releases places place old (Ok n) new = (n ≡ 0) × ((receipt : Moved) × done.Releases old new place receipt)
Releases places place old (Err (fault.Release f)) new
    = ByDesk places place release.NoSuchPlace f (λ d. (is_held place old.held ≡ false) × steps.HasNoHeldBy (steps.In (at d)) places place f) × (new ≡ old)
Releases places place old (Err fault.Again) new = new ≡ old
Releases places place old (Err e) new = ⊥

-- By the receipt the census is operated over the held bodies, which are those of all live threads, and these are its
-- counts.
abbrev pub IsOperate : Holding → ℕ → Stands → List (ℕ × ℕ) → Holding → Type 0
IsOperate old n receipt counts new
    = ((before : DeskSeen) × (after : DeskSeen) × IsLegal before × Enters before after (Entry.Operate n) receipt × MayOperate (at before) old.held)
    × AreEach (IsOperated n) old.held new.held × IsCensus new.held counts × (new.armer ≡ old.armer) × (new.operated ≡ true)

abbrev pub Operates : Holding → Told → List (ℕ × ℕ) → Holding → Type 0
Operates old (Ok n) counts new = (receipt : Stands) × IsOperate old n receipt counts new
Operates old (Err (fault.Operate f)) counts new = (new ≡ old) × ((d : DeskSeen) × IsLegal d × steps.census_refused (at d) old.held f)
Operates old (Err fault.Again) counts new = new ≡ old
Operates old (Err e) counts new = ⊥

-- The counts of a census replace those of the one before.
abbrev pub SameCounts : {A F : Type 0} → Result A F → List (ℕ × ℕ) → List (ℕ × ℕ) → Type 0
SameCounts (Ok n) old new = Unit {0}
SameCounts (Err e) old new = new ≡ old

-- By the receipt the request of this number, which was asked for, is closed. No held thread is a target of it.
abbrev pub IsClose : Option ℕ → Holding → ℕ → Stands → Holding → Type 0
IsClose number old n receipt new
    = ((before : DeskSeen) × (after : DeskSeen) × IsLegal before × Enters before after (Entry.Close n) receipt × steps.MayCloseIn (at before) old number n)
    × (new ≡ record old { operated = false })

abbrev pub Closes : Option ℕ → Holding → Told → Holding → Type 0
Closes number old (Ok n) new = (receipt : Stands) × IsClose number old n receipt new
Closes number old (Err (fault.Close f)) new = ((d : DeskSeen) × IsLegal d × close_refused (at d) number old.held f) × (new ≡ old)
Closes number old (Err fault.Again) new = new ≡ old
Closes number old (Err e) new = ⊥

-- The result of weighing the code at a desk with a legal history, right after a look at all places.
abbrev pub IsWeighed : {N : Type 0} → ℕ → ℕ → Reclaimed N → Type 0
IsWeighed places serial said = (d : DeskSeen) × IsLegal d × IsReclaimedFrom d places serial said

-- The code was freed, or it has this many activations.
abbrev pub Weighs : (N : Type 0) → ℕ → ℕ → Told → Type 0
Weighs N places serial (Ok n)
    = ((receipt : Stands) × (n ≡ 0) × IsWeighed {N = N} places serial (became.Freed receipt))
    ⊎ ((weighing : WeighingSeen) × IsWeighed {N = N} places serial (became.Used n weighing))
Weighs N places serial (Err (fault.Late place)) = (weighing : WeighingSeen) × IsWeighed {N = N} places serial (became.Late place weighing)
Weighs N places serial (Err fault.NotWeighed) = (d : DeskSeen) × IsLegal d × ((why : RetireFault) × (retire_fault (unfreed (at d).table.codes serial) ≡ Some why))
Weighs N places serial (Err fault.Again) = Unit {0}
Weighs N places serial (Err e) = ⊥
