-- The results of advancing the work on the open requests: a row of steps, each of which the desk or a room allowed.
use Rattle.std.specs.Prelude.{◌≡◌, ◌⊎◌, ◌<◌, ℕ, true, List, [], ◌∷◌, Option, Some, None, Result, Ok, Err, slice_index}
use Rattle.thread_state.specs.PollRule.{armed_with}
use Rattle.berths.specs.Berths.{Acted, Berthing, Moved, acted, is_told}
use Rattle.desk.specs.declared.entries.Entry.{Entry}
use Rattle.desk.specs.declared.faults.OpenFault.TheVariants as open_fault
use Rattle.desk.specs.Finishing.{FinishSeen}
use Rattle.desk.specs.Fields.{DeskSeen, at}
use Rattle.desk.specs.Machine.{Stands}
use Rattle.desk.specs.Refusals.{MayOperate}
use Rattle.stopped_threads.specs.declared.faults.OperateFault.TheVariants as operate_fault
use Rattle.stopped_threads.specs.Holding.{Holding}
use Rattle.stopped_threads.specs.Refused.{told_act}
use Rattle.coordinator_core.specs.Called as core
use Rattle.coordinator_core.specs.Done as done
use Rattle.coordinator_core.specs.Work.{IsLegal, WasPending}
use Rattle.coordinator_core.specs.declared.drive.Callback.{Callback}
use Rattle.coordinator_core.specs.declared.drive.Callback.TheVariants as callback
use Rattle.coordinator_core.specs.declared.listing.PendingOp.{PendingOp}
use Rattle.parties.specs.declared.acts.Fault.{Fault}
use Rattle.parties.specs.declared.acts.Fault.TheVariants as fault
use Rattle.parties.specs.Asked.{Told, WasEntered}
use Rattle.parties.specs.Coordinated.{Arms, IsOperate, IsClose}

-- The coordinator's holding, and the host's next callback.
pub record Work : Type 0 where
  pub holding : Holding
  pub called : Option Callback

abbrev pub work : Holding → Option Callback → Work
work holding called = record { holding = holding; called = called }

-- The oldest waiting request is opened.
abbrev pub Opened : Work → Work → Type 0
Opened old new = ((n : ℕ) × WasEntered (Entry.Open n)) × (new ≡ old)

-- A listed job or mark is in its room, and the place is armed with its number. The place wasn't armed since the
-- listing.
abbrev pub ArmsListed : Holding → Holding → Type 0
ArmsListed old new
    = (p : PendingOp) × (receipt : Acted) × WasPending p × (slice_index old.armer.armed p.target.place ≡ p.last) × (p.last < p.number)
    × (receipt ≡ acted p.target.place p.name (told_act p.target.kind p.number)) × (new ≡ record old { armer = armed_with old.armer p.target.place p.number })

-- The same, as `tell` does it after a look at the desk.
abbrev pub ArmsAsked : Holding → Holding → Type 0
ArmsAsked old new = (name : ℕ) × (n : ℕ) × (receipt : Acted) × Arms name old n receipt new

abbrev pub Armed : Work → Work → Type 0
Armed old new = (ArmsListed old.holding new.holding ⊎ ArmsAsked old.holding new.holding) × (new.called ≡ old.called)

-- The thread of the place is held, and its oldest job is the host's next callback.
abbrev pub Called : (N : Type 0) → Work → Work → Type 0
Called N old new
    = (number : ℕ) × (place : ℕ) × (room : Berthing N) × core.Calls old.holding new.holding place number room × (new.called ≡ Some (callback.Handshake number place))

-- The thread of the callback is served for that job.
abbrev pub Served : Work → Work → Type 0
Served old new
    = (number : ℕ) × (place : ℕ) × (finish : FinishSeen) × (old.called ≡ Some (callback.Handshake number place)) × core.ServesCalled old.holding new.holding place number finish
    × (new.called ≡ None)

-- The thread of the callback isn't served: the host has served or released it.
abbrev pub Dropped : Work → Work → Type 0
Dropped old new
    = (number : ℕ) × (place : ℕ) × (old.called ≡ Some (callback.Handshake number place)) × core.IsLeft place old.holding new.holding × (new.called ≡ None)

-- The host has run its VM operation.
abbrev pub Ran : Work → Work → Type 0
Ran old new = (number : ℕ) × (old.called ≡ Some (callback.Safepoint number)) × (new ≡ record old { called = None })

-- A thread with a job or mark in its room is held.
abbrev pub Held : (N : Type 0) → Work → Work → Type 0
Held N old new
    = (place : ℕ) × (room : Berthing N) × (receipt : Moved) × (is_told room.jobs room.mark ≡ true) × core.Takes old.holding new.holding place receipt
    × (new.called ≡ old.called)

-- A held thread is released.
abbrev pub Released : Work → Work → Type 0
Released old new = (place : ℕ) × (receipt : Moved) × done.Releases old.holding new.holding place receipt × (new.called ≡ old.called)

abbrev pub Step : (N : Type 0) → Work → Work → Type 0
Step N old new = Opened old new ⊎ (Armed old new ⊎ (Called N old new ⊎ (Served old new ⊎ (Dropped old new ⊎ (Ran old new ⊎ (Held N old new ⊎ Released old new))))))

-- The work between the steps, the latest first.
abbrev pub Goes : (N : Type 0) → List Work → Work → Work → Type 0
Goes N [] old new = new ≡ old
Goes N (last ∷ before) old new = Goes N before old last × Step N last new

-- A row of steps leads from the first to the second.
pub record Leads (N : Type 0) (old new : Work) : Type 0 where
  pub between : List Work
  pub goes : Goes N between old new

-- Why the work rests.
abbrev pub Rests : Work → Fault → Type 0
Rests w fault.Again = Unit {0}
Rests w fault.NoMemory = Unit {0}
Rests w fault.Awaits = Unit {0}
Rests w fault.Runs = (number : ℕ) × (place : ℕ) × (w.called ≡ Some (callback.Handshake number place))
Rests w (fault.Open open_fault.QueueEmpty) = (d : DeskSeen) × IsLegal d × ((at d).opened ≡ []) × ((at d).waiting ≡ [])
Rests w (fault.Operate operate_fault.NoMemory) = (d : DeskSeen) × IsLegal d × MayOperate (at d) w.holding.held
Rests w e = ⊥

-- The census is operated over all live threads, which are held. These are its counts, and its VM operation is the
-- host's next callback.
abbrev pub Operated : (old new : Work) → (counts : List (ℕ × ℕ)) → Type 0
Operated old new counts
    = (n : ℕ) × (receipt : Stands) × IsOperate old.holding n receipt counts new.holding × (new.called ≡ Some (callback.Safepoint n))

-- No census is operated, and the counts stay the same.
abbrev pub Passes : (old new : Work) → (counted counts : List (ℕ × ℕ)) → Type 0
Passes old new counted counts = (new ≡ old) × (counts ≡ counted)

-- The census is operated, and the work rests for the VM operation; or it was operated before; or it isn't, for this
-- reason.
abbrev pub Operates : (old : Work) → (counted : List (ℕ × ℕ)) → Result Unit Fault → (new : Work) → (counts : List (ℕ × ℕ)) → Type 0
Operates old counted (Ok u) new counts = Passes old new counted counts
Operates old counted (Err fault.AtSafepoint) new counts = Operated old new counts
Operates old counted (Err e) new counts = Passes old new counted counts × Rests new e

-- The oldest open request, which has this number, is closed.
abbrev pub Closed : Work → ℕ → Work → Type 0
Closed old n new = (receipt : Stands) × IsClose None old.holding n receipt new.holding × (new.called ≡ old.called)

-- After a row of steps the request of this number is closed, or the work rests.
abbrev pub Ends : (N : Type 0) → Work → Told → Work → Type 0
Ends N old (Ok n) new = (last : Work) × Leads N old last × Closed last n new
Ends N old (Err e) new = Leads N old new × Rests new e

-- After a row of steps the oldest open request is closed, or the census is operated, or the work rests.
abbrev pub Advances : (N : Type 0) → Work → (counted : List (ℕ × ℕ)) → Told → Work → (counts : List (ℕ × ℕ)) → Type 0
Advances N old counted (Err fault.AtSafepoint) new counts = (last : Work) × Leads N old last × Operated last new counts
Advances N old counted said new counts = (counts ≡ counted) × Ends N old said new
