-- The results of a party's calls at the desk.
use Rattle.std.specs.Prelude.{◌≡◌, ◌⊎◌, ◌<◌, ◌≤◌, ◌+◌, ℕ, Bool, true, false, List, [], ◌∷◌, length, Result, Ok, Err, Option, Some, None, option_map, if◌then◌else◌}
use Rattle.frames.specs.declared.CodeId.{CodeId}
use Rattle.frames.specs.BoardViews.{went_round}
use Rattle.method_table.specs.Codes.{unfreed, id_of, in_use_for}
use Rattle.method_table.specs.TableView.{invalidate_fault, retire_fault}
use Rattle.operations.specs.declared.Ask.{Ask}
use Rattle.operations.specs.declared.Ask.TheVariants.{CountOf}
use Rattle.operations.specs.declared.Request.{Request}
use Rattle.operations.specs.declared.Request.TheVariants.{Handshake, Census}
use Rattle.operations.specs.declared.Kind.{Kind}
use Rattle.operations.specs.declared.Kind.TheVariants as kind
use Rattle.desk.specs.declared.entries.Entry.{Entry}
use Rattle.desk.specs.declared.faults.AskFault.TheVariants as ask_fault
use Rattle.desk.specs.declared.faults.ReclaimFault.TheVariants as reclaim_fault
use Rattle.desk.specs.Fields.{DeskSeen, Enters, EntersInstall, at}
use Rattle.desk.specs.Machine.{State, Stands, is_taken, names_of}
use Rattle.desk.specs.Replies.{replies_kept}
use Rattle.desk.specs.Targets.{live_after, open_kind}
use Rattle.desk.specs.Pending.{least_pending}
use Rattle.desk.specs.Refusals.{ask_refused, install_refused, reclaim_refused, is_idle}
use Rattle.coordinator_core.specs.Work.{IsLegal}
use Rattle.parties.specs.Pairs.{first_of, or_zero}
use Rattle.parties.specs.declared.acts.Fault.{Fault}
use Rattle.parties.specs.declared.acts.Fault.TheVariants as fault

-- The result of an act: a number, or why the act isn't done.
abbrev pub Told : Type 0
Told = Result ℕ Fault

-- By the receipt the entry was entered, lawfully, at a desk with a legal history.
abbrev pub IsEntry : Entry → Stands → Type 0
IsEntry entry receipt = (old : DeskSeen) × (new : DeskSeen) × IsLegal old × Enters old new entry receipt

abbrev pub WasEntered : Entry → Type 0
WasEntered entry = (receipt : Stands) × IsEntry entry receipt

-- By the receipt the name was started at the place, which was the least vacant one.
abbrev pub IsStart : (name place : ℕ) → Stands → Type 0
IsStart name place receipt
    = (old : DeskSeen) × (new : DeskSeen) × IsLegal old × Enters old new (Entry.Start name place) receipt
    × ((k : ℕ) → k < place → is_taken k (at old).live ≡ true)

abbrev pub WasStarted : (name place : ℕ) → Type 0
WasStarted name place = (receipt : Stands) × IsStart name place receipt

-- The number of a result, without its receipt.
abbrev pub number_in : {A : Type 0} → Result (ℕ × A) Fault → Told
number_in (Ok r) = Ok r.0
number_in (Err e) = Err e

-- The targets of the next request: these names, or all that are live at the desk at which it is submitted.
pub record TargetsSeen : Type 0 where
  pub names : List ℕ
  pub are_all : Bool

abbrev pub no_targets : TargetsSeen
no_targets = record { names = []; are_all = false }

abbrev pub which_targets : Bool → (names live : List ℕ) → List ℕ
which_targets true names live = live
which_targets false names live = names

abbrev pub targets_at : TargetsSeen → State → List ℕ
targets_at t s = which_targets t.are_all t.names (names_of s.live)

abbrev pub request_for : Option Ask → List ℕ → Request
request_for (Some ask) names = Handshake names ask
request_for None names = Census

-- By the receipt the request of the targets waits, with this number.
abbrev pub IsAsk : Option Ask → TargetsSeen → ℕ → Stands → Type 0
IsAsk ask targets n receipt
    = (old : DeskSeen) × (new : DeskSeen) × IsLegal old × Enters old new (Entry.Ask n (request_for ask (targets_at targets (at old)))) receipt

abbrev pub Submits : Option Ask → TargetsSeen → Told → Type 0
Submits ask targets (Ok n) = (receipt : Stands) × IsAsk ask targets n receipt
Submits ask targets (Err (fault.Ask f)) = (d : DeskSeen) × IsLegal d × ask_refused (at d) (request_for ask (targets_at targets (at d))) true d.book f
Submits ask targets (Err fault.Again) = Unit {0}
Submits ask targets (Err fault.NoMemory) = Unit {0}
Submits ask targets (Err e) = ⊥

-- The targets of the next request after a result: the same if the call is to be tried again or memory was refused,
-- otherwise none.
abbrev pub targets_behind : Told → TargetsSeen → TargetsSeen
targets_behind (Ok n) targets = no_targets
targets_behind (Err fault.Again) targets = targets
targets_behind (Err fault.NoMemory) targets = targets
targets_behind (Err (fault.Ask ask_fault.NoMemory)) targets = targets
targets_behind (Err (fault.Reclaim (reclaim_fault.Ask ask_fault.NoMemory))) targets = targets
targets_behind (Err e) targets = no_targets

-- By the receipt the code of the serial was installed for the method, in place of the code in use.
abbrev pub IsInstall : ℕ → ℕ → Stands → Type 0
IsInstall method serial receipt
    = (old : DeskSeen) × (new : DeskSeen) × (replaced : Option CodeId) × (code : CodeId) × IsLegal old × (serial ≡ code.serial)
    × EntersInstall old new replaced code method receipt × (replaced ≡ option_map id_of (in_use_for (at old).table.codes method))

abbrev pub Installs : ℕ → Told → Type 0
Installs method (Ok serial) = (receipt : Stands) × IsInstall method serial receipt
Installs method (Err (fault.Code f)) = (d : DeskSeen) × IsLegal d × install_refused (at d) method d.book f
Installs method (Err fault.Again) = Unit {0}
Installs method (Err e) = ⊥

abbrev pub Invalidates : ℕ → Told → Type 0
Invalidates serial (Ok n) = (n ≡ 0) × WasEntered (Entry.Invalidate serial)
Invalidates serial (Err (fault.Invalidate f)) = (d : DeskSeen) × IsLegal d × (invalidate_fault (unfreed (at d).table.codes serial) ≡ Some f)
Invalidates serial (Err fault.Again) = Unit {0}
Invalidates serial (Err e) = ⊥

-- The handshake of reclaiming, if there are names: it asks them for the code's frames.
abbrev pub reclaiming_for : (serial : ℕ) → List ℕ → Option Request
reclaiming_for serial [] = None
reclaiming_for serial (name ∷ rest) = Some (Handshake (name ∷ rest) (CountOf serial))

-- The request, if there is one, waits with this number and receipt. Without one the number is 0.
abbrev pub Waits : Option Request → ℕ → Option Stands → DeskSeen → DeskSeen → Type 0
Waits None n receipt old new = (n ≡ 0) × (receipt ≡ None) × (new.book ≡ old.book)
Waits (Some request) n None old new = ⊥
Waits (Some request) n (Some receipt) old new = Enters old new (Entry.Ask n request) receipt

-- Reclaiming of a code that may be reclaimed made its round, and its handshake waits.
abbrev pub IsBegun : (serial : ℕ) → TargetsSeen → ℕ → Option Stands → Type 0
IsBegun serial targets n receipt
    = (old : DeskSeen) × (new : DeskSeen) × IsLegal old × (retire_fault (unfreed (at old).table.codes serial) ≡ None) × (is_idle (at old) ≡ true)
    × (new.keeper ≡ went_round old.keeper old.keeper.moment) × Waits (reclaiming_for serial (targets_at targets (at old))) n receipt old new

abbrev pub Begins : (serial : ℕ) → TargetsSeen → Told → Type 0
Begins serial targets (Ok n) = (receipt : Option Stands) × IsBegun serial targets n receipt
Begins serial targets (Err (fault.Reclaim f))
    = (d : DeskSeen) × IsLegal d × reclaim_refused (at d) serial (reclaiming_for serial (targets_at targets (at d))) (λ _. true) d.book d.keeper.moment f
Begins serial targets (Err fault.Again) = Unit {0}
Begins serial targets (Err fault.NoMemory) = Unit {0}
Begins serial targets (Err e) = ⊥

-- The name's reply in the operation, if this desk stores it.
abbrev pub ReplyAt : DeskSeen → (op name : ℕ) → Told → Type 0
ReplyAt d op name (Ok n) = first_of name (replies_kept op d.book) ≡ Some n
ReplyAt d op name (Err fault.Pending) = (first_of name (replies_kept op d.book) ≡ None) × (least_pending (at d) ≤ op)
ReplyAt d op name (Err fault.NotAnswered) = (first_of name (replies_kept op d.book) ≡ None) × (op < least_pending (at d))
ReplyAt d op name (Err fault.NoMemory) = Unit {0}
ReplyAt d op name (Err e) = ⊥

abbrev pub FindsReply : (op name : ℕ) → Told → Type 0
FindsReply op name said = (said ≡ Err fault.Again) ⊎ ((d : DeskSeen) × IsLegal d × ReplyAt d op name said)

-- The least live name above this one at a desk, 0 for none.
abbrev pub FindsNext : (name : ℕ) → Told → Type 0
FindsNext name (Ok n) = (d : DeskSeen) × IsLegal d × (n ≡ or_zero (live_after name (at d).live))
FindsNext name (Err fault.Again) = Unit {0}
FindsNext name (Err e) = ⊥

-- The least number of an open or waiting request, 0 without one.
abbrev pub pending_number : State → ℕ
pending_number s = if is_idle s then 0 else least_pending s

abbrev pub FindsPending : Told → Type 0
FindsPending (Ok n) = (d : DeskSeen) × IsLegal d × (n ≡ pending_number (at d))
FindsPending (Err fault.Again) = Unit {0}
FindsPending (Err e) = ⊥

-- The number of a kind, 0 for none.
abbrev pub kind_number : Option Kind → ℕ
kind_number None = 0
kind_number (Some kind.Handshake) = 1
kind_number (Some kind.Census) = 2

-- The kind of the oldest open request at a desk, 0 without one. All open requests are of one kind.
abbrev pub FindsKind : Told → Type 0
FindsKind (Ok n) = (d : DeskSeen) × IsLegal d × (n ≡ kind_number (open_kind (at d)))
FindsKind (Err fault.Again) = Unit {0}
FindsKind (Err e) = ⊥

-- A desk has forgotten all its entries.
abbrev pub Forgets : Told → Type 0
Forgets (Ok n)
    = (n ≡ 0)
    × ((old : DeskSeen) × (new : DeskSeen) × IsLegal old × (new.book.history ≡ old.book.history) × (new.book.gone.entries ≡ length old.book.history)
    × (new.book.gone.operations + 1 ≡ least_pending (at old)))
Forgets (Err fault.Again) = Unit {0}
Forgets (Err e) = ⊥
