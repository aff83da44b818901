-- The codes of a run, by their serials, and the receipts of their entries.
use Rattle.std.specs.Prelude.{◌≡◌, ◌⊎◌, ◌+◌, ◌++◌, ℕ, zero, suc, List, [], ◌∷◌, Option, Some, None, length, slice_index, slice_set, ⊤}
use Rattle.board.specs.declared.weighed.Weighed.TheVariants.{NotLooked, Used as InUse}
use Rattle.desk.specs.Fields.{DeskSeen, LooksAtAll}
use Rattle.desk.specs.Machine.{Stands}
use Rattle.desk.specs.declared.entries.Entry.TheVariants.{Install, Free}
use Rattle.stopped_threads.specs.Reclaiming.{WasWeighed}
use Rattle.stopped_threads.specs.declared.faults.Reclaimed.{Reclaimed}
use Rattle.stopped_threads.specs.declared.faults.Reclaimed.TheVariants.{Freed, Used, Late}

-- The code in use of each method, the codes that are out of use and not freed, and the receipts of those that were installed and freed.
pub record Codes : Type 0 where
  pub in_use : List ℕ
  pub left : List ℕ
  pub installed : List Stands
  pub freed : List Stands

-- The code was installed for the method.
abbrev pub IsInstall : ℕ → ℕ → Stands → Type 0
IsInstall method serial r = (slot : ℕ) × (r.entry ≡ Install (record { slot = slot; serial = serial }) method)

-- Each of these codes was installed for one method; the methods rise by one, starting with this one.
abbrev pub AreInstalls : ℕ → List ℕ → List Stands → Type 0
AreInstalls method [] [] = ⊤
AreInstalls method [] (r ∷ rs) = ⊥
AreInstalls method (s ∷ ss) [] = ⊥
AreInstalls method (s ∷ ss) (r ∷ rs) = IsInstall method s r × AreInstalls (suc method) ss rs

-- Each of this many methods has a code in use that was installed for it. No other code was installed, and none is out of use or freed.
abbrev pub InstallsEach : ℕ → Codes → Type 0
InstallsEach methods c =
    (length c.in_use ≡ methods) × (length c.installed ≡ methods) × AreInstalls 0 c.in_use c.installed × (c.left ≡ []) × (c.freed ≡ [])

-- The code was weighed after a look at all places, and stays: activations are left, or a place is late.
abbrev pub WasLeft : ℕ → Type 0
WasLeft serial =
    (places : ℕ) × (before : DeskSeen) × (looked : DeskSeen) × (after : DeskSeen) × LooksAtAll serial places before looked
    × (((n : ℕ) × WasWeighed places serial looked after (InUse n)) ⊎ ((place : ℕ) × WasWeighed places serial looked after (NotLooked place)))

-- A code is freed and its receipt added, or it was weighed, stays, and is added to the codes that are left.
abbrev pub IsKept : ℕ → List Stands → List ℕ → List Stands → List ℕ → Type 0
IsKept serial freed left freed' left' =
    ((r : Stands) × (r.entry ≡ Free serial) × (freed' ≡ freed ++ r ∷ []) × (left' ≡ left)) ⊎ (WasLeft serial × (freed' ≡ freed) × (left' ≡ left ++ serial ∷ []))

-- A reclaim didn't free the code: activations are left, or a place is late.
abbrev pub IsLeft : {N : Type 0} → Reclaimed N → Type 0
IsLeft (Freed r) = ⊥
IsLeft (Used n weighing) = ⊤
IsLeft (Late place weighing) = ⊤

-- If there is a receipt of the code's Free, the receipt is added to the freed ones; otherwise the code is added to those that are left.
abbrev pub IsKeptBy : ℕ → Option Stands → List Stands → List ℕ → List Stands → List ℕ → Type 0
IsKeptBy serial (Some r) freed left freed' left' = (freed' ≡ freed ++ r ∷ []) × (left' ≡ left)
IsKeptBy serial None freed left freed' left' = (freed' ≡ freed) × (left' ≡ left ++ serial ∷ [])

-- Another code was installed for the method, and the old one is freed or left.
abbrev pub Replaced : ℕ → Codes → Codes → Type 0
Replaced method old new =
    (serial : ℕ) × (r : Stands) × IsInstall method serial r × (new.in_use ≡ slice_set old.in_use method serial)
    × (new.installed ≡ old.installed ++ r ∷ []) × IsKept (slice_index old.in_use method) old.freed old.left new.freed new.left

-- The code of each of the first methods was replaced, one after the other.
unfoldable pub ReplacedFirst : ℕ → Codes → Codes → Type 0
ReplacedFirst zero old new = new ≡ old
ReplacedFirst (suc method) old new = (mid : Codes) × ReplacedFirst method old mid × Replaced method mid new

-- Each method still has a code; n more codes are installed, and n more are freed or left.
abbrev pub CountsMore : ℕ → Codes → Codes → Type 0
CountsMore n old new =
    (length new.in_use ≡ length old.in_use) × (length new.installed ≡ length old.installed + n)
    × (length new.freed + length new.left ≡ length old.freed + length old.left + n)

-- The code of each method was replaced.
abbrev pub ReplacedEach : Codes → Codes → Type 0
ReplacedEach old new = ReplacedFirst (length old.in_use) old new × CountsMore (length old.in_use) old new

-- Some of these codes were freed, each at most once, and the others were weighed and left.
abbrev pub AreFreed : List ℕ → List Stands → Type 0
AreFreed [] rs = rs ≡ []
AreFreed (s ∷ ss) rs = (WasLeft s × AreFreed ss rs) ⊎ ((r : Stands) × (more : List Stands) × (rs ≡ r ∷ more) × (r.entry ≡ Free s) × AreFreed ss more)

-- The receipts of some of these codes are appended to the receipts of freed codes.
abbrev pub FreesSome : List ℕ → List Stands → List Stands → Type 0
FreesSome serials old new = (more : List Stands) × (new ≡ old ++ more) × AreFreed serials more

-- A reclaim was tried for each code that was left, and then for each code in use. These are the receipts of all freed codes.
abbrev pub Reclaims : Codes → List Stands → Type 0
Reclaims c all = (mid : List Stands) × FreesSome c.left c.freed mid × FreesSome c.in_use mid all

-- Each of this many methods had a code, which was replaced, and at the end a reclaim was tried for each code. These are the receipts of all installed and freed codes.
pub record IsTally (methods : ℕ) (installed : List Stands) (freed : List Stands) : Type 0 where
  pub begun : Codes
  pub replaced : Codes
  pub installs : InstallsEach methods begun
  pub replaces : ReplacedEach begun replaced
  pub reclaims : Reclaims replaced freed
  pub installed_all : installed ≡ replaced.installed
