-- What reclaiming answers.
use Rattle.std.specs.Prelude.{◌≡◌, ℕ, length, Some}
use Rattle.method_table.specs.declared.Code.{Code}
use Rattle.method_table.specs.Codes.{id_of, unfreed}
use Rattle.board.specs.declared.weighed.Weighed.{Weighed}
use Rattle.board.specs.declared.weighed.Weighed.TheVariants.{NotLooked, Used as InUse, Clear}
use Rattle.desk.specs.declared.entries.Entry.TheVariants as entry
use Rattle.desk.specs.CodeBoard.{KeeperWeighs}
use Rattle.desk.specs.Fields.{DeskSeen, Enters, LooksAtAll, at}
use Rattle.desk.specs.Machine.{Stands}
use Rattle.desk.specs.Weighings.{WeighingSeen}
use Rattle.stopped_threads.specs.declared.faults.Reclaimed.{Reclaimed}
use Rattle.stopped_threads.specs.declared.faults.Reclaimed.TheVariants.{Freed, Used, Late}

-- The unfreed code of the serial was weighed from what the keeper knew, with this answer.
abbrev pub WasWeighed : ℕ → ℕ → DeskSeen → DeskSeen → Weighed → Type 0
WasWeighed places serial old new said
    = (code : Code) × (unfreed (at old).table.codes serial ≡ Some code) × KeeperWeighs places (id_of code) old.keeper new.keeper said

-- The receipt is of a weighing of this code with this answer, at the length of this desk's history.
abbrev pub IsWeighing : ℕ → DeskSeen → Weighed → WeighingSeen → Type 0
IsWeighing serial desk said w = w ≡ record { serial = serial; said = said; length = length desk.book.history }

-- Freed code was first weighed and retired. `Used` and `Late` are what the weighing said, as its receipt shows; the desk's
-- history is unchanged.
abbrev pub Frees : {N : Type 0} → ℕ → ℕ → DeskSeen → DeskSeen → Reclaimed N → Type 0
Frees places serial old new (Freed r)
    = (retired : DeskSeen) × (receipt : Stands) × WasWeighed places serial old retired Clear × Enters old retired (entry.Retire serial) receipt
    × Enters retired new (entry.Free serial) r
Frees places serial old new (Used n w) = WasWeighed places serial old new (InUse n) × IsWeighing serial old (InUse n) w × (new.book ≡ old.book)
Frees places serial old new (Late place w) = WasWeighed places serial old new (NotLooked place) × IsWeighing serial old (NotLooked place) w × (new.book ≡ old.book)

-- The result of reclaiming, right after a look at all places: the code was freed, it is still in use, or a place is late, since
-- the look there didn't cover it.
pub record IsReclaimed {N : Type 0} (places serial : ℕ) (said : Reclaimed N) : Type 0 where
  pub before : DeskSeen
  pub looked : DeskSeen
  pub after : DeskSeen
  pub looks : LooksAtAll serial places before looked
  pub frees : Frees places serial looked after said

-- What became of the code where the reclaiming began at this desk.
abbrev pub IsReclaimedFrom : {N : Type 0} → DeskSeen → ℕ → ℕ → Reclaimed N → Type 0
IsReclaimedFrom desk places serial said = (r : IsReclaimed places serial said) × (r.before ≡ desk)
