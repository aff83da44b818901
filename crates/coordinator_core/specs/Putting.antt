-- Why a pending job or mark isn't put into a room, and where the job is then.
use Rattle.std.specs.Prelude.{◌≡◌, ◌≢◌, ◌⊎◌, ◌<◌, ◌≤◌, ◌^◌, ◌++◌, ◌∷◌, [], ℕ, false, Option, Some, None, length}
use Rattle.operations.specs.declared.Kind.{Kind}
use Rattle.operations.specs.declared.Kind.TheVariants as kind
use Rattle.desk.specs.Fields.{DeskSeen}
use Rattle.desk.specs.JobsFit.{has_job, job_taken}
use Rattle.berths.specs.Berths.{Berthing, name_of}

-- The desk, and the job in hand: one that came out of the desk and had no room.
pub record AtHand (J : Type 0) : Type 0 where
  pub desk : DeskSeen
  pub job : Option J

abbrev pub at_hand : {J : Type 0} → DeskSeen → Option J → AtHand J
at_hand desk job = record { desk = desk; job = job }

abbrev pub IsSame : {J : Type 0} → AtHand J → AtHand J → Type 0
IsSame old new = (new.desk ≡ old.desk) × (new.job ≡ old.job)

-- The job is for this name and the operation of this number.
abbrev pub IsJobOf : {J : Type 0} → (J → ℕ) → (J → ℕ) → ℕ → ℕ → J → Type 0
IsJobOf number whom n name job = (whom job ≡ name) × (number job ≡ n)

-- The job was in hand or, with none in hand, came out of the desk.
abbrev pub CameFrom : {J : Type 0} → ℕ → ℕ → AtHand J → DeskSeen → J → Type 0
CameFrom n name old new job
    = ((old.job ≡ Some job) × (new ≡ old.desk)) ⊎ ((old.job ≡ None) × (new.jobs ≡ job_taken n name old.desk.jobs))

-- There is no such job: none is in hand and the desk has none, or another job is in hand and stays there.
abbrev pub HasNoJob : {J : Type 0} → (J → ℕ) → (J → ℕ) → ℕ → ℕ → AtHand J → AtHand J → Type 0
HasNoJob number whom n name old new
    = ((old.job ≡ None) × (new.job ≡ None) × (has_job n name old.desk.jobs ≡ false))
    ⊎ ((job : _) × (old.job ≡ Some job) × IsSame old new × (number job ≡ n → whom job ≢ name))

-- The job is in hand, since the room is full.
abbrev pub HasNoRoom : {N J : Type 0} → (J → ℕ) → (J → ℕ) → ℕ → ℕ → Berthing N → AtHand J → AtHand J → Type 0
HasNoRoom number whom n name room old new
    = (job : _) × (new.job ≡ Some job) × IsJobOf number whom n name job × CameFrom n name old new.desk job × (0 < name → room.room ≤ length room.jobs)

-- The room is another place's or doesn't bear the name, or no operation can have the number. Nothing is done.
abbrev pub IsAside : {N J : Type 0} → ℕ → ℕ → ℕ → Berthing N → AtHand J → AtHand J → Type 0
IsAside n name place room old new = ((room.place ≡ place → 0 < name → name_of room.holder ≢ name) ⊎ (2 ^ 40 ≤ n)) × IsSame old new

-- Why the job or mark isn't put into the room. A census has no job.
abbrev pub IsNotPut : {N J : Type 0} → (J → ℕ) → (J → ℕ) → Kind → ℕ → ℕ → ℕ → Berthing N → AtHand J → AtHand J → Type 0
IsNotPut number whom k n name place room old new
    = IsAside n name place room old new
    ⊎ ((k ≡ kind.Handshake) × (HasNoJob number whom n name old new ⊎ HasNoRoom number whom n name room old new))

-- A job that was in hand or came out of the desk is put into the room, and none is in hand; or the census's mark is put
-- there.
abbrev pub IsPut : {J : Type 0} → (J → ℕ) → (J → ℕ) → Kind → ℕ → ℕ → AtHand J → AtHand J → Type 0
IsPut number whom k n name old new
    = (k ≡ kind.Census → IsSame old new)
    × (k ≡ kind.Handshake → (new.job ≡ None) × ((job : _) × IsJobOf number whom n name job × CameFrom n name old new.desk job))

-- The room bears the name. The job is appended to its jobs, or the mark of the census is set, and nothing else changes.
abbrev pub PutsIn : {N : Type 0} → Kind → ℕ → ℕ → Berthing N → Berthing N → Type 0
PutsIn kind.Census n name old new = (name_of old.holder ≡ name) × (new ≡ record old { mark = n })
PutsIn kind.Handshake n name old new = (name_of old.holder ≡ name) × (new ≡ record old { jobs = old.jobs ++ record { number = n; whom = name } ∷ [] })
