-- What serving a body does.
use Rattle.std.specs.Prelude.{◌≡◌, ◌⊎◌, ◌<◌, ℕ, false, List, [], ◌∷◌, Option, Some, None}
use Rattle.frames.specs.ImageView.{ImageView}
use Rattle.bodies.specs.Bodies.{BodyView, IsPublished}
use Rattle.operations.specs.declared.Ask.{Ask}
use Rattle.operations.specs.Asks.{reply}
use Rattle.desk.specs.declared.entries.Entry.TheVariants.{Finish}
use Rattle.desk.specs.Machine.{State, Stands, lawful}
use Rattle.desk.specs.JobsFit.{is_asked_by}
use Rattle.berths.specs.Berths.{Berthing, Moved, told_of}
use Rattle.berths.specs.declared.room.Holder.TheVariants.{Out}
use Rattle.thread_list.specs.Moves.{IsCleared}
use Rattle.stopped_threads.specs.declared.serving.Unserved.{Unserved}
use Rattle.stopped_threads.specs.declared.serving.Unserved.TheVariants.{NoJob, NotEntered}

-- The body is published, its thread's job runs on it and answers by its ask, the answer is entered, and the job's operation is
-- cleared for the body.
abbrev pub IsServe : {J : Type 0} → (J → ℕ) → (J → ℕ) → (J → Ask) → (J → ImageView → ℕ → Type 0) → J → BodyView → BodyView → Stands → Type 0
IsServe number whom asks may_answer job old new done
    = (whom job ≡ old.name) × (0 < number job) × (done.entry ≡ Finish (number job) old.name (reply (asks job) old.image.frames))
    × ((published : BodyView) × IsPublished old published × may_answer job published.image (reply (asks job) published.image.frames) × IsCleared (number job) published new)

-- Why a body of the name isn't served: its room has no job for it, or the desk in this state doesn't enter what the job answered.
abbrev pub not_served : {N : Type 0} → Berthing N → State → ℕ → Unserved → Type 0
not_served room s name NoJob = room.holder ≡ Out name → room.jobs ≡ []
not_served room s name (NotEntered done) = (lawful s (Finish done.op done.target done.reply) ≡ false) ⊎ (is_asked_by done.op done.ask s.opened ≡ false)

-- The oldest job of a room comes out of it. It is for the thread of the body, has the number and asks this. It is called on the body, and
-- answers by its ask.
abbrev pub Runs : {J N : Type 0} → (J → ℕ) → (J → ℕ) → (J → Ask) → (J → ImageView → ℕ → Type 0) → ℕ → Ask → BodyView → Berthing N → Berthing N → Type 0
Runs number whom asks may_answer n ask body room left
    = (job : _) × (number job ≡ n) × (0 < n) × (whom job ≡ body.name) × (asks job ≡ ask) × may_answer job body.image (reply ask body.image.frames)
    × (room.jobs ≡ told_of number whom job ∷ left.jobs) × (left ≡ record room { jobs = left.jobs })

-- A body that isn't served. Without a job nothing changes. If the desk doesn't enter the job's answer, that is handed back; the
-- body is published, and the job has left the room.
abbrev pub IsLeftUnserved : {J N : Type 0} → (J → ℕ) → (J → ℕ) → (J → Ask) → (J → ImageView → ℕ → Type 0) → BodyView → Berthing N → Unserved → BodyView → Berthing N → Type 0
IsLeftUnserved number whom asks may_answer old room NoJob new left = (new ≡ old) × (left ≡ room)
IsLeftUnserved number whom asks may_answer old room (NotEntered done) new left
    = IsPublished old new × (done.target ≡ old.name) × (done.reply ≡ reply done.ask new.image.frames) × Runs number whom asks may_answer done.op done.ask new room left

-- A serve: its job, the body before it, and what it entered.
pub record Serve (J : Type 0) : Type 0 where
  pub job : J
  pub before : BodyView
  pub done : Stands

-- These serves, the newest first, made the one body into the other.
abbrev pub AreServes : {J : Type 0} → (J → ℕ) → (J → ℕ) → (J → Ask) → (J → ImageView → ℕ → Type 0) → List (Serve J) → BodyView → BodyView → Type 0
AreServes number whom asks may_answer [] old new = new ≡ old
AreServes number whom asks may_answer (s ∷ ss) old new
    = AreServes number whom asks may_answer ss old s.before × IsServe number whom asks may_answer s.job s.before new s.done

-- What the first of them entered.
abbrev pub first_done : {J : Type 0} → Serve J → List (Serve J) → Stands
first_done s [] = s.done
first_done s (t ∷ ts) = first_done t ts

-- One or more serves made the one body into the other. `first` and `last` are what the first and the last serve entered.
abbrev pub IsServed : {J : Type 0} → (J → ℕ) → (J → ℕ) → (J → Ask) → (J → ImageView → ℕ → Type 0) → BodyView → BodyView → Stands → Stands → Type 0
IsServed number whom asks may_answer old new first last
    = (s : _) × (ss : List _) × AreServes number whom asks may_answer (s ∷ ss) old new × (first ≡ first_done s ss) × (last ≡ s.done)

-- A body after its serves: how it came out of its berth, the body as it is, and what the first and the last serve entered.
pub record Behind : Type 0 where
  pub out : Moved
  pub body : BodyView
  pub first : Stands
  pub last : Stands

-- What the last serve entered: the first where there was no later one.
abbrev pub last_of : Stands → Option Stands → Stands
last_of first None = first
last_of first (Some last) = last

-- A served body, with a job that its thread got meanwhile.
pub record Told (J : Type 0) : Type 0 where
  pub served : Behind
  pub job : J
