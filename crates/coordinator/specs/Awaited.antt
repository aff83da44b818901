-- The targets that a drive waits for, and the result for a target whose body is there.
use Rattle.std.specs.Prelude.{◌≡◌, ◌-◌, ◌^◌, ℕ, Bool, true, false, Option, Some, None}
use Rattle.frames.specs.ImageView.{ImageView}
use Rattle.operations.specs.declared.Ask.{Ask}
use Rattle.desk.specs.declared.entries.Progress.{Progress}
use Rattle.desk.specs.declared.entries.Progress.TheVariants.{NotTold, Done, Undone}
use Rattle.desk.specs.Machine.{State}
use Rattle.desk.specs.Targets.{is_awaited, progress}
use Rattle.berths.specs.Berths.{acted}
use Rattle.berths.specs.declared.room.BerthAct.TheVariants.{NoJob}
use Rattle.stopped_threads.specs.Brought.{IsAttended}
use Rattle.coordinator.specs.declared.driving_handshakes.TryServed.{TryServed}
use Rattle.coordinator.specs.declared.driving_handshakes.TryServed.TheVariants.{Served, Idle}

abbrev pub undone_where : Bool → Progress → Option ℕ
undone_where true (Undone number) = Some number
undone_where true Done = None
undone_where true NotTold = None
undone_where false p = None

-- If the thread is due for the oldest open request, the number of the oldest request that it isn't done with.
abbrev pub awaited : State → ℕ → Option ℕ
awaited s name = undone_where (is_awaited s name) (progress s name (2 ^ 64 - 1))

-- A target's body was in its berth. It was served and went back, or by the receipt it had no job.
abbrev pub WasThere : {N J : Type 0} → (J → ℕ) → (J → ℕ) → (J → Ask) → (J → ImageView → ℕ → Type 0) → ℕ → ℕ → TryServed N → Type 0
WasThere number whom asks may_answer place name (Served b) = IsAttended number whom asks may_answer place name b
WasThere number whom asks may_answer place name (Idle r) = r ≡ acted place name NoJob
