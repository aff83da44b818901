-- What the receipts say of a body that came out of its berth, was served, and went back.
use Rattle.std.specs.Prelude.{◌≡◌, ℕ, false}
use Rattle.frames.specs.ImageView.{ImageView}
use Rattle.operations.specs.declared.Ask.{Ask}
use Rattle.desk.specs.Machine.{Stands}
use Rattle.berths.specs.Berths.{Moved, Went}
use Rattle.berths.specs.declared.room.BodyAct.TheVariants.{Held, Released}
use Rattle.stopped_threads.specs.Serves.{IsServed}

-- How the body came out, what the first and the last serve entered, and how it went back.
pub record OutAndBack : Type 0 where
  pub out : Moved
  pub first : Stands
  pub last : Stands
  pub back : Moved

-- The body went back into its berth, with its frames, as the serves left it. The first and the last receipt are of these serves.
abbrev pub IsBrought : {J : Type 0} → (J → ℕ) → (J → ℕ) → (J → Ask) → (J → ImageView → ℕ → Type 0) → OutAndBack → Type 0
IsBrought number whom asks may_answer b
    = IsServed number whom asks may_answer b.out.body b.back.body b.first b.last × Went b.out.body.seat.place b.out.body.name (Released false) b.back
    × (b.back.body.image.frames ≡ b.out.body.image.frames)

-- The body of the thread of the name came out of its berth, was served, job by job, and went back.
abbrev pub IsAttended : {J : Type 0} → (J → ℕ) → (J → ℕ) → (J → Ask) → (J → ImageView → ℕ → Type 0) → ℕ → ℕ → OutAndBack → Type 0
IsAttended number whom asks may_answer place name b = Went place name Held b.out × IsBrought number whom asks may_answer b
