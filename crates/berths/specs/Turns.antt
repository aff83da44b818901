-- Turns of a stopped thread.
use Rattle.std.specs.Prelude.{◌≡◌, ◌≢◌, ◌<◌, ℕ, IfSome}
use Rattle.bodies.specs.Bodies.{BodyView}
use Rattle.operations.specs.declared.Ask.{Ask}
use Rattle.berths.specs.Berths.{moved, job_of}
use Rattle.berths.specs.declared.berth.CameOut.{CameOut}
use Rattle.berths.specs.declared.berth.Tried.{Tried}
use Rattle.berths.specs.declared.berth.Tried.TheVariants as tried
use Rattle.berths.specs.declared.room.BodyAct.TheVariants.{Given, Served}

-- The body of this name and place came out to serve. Its job, if there is one, is for this name, and its receipt shows the job.
pub record ComesOut {N J : Type 0} (number whom : J → ℕ) (asks : J → Ask) (name place : ℕ) (out : CameOut N J) : Type 0 where
  pub named : out.body.name ≡ name
  pub some : 0 < out.body.name
  pub placed : out.body.seat.place ≡ place
  pub stored : out.body.seat.stored ≢ 0
  pub job : IfSome out.told (λ j. (whom j ≡ name) × (0 < number j))
  pub shown : out.outing.out ≡ moved out.body (Served (job_of number asks out.told))

-- The result of one try of a turn with this body: the body came out, or went in and is kept there, or didn't go in.
abbrev pub TriesTurn : {N J : Type 0} → (J → ℕ) → (J → ℕ) → (J → Ask) → BodyView → Tried N J → Type 0
TriesTurn number whom asks body (tried.CameOut out waiters)
    = (out.outing.given ≡ moved body Given) × ComesOut number whom asks body.name body.seat.place out × (waiters.place ≡ body.seat.place)
TriesTurn number whom asks body (tried.Kept given waiters) = (given ≡ moved body Given) × (waiters.place ≡ body.seat.place)
TriesTurn number whom asks body (tried.Refused back) = back ≡ body
