-- A held body that isn't served.
use Rattle.std.proofs.Common.{◌≡◌, ℕ, Result, Err, IfErr, subst}
use Rattle.frames.specs.ImageView.{ImageView}
use Rattle.operations.specs.declared.Ask.{Ask}
use Rattle.berths.specs.Berths.{Berthing}
use Rattle.stopped_threads.specs.Holding.{Holding}
use Rattle.stopped_threads.specs.declared.serving.Unserved.{Unserved}
use Rattle.coordinator_core.specs.Done.{Leaves}
use Rattle.coordinator_core.specs.Called.{IsLeft}
use Rattle.coordinator_core.proofs.Left.{left_stays}

pub err_left : {J N T : Type 0} (number whom : J → ℕ) (asks : J → Ask) (may_answer : J → ImageView → ℕ → Type 0) (old new : Holding) (place : ℕ) (room left : Berthing N)
    (said : Result T Unserved) (why : Unserved) → said ≡ Err why → IfErr said (Leaves number whom asks may_answer old new place room left) → IsLeft place old new
err_left {J} {N} {T} number whom asks may_answer old new place room left said why is l =
    left_stays number whom asks may_answer old new place room left why
    (subst (λ (s : Result T Unserved). IfErr s (Leaves number whom asks may_answer old new place room left)) is l)
