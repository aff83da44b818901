-- There is a request to ask if there are jobs.
use Rattle.std.proofs.Common.{◌≡◌, ◌≢◌, ◌<◌, ℕ, true, false, List, [], ◌∷◌, Option, Some, None, length, refl, arith}
use Rattle.operations.specs.declared.Ask.{Ask}
use Rattle.desk.specs.JobsFit.{request_of}
use Rattle.desk.specs.Machine.{Stands}
use Rattle.coordinator.specs.Rounds.{IsAskOf}

pub asked_some : {J : Type 0} (whom : J → ℕ) (asks : J → Ask) (jobs : List J) (asked : Option (ℕ × Stands)) → IsAskOf (request_of whom asks jobs) asked → 0 < length jobs → asked ≢ None
asked_some whom asks [] asked h some e = omega (arith, some)
asked_some whom asks (j ∷ js) None h some e = cc
asked_some whom asks (j ∷ js) (Some a) h some e = cc

pub asked_none : {J : Type 0} (whom : J → ℕ) (asks : J → Ask) (jobs : List J) (asked : Option (ℕ × Stands)) → IsAskOf (request_of whom asks jobs) asked → length jobs ≡ 0 → asked ≡ None
asked_none whom asks [] None h e = refl
asked_none whom asks [] (Some a) h e = absurd (let k : true ≡ false = h in cc)
asked_none whom asks (j ∷ js) asked h e = absurd (omega (arith, e))
