-- The jobs of the handshake that reclaims a code.
use Rattle.std.specs.Prelude.{◌≡◌, ℕ, suc, List, [], ◌∷◌, length, ⊤}
use Rattle.operations.specs.declared.Ask.{Ask}
use Rattle.operations.specs.declared.Ask.TheVariants.{Depth}

-- Each job queries the stack depth of one thread; the names rise by one, starting with this one.
abbrev pub AskDepths : {J : Type 0} → (J → ℕ) → (J → Ask) → ℕ → List J → Type 0
AskDepths whom asks name [] = ⊤
AskDepths whom asks name (j ∷ js) = (whom j ≡ name) × (asks j ≡ Depth) × AskDepths whom asks (suc name) js

-- One job for each thread; the names start at 1.
abbrev pub AreForEach : {J : Type 0} → (J → ℕ) → (J → Ask) → ℕ → List J → Type 0
AreForEach whom asks threads jobs = (length jobs ≡ threads) × AskDepths whom asks 1 jobs
