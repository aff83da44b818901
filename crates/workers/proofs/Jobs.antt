-- Jobs for threads in rising name, one more at a time.
use Rattle.std.proofs.Common.{◌≡◌, ◌+◌, ℕ, suc, List, [], ◌∷◌, ◌++◌, length, arith, subst, sym}
use Rattle.operations.specs.declared.Ask.{Ask}
use Rattle.operations.specs.declared.Ask.TheVariants.{Depth}
use Rattle.workers.specs.Jobs.{AskDepths}

depths_more : {J : Type 0} (whom : J → ℕ) (asks : J → Ask) (name : ℕ) (js : List J) (j : J)
    → AskDepths whom asks name js → whom j ≡ name + length js → asks j ≡ Depth → AskDepths whom asks name (js ++ j ∷ [])
depths_more whom asks name [] j are is ask = (omega (arith, is), ask, tt)
depths_more whom asks name (x ∷ js) j (here, it, rest) is ask = (here, it, depths_more whom asks (suc name) js j rest (omega (arith, is)) ask)

-- where that is what the list is now
pub depths_next : {J : Type 0} (whom : J → ℕ) (asks : J → Ask) (name : ℕ) (js js' : List J) (j : J)
    → js' ≡ js ++ j ∷ [] → AskDepths whom asks name js → whom j ≡ name + length js → asks j ≡ Depth → AskDepths whom asks name js'
depths_next whom asks name js js' j more are is ask = subst (λ xs. AskDepths whom asks name xs) (sym more) (depths_more whom asks name js j are is ask)
