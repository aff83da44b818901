-- Lines in rising name, one more at a time.
use Rattle.std.proofs.Common.{◌≡◌, ◌+◌, ℕ, suc, List, [], ◌∷◌, ◌++◌, length, arith}
use Rattle.workers.specs.declared.summary.Line.{Line}
use Rattle.workers.specs.Ended.{Reported}
use Rattle.workers.specs.Summaries.{Tells, AreLines}

pub line_more : (name : ℕ) (rs : List Reported) (ls : List Line) (r : Reported) (l : Line)
    → AreLines name rs ls → l.name ≡ name + length ls → Tells r l → AreLines name (rs ++ r ∷ []) (ls ++ l ∷ [])
line_more name [] [] r l are is tells = (omega (arith, is), tells, tt)
line_more name [] (y ∷ ls) r l are is tells = absurd are
line_more name (x ∷ rs) [] r l are is tells = absurd are
line_more name (x ∷ rs) (y ∷ ls) r l (here, told, rest) is tells = (here, told, line_more (suc name) rs ls r l rest (omega (arith, is)) tells)
