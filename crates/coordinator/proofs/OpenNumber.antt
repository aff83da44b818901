-- The open request of a number has that number.
use Rattle.std.proofs.Common.{◌≡◌, ℕ, Bool, true, false, cond, List, [], ◌∷◌, Some, refl, sym, ap, ◌∙◌}
use Rattle.std.specs.Prelude.{◌==◌}
use Rattle.std.proofs.lemmas.Bool.{eqb-true}
use Rattle.desk.specs.Machine.{Current, open_of}

pub open_number : (n : ℕ) (cs : List Current) (c : Current) → open_of n cs ≡ Some c → c.number ≡ n
open_number n [] c h = cc
open_number n (x ∷ cs) c h = by (x.number == n) refl h (open_number n cs c)
  where
    by : (b : Bool) → (x.number == n) ≡ b → cond b (Some x) (open_of n cs) ≡ Some c → (open_of n cs ≡ Some c → c.number ≡ n) → c.number ≡ n
    by true e h rest = let same : x ≡ c = cc in ap (λ (z : Current). z.number) (sym same) ∙ eqb-true x.number n e
    by false e h rest = rest h
