-- Traces one after another.
use Rattle.std.proofs.Common.{◌≡◌, ℕ, suc, refl, ap, ◌∙◌}
use Rattle.interp.specs.declared.mark.Mark.TheVariants as mark
use Rattle.interp.specs.Trace.{Trace, finished, overflowed, made, followed, times}

pub followed-assoc : (t u v : Trace) → followed (followed t u) v ≡ followed t (followed u v)
followed-assoc finished u v = refl
followed-assoc overflowed u v = refl
followed-assoc (made m t) u v = ap (made m) (followed-assoc t u v)

-- one turn, and the turns to come
pub turned : (body rest : Trace) (k : ℕ) → followed (times (suc k) (followed body (made mark.Edge finished))) rest
    ≡ followed body (made mark.Edge (followed (times k (followed body (made mark.Edge finished))) rest))
unfolding times
turned body rest k =
    let turn = followed body (made mark.Edge finished) in
    followed-assoc turn (times k turn) rest ∙ followed-assoc body (made mark.Edge finished) (followed (times k turn) rest)

-- no turn is left
pub times-zero : (t rest : Trace) → followed (times 0 t) rest ≡ rest
unfolding times
times-zero t rest = refl
