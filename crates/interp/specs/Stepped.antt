-- What a step and a run do to what is left of a runner's trace.
use Rattle.std.specs.Prelude.{◌≡◌, ℕ, ◌+◌, ◌-◌, ◌^◌, ◌<◌, ◌≤◌, min, Bool, true, false, List, length, Result, Ok, Err, ⊤}
use Rattle.interp.specs.declared.mark.Mark.{Mark}
use Rattle.interp.specs.declared.runner.Outcome.{Outcome}
use Rattle.interp.specs.declared.runner.Outcome.TheVariants.{Finished, Overflow, OutOfFuel, Refused}
use Rattle.interp.specs.declared.runner.Runner.{Runner}
use Rattle.interp.specs.Trace.{Trace, finished, overflowed, made, after}
use Rattle.interp.specs.Chain.{Chain}
use Rattle.interp.specs.Left.{Left, made_by}

-- no mark is left
abbrev pub IsEnd : Trace → Type 0
IsEnd finished = ⊤
IsEnd overflowed = ⊤
IsEnd (made m t) = ⊥

-- What a step returns: true once it has made the first mark that is left, false if none is left, or the refusal of that mark. In the last
-- two cases the runner is as before.
abbrev pub Stepped : {S E : Type 0} → (S → Mark → S → Type 0) → (S → Mark → E → S → Type 0) → Runner → S → Result Bool E → Runner → S → Type 0
Stepped marked refused r s (Ok true) q t = (w : Trace) → Left r w → (m : Mark) × (u : Trace) × (w ≡ made m u) × marked s m t × Left q u
Stepped marked refused r s (Ok false) q t = (q ≡ r) × (t ≡ s) × ((w : Trace) → Left r w → IsEnd w)
Stepped marked refused r s (Err e) q t = (q ≡ r) × ((w : Trace) → Left r w → (m : Mark) × (u : Trace) × (w ≡ made m u) × refused s m e t)

-- after those marks, with that trace left, a run with so much fuel ends this way
abbrev pub EndsSo : {S E : Type 0} → (S → Mark → S → Type 0) → (S → Mark → E → S → Type 0) → S → List Mark → Trace → ℕ → Outcome E → S → Type 0
EndsSo marked refused s ms u fuel Finished t = Chain marked s ms t × (u ≡ finished) × (length ms ≤ fuel)
EndsSo marked refused s ms u fuel Overflow t = Chain marked s ms t × (u ≡ overflowed) × (length ms ≤ fuel)
EndsSo marked refused s ms u fuel OutOfFuel t = Chain marked s ms t × (length ms ≡ fuel) × ((m : Mark) × (v : Trace) × (u ≡ made m v))
EndsSo {S} marked refused s ms u fuel (Refused e) t =
    (mid : S) × Chain marked s ms mid × (length ms < fuel) × ((m : Mark) × (v : Trace) × (u ≡ made m v) × refused mid m e t)

-- What a run with so much fuel returns: it made the first marks of the trace that was left, one unit of fuel each, and stopped for the
-- reason that it returns. If no mark is left, the run is finished or overflowed, whatever the fuel.
abbrev pub Ran : {S E : Type 0} → (S → Mark → S → Type 0) → (S → Mark → E → S → Type 0) → Runner → S → ℕ → Outcome E → Runner → S → Type 0
Ran marked refused r s fuel o q t = (w : Trace) → Left r w →
    (ms : List Mark) × (u : Trace) × (w ≡ after ms u) × Left q u × (made_by q ≡ min (made_by r + length ms) (2 ^ 64 - 1)) × EndsSo marked refused s ms u fuel o t
