-- What comes next of a runner, for whatever it stands for.
use Rattle.std.proofs.Common.{◌≡◌, ℕ, ◌+◌, ◌-◌, ◌^◌, min, List, [], ◌∷◌, ◌++◌, length, refl, sym, ap, subst, ◌∙◌, length-append, arith}
use Rattle.interp.specs.declared.mark.Mark.{Mark}
use Rattle.interp.specs.declared.frame.Ahead.{Ahead}
use Rattle.interp.specs.declared.frame.Ahead.TheVariants as ahead
use Rattle.interp.specs.declared.frame.Move.{Move}
use Rattle.interp.specs.declared.runner.Runner.{Runner}
use Rattle.interp.specs.Trace.{Trace, finished, overflowed, made, after}
use Rattle.interp.specs.Chain.{Chain}
use Rattle.interp.specs.Left.{Left, made_by}
use Rattle.interp.specs.Moves.{Moved, ahead_of}
use Rattle.interp.proofs.Goes.{GoesOn, goes_on}

went : (r : Runner) (w : Trace) (h : Left r w) (a : Ahead) → a ≡ ahead_of r.code.now r.phase r.frame r.callers.items → GoesOn h.0 r.phase r.frame r.callers.items w a
went r w h a e = subst (GoesOn h.0 r.phase r.frame r.callers.items w) (sym e) (goes_on r.code.now h.0 r.phase r.frame r.callers.items w h.1 h.2 h.3)

pub finishes : (r : Runner) (w : Trace) (a : Ahead) → Left r w → a ≡ ahead_of r.code.now r.phase r.frame r.callers.items → a ≡ ahead.Finished → w ≡ finished
finishes r w a h e f = went r w h ahead.Finished (sym f ∙ e)

pub overflows : (r : Runner) (w : Trace) (a : Ahead) → Left r w → a ≡ ahead_of r.code.now r.phase r.frame r.callers.items → a ≡ ahead.Overflow → w ≡ overflowed
overflows r w a h e f = went r w h ahead.Overflow (sym f ∙ e)

pub marks : (r : Runner) (w : Trace) (a : Ahead) (m : Mark) (v : Move) → Left r w → a ≡ ahead_of r.code.now r.phase r.frame r.callers.items → a ≡ ahead.Made m v → (u : Trace) × (w ≡ made m u)
marks r w a m v h e f = let g = went r w h (ahead.Made m v) (sym f ∙ e) in (g.0, g.1)

pub moves : (r q : Runner) (w : Trace) (a : Ahead) (m : Mark) (v : Move) → Left r w → a ≡ ahead_of r.code.now r.phase r.frame r.callers.items → a ≡ ahead.Made m v
    → q.code ≡ r.code → Moved v r.phase r.frame r.callers.items q.phase q.frame q.callers.items
    → (u : Trace) × (w ≡ made m u) × Left q u
moves r q w a m v h e f same moved =
    let g = went r w h (ahead.Made m v) (sym f ∙ e) in
    (g.0, g.1, (h.0, ap (λ c. c.now) same ∙ h.1, h.2, g.2 q.phase q.frame q.callers.items moved))

pub chain-push : {S : Type 0} (marked : S → Mark → S → Type 0) (s : S) (ms : List Mark) (t : S) (m : Mark) (u : S) → Chain marked s ms t → marked t m u → Chain marked s (ms ++ m ∷ []) u
chain-push marked s [] t m u h k = (u, subst (λ x. marked x m u) (sym h) k, refl)
chain-push marked s (n ∷ ms) t m u h k = (h.0, h.1, chain-push marked h.0 ms t m u h.2 k)

pub after-push : (ms : List Mark) (m : Mark) (u : Trace) → after (ms ++ m ∷ []) u ≡ after ms (made m u)
after-push [] m u = refl
after-push (n ∷ ms) m u = ap (made n) (after-push ms m u)

-- a run that goes on, with so much fuel left
pub record RanSoFar {S : Type 0} (marked : S → Mark → S → Type 0) (r : Runner) (s : S) (fuel : ℕ) (q : Runner) (t : S) (left : ℕ) : Type 0 where
  pub told : (w : Trace) → Left r w → (ms : List Mark) × (u : Trace) × (w ≡ after ms u) × Left q u × (made_by q ≡ min (made_by r + length ms) (2 ^ 64 - 1)) × Chain marked s ms t × (length ms + left ≡ fuel)

pub ran_start : {S : Type 0} (marked : S → Mark → S → Type 0) (r : Runner) (s : S) (fuel : ℕ) → RanSoFar marked r s fuel r s fuel
ran_start marked r s fuel = record {
  told = λ w h.
      let counted : made_by r ≡ min (made_by r + 0) (2 ^ 64 - 1) = omega (arith, r.counted) in
      let all : 0 + fuel ≡ fuel = omega arith in
      ([], w, refl, h, counted, refl, all);
}

pub ran_next : {S : Type 0} (marked : S → Mark → S → Type 0) (r : Runner) (s : S) (fuel : ℕ) (q : Runner) (t : S) (left : ℕ) → RanSoFar marked r s fuel q t left
    → (p : Runner) (v : S) (rest : ℕ) (a : Ahead) (m : Mark) (step : Move)
    → a ≡ ahead_of q.code.now q.phase q.frame q.callers.items → a ≡ ahead.Made m step
    → p.code ≡ q.code → Moved step q.phase q.frame q.callers.items p.phase p.frame p.callers.items → made_by p ≡ min (made_by q + 1) (2 ^ 64 - 1)
    → marked t m v → rest + 1 ≡ left
    → RanSoFar marked r s fuel p v rest
ran_next marked r s fuel q t left so p v rest a m step e f same moved count done less = record {
  told = λ w h.
      let x = so.told w h in
      let on = moves q p x.1 a m step x.3 e f same moved in
      let long : length (x.0 ++ m ∷ []) ≡ length x.0 + 1 = omega (arith, length-append x.0 (m ∷ [])) in
      let counted : made_by p ≡ min (made_by r + length (x.0 ++ m ∷ [])) (2 ^ 64 - 1) = omega (arith, count, x.4, long) in
      let all : length (x.0 ++ m ∷ []) + rest ≡ fuel = omega (arith, x.6, long, less) in
      (x.0 ++ m ∷ [], on.0, x.2 ∙ ap (after x.0) on.1 ∙ sym (after-push x.0 m on.0), on.2, counted, chain-push marked s x.0 t m v x.5 done, all);
}
