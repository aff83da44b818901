-- How the steps of a runner by a worker show what its run comes to.
use Rattle.std.proofs.Common.{◌≡◌, ◌∙◌, ◌≤◌, ℕ, zero, suc, ◌+◌, ◌-◌, ◌^◌, min, Bool, true, false, cond, List, [], ◌∷◌, length, map, Result, Ok, Err, refl, ap, sym, subst, arith}
use Rattle.script.specs.declared.code.Op.{Op}
use Rattle.script.specs.Body.{Body}
use Rattle.script.specs.Checked.{AreChecked}
use Rattle.script.specs.Layout.{routine}
use Rattle.interp.specs.declared.mark.Mark.{Mark}
use Rattle.interp.specs.declared.runner.Runner.{Runner}
use Rattle.interp.specs.declared.runner.Outcome.{Outcome}
use Rattle.interp.specs.declared.runner.Outcome.TheVariants as outcome
use Rattle.interp.specs.Trace.{Trace, finished, overflowed, made, after, method_trace, trace}
use Rattle.interp.specs.Chain.{Chain}
use Rattle.interp.specs.Left.{Left, made_by}
use Rattle.interp.specs.Stepped.{IsEnd, Stepped, EndsSo, Ran}
use Rattle.desk.specs.declared.entries.Entry.TheVariants.{Exit}
use Rattle.workers.specs.declared.worker.Refused.{Refused}
use Rattle.workers.specs.declared.report.Ending.{Ending}
use Rattle.workers.specs.declared.report.Ending.TheVariants.{Finished, Overflow, OutOfFuel}
use Rattle.workers.specs.Marks.{Working, Does, IsRefused}
use Rattle.workers.specs.Ended.{after_marks, one_more, ended, most, EndsAs, Reported, HasMade, IsReport, ending_of, IsBegun}

ends_finished : (fuel : ℕ) (ms : List Mark) → length ms ≤ fuel → ended fuel (after ms finished) ≡ after_marks Finished (length ms)
unfolding ended
ends_finished fuel [] few = refl
ends_finished zero (m ∷ ms) few = absurd (omega (arith, few))
ends_finished (suc fuel) (m ∷ ms) few = ap one_more (ends_finished fuel ms (omega (arith, few)))

ends_overflowed : (fuel : ℕ) (ms : List Mark) → length ms ≤ fuel → ended fuel (after ms overflowed) ≡ after_marks Overflow (length ms)
unfolding ended
ends_overflowed fuel [] few = refl
ends_overflowed zero (m ∷ ms) few = absurd (omega (arith, few))
ends_overflowed (suc fuel) (m ∷ ms) few = ap one_more (ends_overflowed fuel ms (omega (arith, few)))

ends_without_fuel : (ms : List Mark) (m : Mark) (t : Trace) → ended (length ms) (after ms (made m t)) ≡ after_marks OutOfFuel (length ms)
unfolding ended
ends_without_fuel [] m t = refl
ends_without_fuel (n ∷ ms) m t = ap one_more (ends_without_fuel ms m t)

-- what a refused mark leaves
abbrev pub Refuses : Working → Mark → Refused → Working → Type 0
Refuses s m e t = (t ≡ s) × IsRefused s.thread m e

-- marks change no name
chain_same : (s t : Working) (ms : List Mark) → Chain Does s ms t → t.thread.name ≡ s.thread.name
chain_same s t [] e = ap (λ (w : Working). w.thread.name) (sym e)
chain_same s t (m ∷ ms) (u, does, rest) = chain_same u t ms rest ∙ does.1.0

-- a run that ended so: it made these marks, and what it says of its end is right
abbrev pub Told : Working → List Mark → Trace → ℕ → Outcome Refused → Working → Type 0
Told s ms u fuel o t = Chain Does s ms t × EndsAs fuel (after ms u) (ending_of o) (length ms) × (length ms ≤ fuel)

told : (s : Working) (ms : List Mark) (u : Trace) (fuel : ℕ) (o : Outcome Refused) (t : Working) → EndsSo Does Refuses s ms u fuel o t → Told s ms u fuel o t
told s ms u fuel outcome.Finished t (chain, end, few) =
    (chain, subst (λ (v : Trace). ended fuel (after ms v) ≡ after_marks Finished (length ms)) (sym end) (ends_finished fuel ms few), few)
told s ms u fuel outcome.Overflow t (chain, end, few) =
    (chain, subst (λ (v : Trace). ended fuel (after ms v) ≡ after_marks Overflow (length ms)) (sym end) (ends_overflowed fuel ms few), few)
told s ms u fuel outcome.OutOfFuel t (chain, all, (m, v, more)) = (
  chain,
  subst (λ (n : ℕ). ended n (after ms u) ≡ after_marks OutOfFuel (length ms)) all
      (subst (λ (w : Trace). ended (length ms) (after ms w) ≡ after_marks OutOfFuel (length ms)) (sym more) (ends_without_fuel ms m v)),
  omega (arith, all),
)
told s ms u fuel (outcome.Refused e) t (mid, chain, few, (m, v, more, (is, why))) =
    (subst (λ (w : Working). Chain Does s ms w) (sym is) chain, tt, omega (arith, few))

-- there is a first mark
abbrev pub HasFirst : Trace → Type 0
HasFirst w = (m : Mark) × (t : Trace) × (w ≡ made m t)

has_first : (bs : List Body) → HasFirst (trace bs)
unfolding method_trace
has_first bs = (_, _, refl)

no_end : (w : Trace) → HasFirst w → IsEnd w → ⊥
no_end finished (m, t, e) end = absurd (cc e)
no_end overflowed (m, t, e) end = absurd (cc e)
no_end (made m t) first end = end

-- the first step makes the first mark
first_step : (r q : Runner) (s t : Working) (b : Bool) (w : Trace)
    → HasFirst w → Left r w → Stepped Does Refuses r s (Ok b) q t → made_by r ≡ 0 → made_by q ≡ cond b (min (made_by r + 1) (2 ^ 64 - 1)) (made_by r)
    → (m : Mark) × (u : Trace) × (w ≡ made m u) × Does s m t × Left q u × (made_by q ≡ 1)
first_step r q s t false w first left step none count = absurd (no_end w first (step.2 w left))
first_step r q s t true w first left step none count =
    let (m, u, is, does, rest) = step w left in
    (m, u, is, does, rest, count ∙ ap (λ (n : ℕ). min (n + 1) (2 ^ 64 - 1)) none)

pub begun : (code : List (List Op)) (r q : Runner) (s t : Working) (b : Bool)
    → ((bs : List Body) → code ≡ map routine bs → AreChecked bs → Left r (trace bs)) → made_by r ≡ 0
    → Stepped Does Refuses r s (Ok b) q t → made_by q ≡ cond b (min (made_by r + 1) (2 ^ 64 - 1)) (made_by r) → s.compiled ≡ false
    → IsBegun code s.thread.name t q
begun code r q s t b left none step count fresh = λ bs is checked.
    let (m, u, first, does, rest, one) = first_step r q s t b (trace bs) (has_first bs) (left bs is checked) step none count in
    (m, u, first, does.1.0, rest, one, (s, fresh, does))

-- one mark before a run that ended so
one_before : (fuel : ℕ) (m : Mark) (u : Trace) (ending : Result Ending Refused) (n : ℕ) → EndsAs fuel u ending n → EndsAs (suc fuel) (made m u) ending (suc n)
unfolding ended
one_before fuel m u (Ok ending) n e = ap one_more e
one_before fuel m u (Err refused) n e = tt

-- the other marks, from the first on
pub reported : (code : List (List Op)) (name : ℕ) (r q : Runner) (s t : Working) (o : Outcome Refused) (report : Reported)
    → IsBegun code name s r → Ran Does Refuses r s 999999 o q t
    → report.exited ≡ Exit t.thread.name → report.name ≡ name → report.ending ≡ ending_of o → report.made ≡ made_by q → report.compiled ≡ t.compiled → IsReport code report
reported code name r q s t o report begins ran exited named ending made_all compiled = λ bs is checked.
    let (m, u, first, own, left, one, (w, fresh, does)) = begins bs is checked in
    let (ms, v, rest, left_still, count, ends) = ran u left in
    let (chain, end, few) = told s ms v 999999 o t ends in
    let total : made_by q ≡ suc (length ms) = count ∙ ap (λ (n : ℕ). min (n + length ms) (2 ^ 64 - 1)) one ∙ omega (arith, few) in
    let all : EndsAs most (made m u) (ending_of o) (suc (length ms)) =
    one_before 999999 m u (ending_of o) (length ms) (subst (λ (w : Trace). EndsAs 999999 w (ending_of o) (length ms)) (sym rest) end) in
    let there : EndsAs most (trace bs) (ending_of o) (suc (length ms)) = subst (λ (w : Trace). EndsAs most w (ending_of o) (suc (length ms))) (sym first) all in
    let counted : EndsAs most (trace bs) (ending_of o) report.made = subst (λ (n : ℕ). EndsAs most (trace bs) (ending_of o) n) (sym (made_all ∙ total)) there in
    let by : HasMade (trace bs) report.name report.made report.compiled = record {
      first = m ∷ ms;
      rest = v;
      whole = first ∙ ap (made m) rest;
      count = made_all ∙ total;
      old = w;
      new = t;
      named = sym does.1.0 ∙ own ∙ sym named;
      fresh = fresh;
      steps = (s, does, chain);
      told = compiled;
    } in (
      exited ∙ ap (λ (n : ℕ). Exit n) (chain_same s t ms chain ∙ own ∙ sym named),
      subst (λ (e : Result Ending Refused). EndsAs most (trace bs) e report.made) (sym ending) counted,
      by,
    )
