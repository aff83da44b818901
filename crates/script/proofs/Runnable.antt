-- A script without a fault is laid out as code that runs without a test.
use Rattle.std.proofs.Common.{◌≡◌, ℕ, zero, suc, ◌+◌, ◌<◌, ◌≤◌, List, [], ◌∷◌, ◌++◌, length, map, nat_lt, nat_le, Bool, true, false, cond, ◌&&◌, IfSome, refl, sym, ap, subst, add-zero, zero-add, slice_get, arith}
use Rattle.std.specs.Prelude.{option_and_then}
use Rattle.std.proofs.lemmas.Bool.Decides.{nat_tests}
use Rattle.script.specs.declared.items.Action.{Action}
use Rattle.script.specs.declared.items.Action.TheVariants.{Native, Vm, Block, Tick, Call}
use Rattle.script.specs.declared.code.Op.{Op}
use Rattle.script.specs.declared.code.Op.TheVariants as op
use Rattle.script.specs.declared.fault.ScriptFault.{ScriptFault}
use Rattle.script.specs.Body.{Body, finish, act, loop}
use Rattle.script.specs.Checks.{action_faults, loop_faults, body_faults, bodies_faults, script_faults}
use Rattle.script.specs.Checked.{IsChecked, AllChecked, AreChecked}
use Rattle.script.specs.Layout.{ops, routine, IsActionInRange, IsInRange, AreInRange, AllInRange, IsRunnable}

left_none : (xs ys : List ScriptFault) → xs ++ ys ≡ [] → xs ≡ []
left_none [] ys h = refl
left_none (x ∷ xs) ys h = absurd (cc)

right_none : (xs ys : List ScriptFault) → xs ++ ys ≡ [] → ys ≡ []
right_none [] ys h = h
right_none (x ∷ xs) ys h = absurd (cc)

tested : (b : Bool) (e : ScriptFault) → cond b [] (e ∷ []) ≡ [] → b ≡ true
tested true e h = refl
tested false e h = absurd (cc)

action_in_range : (count : ℕ) (place : List ℕ) (a : Action) → action_faults count place a ≡ [] → IsActionInRange count a
action_in_range count place Native h = tt
action_in_range count place Vm h = tt
action_in_range count place Block h = tt
action_in_range count place Tick h = tt
action_in_range count place (Call m) h = let b = tested (nat_lt m count) _ h in grind (nat_tests, arith)

bounded : (some few shallow : Bool) (e f : ScriptFault) → cond (some && few) (cond shallow [] (e ∷ [])) (f ∷ []) ≡ [] → (some ≡ true) × (few ≡ true) × (shallow ≡ true)
bounded true true true e f h = (refl, refl, refl)
bounded true true false e f h = absurd (cc)
bounded true false shallow e f h = absurd (cc)
bounded false few shallow e f h = absurd (cc)

loop_in_range : (level : ℕ) (place : List ℕ) (n : ℕ) → loop_faults level place n ≡ [] → (0 < n) × (n ≤ 1000000) × (level < 8)
loop_in_range level place n h =
    let b = bounded (nat_lt 0 n) (nat_le n 1000000) (nat_lt level 8) _ _ h in
    (grind (nat_tests, arith, b.0), grind (nat_tests, arith, b.1), grind (nat_tests, arith, b.2))

AreInRange-append : (count at : ℕ) (xs ys : List Op) → AreInRange count at xs → AreInRange count (at + length xs) ys → AreInRange count at (xs ++ ys)
AreInRange-append count at [] ys p q = subst (λ n. AreInRange count n ys) (add-zero at) q
AreInRange-append count at (x ∷ xs) ys p q =
    let same : at + suc (length xs) ≡ at + 1 + length xs = omega arith in
    (p.0, AreInRange-append count (at + 1) xs ys p.1 (subst (λ n. AreInRange count n ys) same q))

in_range : (count level at : ℕ) (place : List ℕ) (k : ℕ) (b : Body) → body_faults count level place k b ≡ [] → AreInRange count at (ops at level b)
in_range count level at place k finish h = tt
in_range count level at place k (act a rest) h =
    let own = action_faults count (place ++ k ∷ []) a in
    let others = body_faults count level place (k + 1) rest in
    (action_in_range count (place ++ k ∷ []) a (left_none own others h), in_range count level (at + 1) place (k + 1) rest (right_none own others h))
in_range count level at place k (loop n b rest) h =
    let own = loop_faults level (place ++ k ∷ []) n in
    let inner = body_faults count (level + 1) (place ++ k ∷ []) 0 b in
    let others = body_faults count level place (k + 1) rest in
    let first = left_none (own ++ inner) others h in
    let fits = loop_in_range level (place ++ k ∷ []) n (left_none own inner first) in
    let body = ops at (level + 1) b in
    let start : at ≤ at + length body = omega arith in
    AreInRange-append count at body (op.Edge n at level ∷ ops (at + length body + 1) level rest)
    (in_range count (level + 1) at (place ++ k ∷ []) 0 b (right_none own inner first))
    ((start, fits.0, fits.1, fits.2), in_range count level (at + length body + 1) place (k + 1) rest (right_none (own ++ inner) others h))

is_checked : (count level : ℕ) (place : List ℕ) (k : ℕ) (b : Body) → body_faults count level place k b ≡ [] → IsChecked count level b
is_checked count level place k finish h = tt
is_checked count level place k (act a rest) h =
    let own = action_faults count (place ++ k ∷ []) a in
    let others = body_faults count level place (k + 1) rest in
    (action_in_range count (place ++ k ∷ []) a (left_none own others h), is_checked count level place (k + 1) rest (right_none own others h))
is_checked count level place k (loop n b rest) h =
    let own = loop_faults level (place ++ k ∷ []) n in
    let inner = body_faults count (level + 1) (place ++ k ∷ []) 0 b in
    let others = body_faults count level place (k + 1) rest in
    let first = left_none (own ++ inner) others h in
    (loop_in_range level (place ++ k ∷ []) n (left_none own inner first), is_checked count (level + 1) (place ++ k ∷ []) 0 b (right_none own inner first), is_checked count level place (k + 1) rest (right_none (own ++ inner) others h))

all_checked : (count m : ℕ) (bs : List Body) → bodies_faults count m bs ≡ [] → AllChecked count bs
all_checked count m [] h = tt
all_checked count m (b ∷ bs) h =
    let own = body_faults count 0 (m ∷ []) 0 b in
    let others = bodies_faults count (m + 1) bs in
    (is_checked count 0 (m ∷ []) 0 b (left_none own others h), all_checked count (m + 1) bs (right_none own others h))

pub checked : (bs : List Body) → script_faults bs ≡ [] → AreChecked bs
checked bs h = all_checked (length bs) 0 bs h

all_in_range : (count m : ℕ) (bs : List Body) → bodies_faults count m bs ≡ [] → AllInRange count (map routine bs)
all_in_range count m [] h = tt
all_in_range count m (b ∷ bs) h =
    let own = body_faults count 0 (m ∷ []) 0 b in
    let others = bodies_faults count (m + 1) bs in
    (in_range count 0 0 (m ∷ []) 0 b (left_none own others h), all_in_range count (m + 1) bs (right_none own others h))

length-routines : (bs : List Body) → length (map routine bs) ≡ length bs
length-routines [] = refl
length-routines (b ∷ bs) = ap suc (length-routines bs)

pub runnable : (bs : List Body) → script_faults bs ≡ [] → IsRunnable (map routine bs)
runnable bs h = subst (λ n. AllInRange n (map routine bs)) (sym (length-routines bs)) (all_in_range (length bs) 0 bs h)

op_in_range : (count at : ℕ) (os : List Op) (k : ℕ) → AreInRange count at os → IfSome (slice_get os k) (IsInRange count (at + k))
op_in_range count at [] k h = tt
op_in_range count at (o ∷ os) zero h = subst (λ n. IsInRange count n o) (sym (add-zero at)) h.0
op_in_range count at (o ∷ os) (suc k) h =
    let same : at + 1 + k ≡ at + suc k = omega arith in
    subst (λ n. IfSome (slice_get os k) (IsInRange count n)) same (op_in_range count (at + 1) os k h.1)

all_ops_in_range : (count : ℕ) (rs : List (List Op)) (m k : ℕ) → AllInRange count rs → IfSome (option_and_then (λ r. slice_get r k) (slice_get rs m)) (IsInRange count k)
all_ops_in_range count [] m k h = tt
all_ops_in_range count (r ∷ rs) zero k h = subst (λ n. IfSome (slice_get r k) (IsInRange count n)) (zero-add k) (op_in_range count 0 r k h.0)
all_ops_in_range count (r ∷ rs) (suc m) k h = all_ops_in_range count rs m k h.1

-- each step of runnable code is in range
pub runs : (rs : List (List Op)) (m k : ℕ) → IsRunnable rs → IfSome (option_and_then (λ r. slice_get r k) (slice_get rs m)) (IsInRange (length rs) k)
runs rs m k h = all_ops_in_range (length rs) rs m k h
