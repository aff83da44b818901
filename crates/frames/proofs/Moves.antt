-- Nets by code: what a move of one does, and what is counted by them.
use Rattle.std.proofs.Common.{◌≡◌, ℕ, zero, suc, ◌+◌, ◌∙◌, sym, Bool, true, false, not, List, [], ◌∷◌, ◌++◌, Option, Some, None, refl, ap, ap₂, subst, cond, arith, ℤ, pos, negsuc, ◌+ℤ◌, ◌-ℤ◌, replicate}
use Rattle.std.proofs.lemmas.Int.{ints}
use Rattle.std.specs.Prelude.{filter, ◌≤ℤ◌}
use Rattle.std.proofs.lemmas.Bool.Decides.{nat_tests}
use Rattle.frames.specs.declared.CodeId.{CodeId}
use Rattle.frames.specs.declared.Frame.{Frame}
use Rattle.frames.specs.declared.Change.{Change}
use Rattle.frames.specs.Stack.{same_code, code_lt, act, times}
use Rattle.frames.specs.Kept.{upto}
use Rattle.frames.specs.Nets.{net_in, is_zero, net_of, with_net, add, IsRising, nat_of, counted_by}
use Rattle.frames.proofs.Bags.{same_code-equal, same_code-refl, times-cons, times-append, times-filter, times-codes_of}

-- order
pub below_apart : (last : Option CodeId) (a code : CodeId) → upto last a ≡ false → upto last code ≡ true → (same_code a code ≡ false) × (code_lt a code ≡ false)
below_apart None a code h k = cc
below_apart (Some last) a code h k = (grind (arith, nat_tests), grind (arith, nat_tests))

pub upto_trans : (last : Option CodeId) (a b : CodeId) → upto last a ≡ false → upto (Some a) b ≡ false → upto last b ≡ false
upto_trans None a b h k = refl
upto_trans (Some last) a b h k = grind (arith, nat_tests)

lt_apart : (a code : CodeId) → code_lt a code ≡ true → same_code a code ≡ false
lt_apart a code h = grind (arith, nat_tests)

not_above : (a code : CodeId) → code_lt a code ≡ false → upto (Some a) code ≡ true
not_above a code h = rw h refl

not_below : (a code : CodeId) → code_lt a code ≡ true → upto (Some a) code ≡ false
not_below a code h = rw h refl

above_if : (a code : CodeId) → code_lt a code ≡ false → same_code a code ≡ false → upto (Some code) a ≡ false
above_if a code h k = grind (arith, nat_tests)

pub apart_sym : (a b : CodeId) → same_code a b ≡ false → same_code b a ≡ false
apart_sym a b h = grind (arith, nat_tests)

-- a code that isn't above the last one has no net
pub net_below : (es : List Change) (last : Option CodeId) (code : CodeId) → IsRising last es → upto last code ≡ true → net_in es code ≡ pos 0
net_below [] last code r h = refl
net_below (e ∷ es) last code r h =
    let apart = below_apart last e.code code r.0 h in
    rw apart.0 (net_below es (Some e.code) code r.2 (not_above e.code code apart.1))

pub zero_is : (z : ℤ) → is_zero z ≡ true → z ≡ pos 0
zero_is (pos zero) h = refl
zero_is (pos (suc n)) h = cc
zero_is (negsuc n) h = cc

pub zero_not : (z : ℤ) → is_zero z ≡ false → z ≡ pos 0 → ⊥
zero_not z h e = let k : is_zero (pos 0) ≡ false = subst (λ y. is_zero y ≡ false) e h in cc

net_with : (es : List Change) (code q : CodeId) (by : ℤ) → net_in (with_net code by es) q ≡ cond (is_zero by) (net_in es q) (cond (same_code code q) by (net_in es q))
net_with es code q by = elim (is_zero by) as (λ b. net_in (cond b es (net_of code by ∷ es)) q ≡ cond b (net_in es q) (cond (same_code code q) by (net_in es q))) [ true ↦ refl | false ↦ refl ]

zero_or : (z : ℤ) → cond (is_zero z) (pos 0) z ≡ z
zero_or (pos zero) = refl
zero_or (pos (suc n)) = refl
zero_or (negsuc n) = refl

plus_zero : (z : ℤ) → z ≡ pos 0 +ℤ z
plus_zero z = omega (arith, ints)

here_step :
    (e : Change) (es : List Change) (last : Option CodeId) (code : CodeId) (by : ℤ) (b : Bool) → code_lt e.code code ≡ b → IsRising last (e ∷ es)
    → net_in (add es code by) code ≡ net_in es code +ℤ by
    → net_in (cond b (e ∷ add es code by) (cond (same_code e.code code) (with_net code (e.by +ℤ by) es) (net_of code by ∷ e ∷ es))) code ≡ net_in (e ∷ es) code +ℤ by
here_step e es last code by true k r rest = let other = lt_apart e.code code k in rw other rest
here_step e es last code by false k r rest =
    let none : net_in es code ≡ pos 0 = net_below es (Some e.code) code r.2 (not_above e.code code k) in
    let self : same_code code code ≡ true = same_code-refl code in
    elim (same_code e.code code) as (λ s. net_in (cond s (with_net code (e.by +ℤ by) es) (net_of code by ∷ e ∷ es)) code ≡ cond s e.by (net_in es code) +ℤ by) [
      | true ↦ net_with es code code (e.by +ℤ by) ∙ rw (self, none) (zero_or (e.by +ℤ by))
      | false ↦ rw (self, none) (plus_zero by)
    ]

pub net_here : (es : List Change) (last : Option CodeId) (code : CodeId) (by : ℤ) → IsRising last es → net_in (add es code by) code ≡ net_in es code +ℤ by
net_here [] last code by r = let self : same_code code code ≡ true = same_code-refl code in rw self (plus_zero by)
net_here (e ∷ es) last code by r = here_step e es last code by (code_lt e.code code) refl r (net_here es (Some e.code) code by r.2)

same_both : (b : Bool) (z : ℤ) → cond b z z ≡ z
same_both true z = refl
same_both false z = refl

other_step :
    (e : Change) (es : List Change) (code q : CodeId) (by : ℤ) (b : Bool) → same_code code q ≡ false
    → net_in (add es code by) q ≡ net_in es q
    → net_in (cond b (e ∷ add es code by) (cond (same_code e.code code) (with_net code (e.by +ℤ by) es) (net_of code by ∷ e ∷ es))) q ≡ net_in (e ∷ es) q
other_step e es code q by true ne rest = ap (λ z. cond (same_code e.code q) e.by z) rest
other_step e es code q by false ne rest =
    elim (same_code e.code code) as (λ s. same_code e.code code ≡ s → net_in (cond s (with_net code (e.by +ℤ by) es) (net_of code by ∷ e ∷ es)) q ≡ net_in (e ∷ es) q) [
      | true ↦ λ s. (let is : e.code ≡ code = same_code-equal e.code code s in
          let gone : same_code e.code q ≡ false = subst (λ c. same_code c q ≡ false) (sym is) ne in
          net_with es code q (e.by +ℤ by) ∙ rw (ne, gone) (same_both (is_zero (e.by +ℤ by)) (net_in es q)))
      | false ↦ λ s. rw ne refl
    ] refl

pub net_other : (es : List Change) (code q : CodeId) (by : ℤ) → same_code code q ≡ false → net_in (add es code by) q ≡ net_in es q
net_other [] code q by ne = rw ne refl
net_other (e ∷ es) code q by ne = other_step e es code q by (code_lt e.code code) ne (net_other es code q by ne)

rising_later : (es : List Change) (last : Option CodeId) (a : CodeId) → upto last a ≡ false → IsRising (Some a) es → IsRising last es
rising_later [] last a h r = tt
rising_later (e ∷ es) last a h r = (upto_trans last a e.code h r.0, r.1, r.2)

rising_with : (es : List Change) (last : Option CodeId) (code : CodeId) (by : ℤ) → upto last code ≡ false → IsRising (Some code) es → IsRising last (with_net code by es)
rising_with es last code by h r =
    elim (is_zero by) as (λ z. is_zero by ≡ z → IsRising last (cond z es (net_of code by ∷ es)))
    [ true ↦ λ z. rising_later es last code h r | false ↦ λ z. (h, z, r) ] refl

rising_step :
    (e : Change) (es : List Change) (last : Option CodeId) (code : CodeId) (by : ℤ) (b : Bool) → code_lt e.code code ≡ b
    → is_zero by ≡ false → upto last code ≡ false → IsRising last (e ∷ es)
    → (upto (Some e.code) code ≡ false → IsRising (Some e.code) (add es code by))
    → IsRising last (cond b (e ∷ add es code by) (cond (same_code e.code code) (with_net code (e.by +ℤ by) es) (net_of code by ∷ e ∷ es)))
rising_step e es last code by true k z h r rest = (r.0, r.1, rest (not_below e.code code k))
rising_step e es last code by false k z h r rest =
    elim (same_code e.code code) as (λ s. same_code e.code code ≡ s → IsRising last (cond s (with_net code (e.by +ℤ by) es) (net_of code by ∷ e ∷ es))) [
      | true ↦ λ s. rising_with es last code (e.by +ℤ by) h (subst (λ c. IsRising (Some c) es) (same_code-equal e.code code s) r.2)
      | false ↦ λ s. (h, z, (above_if e.code code k s, r.1, r.2))
    ] refl

pub rising_add : (es : List Change) (last : Option CodeId) (code : CodeId) (by : ℤ) → is_zero by ≡ false → upto last code ≡ false → IsRising last es → IsRising last (add es code by)
rising_add [] last code by z h r = (h, z, tt)
rising_add (e ∷ es) last code by z h r = rising_step e es last code by (code_lt e.code code) refl z h r (λ k. rising_add es (Some e.code) code by z k r.2)

-- what is counted
times-replicate : (c x : CodeId) (n : ℕ) → times c (replicate n x) ≡ cond (same_code x c) n 0
times-replicate c x zero = elim (same_code x c) as (λ b. ◌≡◌ {A = ℕ} 0 (cond b 0 0)) [ true ↦ refl | false ↦ refl ]
times-replicate c x (suc n) =
    times-cons c x (replicate n x) ∙ (ap (λ m. cond (same_code x c) 1 0 + m) (times-replicate c x n) ∙ elim (same_code x c) as (λ b. ◌≡◌ {A = ℕ} (cond b 1 0 + cond b n 0) (cond b (suc n) 0)) [ true ↦ omega arith | false ↦ refl ])

nat_of_less : (n : ℕ) → nat_of (pos n -ℤ pos 0) ≡ n
nat_of_less n = let e : pos n -ℤ pos 0 ≡ pos n = omega (arith, ints) in ap nat_of e

times_one : (x c : CodeId) (n : ℕ) (xs : List CodeId) → times c (replicate n x ++ filter (λ code. not (same_code code x)) xs) ≡ cond (same_code x c) n 0 + cond (not (same_code c x)) (times c xs) 0
times_one x c n xs =
    times-append c (replicate n x) (filter (λ code. not (same_code code x)) xs) ∙ ap₂ (λ a b. a + b) (times-replicate c x n) (times-filter (λ code. not (same_code code x)) c xs)

pub counted_is : (frames : List Frame) (es : List Change) (c : CodeId) → times c (counted_by frames es) ≡ nat_of (pos (act c frames) -ℤ net_in es c)
counted_is frames [] c = times-codes_of c frames ∙ sym (nat_of_less (act c frames))
counted_is frames (e ∷ es) c = times_one e.code c (nat_of (pos (act e.code frames) -ℤ e.by)) (counted_by frames es) ∙ step (counted_is frames es c) (same_code e.code c) refl
  where
    step : times c (counted_by frames es) ≡ nat_of (pos (act c frames) -ℤ net_in es c) → (b : Bool) → same_code e.code c ≡ b → cond b (nat_of (pos (act e.code frames) -ℤ e.by)) 0 + cond (not (same_code c e.code)) (times c (counted_by frames es)) 0 ≡ nat_of (pos (act c frames) -ℤ cond b e.by (net_in es c))
    step rest true h =
        let is : e.code ≡ c = same_code-equal e.code c h in
        let self : same_code c e.code ≡ true = subst (λ x. same_code c x ≡ true) (sym is) (same_code-refl c) in
        let there : nat_of (pos (act e.code frames) -ℤ e.by) ≡ nat_of (pos (act c frames) -ℤ e.by) = ap (λ x. nat_of (pos (act x frames) -ℤ e.by)) is in
        rw self (omega (arith, there))
    step rest false h = rw (apart_sym e.code c h) (omega (arith, rest))

nat_of_pos : (z : ℤ) → pos 0 ≤ℤ z → pos (nat_of z) ≡ z
nat_of_pos (pos n) h = refl
nat_of_pos (negsuc n) h = absurd (omega (arith, ints, h))

pub balance : (frames : List Frame) (es : List Change) (c : CodeId) → net_in es c ≤ℤ pos (act c frames) → pos (times c (counted_by frames es)) +ℤ net_in es c ≡ pos (act c frames)
balance frames es c h =
    let is : pos (nat_of (pos (act c frames) -ℤ net_in es c)) ≡ pos (act c frames) -ℤ net_in es c = nat_of_pos (pos (act c frames) -ℤ net_in es c) (omega (arith, ints, h)) in
    rw counted_is (omega (arith, ints, is))
