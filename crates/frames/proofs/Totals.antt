-- Nets in any order: what they come to, and what keeps or settles them.
use Rattle.std.proofs.Common.{◌≡◌, ℕ, zero, suc, ◌+◌, ◌<◌, ◌≤◌, ◌∙◌, sym, Bool, true, false, not, eqb, List, [], ◌∷◌, ◌++◌, length, drop, set, get_or, Option, Some, None, refl, ap, ap₂, subst, cond, arith, ℤ, pos, negsuc, ◌+ℤ◌}
use Rattle.std.proofs.lemmas.Int.{ints}
use Rattle.std.proofs.lemmas.Bool.Decides.{nat_tests}
use Rattle.std.proofs.lemmas.List.Sums.{sum_by-cons}
use Rattle.std.proofs.lemmas.List.Sorted.{sum_by-IsPermutation, IsPermutation-map, All-permutation}
use Rattle.std.proofs.lemmas.List.Elements.{All-cons}
use Rattle.std.proofs.lemmas.List.{length-set}
use Rattle.std.specs.Prelude.{filter}
use Rattle.std.specs.List.{sum_by, All}
use Rattle.std.specs.Ordering.{is_lt, nat_cmp, ordering_then}
use Rattle.std.specs.List.Sorted.{IsPermutation, IsSortedByKey}
use Rattle.frames.specs.declared.CodeId.{CodeId}
use Rattle.frames.specs.declared.Change.{Change}
use Rattle.frames.specs.Stack.{same_code, code_lt, times}
use Rattle.frames.specs.Kept.{upto}
use Rattle.frames.specs.Nets.{net_in, is_zero, nat_of, net_of, with_net, add, moved, settled, by_code, total, codes_in, IsRising, IsWithin, IsAt, IsPut, AreOnce, AreSmall, net_sum}
use Rattle.frames.proofs.Bags.{same_code-equal, same_code-refl, times-cons}
use Rattle.frames.proofs.Moves.{net_below, net_here, net_other, zero_not, zero_is, rising_add}
use Rattle.frames.proofs.Settling.{one_more, nets_by, none_behind, itself, times_codes, same_length, length-codes_in}

-- a move by 0 is none
pub net_moved : (es : List Change) (code : CodeId) (by : ℤ) → IsRising None es → (c : CodeId) → net_in (moved es code by) c ≡ net_in es c +ℤ by_code code by c
net_moved es code by r c = by_case (is_zero by) refl
  where
    none : (b : Bool) (z : ℤ) → z ≡ pos 0 → net_in es c ≡ net_in es c +ℤ cond b z (pos 0)
    none true z e = omega (arith, ints)
    none false z e = omega (arith, ints)

    by_case : (b : Bool) → is_zero by ≡ b → net_in (cond b es (add es code by)) c ≡ net_in es c +ℤ by_code code by c
    by_case true z = none (same_code code c) by (zero_is by z)
    by_case false z = nets_by es code by r c

pub rising_moved : (es : List Change) (code : CodeId) (by : ℤ) → IsRising None es → IsRising None (moved es code by)
rising_moved es code by r =
    elim (is_zero by) as (λ b. is_zero by ≡ b → IsRising None (cond b es (add es code by)))
    [ true ↦ λ z. r | false ↦ λ z. rising_add es None code by z refl r ] refl

lt_other : (a b : CodeId) → code_lt a b ≡ true → same_code b a ≡ false
lt_other a b h = grind (arith, nat_tests)

lt_up : (a b : CodeId) → code_lt a b ≡ true → upto (Some b) a ≡ true
lt_up a b h = grind (arith, nat_tests)

gt_of : (a b : CodeId) → same_code a b ≡ false → code_lt a b ≡ false → code_lt b a ≡ true
gt_of a b h k = grind (arith, nat_tests)

-- a code below the first one has no net
before_first : (e : Change) (es : List Change) (code : CodeId) → IsRising (Some e.code) es → code_lt code e.code ≡ true → net_in (e ∷ es) code ≡ pos 0
before_first e es code r lt = rw (lt_other code e.code lt) (net_below es (Some e.code) code r (lt_up code e.code lt))

change_is : (x y : Change) → x.code ≡ y.code → x.by ≡ y.by → x ≡ y
change_is x y c b = ap₂ net_of c b

-- rising lists with the same nets are one
pub same_nets : (xs ys : List Change) (last : Option CodeId) → IsRising last xs → IsRising last ys → ((c : CodeId) → net_in xs c ≡ net_in ys c) → xs ≡ ys
same_nets [] [] last r s h = refl
same_nets [] (y ∷ ys) last r s h = absurd (zero_not y.by s.1 (sym (itself y ys) ∙ sym (h y.code)))
same_nets (x ∷ xs) [] last r s h = absurd (zero_not x.by r.1 (sym (itself x xs) ∙ h x.code))
same_nets (x ∷ xs) (y ∷ ys) last r s h = by_case (λ more. same_nets xs ys (Some x.code) r.2 more) (same_code x.code y.code) refl
  where
    by_order : (b : Bool) → code_lt x.code y.code ≡ b → same_code x.code y.code ≡ false → x ∷ xs ≡ y ∷ ys
    by_order true lt e = absurd (zero_not x.by r.1 (sym (itself x xs) ∙ (h x.code ∙ before_first y ys x.code s.2 lt)))
    by_order false lt e = absurd (zero_not y.by s.1 (sym (itself y ys) ∙ (sym (h y.code) ∙ before_first x xs y.code r.2 (gt_of x.code y.code e lt))))

    by_case : (IsRising (Some x.code) ys → ((c : CodeId) → net_in xs c ≡ net_in ys c) → xs ≡ ys) → (b : Bool) → same_code x.code y.code ≡ b → x ∷ xs ≡ y ∷ ys
    by_case rest false e = by_order (code_lt x.code y.code) refl e
    by_case rest true e =
        let is : x.code ≡ y.code = same_code-equal x.code y.code e in
        let behind : IsRising (Some x.code) ys = subst (λ c. IsRising (Some c) ys) (sym is) s.2 in
        let moves : x.by ≡ y.by = sym (itself x xs) ∙ (h x.code ∙ (ap (net_in (y ∷ ys)) is ∙ itself y ys)) in
        ap₂ (λ (z : Change) zs. z ∷ zs) (change_is x y is moves) (rest behind (λ c. others c (same_code x.code c) refl))
      where
        others : (c : CodeId) (b : Bool) → same_code x.code c ≡ b → net_in xs c ≡ net_in ys c
        others c true k =
            let one : x.code ≡ c = same_code-equal x.code c k in
            let left : net_in xs c ≡ pos 0 = subst (λ z. net_in xs z ≡ pos 0) one (none_behind x xs r.2) in
            let right : net_in ys c ≡ pos 0 = subst (λ z. net_in ys z ≡ pos 0) (sym (same_code-equal x.code y.code e) ∙ one) (none_behind y ys s.2) in
            left ∙ sym right
        others c false k =
            let k_y : same_code y.code c ≡ false = subst (λ z. same_code z c ≡ false) (same_code-equal x.code y.code e) k in
            let all = h c in
            rw (k, k_y) at all

-- what a list comes to
pub settled_rising : (es : List Change) → IsRising None (settled es)
settled_rising [] = tt
settled_rising (e ∷ es) = rising_moved (settled es) e.code e.by (settled_rising es)

pub settled_net : (es : List Change) (c : CodeId) → net_in (settled es) c ≡ total es c
settled_net [] c = refl
settled_net (e ∷ es) c = net_moved (settled es) e.code e.by (settled_rising es) c ∙ ap (λ z. z +ℤ by_code e.code e.by c) (settled_net es c)

pub same_settled : (xs ys : List Change) → ((c : CodeId) → total xs c ≡ total ys c) → settled xs ≡ settled ys
same_settled xs ys h = same_nets (settled xs) (settled ys) None (settled_rising xs) (settled_rising ys) (λ c. settled_net xs c ∙ (h c ∙ sym (settled_net ys c)))

total_rising : (es : List Change) (last : Option CodeId) (c : CodeId) → IsRising last es → total es c ≡ net_in es c
total_rising [] last c r = refl
total_rising (e ∷ es) last c r = by_case (total_rising es (Some e.code) c r.2) (same_code e.code c) refl
  where
    by_case : total es c ≡ net_in es c → (b : Bool) → same_code e.code c ≡ b → total es c +ℤ cond b e.by (pos 0) ≡ cond b e.by (net_in es c)
    by_case rest false h = omega (arith, ints, rest)
    by_case rest true h =
        let none : net_in es c ≡ pos 0 = subst (λ x. net_in es x ≡ pos 0) (same_code-equal e.code c h) (none_behind e es r.2) in
        omega (arith, ints, rest, none)

-- a rising list is settled
pub rising_settled : (es : List Change) → IsRising None es → settled es ≡ es
rising_settled es r = same_nets (settled es) es None (settled_rising es) r (λ c. settled_net es c ∙ total_rising es None c r)

-- where one code's net moves
pub moved_settled : (xs ys : List Change) (code : CodeId) (by : ℤ) → is_zero by ≡ false → ((c : CodeId) → total ys c ≡ total xs c +ℤ by_code code by c) → settled ys ≡ add (settled xs) code by
moved_settled xs ys code by some h =
    same_nets (settled ys) (add (settled xs) code by) None (settled_rising ys) (rising_add (settled xs) None code by some refl (settled_rising xs))
    (λ c. settled_net ys c ∙ (h c ∙ (ap (λ z. z +ℤ by_code code by c) (sym (settled_net xs c)) ∙ sym (nets_by (settled xs) code by (settled_rising xs) c))))

pub total_set : (es : List Change) (i : ℕ) (d y : Change) → i < length es → (c : CodeId) → total (set es i y) c +ℤ by_code (get_or es i d).code (get_or es i d).by c ≡ total es c +ℤ by_code y.code y.by c
total_set [] i d y lt c = absurd (omega arith)
total_set (e ∷ es) zero d y lt c = swap (total es c) (by_code e.code e.by c) (by_code y.code y.by c)
  where
    swap : (t x y : ℤ) → t +ℤ y +ℤ x ≡ t +ℤ x +ℤ y
    swap t x y = omega (arith, ints)
total_set (e ∷ es) (suc i) d y lt c = step (total (set es i y) c) (total es c) (by_code (get_or es i d).code (get_or es i d).by c) (by_code y.code y.by c) (by_code e.code e.by c) (total_set es i d y (omega arith) c)
  where
    step : (s t x y e : ℤ) → s +ℤ x ≡ t +ℤ y → s +ℤ e +ℤ x ≡ t +ℤ e +ℤ y
    step s t x y e h = omega (arith, ints, h)

pub total_push : (es : List Change) (y : Change) (c : CodeId) → total (es ++ y ∷ []) c ≡ total es c +ℤ by_code y.code y.by c
total_push [] y c = refl
total_push (e ∷ es) y c = step (total (es ++ y ∷ []) c) (total es c) (by_code y.code y.by c) (by_code e.code e.by c) (total_push es y c)
  where
    step : (s t y e : ℤ) → s ≡ t +ℤ y → s +ℤ e ≡ t +ℤ e +ℤ y
    step s t y e h = omega (arith, ints, h)

pub times_set : (es : List Change) (i : ℕ) (d y : Change) → i < length es → (c : CodeId) → times c (codes_in (set es i y)) + times c ((get_or es i d).code ∷ []) ≡ times c (codes_in es) + times c (y.code ∷ [])
times_set [] i d y lt c = absurd (omega arith)
times_set (e ∷ es) zero d y lt c =
    let a = times-cons c y.code (codes_in es) in
    let b = times-cons c e.code (codes_in es) in
    let one = times-cons c y.code [] in
    let other = times-cons c e.code [] in
    omega (arith, a, b, one, other)
times_set (e ∷ es) (suc i) d y lt c =
    let a = times-cons c e.code (codes_in (set es i y)) in
    let b = times-cons c e.code (codes_in es) in
    let rest = times_set es i d y (omega arith) c in
    omega (arith, a, b, rest)

pub times_push : (es : List Change) (y : Change) (c : CodeId) → times c (codes_in (es ++ y ∷ [])) ≡ times c (codes_in es) + times c (y.code ∷ [])
times_push [] y c = omega arith
times_push (e ∷ es) y c =
    let a = times-cons c e.code (codes_in (es ++ y ∷ [])) in
    let b = times-cons c e.code (codes_in es) in
    let rest = times_push es y c in
    omega (arith, a, b, rest)

-- the net of a code that stands once
pub no_total : (es : List Change) (c : CodeId) → times c (codes_in es) ≡ 0 → total es c ≡ pos 0
no_total [] c h = refl
no_total (e ∷ es) c h = by_case (no_total es c) (same_code e.code c) (sym (times-cons c e.code (codes_in es)) ∙ h)
  where
    by_case : (times c (codes_in es) ≡ 0 → total es c ≡ pos 0) → (b : Bool) → cond b 1 0 + times c (codes_in es) ≡ 0 → total es c +ℤ cond b e.by (pos 0) ≡ pos 0
    by_case rest true k = absurd (omega arith)
    by_case rest false k = let none = rest (omega arith) in omega (arith, ints, none)

there : (es : List Change) (i : ℕ) (d : Change) → i < length es → 0 < times (get_or es i d).code (codes_in es)
there [] i d lt = absurd (omega arith)
there (e ∷ es) zero d lt = rw times-cons (rw same_code-refl (omega arith))
there (e ∷ es) (suc i) d lt = let a = times-cons (get_or es i d).code e.code (codes_in es) in let rest = there es i d (omega arith) in omega (arith, a, rest)

pub within_add : (es : List Change) (code : CodeId) (by : ℤ) → IsRising None es → ((c : CodeId) → IsWithin (net_in es c) 256) → IsWithin (net_in es code +ℤ by) 256 → (c : CodeId) → IsWithin (net_in (add es code by) c) 256
within_add es code by r w h c = by_case (same_code code c) refl
  where
    by_case : (b : Bool) → same_code code c ≡ b → IsWithin (net_in (add es code by) c) 256
    by_case true e = subst (λ x. IsWithin (net_in (add es code by) x) 256) (same_code-equal code c e) (subst (λ z. IsWithin z 256) (sym (net_here es None code by r)) h)
    by_case false e = subst (λ z. IsWithin z 256) (sym (net_other es code c by e)) (w c)

-- the net of a code that stands once is where it stands
pub total_at : (es : List Change) (i : ℕ) (d : Change) → i < length es → times (get_or es i d).code (codes_in es) ≤ 1 → total es (get_or es i d).code ≡ (get_or es i d).by
total_at [] i d lt few = absurd (omega arith)
total_at (e ∷ es) zero d lt few =
    let all = times-cons e.code e.code (codes_in es) in
    let self = same_code-refl e.code in
    let none : times e.code (codes_in es) ≡ 0 = by_one (same_code e.code e.code) (times e.code (codes_in es)) self (omega (arith, all, few)) in
    let rest = no_total es e.code none in
    rw self (omega (arith, ints, rest))
  where
    by_one : (b : Bool) (n : ℕ) → b ≡ true → cond b 1 0 + n ≤ 1 → n ≡ 0
    by_one true n h k = omega arith
    by_one false n h k = cc
total_at (e ∷ es) (suc i) d lt few =
    let code = (get_or es i d).code in
    let all = times-cons code e.code (codes_in es) in
    let some = there es i d (omega arith) in
    let rest = total_at es i d (omega arith) (omega (arith, all, few)) in
    by_case (same_code e.code code) (omega (arith, all, few)) some rest
  where
    by_case : (b : Bool) → cond b 1 0 + times (get_or es i d).code (codes_in es) ≤ 1 → 0 < times (get_or es i d).code (codes_in es) → total es (get_or es i d).code ≡ (get_or es i d).by → total es (get_or es i d).code +ℤ cond b e.by (pos 0) ≡ (get_or es i d).by
    by_case true k l m = absurd (omega arith)
    by_case false k l m = omega (arith, ints, m)

pub total_of : (es : List Change) (code : CodeId) (place : ℕ) (d : Change) → AreOnce es → IsAt es code place → net_in (settled es) code ≡ (get_or es place d).by
total_of es code place d once at_ =
    settled_net es code ∙ subst (λ c. total es c ≡ (get_or es place d).by) (at_.is d) (total_at es place d at_.within (once (get_or es place d).code))

-- a new net
pub pushed_put : (es : List Change) (net : Change) → length es < 1024 → IsPut net es (es ++ net ∷ [])
pushed_put es net h = record {
  fits = (let more = length_more es net in omega arith);
  totals = total_push es net;
  codes = λ c. (let all = times_push es net c in omega arith);
}
  where
    length_more : (xs : List Change) (y : Change) → length (xs ++ y ∷ []) ≡ suc (length xs)
    length_more [] y = refl
    length_more (x ∷ xs) y = ap suc (length_more xs y)

pub set_put : (es : List Change) (i : ℕ) (d net : Change) → length es ≤ 1024 → i < length es → is_zero (get_or es i d).by ≡ true → IsPut net es (set es i net)
set_put es i d net fits lt none = record {
  fits = (let same = length-set es i net in omega arith);
  totals = λ c. plain (same_code (get_or es i d).code c) (get_or es i d).by (zero_is (get_or es i d).by none) (total_set es i d net lt c);
  codes = λ c. (let all = times_set es i d net lt c in omega arith);
}
  where
    plain : {s t : ℤ} (b : Bool) (x : ℤ) → x ≡ pos 0 → s +ℤ cond b x (pos 0) ≡ t → s ≡ t
    plain true x e h = omega (arith, ints, e, h)
    plain false x e h = omega (arith, ints, h)

-- sorting
abbrev up : CodeId → Change → ℕ
up c e = cond (same_code e.code c) (nat_of e.by) 0

abbrev below : ℤ → ℕ
below (pos n) = 0
below (negsuc n) = suc n

abbrev down : CodeId → Change → ℕ
down c e = cond (same_code e.code c) (below e.by) 0

parts : (es : List Change) (c : CodeId) → total es c +ℤ pos (sum_by (down c) es) ≡ pos (sum_by (up c) es)
parts [] c = refl
parts (e ∷ es) c =
    let d = sum_by-cons (down c) e es in
    let u = sum_by-cons (up c) e es in
    let one : by_code e.code e.by c +ℤ pos (down c e) ≡ pos (up c e) = both (same_code e.code c) e.by in
    join (total es c) (by_code e.code e.by c) (sum_by (down c) es) (sum_by (up c) es) (down c e) (up c e) (sum_by (down c) (e ∷ es)) (sum_by (up c) (e ∷ es)) d u one (parts es c)
  where
    both : (b : Bool) (z : ℤ) → cond b z (pos 0) +ℤ pos (cond b (below z) 0) ≡ pos (cond b (nat_of z) 0)
    both true (pos n) = omega (arith, ints)
    both true (negsuc n) = omega (arith, ints)
    both false z = omega (arith, ints)

    join : (t y : ℤ) (sd su d u ad au : ℕ) → ad ≡ d + sd → au ≡ u + su → y +ℤ pos d ≡ pos u → t +ℤ pos sd ≡ pos su → t +ℤ y +ℤ pos ad ≡ pos au
    join t y sd su d u ad au p q r s = omega (arith, ints, p, q, r, s)

total_permutation : (xs ys : List Change) (c : CodeId) → IsPermutation xs ys → total xs c ≡ total ys c
total_permutation xs ys c h =
    let d = sum_by-IsPermutation (down c) xs ys h in
    let u = sum_by-IsPermutation (up c) xs ys h in
    let x = parts xs c in
    let y = parts ys c in
    omega (arith, ints, d, u, x, y)

times_permutation : (xs ys : List Change) (c : CodeId) → IsPermutation xs ys → times c (codes_in ys) ≡ times c (codes_in xs)
times_permutation xs ys c h = sum_by-IsPermutation (λ other. cond (same_code other c) 1 0) (codes_in xs) (codes_in ys) (IsPermutation-map (λ (e : Change). e.code) xs ys h)

pub total_filter : (es : List Change) (c : CodeId) → total (filter (λ e. not (is_zero e.by)) es) c ≡ total es c
total_filter [] c = refl
total_filter (e ∷ es) c = by_case (is_zero e.by) refl (total_filter es c)
  where
    by_case : (b : Bool) → is_zero e.by ≡ b → total (filter (λ e. not (is_zero e.by)) es) c ≡ total es c → total (cond (not b) (e ∷ filter (λ e. not (is_zero e.by)) es) (filter (λ e. not (is_zero e.by)) es)) c ≡ total es c +ℤ by_code e.code e.by c
    by_case false z rest = ap (λ t. t +ℤ by_code e.code e.by c) rest
    by_case true z rest = none (same_code e.code c) (zero_is e.by z)
      where
        none : (b : Bool) → e.by ≡ pos 0 → total (filter (λ e. not (is_zero e.by)) es) c ≡ total es c +ℤ cond b e.by (pos 0)
        none true h = omega (arith, ints, rest, h)
        none false h = omega (arith, ints, rest)

times_filter : (es : List Change) (c : CodeId) → times c (codes_in (filter (λ e. not (is_zero e.by)) es)) ≤ times c (codes_in es)
times_filter [] c = omega arith
times_filter (e ∷ es) c = by_case (is_zero e.by) (times_filter es c)
  where
    by_case : (b : Bool) → times c (codes_in (filter (λ e. not (is_zero e.by)) es)) ≤ times c (codes_in es) → times c (codes_in (cond (not b) (e ∷ filter (λ e. not (is_zero e.by)) es) (filter (λ e. not (is_zero e.by)) es))) ≤ times c (codes_in (e ∷ es))
    by_case false rest = let a = times-cons c e.code (codes_in (filter (λ e. not (is_zero e.by)) es)) in let b = times-cons c e.code (codes_in es) in omega (arith, a, b, rest)
    by_case true rest = let b = times-cons c e.code (codes_in es) in omega (arith, b, rest)

-- a sorted list of codes that stand once is rising
two_apart : (a b : CodeId) (xs : List CodeId) → times a (a ∷ b ∷ xs) ≤ 1 → same_code b a ≡ false
two_apart a b xs few = by_case (same_code b a) refl
  where
    by_case : (s : Bool) → same_code b a ≡ s → s ≡ false
    by_case false h = refl
    by_case true h =
        let x = times-cons a a (b ∷ xs) in
        let y = times-cons a b xs in
        let self = same_code-refl a in
        absurd (no (same_code a a) (same_code b a) (times a xs) self h (omega (arith, x, y, few)))
      where
        no : (s t : Bool) (n : ℕ) → s ≡ true → t ≡ true → cond {A = ℕ} s 1 0 + (cond t 1 0 + n) ≤ 1 → ⊥
        no true true n p q k = omega arith
        no false t n p q k = cc
        no true false n p q k = cc

sorted_rising : (es : List Change) (last : Option CodeId) → ((d : Change) → 0 < length es → upto last (get_or es 0 d).code ≡ false)
    → ((k : ℕ) (d : Change) → suc k < length es → code_lt (get_or es (suc k) d).code (get_or es k d).code ≡ false)
    → ((k : ℕ) (d : Change) → k < length es → is_zero (get_or es k d).by ≡ false) → AreOnce es → IsRising last es
sorted_rising [] last first sorted some once = tt
sorted_rising (e ∷ es) last first sorted some once = (
  first e (omega arith),
  some 0 e (omega arith),
  sorted_rising es (Some e.code) (next es sorted once) (λ k d lt. sorted (suc k) d (omega arith)) (λ k d lt. some (suc k) d (omega arith)) (λ c. (let all = times-cons c e.code (codes_in es) in let few = once c in omega arith)),
)
  where
    next : (es : List Change) → ((k : ℕ) (d : Change) → suc k < length (e ∷ es) → code_lt (get_or (e ∷ es) (suc k) d).code (get_or (e ∷ es) k d).code ≡ false) → AreOnce (e ∷ es) → (d : Change) → 0 < length es → upto (Some e.code) (get_or es 0 d).code ≡ false
    next [] sorted once d lt = absurd (omega arith)
    next (q ∷ qs) sorted once d lt =
        let above = gt_of q.code e.code (two_apart e.code q.code (codes_in qs) (once e.code)) (sorted 0 d (omega arith)) in
        rw above refl

is_above : (a b : CodeId) → is_lt (ordering_then (nat_cmp a.serial b.serial) (nat_cmp a.slot b.slot)) ≡ false → code_lt a b ≡ false
is_above a b h = grind (arith, nat_tests)

-- an order of nets settles to the same, and has each code as often
pub turned_settled : (es turned : List Change) → IsPermutation es turned → settled turned ≡ settled es
turned_settled es turned h = same_settled turned es (λ c. sym (total_permutation es turned c h))

pub turned_once : (es turned : List Change) → AreOnce es → IsPermutation es turned → AreOnce turned
turned_once es turned once h = λ c. subst (λ n. n ≤ 1) (sym (times_permutation es turned c h)) (once c)

-- the nets that aren't 0, sorted, are what the list settles to
pub sorted_settled : (es ys : List Change) → AreOnce es → IsPermutation (filter (λ e. not (is_zero e.by)) es) ys → IsSortedByKey {K = ℕ × ℕ} (λ (e : Change). (e.code.serial, e.code.slot)) (λ x y. ordering_then (nat_cmp x.0 y.0) (nat_cmp x.1 y.1)) ys → ys ≡ settled es
sorted_settled es ys once moved_ sorted =
    let some : All (λ (e : Change). is_zero e.by ≡ false) ys = All-permutation (λ (e : Change). is_zero e.by ≡ false) (filter (λ e. not (is_zero e.by)) es) ys moved_ (kept es) in
    let rising : IsRising None ys = sorted_rising ys None (λ d lt. refl) (λ k d lt. subst (λ i. code_lt (get_or ys i d).code (get_or ys k d).code ≡ false) (sym (one_more k)) (is_above (get_or ys (k + 1) d).code (get_or ys k d).code (sorted k d (omega arith) (omega arith)))) (λ k d lt. some k d lt)
    (λ c. (let a = times_permutation (filter (λ e. not (is_zero e.by)) es) ys c moved_ in let b = times_filter es c in let few = once c in omega arith)) in
    sym (rising_settled ys rising) ∙ same_settled ys es (λ c. sym (total_permutation (filter (λ e. not (is_zero e.by)) es) ys c moved_) ∙ total_filter es c)
  where
    kept : (es : List Change) → All (λ (e : Change). is_zero e.by ≡ false) (filter (λ e. not (is_zero e.by)) es)
    kept [] = λ k d lt. absurd (omega arith)
    kept (e ∷ es) = by_case (is_zero e.by) refl (kept es)
      where
        by_case : (b : Bool) → is_zero e.by ≡ b → All (λ (e : Change). is_zero e.by ≡ false) (filter (λ e. not (is_zero e.by)) es) → All (λ (e : Change). is_zero e.by ≡ false) (cond (not b) (e ∷ filter (λ e. not (is_zero e.by)) es) (filter (λ e. not (is_zero e.by)) es))
        by_case true z rest = rest
        by_case false z rest = All-cons (λ (e : Change). is_zero e.by ≡ false) e (filter (λ e. not (is_zero e.by)) es) z rest

plus_none : (z : ℤ) → z +ℤ pos 0 ≡ z
plus_none z = omega (arith, ints)

pub none_plus : (t z : ℤ) → t ≡ pos 0 → t +ℤ z ≡ z
none_plus t z h = omega (arith, ints, h)

-- how many nets there are
times_kept : (es : List Change) (c : CodeId) → AreOnce es → times c (codes_in (filter (λ e. not (is_zero e.by)) es)) ≡ cond (is_zero (total es c)) 0 1
times_kept [] c once = refl
times_kept (e ∷ es) c once = by_case (same_code e.code c) refl (is_zero e.by) refl (times_kept es c (λ q. (let all = times-cons q e.code (codes_in es) in let few = once q in omega arith)))
  where
    by_case : (s : Bool) → same_code e.code c ≡ s → (b : Bool) → is_zero e.by ≡ b → times c (codes_in (filter (λ e. not (is_zero e.by)) es)) ≡ cond (is_zero (total es c)) 0 1
        → times c (codes_in (cond (not b) (e ∷ filter (λ e. not (is_zero e.by)) es) (filter (λ e. not (is_zero e.by)) es))) ≡ cond (is_zero (total es c +ℤ cond s e.by (pos 0))) 0 1
    by_case false h true z rest = rw (plus_none (total es c)) rest
    by_case false h false z rest = let all = times-cons c e.code (codes_in (filter (λ e. not (is_zero e.by)) es)) in rw h at all ∙ rw (plus_none (total es c)) (omega (arith, rest))
    by_case true h b z rest =
        let all = times-cons c e.code (codes_in es) in
        let few = once c in
        let gone : times c (codes_in es) ≡ 0 = absent (same_code e.code c) h (omega (arith, all, few)) in
        let none = no_total es c gone in
        let le = times_filter es c in
        rw (none_plus (total es c) e.by none, z) (here b z (omega (arith, le, gone)))
      where
        absent : (s : Bool) → s ≡ true → cond s 1 0 + times c (codes_in es) ≤ 1 → times c (codes_in es) ≡ 0
        absent true p k = omega arith
        absent false p k = cc

        here : (b : Bool) → is_zero e.by ≡ b → times c (codes_in (filter (λ e. not (is_zero e.by)) es)) ≡ 0 → times c (codes_in (cond (not b) (e ∷ filter (λ e. not (is_zero e.by)) es) (filter (λ e. not (is_zero e.by)) es))) ≡ cond b 0 1
        here true z k = k
        here false z k = let all = times-cons c e.code (codes_in (filter (λ e. not (is_zero e.by)) es)) in rw h at all ∙ omega (arith, k)

pub length_settled : (es : List Change) → AreOnce es → length (filter (λ e. not (is_zero e.by)) es) ≡ length (settled es)
length_settled es once =
    let same = same_length (codes_in (filter (λ e. not (is_zero e.by)) es)) (codes_in (settled es))
    (λ c. times_kept es c once ∙ (ap (λ z. cond (is_zero z) 0 1) (sym (settled_net es c)) ∙ sym (times_codes (settled es) None c (settled_rising es)))) in
    let a = length-codes_in (filter (λ e. not (is_zero e.by)) es) in
    let b = length-codes_in (settled es) in
    omega (arith, same, a, b)

-- the sum of a serial's nets
abbrev share : Bool → ℤ → ℤ
share b by = cond b by (pos 0)

sum_with : (serial : ℕ) (es : List Change) (code : CodeId) (by : ℤ) → net_sum serial (with_net code by es) ≡ share (eqb code.serial serial) by +ℤ net_sum serial es
sum_with serial es code by = by_case (is_zero by) refl
  where
    none : (b : Bool) (z s : ℤ) → z ≡ pos 0 → s ≡ share b z +ℤ s
    none true z s e = omega (arith, ints)
    none false z s e = omega (arith, ints)

    by_case : (b : Bool) → is_zero by ≡ b → net_sum serial (cond b es (net_of code by ∷ es)) ≡ share (eqb code.serial serial) by +ℤ net_sum serial es
    by_case true z = none (eqb code.serial serial) by (net_sum serial es) (zero_is by z)
    by_case false z = refl

sum_step :
    (serial : ℕ) (e : Change) (es : List Change) (code : CodeId) (by : ℤ) (b : Bool)
    → net_sum serial (add es code by) ≡ net_sum serial es +ℤ share (eqb code.serial serial) by
    → net_sum serial (cond b (e ∷ add es code by) (cond (same_code e.code code) (with_net code (e.by +ℤ by) es) (net_of code by ∷ e ∷ es))) ≡ net_sum serial (e ∷ es) +ℤ share (eqb code.serial serial) by
sum_step serial e es code by true rest = omega (arith, ints, rest)
sum_step serial e es code by false rest =
    elim (same_code e.code code) as (λ s. same_code e.code code ≡ s → net_sum serial (cond s (with_net code (e.by +ℤ by) es) (net_of code by ∷ e ∷ es)) ≡ net_sum serial (e ∷ es) +ℤ share (eqb code.serial serial) by) [
      | true ↦ λ s. sum_with serial es code (e.by +ℤ by) ∙ rw (same_code-equal e.code code s) (both (eqb code.serial serial) e.by (net_sum serial es))
      | false ↦ λ s. swap (share (eqb code.serial serial) by) (share (eqb e.code.serial serial) e.by) (net_sum serial es)
    ] refl
  where
    both : (b : Bool) (x s : ℤ) → share b (x +ℤ by) +ℤ s ≡ share b x +ℤ s +ℤ share b by
    both true x s = omega (arith, ints)
    both false x s = omega (arith, ints)

    swap : (x y s : ℤ) → x +ℤ (y +ℤ s) ≡ y +ℤ s +ℤ x
    swap x y s = omega (arith, ints)

sum_add : (serial : ℕ) (es : List Change) (code : CodeId) (by : ℤ) → net_sum serial (add es code by) ≡ net_sum serial es +ℤ share (eqb code.serial serial) by
sum_add serial [] code by = let x : ℤ = share (eqb code.serial serial) by in swap x
  where
    swap : (x : ℤ) → x +ℤ pos 0 ≡ pos 0 +ℤ x
    swap x = omega (arith, ints)
sum_add serial (e ∷ es) code by = sum_step serial e es code by (code_lt e.code code) (sum_add serial es code by)

sum_moved : (serial : ℕ) (es : List Change) (code : CodeId) (by : ℤ) → net_sum serial (moved es code by) ≡ net_sum serial es +ℤ share (eqb code.serial serial) by
sum_moved serial es code by =
    elim (is_zero by) as (λ b. is_zero by ≡ b → net_sum serial (cond b es (add es code by)) ≡ net_sum serial es +ℤ share (eqb code.serial serial) by)
    [ true ↦ λ z. none (eqb code.serial serial) by (net_sum serial es) (zero_is by z) | false ↦ λ z. sum_add serial es code by ] refl
  where
    none : (b : Bool) (z s : ℤ) → z ≡ pos 0 → s ≡ s +ℤ share b z
    none true z s e = omega (arith, ints)
    none false z s e = omega (arith, ints)

-- the settled nets have the sum of the nets that they were made of
pub sum_settled : (serial : ℕ) (es : List Change) → net_sum serial (settled es) ≡ net_sum serial es
sum_settled serial [] = refl
sum_settled serial (e ∷ es) =
    let rest = sum_settled serial es in
    let moves = sum_moved serial (settled es) e.code e.by in
    omega (arith, ints, rest, moves)

-- each of them is small
pub small_once : (es : List Change) → AreOnce es → ((c : CodeId) → IsWithin (net_in (settled es) c) 256) → AreSmall es
small_once es once w = small es once (λ c. subst (λ z. IsWithin z 256) (settled_net es c) (w c))
  where
    small : (es : List Change) → AreOnce es → ((c : CodeId) → IsWithin (total es c) 256) → AreSmall es
    small [] once w = tt
    small (e ∷ es) once w = (subst (λ z. IsWithin z 256) (total_at (e ∷ es) 0 e (omega arith) (once e.code)) (w e.code), small es (λ c. (let all = times-cons c e.code (codes_in es) in let few = once c in omega arith)) (λ c. rest c (same_code e.code c) refl (w c)))
      where
        rest : (c : CodeId) (b : Bool) → same_code e.code c ≡ b → IsWithin (total es c +ℤ cond b e.by (pos 0)) 256 → IsWithin (total es c) 256
        rest c false h k = let low = k.low in let high = k.high in record { low = omega (arith, ints); high = omega (arith, ints) }
        rest c true h k =
            let all = times-cons c e.code (codes_in es) in
            let few = once c in
            let gone : times c (codes_in es) ≡ 0 = absent (same_code e.code c) h (omega (arith, all, few)) in
            let none = no_total es c gone in
            record { low = omega (arith, ints, none); high = omega (arith, ints, none) }
          where
            absent : (s : Bool) → s ≡ true → cond s 1 0 + times c (codes_in es) ≤ 1 → times c (codes_in es) ≡ 0
            absent true p k = omega arith
            absent false p k = cc

pub small_drop : (n : ℕ) (es : List Change) → AreSmall es → AreSmall (drop n es)
small_drop zero es h = h
small_drop (suc n) [] h = tt
small_drop (suc n) (e ∷ es) h = small_drop n es h.1

pub more_left : (n : ℕ) → eqb (suc n) 0 ≡ false
more_left n = grind (arith, nat_tests)

-- what one net settles to, and what zeros do
pub settled_none : (es : List Change) (b : Bool) → AreOnce es → b ≡ eqb (length (filter (λ e. not (is_zero e.by)) es)) 0 → b ≡ true → [] ≡ settled es
settled_none es b once test h = none (settled es) (b) (test ∙ ap (λ n. eqb n 0) (length_settled es once)) h
  where
    none : (xs : List Change) (b : Bool) → b ≡ eqb (length xs) 0 → b ≡ true → [] ≡ xs
    none [] b k h = refl
    none (x ∷ xs) b k h = absurd (two (sym h ∙ (k ∙ more_left (length xs))))
      where
        two : true ≡ false → ⊥
        two e = cc

pub settled_one : (es : List Change) (b : Bool) → length es ≤ 1 → b ≡ eqb (length (filter (λ e. not (is_zero e.by)) es)) 0 → b ≡ false → es ≡ settled es
settled_one [] b few test h = refl
settled_one (e ∷ es) b few test h = by_case es (omega arith) (sym test ∙ h)
  where
    by_case : (es : List Change) → length es ≤ 0 → eqb (length (filter (λ e. not (is_zero e.by)) (e ∷ es))) 0 ≡ false → e ∷ es ≡ settled (e ∷ es)
    by_case [] few some = one (is_zero e.by) some
      where
        one : (z : Bool) → eqb (length (cond (not z) (e ∷ []) [])) 0 ≡ false → e ∷ [] ≡ cond z [] (net_of e.code e.by ∷ [])
        one true some = cc
        one false some = refl
    by_case (x ∷ es) few some = absurd (omega arith)
