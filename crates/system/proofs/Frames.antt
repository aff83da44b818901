-- Counts of frames, and the codes that an open publication has left.
use Rattle.std.proofs.Common.{◌≡◌, ◌≢◌, ℕ, zero, suc, ◌+◌, ◌<◌, ◌≤◌, Bool, true, false, cond, List, [], ◌∷◌, ◌++◌, length, take, Option, Some, None, sym, refl, ap, ◌∙◌, subst, arith}
use Rattle.std.specs.Prelude.{not, ◌||◌, ◌==◌, filter, fold, count_by, is_some, is_none, unwrap_or}
use Rattle.std.specs.List.{list_any}
use Rattle.std.proofs.lemmas.Bool.{false≢true, not-true, and_parts, and_from, eqb-true, eqb-false, eq-eqb}
use Rattle.std.proofs.lemmas.List.Folds.{list_any-append}
use Rattle.std.proofs.lemmas.List.Sums.{count_by-le-length, sum_by-cons}
use Rattle.frames.specs.declared.CodeId.{CodeId}
use Rattle.frames.specs.declared.Frame.{Frame}
use Rattle.frames.specs.Stack.{same_code, code_lt, is_code, is_of, act, code_or, codes_of}
use Rattle.frames.specs.Least.{lesser, least}
use Rattle.system.specs.Threads.{Thread, is_publishing, has_changed, is_left, next_change, is_settled, part}

pub same_is : (a b : CodeId) → same_code a b ≡ true → a ≡ b
same_is a b h = let x = and_parts (a.serial == b.serial) (a.slot == b.slot) h in let serial = eqb-true a.serial b.serial x.0 in let slot = eqb-true a.slot b.slot x.1 in λ i. record { slot = slot i; serial = serial i }

pub same_refl : (a : CodeId) → same_code a a ≡ true
same_refl a = and_from (a.serial == a.serial) (a.slot == a.slot) (eq-eqb a.serial a.serial refl) (eq-eqb a.slot a.slot refl)

-- Counts.
pub count_cons : {A : Type 0} (test : A → Bool) (x : A) (xs : List A) → count_by test (x ∷ xs) ≡ cond (test x) 1 0 + count_by test xs
count_cons test x xs = sum_by-cons (λ y. cond (test y) 1 0) x xs

pub act_push : (c : CodeId) (xs : List Frame) (f : Frame) → act c (xs ++ f ∷ []) ≡ act c xs + cond (is_of c f) 1 0
act_push c [] f = omega arith
act_push c (x ∷ xs) f = let r = act_push c xs f in let a = count_cons (is_of c) x (xs ++ f ∷ []) in let b = count_cons (is_of c) x xs in omega arith

pub act_take : (c : CodeId) (n : ℕ) (xs : List Frame) → act c (take n xs) ≤ act c xs
act_take c zero xs = omega arith
act_take c (suc n) [] = omega arith
act_take c (suc n) (x ∷ xs) = let r = act_take c n xs in let a = count_cons (is_of c) x (take n xs) in let b = count_cons (is_of c) x xs in omega arith

pub take_less : (n : ℕ) (xs : List Frame) → length (take n xs) ≤ length xs
take_less zero xs = omega arith
take_less (suc n) [] = omega arith
take_less (suc n) (x ∷ xs) = let r = take_less n xs in omega arith

pub act_length : (c : CodeId) (xs : List Frame) → act c xs ≤ length xs
act_length c xs = count_by-le-length (is_of c) xs

-- The least of the codes that pass also passes.
abbrev Passes : (CodeId → Bool) → Option CodeId → Type 0
Passes test None = Unit {0}
Passes test (Some c) = test c ≡ true

lesser_passes : (test : CodeId → Bool) (best : Option CodeId) (c : CodeId) → Passes test best → test c ≡ true → Passes test (lesser best c)
lesser_passes test None c h k = k
lesser_passes test (Some b) c h k = by (code_lt c b)
  where
    by : (lt : Bool) → Passes test (cond lt (Some c) (Some b))
    by true = k
    by false = h

least_passes : (test : CodeId → Bool) (xs : List CodeId) (best : Option CodeId) → Passes test best → Passes test (fold lesser best (filter test xs))
least_passes test [] best h = h
least_passes test (x ∷ xs) best h = by (test x) refl (least_passes test xs)
  where
    by : (b : Bool) → test x ≡ b → ((best : Option CodeId) → Passes test best → Passes test (fold lesser best (filter test xs))) → Passes test (fold lesser best (cond b (x ∷ filter test xs) (filter test xs)))
    by true e rest = rest (lesser best x) (lesser_passes test best x h e)
    by false e rest = rest best h

least_some : (xs : List CodeId) (best : CodeId) → fold lesser (Some best) xs ≡ None → ⊥
least_some [] best h = cc
least_some (x ∷ xs) best h = by (code_lt x best) h (least_some xs)
  where
    by : (lt : Bool) → fold lesser (cond lt (Some x) (Some best)) xs ≡ None → ((best : CodeId) → fold lesser (Some best) xs ≡ None → ⊥) → ⊥
    by true k rest = rest x k
    by false k rest = rest best k

least_none : (xs : List CodeId) → least xs ≡ None → xs ≡ []
least_none [] h = refl
least_none (x ∷ xs) h = absurd (least_some xs x h)

-- The code is in the list.
abbrev has : CodeId → List CodeId → Bool
has c xs = list_any (λ d. same_code d c) xs

filter_has : (test : CodeId → Bool) (c : CodeId) (xs : List CodeId) → has c xs ≡ true → test c ≡ true → has c (filter test xs) ≡ true
filter_has test c [] h k = h
filter_has test c (x ∷ xs) h k = by (same_code x c) refl (test x) refl h (λ g. filter_has test c xs g k)
  where
    by : (a : Bool) → same_code x c ≡ a → (b : Bool) → test x ≡ b → (a || has c xs) ≡ true → (has c xs ≡ true → has c (filter test xs) ≡ true) → has c (cond b (x ∷ filter test xs) (filter test xs)) ≡ true
    by true e true f g rest = rw e refl
    by true e false f g rest = absurd (false≢true (sym f ∙ (ap test (same_is x c e) ∙ k)))
    by false e true f g rest = rw e (rest g)
    by false e false f g rest = rest g

has_code : (c : CodeId) (xs : List Frame) → 0 < act c xs → has c (codes_of xs) ≡ true
has_code c [] h = absurd (omega arith)
has_code c (x ∷ xs) h = by x.code (subst (λ n. 0 < n) (count_cons (is_of c) x xs) h) (has_code c xs)
  where
    by : (o : Option CodeId) → 0 < cond (is_code c o) 1 0 + act c xs → (0 < act c xs → has c (codes_of xs) ≡ true) → has c (code_or o (codes_of xs)) ≡ true
    by None h rest = rest (omega arith)
    by (Some d) h rest = two (same_code d c) h
      where
        two : (b : Bool) → 0 < cond b 1 0 + act c xs → (b || has c (codes_of xs)) ≡ true
        two true h = refl
        two false h = rest (omega arith)

or_right : (x y : Bool) → y ≡ true → (x || y) ≡ true
or_right true y h = refl
or_right false y h = h

or_left : (x y : Bool) → x ≡ true → (x || y) ≡ true
or_left true y h = refl
or_left false y h = absurd (false≢true h)

-- The next change is of a code that is left, and without a next change no code is left.
pub next_left : (t : Thread) (c : CodeId) → next_change t ≡ Some c → is_left t c ≡ true
next_left t c h = subst (Passes (is_left t)) h (least_passes (is_left t) (codes_of t.stack ++ codes_of t.shown) None tt)

pub none_left : (t : Thread) (c : CodeId) → next_change t ≡ None → is_left t c ≡ false
none_left t c h = by (is_left t c) refl
  where
    nothing : filter (is_left t) (codes_of t.stack ++ codes_of t.shown) ≡ []
    nothing = least_none (filter (is_left t) (codes_of t.stack ++ codes_of t.shown)) h

    somewhere : (a b : ℕ) → act c t.stack ≡ a → act c t.shown ≡ b → a ≢ b → has c (codes_of t.stack ++ codes_of t.shown) ≡ true
    somewhere zero zero x y ne = absurd (ne refl)
    somewhere zero (suc b) x y ne = list_any-append (λ d. same_code d c) (codes_of t.stack) (codes_of t.shown) ∙ or_right (has c (codes_of t.stack)) (has c (codes_of t.shown)) (has_code c t.shown (omega arith))
    somewhere (suc a) b x y ne = list_any-append (λ d. same_code d c) (codes_of t.stack) (codes_of t.shown) ∙ or_left (has c (codes_of t.stack)) (has c (codes_of t.shown)) (has_code c t.stack (omega arith))

    by : (b : Bool) → is_left t c ≡ b → is_left t c ≡ false
    by false e = e
    by true e =
        let differ = eqb-false (act c t.stack) (act c t.shown) (not-true (act c t.stack == act c t.shown) (and_parts (not (has_changed t c)) (not (act c t.stack == act c t.shown)) e).1) in
        let in_all = filter_has (is_left t) c (codes_of t.stack ++ codes_of t.shown) (somewhere (act c t.stack) (act c t.shown) refl refl differ) e in
        absurd (false≢true (ap (has c) (sym nothing) ∙ in_all))

-- Without an open publication the published counts are those of the shown stack.
pub changed_quiet : (t : Thread) (c : CodeId) → is_publishing t ≡ false → has_changed t c ≡ false
changed_quiet t c h = by t.changed h
  where
    by : (o : Option (List CodeId)) → is_some o ≡ false → list_any (λ other. same_code other c) (unwrap_or o []) ≡ false
    by None h = refl
    by (Some cs) h = absurd (false≢true (sym h))

pub part_quiet : (c : CodeId) (t : Thread) → is_publishing t ≡ false → part c t ≡ act c t.shown
part_quiet c t h = let e = changed_quiet t c h in rw e refl

-- A settled thread has the same counts in the stack and in the shown stack.
pub settled_quiet : (t : Thread) → is_settled t ≡ true → is_publishing t ≡ false
settled_quiet t h = not-true (is_publishing t) (and_parts (not (is_publishing t)) (is_none (next_change t)) h).0

pub settled_none : (t : Thread) → is_settled t ≡ true → next_change t ≡ None
settled_none t h = by (next_change t) (and_parts (not (is_publishing t)) (is_none (next_change t)) h).1
  where
    by : (o : Option CodeId) → is_none o ≡ true → o ≡ None
    by None e = refl
    by (Some c) e = absurd (false≢true e)

pub settled_is : (t : Thread) (c : CodeId) → is_settled t ≡ true → act c t.stack ≡ act c t.shown
settled_is t c h = by (act c t.stack == act c t.shown) refl
  where
    by : (b : Bool) → (act c t.stack == act c t.shown) ≡ b → act c t.stack ≡ act c t.shown
    by true e = eqb-true (act c t.stack) (act c t.shown) e
    by false e = let a = changed_quiet t c (settled_quiet t h) in let left : is_left t c ≡ true = (rw (a, e) refl) in absurd (false≢true (sym (none_left t c (settled_none t h)) ∙ left))

pub part_settled : (c : CodeId) (t : Thread) → is_settled t ≡ true → part c t ≡ act c t.stack
part_settled c t h = part_quiet c t (settled_quiet t h) ∙ sym (settled_is t c h)
