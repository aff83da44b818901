-- The live threads of a world in the order of their names.
use Rattle.std.proofs.Common.{◌≡◌, ◌≢◌, ⊎_elim, ℕ, zero, suc, ◌+◌, ◌<◌, ◌≤◌, Bool, true, false, cond, List, [], ◌∷◌, ◌++◌, Option, Some, None, sym, refl, ap, ◌∙◌, subst, arith}
use Rattle.std.specs.Prelude.{not, ◌==◌, filter, option_map, slice_get, slice_set, replicate}
use Rattle.std.proofs.lemmas.Bool.{false≢true, eqb-true, eq-eqb, ne_eqb, or_cases, or_left, or_right, or_from}
use Rattle.std.proofs.lemmas.List.Folds.{list_any-append}
use mathlib.Core.Logic.{dite}
use native.Mathlib.Decide.{ℕ_discrete}
use Rattle.system.specs.Threads.{Thread}
use Rattle.desk.specs.declared.entries.Live.{Live}
use Rattle.desk.specs.Machine.{is_live, is_taken, without}
use Rattle.tie.specs.DeskOf.{seat_of, live_by, live_to}

-- 1. The place of a name

-- Nobody here has the name.
abbrev pub Lacks : ℕ → Option Thread → Type 0
Lacks name o = (t : Thread) → o ≡ Some t → t.name ≢ name

abbrev pub NobodyHas : ℕ → List (Option Thread) → Type 0
NobodyHas name places = (p : ℕ) (t : Thread) → slice_get places p ≡ Some (Some t) → t.name ≢ name

seat_cons_not : (name : ℕ) (t : Thread) (places : List (Option Thread)) → t.name ≢ name → seat_of name (Some t ∷ places) ≡ option_map (λ place. 1 + place) (seat_of name places)
seat_cons_not name t places ne = ap (λ b. cond b (Some 0) (option_map (λ place. 1 + place) (seat_of name places))) (ne_eqb t.name name ne)

lacks_cons : (name : ℕ) (o : Option Thread) (places : List (Option Thread)) → Lacks name o → seat_of name (o ∷ places) ≡ option_map (λ place. 1 + place) (seat_of name places)
lacks_cons name None places h = refl
lacks_cons name (Some t) places h = seat_cons_not name t places (h t refl)

-- One head before two lists in which the name stands at one place.
cons_same : (name : ℕ) (o : Option Thread) (ps qs : List (Option Thread)) → seat_of name ps ≡ seat_of name qs → seat_of name (o ∷ ps) ≡ seat_of name (o ∷ qs)
cons_same name None ps qs h = ap (option_map (λ place. 1 + place)) h
cons_same name (Some t) ps qs h = ap (λ r. cond (t.name == name) (Some 0) (option_map (λ place. 1 + place) r)) h

-- The thread at a place becomes another of the same name.
seat_renewed : (name : ℕ) (places : List (Option Thread)) (p : ℕ) (t u : Thread) → slice_get places p ≡ Some (Some t) → u.name ≡ t.name → seat_of name (slice_set places p (Some u)) ≡ seat_of name places
seat_renewed name [] p t u h same = refl
seat_renewed name (o ∷ places) zero t u h same =
    let there : Some t ≡ o = cc in
    subst (λ x. seat_of name (Some u ∷ places) ≡ seat_of name (x ∷ places)) there (ap (λ n. cond (n == name) (Some 0) (option_map (λ place. 1 + place) (seat_of name places))) same)
seat_renewed name (o ∷ places) (suc p) t u h same = cons_same name o (slice_set places p (Some u)) places (seat_renewed name places p t u h same)

-- One of another name comes or goes.
seat_elsewhere : (name : ℕ) (places : List (Option Thread)) (p : ℕ) (old new : Option Thread) → slice_get places p ≡ Some old → Lacks name old → Lacks name new → seat_of name (slice_set places p new) ≡ seat_of name places
seat_elsewhere name [] p old new h a b = refl
seat_elsewhere name (o ∷ places) zero old new h a b =
    let there : old ≡ o = cc in
    lacks_cons name new places b ∙ sym (subst (λ x. seat_of name (x ∷ places) ≡ option_map (λ place. 1 + place) (seat_of name places)) there (lacks_cons name old places a))
seat_elsewhere name (o ∷ places) (suc p) old new h a b = cons_same name o (slice_set places p new) places (seat_elsewhere name places p old new h a b)

-- Where nobody has it.
pub seat_nobody : (name : ℕ) (places : List (Option Thread)) → NobodyHas name places → seat_of name places ≡ None
seat_nobody name [] h = refl
seat_nobody name (o ∷ places) h = lacks_cons name o places (λ t e. h 0 t (ap Some e)) ∙ ap (option_map (λ place. 1 + place)) (seat_nobody name places (λ p t e. h (suc p) t e))

-- Where it is found, and where a thread has it.
shifted : (o : Option ℕ) (q : ℕ) → option_map (λ place. 1 + place) o ≡ Some q → (r : ℕ) × (o ≡ Some r) × (q ≡ suc r)
shifted None q h = cc
shifted (Some r) q h = let e : 1 + r ≡ q = cc in (r, refl, omega arith)

pub seat_there : (name : ℕ) (places : List (Option Thread)) (q : ℕ) → seat_of name places ≡ Some q → (t : Thread) × (slice_get places q ≡ Some (Some t)) × (t.name ≡ name)
seat_there name [] q h = cc
seat_there name (None ∷ places) q h = let s = shifted (seat_of name places) q h in let r = seat_there name places s.0 s.1 in (r.0, subst (λ n. slice_get (None ∷ places) n ≡ Some (Some r.0)) (sym s.2) r.1, r.2)
seat_there name (Some t ∷ places) q h = by (t.name == name) refl h (seat_there name places)
  where
    by : (b : Bool) → (t.name == name) ≡ b → cond b (Some 0) (option_map (λ place. 1 + place) (seat_of name places)) ≡ Some q
        → ((r : ℕ) → seat_of name places ≡ Some r → (u : Thread) × (slice_get places r ≡ Some (Some u)) × (u.name ≡ name)) → (u : Thread) × (slice_get (Some t ∷ places) q ≡ Some (Some u)) × (u.name ≡ name)
    by true e k rest = let z : 0 ≡ q = cc in (t, subst (λ n. slice_get (Some t ∷ places) n ≡ Some (Some t)) z refl, eqb-true t.name name e)
    by false e k rest = let s = shifted (seat_of name places) q k in let r = rest s.0 s.1 in (r.0, subst (λ n. slice_get (Some t ∷ places) n ≡ Some (Some r.0)) (sym s.2) r.1, r.2)

pub seat_has : (name : ℕ) (places : List (Option Thread)) (p : ℕ) (t : Thread) → slice_get places p ≡ Some (Some t) → t.name ≡ name → (q : ℕ) × (seat_of name places ≡ Some q)
seat_has name [] p t h same = cc
seat_has name (o ∷ places) zero t h same =
    let there : Some t ≡ o = cc in (0, subst (λ x. seat_of name (x ∷ places) ≡ Some 0) there (ap (λ b. cond b (Some 0) (option_map (λ place. 1 + place) (seat_of name places))) (eq-eqb t.name name same)))
seat_has name (None ∷ places) (suc p) t h same = let r = seat_has name places p t h same in (1 + r.0, ap (option_map (λ place. 1 + place)) r.1)
seat_has name (Some u ∷ places) (suc p) t h same = by (u.name == name) (seat_has name places p t h same)
  where
    by : (b : Bool) → ((q : ℕ) × (seat_of name places ≡ Some q)) → (q : ℕ) × (cond b (Some 0) (option_map (λ place. 1 + place) (seat_of name places)) ≡ Some q)
    by true r = (0, refl)
    by false r = (1 + r.0, ap (option_map (λ place. 1 + place)) r.1)

-- A thread of a name that nobody had.
seat_new : (name : ℕ) (places : List (Option Thread)) (p : ℕ) (u : Thread) → slice_get places p ≡ Some None → u.name ≡ name → NobodyHas name places → seat_of name (slice_set places p (Some u)) ≡ Some p
seat_new name [] p u h same none = cc
seat_new name (o ∷ places) zero u h same none = ap (λ b. cond b (Some 0) (option_map (λ place. 1 + place) (seat_of name places))) (eq-eqb u.name name same)
seat_new name (o ∷ places) (suc p) u h same none =
    lacks_cons name o (slice_set places p (Some u)) (λ t e. none 0 t (ap Some e))
    ∙ (ap (option_map (λ place. 1 + place)) (seat_new name places p u h same (λ q t e. none (suc q) t e)) ∙ (let n : 1 + p ≡ suc p = omega arith in ap Some n))

-- 2. The live ones

live_ext : (n : ℕ) (ps qs : List (Option Thread)) → ((name : ℕ) → name ≤ n → seat_of name ps ≡ seat_of name qs) → live_to n ps ≡ live_to n qs
live_ext zero ps qs h = refl
live_ext (suc n) ps qs h = λ i. live_ext n ps qs (λ name low. h name (omega arith)) i ++ live_by (suc n) (h (suc n) (omega arith) i)

-- The thread at a place becomes another of the same name.
pub live_renewed : (n : ℕ) (places : List (Option Thread)) (p : ℕ) (t u : Thread) → slice_get places p ≡ Some (Some t) → u.name ≡ t.name → live_to n (slice_set places p (Some u)) ≡ live_to n places
live_renewed n places p t u h same = live_ext n (slice_set places p (Some u)) places (λ name low. seat_renewed name places p t u h same)

live_next : (n m : ℕ) (places : List (Option Thread)) → m ≡ suc n → live_to m places ≡ live_to n places ++ live_by m (seat_of m places)
live_next n m places e = subst (λ k. live_to k places ≡ live_to n places ++ live_by k (seat_of k places)) (sym e) refl

-- A thread of the next name starts.
pub live_started : (n m : ℕ) (places : List (Option Thread)) (p : ℕ) (u : Thread) → m ≡ suc n → u.name ≡ m → slice_get places p ≡ Some None → ((q : ℕ) (t : Thread) → slice_get places q ≡ Some (Some t) → t.name ≤ n)
    → live_to n places ++ record { name = m; place = p } ∷ [] ≡ live_to m (slice_set places p (Some u))
live_started n m places p u next named vacant low = sym (
    live_next n m (slice_set places p (Some u)) next
    ∙ (λ i. live_ext n (slice_set places p (Some u)) places (λ name small. seat_elsewhere name places p None (Some u) vacant (λ t e. cc) (λ t e x. (let same : u ≡ t = cc in let y : u.name ≡ name = ap (λ (z : Thread). z.name) same ∙ x in absurd (omega arith)))) i
    ++ live_by m (seat_new m places p u vacant named (λ q t x e. (let a = low q t x in absurd (omega arith))) i)))

filter_append : {X : Type 0} (test : X → Bool) (xs ys : List X) → filter test (xs ++ ys) ≡ filter test xs ++ filter test ys
filter_append test [] ys = refl
filter_append test (x ∷ xs) ys = by (test x) (filter_append test xs ys)
  where
    by : (b : Bool) → filter test (xs ++ ys) ≡ filter test xs ++ filter test ys → cond b (x ∷ filter test (xs ++ ys)) (filter test (xs ++ ys)) ≡ cond b (x ∷ filter test xs) (filter test xs) ++ filter test ys
    by true h = ap (λ zs. x ∷ zs) h
    by false h = h

-- A thread goes.
without_by : (name m : ℕ) (o r : Option ℕ) → (m ≡ name → r ≡ None) → (m ≢ name → r ≡ o) → without name (live_by m o) ≡ live_by m r
without_by name m o r here other = dite (ℕ_discrete m name) (λ e. gone o e ∙ ap (live_by m) (sym (here e))) (λ ne. stays o ne ∙ ap (live_by m) (sym (other ne)))
  where
    gone : (o : Option ℕ) → m ≡ name → without name (live_by m o) ≡ []
    gone None e = refl
    gone (Some p) e = let l : Live = record { name = m; place = p } in ap (λ b. cond (not b) (l ∷ []) []) (eq-eqb m name e)

    stays : (o : Option ℕ) → m ≢ name → without name (live_by m o) ≡ live_by m o
    stays None ne = refl
    stays (Some p) ne = let l : Live = record { name = m; place = p } in ap (λ b. cond (not b) (l ∷ []) []) (ne_eqb m name ne)

live_without : (name n : ℕ) (ps qs : List (Option Thread)) → seat_of name qs ≡ None → ((m : ℕ) → m ≢ name → seat_of m qs ≡ seat_of m ps) → without name (live_to n ps) ≡ live_to n qs
live_without name zero ps qs none others = refl
live_without name (suc n) ps qs none others =
    filter_append (λ (l : Live). not (l.name == name)) (live_to n ps) (live_by (suc n) (seat_of (suc n) ps))
    ∙ (λ i. live_without name n ps qs none others i ++ without_by name (suc n) (seat_of (suc n) ps) (seat_of (suc n) qs) (λ e. subst (λ k. seat_of k qs ≡ None) (sym e) none) (λ ne. others (suc n) ne) i)

pub live_left : (n : ℕ) (places : List (Option Thread)) (p : ℕ) (t : Thread) → slice_get places p ≡ Some (Some t) → NobodyHas t.name (slice_set places p None) → without t.name (live_to n places) ≡ live_to n (slice_set places p None)
live_left n places p t there none = live_without t.name n places (slice_set places p None) (seat_nobody t.name (slice_set places p None) none)
    (λ m ne. seat_elsewhere m places p (Some t) None there (λ u e x. (let same : t ≡ u = cc in ne (sym x ∙ ap (λ (z : Thread). z.name) (sym same)))) (λ u e. cc))

-- Who is live.
by_name : (name m : ℕ) (o : Option ℕ) → is_live name (live_by m o) ≡ true → (q : ℕ) × (o ≡ Some q) × (m ≡ name)
by_name name m None h = absurd (false≢true h)
by_name name m (Some q) h = (q, refl, ⊎_elim (λ e. eqb-true m name e) (λ e. absurd (false≢true e)) (or_cases (m == name) false h))

pub live_seat : (name n : ℕ) (places : List (Option Thread)) → is_live name (live_to n places) ≡ true → (q : ℕ) × (seat_of name places ≡ Some q)
live_seat name zero places h = absurd (false≢true h)
live_seat name (suc n) places h = ⊎_elim
    (λ a. live_seat name n places a)
    (λ b. (let r = by_name name (suc n) (seat_of (suc n) places) b in (r.0, subst (λ k. seat_of k places ≡ Some r.0) r.2 r.1)))
    (or_cases (is_live name (live_to n places)) (is_live name (live_by (suc n) (seat_of (suc n) places))) (sym (list_any-append (λ (l : Live). l.name == name) (live_to n places) (live_by (suc n) (seat_of (suc n) places))) ∙ h))

pub seat_live : (name n q : ℕ) (places : List (Option Thread)) → 0 < name → name ≤ n → seat_of name places ≡ Some q → is_live name (live_to n places) ≡ true
seat_live name zero q places from low h = absurd (omega arith)
seat_live name (suc n) q places from low h =
    list_any-append (λ (l : Live). l.name == name) (live_to n places) (live_by (suc n) (seat_of (suc n) places))
    ∙ dite (ℕ_discrete (suc n) name)
    (λ e. or_right (is_live name (live_to n places)) _ (here (seat_of (suc n) places) e (subst (λ k. seat_of k places ≡ Some q) (sym e) h)))
    (λ ne. or_left _ _ (seat_live name n q places from (omega arith) h))
  where
    here : (o : Option ℕ) → suc n ≡ name → o ≡ Some q → is_live name (live_by (suc n) o) ≡ true
    here None e k = cc
    here (Some r) e k = or_left (suc n == name) false (eq-eqb (suc n) name e)

-- A vacant place is no live thread's.
taken_by : (p m : ℕ) (o : Option ℕ) → o ≢ Some p → is_taken p (live_by m o) ≡ false
taken_by p m None ne = refl
taken_by p m (Some q) ne = or_from (q == p) false (ne_eqb q p (λ e. ne (ap Some e))) refl

pub vacant_free : (n p : ℕ) (places : List (Option Thread)) → slice_get places p ≡ Some None → is_taken p (live_to n places) ≡ false
vacant_free zero p places h = refl
vacant_free (suc n) p places h =
    list_any-append (λ (l : Live). l.place == p) (live_to n places) (live_by (suc n) (seat_of (suc n) places))
    ∙ or_from _ _ (vacant_free n p places h) (taken_by p (suc n) (seat_of (suc n) places) (λ e. (let r = seat_there (suc n) places p e in let both : Some (Some r.0) ≡ Some None = sym r.1 ∙ h in cc)))

-- At the start nobody lives.
pub live_start : (n k : ℕ) → live_to n (replicate k None) ≡ []
live_start zero k = refl
live_start (suc n) k = (λ i. live_start n k i ++ live_by (suc n) (seat_nobody (suc n) (replicate k None) (none k) i))
  where
    none : (k p : ℕ) (t : Thread) → slice_get (replicate {A = Option Thread} k None) p ≡ Some (Some t) → t.name ≢ suc n
    none zero p t e = cc
    none (suc k) zero t e = cc
    none (suc k) (suc p) t e = none k p t e
