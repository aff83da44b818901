-- In a legal history each operation and name has at most one Finish.
use Rattle.std.proofs.Common.{◌≡◌, ◌≢◌, ℕ, ◌+◌, ◌<◌, ◌≤◌, List, [], ◌∷◌, ◌++◌, Bool, true, false, not, Some, refl, sym, ap, ◌∙◌, subst, arith}
use Rattle.std.specs.Prelude.{◌&&◌, ◌||◌, ◌==◌, filter, cond}
use Rattle.std.specs.List.{list_any}
use Rattle.std.proofs.lemmas.Bool.{eq-eqb}
use Rattle.std.proofs.lemmas.Bool.Decides.{nat_tests}
use Rattle.operations.specs.Names.{among}
use Rattle.desk.specs.declared.entries.Entry.{Entry}
use Rattle.desk.specs.declared.entries.Entry.TheVariants.{Start, Exit, Ask, Open, Finish, Operate, Close, Install, Invalidate, Retire, Free}
use Rattle.desk.specs.declared.entries.Live.{Live}
use Rattle.desk.specs.Machine.{State, Asked, Current, step, lawful, start, legal_from, is_legal, others, is_first, is_open, is_due, passes, open_of, at_number, without_number, rest_of, open_next, opened_of, finished, as_operated, live_of, targets_of}
use Rattle.desk.specs.Once.{is_finish, finishes, AtMostOnce}

and_true : (a b : Bool) → (a && b) ≡ true → (a ≡ true) × (b ≡ true)
and_true true b e = (refl, e)
and_true false b e = cc

or_false : (a b : Bool) → (a || b) ≡ false → (a ≡ false) × (b ≡ false)
or_false true b e = cc
or_false false b e = (refl, e)

same : (a b : ℕ) → (a == b) ≡ true → a ≡ b
same a b e = grind (arith, nat_tests)

apart : (a b : ℕ) → a ≢ b → (a == b) ≡ false
apart a b e = grind (arith, nat_tests)

not_true : (b : Bool) → (b ≡ true → false ≡ true) → b ≡ false
not_true true f = sym (f refl)
not_true false f = refl

both_true : (a b : Bool) → a ≡ true → b ≡ true → (a && b) ≡ true
both_true a b p q = ap (λ x. x && b) p ∙ q

and_keeps : (b x y : Bool) → (b && x) ≡ false → (x ≡ false → y ≡ false) → (b && y) ≡ false
and_keeps true x y e f = f e
and_keeps false x y e f = refl

and_right : (b y : Bool) → y ≡ false → (b && y) ≡ false
and_right true y e = e
and_right false y e = refl

or_left : (a b : Bool) → a ≡ true → (a || b) ≡ true
or_left a b e = ap (λ x. x || b) e

or_right : (a b : Bool) → b ≡ true → (a || b) ≡ true
or_right true b e = refl
or_right false b e = e

neither : (a b : Bool) → a ≡ false → b ≡ false → (a || b) ≡ false
neither a b p q = ap (λ x. x || b) p ∙ q

any_push : {A : Type 0} (p : A → Bool) (xs : List A) (x : A) → list_any p xs ≡ false → p x ≡ false → list_any p (xs ++ x ∷ []) ≡ false
any_push p [] x e f = neither _ _ f refl
any_push p (y ∷ xs) x e f = let q = or_false _ _ e in neither _ _ q.0 (any_push p xs x q.1 f)

-- a fact of each member and of a new one
any_pushed : {A : Type 0} (p : A → Bool) (P : Type 0) (xs : List A) (x : A) → (list_any p xs ≡ true → P) → (p x ≡ true → P) → list_any p (xs ++ x ∷ []) ≡ true → P
any_pushed p P [] x f g e = by (p x) refl
  where
    by : (b : Bool) → p x ≡ b → P
    by true h = g h
    by false h = absurd (let k = sym (neither (p x) false h refl) ∙ e in cc)
any_pushed p P (y ∷ xs) x f g e = by (p y) refl (any_pushed p P xs x (λ w. f (or_right (p y) _ w)) g)
  where
    by : (b : Bool) → p y ≡ b → (list_any p (xs ++ x ∷ []) ≡ true → P) → P
    by true h rest = f (or_left _ (list_any p xs) h)
    by false h rest = rest (sym (ap (λ b. b || list_any p (xs ++ x ∷ [])) h) ∙ e)

abbrev waits : ℕ → List Asked → Bool
waits n ws = list_any (λ a. a.number == n) ws

abbrev owes_one : ℕ → ℕ → Current → Bool
owes_one n name c = (c.number == n) && among name c.due

abbrev owes : ℕ → ℕ → List Current → Bool
owes n name cs = list_any (owes_one n name) cs

-- no Finish of this operation and name can follow
record Spent (n name next : ℕ) (ws : List Asked) (cs : List Current) : Type 0 where
  below : n < next
  waits_not : waits n ws ≡ false
  owes_not : owes n name cs ≡ false

abbrev Distinct : List Asked → Type 0
Distinct [] = Unit {0}
Distinct (a ∷ ws) = (waits a.number ws ≡ false) × Distinct ws

abbrev Apart : List Current → Type 0
Apart [] = Unit {0}
Apart (c ∷ cs) = (is_open c.number cs ≡ false) × Apart cs

-- the numbers that wait or are open are distinct and below the next
record Sound (next : ℕ) (ws : List Asked) (cs : List Current) : Type 0 where
  below : (n : ℕ) → waits n ws ≡ true → n < next
  open_below : (n : ℕ) → is_open n cs ≡ true → n < next
  open_not : (n : ℕ) → is_open n cs ≡ true → waits n ws ≡ false
  once : Distinct ws
  alone : Apart cs

-- a part of a list has no other members
among_filter : (p : ℕ → Bool) (x : ℕ) (ts : List ℕ) → among x ts ≡ false → among x (filter p ts) ≡ false
among_filter p x [] e = refl
among_filter p x (t ∷ ts) e =
    let q = or_false (t == x) (among x ts) e in
    let r = among_filter p x ts q.1 in
    elim (p t) as (λ b. among x (cond b (t ∷ filter p ts) (filter p ts)) ≡ false) [ true ↦ (ap (λ b. b || among x (filter p ts)) q.0 ∙ r) | false ↦ r ]

-- the removed name isn't in the list
among_others : (x : ℕ) (ts : List ℕ) → among x (others x ts) ≡ false
among_others x [] = refl
among_others x (t ∷ ts) =
    let r = among_others x ts in
    (elim (t == x) as (λ b. (t == x) ≡ b → among x (cond (not b) (t ∷ others x ts) (others x ts)) ≡ false) [ true ↦ λ e. r | false ↦ λ e. (ap (λ b. b || among x (others x ts)) e ∙ r) ]) refl

distinct-push : (ws : List Asked) (a : Asked) → Distinct ws → waits a.number ws ≡ false → Distinct (ws ++ a ∷ [])
distinct-push [] a d e = (refl, tt)
distinct-push (x ∷ ws) a d e =
    let q = or_false _ _ e in
    (any_push (λ (y : Asked). y.number == x.number) ws a d.0 (not_true _ (λ h. sym q.0 ∙ eq-eqb x.number a.number (sym (same _ _ h)))), distinct-push ws a d.1 q.1)

apart-push : (cs : List Current) (c : Current) → Apart cs → is_open c.number cs ≡ false → Apart (cs ++ c ∷ [])
apart-push [] c d e = (refl, tt)
apart-push (x ∷ cs) c d e =
    let q = or_false _ _ e in
    (any_push (λ (y : Current). y.number == x.number) cs c d.0 (not_true _ (λ h. sym q.0 ∙ eq-eqb x.number c.number (sym (same _ _ h)))), apart-push cs c d.1 q.1)

sound_ask : (next : ℕ) (ws : List Asked) (cs : List Current) (a : Asked) → Sound next ws cs → a.number ≡ next → Sound (next + 1) (ws ++ a ∷ []) cs
sound_ask next ws cs a s is =
    let fresh : waits a.number ws ≡ false = not_true _ (λ h. absurd (let k = s.below a.number h in omega arith)) in
    record {
      below = λ n w. any_pushed (λ (x : Asked). x.number == n) (n < next + 1) ws a (λ h. (let k = s.below n h in omega arith)) (λ h. (let k = same a.number n h in omega arith)) w;
      open_below = λ n c. (let k = s.open_below n c in omega arith);
      open_not = λ n c. any_push (λ (x : Asked). x.number == n) ws a (s.open_not n c) (apart a.number n (λ e. (let k = s.open_below n c in omega arith)));
      once = distinct-push ws a s.once fresh;
      alone = s.alone;
    }

sound_open : (next m before : ℕ) (ws : List Asked) (cs : List Current) (ls : List Live) → Sound next ws cs → is_first m ws ≡ true → Sound next (rest_of ws) (open_next before ls ws cs)
sound_open next m before [] cs ls s e = absurd (let k : false ≡ true = e in cc)
sound_open next m before (a ∷ ws) cs ls s e =
    let first : waits a.number (a ∷ ws) ≡ true = or_left _ (waits a.number ws) (eq-eqb a.number a.number refl) in
    let fresh : is_open a.number cs ≡ false = not_true _ (λ h. (let k = s.open_not a.number h in sym k ∙ first)) in
    record {
      below = λ n w. s.below n (or_right (a.number == n) _ w);
      open_below = λ n c. any_pushed (λ (x : Current). x.number == n) (n < next) cs (opened_of before ls a) (s.open_below n) (λ h. s.below n (or_left _ (waits n ws) h)) c;
      open_not = λ n c. any_pushed (λ (x : Current). x.number == n) (waits n ws ≡ false) cs (opened_of before ls a) (λ h. (or_false _ _ (s.open_not n h)).1) (λ h. ap (λ k. waits k ws) (sym (same _ _ h)) ∙ s.once.0) c;
      once = s.once.1;
      alone = apart-push cs (opened_of before ls a) s.alone fresh;
    }

-- a change of one open request that keeps its number
open_same : (f : Current → Current) (n k : ℕ) (cs : List Current) → ((c : Current) → (f c).number ≡ c.number) → is_open k (at_number f n cs) ≡ is_open k cs
open_same f n k [] keep = refl
open_same f n k (c ∷ cs) keep = by (c.number == n) (open_same f n k cs keep)
  where
    by : (b : Bool) → is_open k (at_number f n cs) ≡ is_open k cs → is_open k (cond b (f c ∷ cs) (c ∷ at_number f n cs)) ≡ is_open k (c ∷ cs)
    by true rest = ap (λ m. (m == k) || is_open k cs) (keep c)
    by false rest = ap (λ b. (c.number == k) || b) rest

apart_at : (f : Current → Current) (n : ℕ) (cs : List Current) → ((c : Current) → (f c).number ≡ c.number) → Apart cs → Apart (at_number f n cs)
apart_at f n [] keep d = tt
apart_at f n (c ∷ cs) keep d = by (c.number == n) (apart_at f n cs keep d.1)
  where
    by : (b : Bool) → Apart (at_number f n cs) → Apart (cond b (f c ∷ cs) (c ∷ at_number f n cs))
    by true rest = (ap (λ m. is_open m cs) (keep c) ∙ d.0, d.1)
    by false rest = (open_same f n c.number cs keep ∙ d.0, rest)

sound_at : (f : Current → Current) (n next : ℕ) (ws : List Asked) (cs : List Current) → ((c : Current) → (f c).number ≡ c.number) → Sound next ws cs → Sound next ws (at_number f n cs)
sound_at f n next ws cs keep s = record {
  below = s.below;
  open_below = λ k c. s.open_below k (sym (open_same f n k cs keep) ∙ c);
  open_not = λ k c. s.open_not k (sym (open_same f n k cs keep) ∙ c);
  once = s.once;
  alone = apart_at f n cs keep s.alone;
}

-- an open request is removed
open_less : (n k : ℕ) (cs : List Current) → is_open k cs ≡ false → is_open k (without_number n cs) ≡ false
open_less n k [] e = refl
open_less n k (c ∷ cs) e = let q = or_false (c.number == k) (is_open k cs) e in by (c.number == n) q.0 q.1 (open_less n k cs q.1)
  where
    by : (b : Bool) → (c.number == k) ≡ false → is_open k cs ≡ false → is_open k (without_number n cs) ≡ false → is_open k (cond b cs (c ∷ without_number n cs)) ≡ false
    by true here there rest = there
    by false here there rest = neither _ _ here rest

open_was : (n k : ℕ) (cs : List Current) → is_open k (without_number n cs) ≡ true → is_open k cs ≡ true
open_was n k cs e = by (is_open k cs) refl
  where
    by : (b : Bool) → is_open k cs ≡ b → is_open k cs ≡ true
    by true h = h
    by false h = absurd (let r = open_less n k cs h in cc)

apart_less : (n : ℕ) (cs : List Current) → Apart cs → Apart (without_number n cs)
apart_less n [] d = tt
apart_less n (c ∷ cs) d = by (c.number == n) (apart_less n cs d.1)
  where
    by : (b : Bool) → Apart (without_number n cs) → Apart (cond b cs (c ∷ without_number n cs))
    by true rest = d.1
    by false rest = (open_less n c.number cs d.0, rest)

sound_close : (n next : ℕ) (ws : List Asked) (cs : List Current) → Sound next ws cs → Sound next ws (without_number n cs)
sound_close n next ws cs s = record {
  below = s.below;
  open_below = λ k c. s.open_below k (open_was n k cs c);
  open_not = λ k c. s.open_not k (open_was n k cs c);
  once = s.once;
  alone = apart_less n cs s.alone;
}

sound_step : (s : State) (e : Entry) → lawful s e ≡ true → Sound s.next_number s.waiting s.opened → let t = step s e in Sound t.next_number t.waiting t.opened
sound_step s (Start a b) l k = k
sound_step s (Exit a) l k = k
sound_step s (Ask m r) l k = sound_ask s.next_number s.waiting s.opened (record { number = m; request = r }) k (same m s.next_number l)
sound_step s (Open m) l k = sound_open s.next_number m s.next_name s.waiting s.opened s.live k (and_true _ _ l).1
sound_step s (Finish m who reply) l k = sound_at (finished who) m s.next_number s.waiting s.opened (λ c. refl) k
sound_step s (Operate m) l k = sound_at as_operated m s.next_number s.waiting s.opened (λ c. refl) k
sound_step s (Close m) l k = sound_close m s.next_number s.waiting s.opened k
sound_step s (Install a b) l k = k
sound_step s (Invalidate a) l k = k
sound_step s (Retire a) l k = k
sound_step s (Free a) l k = k

-- a change of an open request that owes no more after it
owes_at : (f : Current → Current) (m n name : ℕ) (cs : List Current) → ((c : Current) → owes_one n name c ≡ false → owes_one n name (f c) ≡ false) → owes n name cs ≡ false → owes n name (at_number f m cs) ≡ false
owes_at f m n name [] keep e = refl
owes_at f m n name (c ∷ cs) keep e = let q = or_false (owes_one n name c) (owes n name cs) e in by (c.number == m) q.0 q.1 (owes_at f m n name cs keep q.1)
  where
    by : (b : Bool) → owes_one n name c ≡ false → owes n name cs ≡ false → owes n name (at_number f m cs) ≡ false → owes n name (cond b (f c ∷ cs) (c ∷ at_number f m cs)) ≡ false
    by true here there rest = neither _ _ (keep c here) there
    by false here there rest = neither _ _ here rest

owes_less : (m n name : ℕ) (cs : List Current) → owes n name cs ≡ false → owes n name (without_number m cs) ≡ false
owes_less m n name [] e = refl
owes_less m n name (c ∷ cs) e = let q = or_false (owes_one n name c) (owes n name cs) e in by (c.number == m) q.0 q.1 (owes_less m n name cs q.1)
  where
    by : (b : Bool) → owes_one n name c ≡ false → owes n name cs ≡ false → owes n name (without_number m cs) ≡ false → owes n name (cond b cs (c ∷ without_number m cs)) ≡ false
    by true here there rest = there
    by false here there rest = neither _ _ here rest

spent_open : (n name next m before : ℕ) (ws : List Asked) (cs : List Current) (ls : List Live) → Spent n name next ws cs → is_first m ws ≡ true → Spent n name next (rest_of ws) (open_next before ls ws cs)
spent_open n name next m before [] cs ls k e = absurd (let h : false ≡ true = e in cc)
spent_open n name next m before (a ∷ ws) cs ls k e =
    let q = or_false _ _ k.waits_not in
    record {
      below = k.below;
      waits_not = q.1;
      owes_not = any_push (owes_one n name) cs (opened_of before ls a) k.owes_not (ap (λ b. b && among name (live_of ls (targets_of a.request))) q.0);
    }

spent_step : (s : State) (e : Entry) (n name : ℕ) → lawful s e ≡ true → Spent n name s.next_number s.waiting s.opened → let t = step s e in Spent n name t.next_number t.waiting t.opened
spent_step s (Start a b) n name l k = k
spent_step s (Exit a) n name l k = k
spent_step s (Ask m r) n name l k =
    let is = same m s.next_number l in let low = k.below in
    record { below = omega arith; waits_not = any_push (λ (x : Asked). x.number == n) s.waiting (record { number = m; request = r }) k.waits_not (apart m n (λ e. omega arith)); owes_not = k.owes_not }
spent_step s (Open m) n name l k = spent_open n name s.next_number m s.next_name s.waiting s.opened s.live k (and_true _ _ l).1
spent_step s (Finish m who reply) n name l k =
    record { below = k.below; waits_not = k.waits_not; owes_not = owes_at (finished who) m n name s.opened (λ c e. and_keeps (c.number == n) _ _ e (among_filter (λ t. not (t == who)) name c.due)) k.owes_not }
spent_step s (Operate m) n name l k = record { below = k.below; waits_not = k.waits_not; owes_not = owes_at as_operated m n name s.opened (λ c e. e) k.owes_not }
spent_step s (Close m) n name l k = record { below = k.below; waits_not = k.waits_not; owes_not = owes_less m n name s.opened k.owes_not }
spent_step s (Install a b) n name l k = k
spent_step s (Invalidate a) n name l k = k
spent_step s (Retire a) n name l k = k
spent_step s (Free a) n name l k = k

-- a lawful Finish is owed
passes_owes : (n name : ℕ) (cs : List Current) → passes (is_due name) (open_of n cs) ≡ true → owes n name cs ≡ true
passes_owes n name [] h = absurd (let k : false ≡ true = h in cc)
passes_owes n name (c ∷ cs) h = by (c.number == n) refl h (passes_owes n name cs)
  where
    by : (b : Bool) → (c.number == n) ≡ b → passes (is_due name) (cond b (Some c) (open_of n cs)) ≡ true → (passes (is_due name) (open_of n cs) ≡ true → owes n name cs ≡ true) → owes n name (c ∷ cs) ≡ true
    by true e h rest = or_left _ (owes n name cs) (both_true _ _ e h)
    by false e h rest = or_right (owes_one n name c) _ (rest h)

owes_open : (n name : ℕ) (cs : List Current) → is_open n cs ≡ false → owes n name cs ≡ false
owes_open n name [] e = refl
owes_open n name (c ∷ cs) e = let q = or_false _ _ e in neither _ _ (ap (λ b. b && among name c.due) q.0) (owes_open n name cs q.1)

open_owes : (n name : ℕ) (cs : List Current) → owes n name cs ≡ true → is_open n cs ≡ true
open_owes n name cs h = by (is_open n cs) refl
  where
    by : (b : Bool) → is_open n cs ≡ b → is_open n cs ≡ true
    by true e = e
    by false e = absurd (let r = owes_open n name cs e in cc)

-- after the Finish it isn't owed
owes_gone : (n name : ℕ) (cs : List Current) → Apart cs → owes n name (at_number (finished name) n cs) ≡ false
owes_gone n name [] d = refl
owes_gone n name (c ∷ cs) d = by (c.number == n) refl (owes_gone n name cs d.1)
  where
    by : (b : Bool) → (c.number == n) ≡ b → owes n name (at_number (finished name) n cs) ≡ false → owes n name (cond b (finished name c ∷ cs) (c ∷ at_number (finished name) n cs)) ≡ false
    by true e rest = neither _ _ (and_right (c.number == n) _ (among_others name c.due)) (owes_open n name cs (ap (λ k. is_open k cs) (sym (same _ _ e)) ∙ d.0))
    by false e rest = neither _ _ (ap (λ b. b && among name c.due) e) rest

is_not : (s : State) (e : Entry) (n name : ℕ) → lawful s e ≡ true → Spent n name s.next_number s.waiting s.opened → is_finish n name e ≡ false
is_not s (Start a b) n name l k = refl
is_not s (Exit a) n name l k = refl
is_not s (Ask m r) n name l k = refl
is_not s (Open m) n name l k = refl
is_not s (Finish m who reply) n name l k =
    not_true _ (λ t.
    let q = and_true (m == n) (who == name) t in
    let owed : owes m who s.opened ≡ true = passes_owes m who s.opened (and_true _ _ (and_true _ _ l).0).0 in
    let here : owes n name s.opened ≡ true = (λ i. owes (sym (same m n q.0) i) (sym (same who name q.1) i) s.opened) ∙ owed in
    sym k.owes_not ∙ here)
is_not s (Operate m) n name l k = refl
is_not s (Close m) n name l k = refl
is_not s (Install a b) n name l k = refl
is_not s (Invalidate a) n name l k = refl
is_not s (Retire a) n name l k = refl
is_not s (Free a) n name l k = refl

none_more : (s : State) (es : List Entry) (n name : ℕ) → legal_from s es ≡ true → Spent n name s.next_number s.waiting s.opened → finishes n name es ≡ 0
none_more s [] n name l k = refl
none_more s (e ∷ es) n name l k =
    let p = and_true _ _ l in
    let r = none_more (step s e) es n name p.1 (spent_step s e n name p.0 k) in
    let F : Bool → ℕ = λ b. cond b 1 0 in
    let i : F (is_finish n name e) ≡ 0 = ap F (is_not s e n name p.0 k) in
    omega (arith, i, r)

-- after a Finish no other can follow
spends : (n name next : ℕ) (ws : List Asked) (cs : List Current) → Sound next ws cs → owes n name cs ≡ true → Spent n name next ws (at_number (finished name) n cs)
spends n name next ws cs s h =
    let here = open_owes n name cs h in
    record { below = s.open_below n here; waits_not = s.open_not n here; owes_not = owes_gone n name cs s.alone }

spends_here : (s : State) (e : Entry) (n name : ℕ) → is_finish n name e ≡ true → lawful s e ≡ true → Sound s.next_number s.waiting s.opened → let t = step s e in Spent n name t.next_number t.waiting t.opened
spends_here s (Start a b) n name i l k = absurd (let h : false ≡ true = i in cc)
spends_here s (Exit a) n name i l k = absurd (let h : false ≡ true = i in cc)
spends_here s (Ask m r) n name i l k = absurd (let h : false ≡ true = i in cc)
spends_here s (Open m) n name i l k = absurd (let h : false ≡ true = i in cc)
spends_here s (Finish m who reply) n name i l k =
    let q = and_true (m == n) (who == name) i in
    let owed : owes m who s.opened ≡ true = passes_owes m who s.opened (and_true _ _ (and_true _ _ l).0).0 in
    let r : Spent m who s.next_number s.waiting (at_number (finished who) m s.opened) = spends m who s.next_number s.waiting s.opened k owed in
    subst (λ (x : ℕ). Spent x name s.next_number s.waiting (at_number (finished who) m s.opened)) (same m n q.0)
    (subst (λ (x : ℕ). Spent m x s.next_number s.waiting (at_number (finished who) m s.opened)) (same who name q.1) r)
spends_here s (Operate m) n name i l k = absurd (let h : false ≡ true = i in cc)
spends_here s (Close m) n name i l k = absurd (let h : false ≡ true = i in cc)
spends_here s (Install a b) n name i l k = absurd (let h : false ≡ true = i in cc)
spends_here s (Invalidate a) n name i l k = absurd (let h : false ≡ true = i in cc)
spends_here s (Retire a) n name i l k = absurd (let h : false ≡ true = i in cc)
spends_here s (Free a) n name i l k = absurd (let h : false ≡ true = i in cc)

at_most : (s : State) (es : List Entry) (n name : ℕ) → legal_from s es ≡ true → Sound s.next_number s.waiting s.opened → finishes n name es ≤ 1
at_most s [] n name l k = omega arith
at_most s (e ∷ es) n name l k =
    let p = and_true _ _ l in
    let next = sound_step s e p.0 k in
    elim (is_finish n name e) as (λ b. is_finish n name e ≡ b → cond b 1 0 + finishes n name es ≤ 1) [
      | true ↦ λ i. (let r = none_more (step s e) es n name p.1 (spends_here s e n name i p.0 k) in omega arith)
      | false ↦ λ i. (let r = at_most (step s e) es n name p.1 next in omega arith)
    ] refl

pub at_most_once : AtMostOnce
unfolding is_legal
at_most_once slots methods h n name l =
    at_most (start slots methods) h n name l (record {
      below = λ m w. absurd (let x : false ≡ true = w in cc);
      open_below = λ m w. absurd (let x : false ≡ true = w in cc);
      open_not = λ m w. absurd (let x : false ≡ true = w in cc);
      once = tt;
      alone = tt;
    })
