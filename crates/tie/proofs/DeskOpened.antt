-- The open operations of a world and those of its desk.
use Rattle.std.proofs.Common.{◌≡◌, ◌≢◌, ℕ, zero, suc, ◌+◌, ◌-◌, ◌<◌, Bool, true, false, cond, List, [], ◌∷◌, map, Some, sym, refl, ap, ◌∙◌, arith}
use Rattle.std.specs.Prelude.{not, ◌||◌, ◌&&◌, ◌==◌, filter, slice_get}
use Rattle.std.specs.List.{list_any}
use Rattle.std.proofs.lemmas.Bool.{false≢true, eqb-true, eqb-false, eq-eqb, ne_eqb, or_left, or_right, and_from, false_from_ne_true}
use Rattle.operations.specs.Names.{among, is_empty}
use Rattle.operations.specs.Requests.{is_census}
use Rattle.system.specs.Operations.{Opened, Mark, is_marked, with_mark}
use Rattle.system.specs.Log.{Entry as Logged}
use Rattle.system.proofs.Frames.{count_cons}
use Rattle.desk.specs.Machine.{Current, targets_of, steps_of, has_census, open_of, at_number, without_number, finished, others}
use Rattle.tie.specs.DeskOf.{name_at_open, times_done, left_of, due_of, current_of}

-- 1. Lists

-- Numbers rise.
abbrev pub Rises : List Opened → Type 0
Rises os = (i j : ℕ) (a b : Opened) → i < j → slice_get os i ≡ Some a → slice_get os j ≡ Some b → a.number < b.number

tail_rises : (o : Opened) (os : List Opened) → Rises (o ∷ os) → Rises os
tail_rises o os h i j a b less x y = h (suc i) (suc j) a b (omega arith) x y

pub map_same : {A B : Type 0} (f g : A → B) (xs : List A) → ((i : ℕ) (x : A) → slice_get xs i ≡ Some x → f x ≡ g x) → map f xs ≡ map g xs
map_same f g [] h = refl
map_same f g (x ∷ xs) h = λ i. h 0 x refl i ∷ map_same f g xs (λ n y e. h (suc n) y e) i

pub filter_same : (f g : ℕ → Bool) (ns : List ℕ) → ((n : ℕ) → among n ns ≡ true → f n ≡ g n) → filter f ns ≡ filter g ns
filter_same f g [] h = refl
filter_same f g (n ∷ ns) h =
    (λ i. cond (h n (or_left (n == n) (among n ns) (eq-eqb n n refl)) i) (n ∷ filter_same f g ns (λ m e. h m (or_right (n == m) (among m ns) e)) i) (filter_same f g ns (λ m e. h m (or_right (n == m) (among m ns) e)) i))

pub filter_twice : (f g h : ℕ → Bool) (ns : List ℕ) → ((n : ℕ) → h n ≡ (g n && f n)) → filter h ns ≡ filter f (filter g ns)
filter_twice f g h [] e = refl
filter_twice f g h (n ∷ ns) e = ap (λ b. cond b (n ∷ filter h ns) (filter h ns)) (e n) ∙ by (g n) (filter_twice f g h ns e)
  where
    by : (b : Bool) → filter h ns ≡ filter f (filter g ns) → cond (b && f n) (n ∷ filter h ns) (filter h ns) ≡ filter f (cond b (n ∷ filter g ns) (filter g ns))
    by false k = k
    by true k = inner (f n) refl
      where
        inner : (c : Bool) → f n ≡ c → cond (f n) (n ∷ filter h ns) (filter h ns) ≡ cond (f n) (n ∷ filter f (filter g ns)) (filter f (filter g ns))
        inner c e = λ i. cond (f n) (n ∷ k i) (k i)

pub among_filter : (test : ℕ → Bool) (name : ℕ) (ns : List ℕ) → among name (filter test ns) ≡ (test name && among name ns)
among_filter test name [] = sym (and_false (test name))
  where
    and_false : (b : Bool) → b && false ≡ false
    and_false true = refl
    and_false false = refl
among_filter test name (n ∷ ns) = by (test n) (n == name) refl refl (among_filter test name ns)
  where
    by : (b c : Bool) → test n ≡ b → (n == name) ≡ c → among name (filter test ns) ≡ (test name && among name ns) → among name (cond b (n ∷ filter test ns) (filter test ns)) ≡ (test name && (c || among name ns))
    by true true e f rest = let p : test name ≡ true = ap test (sym (eqb-true n name f)) ∙ e in rw (f, p) refl
    by true false e f rest = rw f rest
    by false true e f rest = let p : test name ≡ false = ap test (sym (eqb-true n name f)) ∙ e in rest ∙ (λ i. p i && among name ns) ∙ sym (λ i. p i && true)
    by false false e f rest = rest

-- 2. Open operations

pub census_is : (f : Opened → Current) (os : List Opened) → ((o : Opened) → (f o).request ≡ o.request) → has_census (map f os) ≡ list_any (λ o. is_census o.request) os
census_is f [] h = refl
census_is f (o ∷ os) h = λ i. is_census (h o i) || census_is f os h i

pub empty_is : {A B : Type 0} (f : A → B) (xs : List A) → is_empty (map f xs) ≡ is_empty xs
empty_is f [] = refl
empty_is f (x ∷ xs) = refl

pub open_is : (f : Opened → Current) (os : List Opened) (i : ℕ) (o : Opened) → ((x : Opened) → (f x).number ≡ x.number) → Rises os → slice_get os i ≡ Some o → open_of o.number (map f os) ≡ Some (f o)
open_is f [] i o num h at = cc
open_is f (x ∷ os) zero o num h at =
    let same : x ≡ o = cc in
    ap (λ b. cond b (Some (f x)) (open_of o.number (map f os))) (eq-eqb (f x).number o.number (num x ∙ ap (λ (y : Opened). y.number) same)) ∙ ap (λ (y : Opened). Some (f y)) same
open_is f (x ∷ os) (suc i) o num h at =
    let less = h 0 (suc i) x o (omega arith) refl at in
    ap (λ b. cond b (Some (f x)) (open_of o.number (map f os))) (ne_eqb (f x).number o.number (λ e. (let n = num x in absurd (omega arith)))) ∙ open_is f os i o num (tail_rises x os h) at

-- The one of the number changes.
pub at_is : (f g : Opened → Current) (change : Current → Current) (os : List Opened) (i : ℕ) (o : Opened) → ((x : Opened) → (f x).number ≡ x.number) → Rises os → slice_get os i ≡ Some o → change (f o) ≡ g o → ((x : Opened) → x.number ≢ o.number → f x ≡ g x)
    → at_number change o.number (map f os) ≡ map g os
at_is f g change [] i o num h at here there = cc
at_is f g change (x ∷ os) zero o num h at here there =
    let same : x ≡ o = cc in
    ap (λ b. cond b (change (f x) ∷ map f os) (f x ∷ at_number change o.number (map f os))) (eq-eqb (f x).number o.number (num x ∙ ap (λ (y : Opened). y.number) same))
    ∙ (let first : change (f x) ≡ g x = ap (λ (y : Opened). change (f y)) same ∙ (here ∙ ap g (sym same)) in
    λ j. first j ∷ map_same f g os (λ n y e. (let less = h 0 (suc n) x y (omega arith) refl e in there y (λ z. (let q : x.number ≡ o.number = ap (λ (y : Opened). y.number) same in absurd (omega arith))))) j)
at_is f g change (x ∷ os) (suc i) o num h at here there =
    let less = h 0 (suc i) x o (omega arith) refl at in
    ap (λ b. cond b (change (f x) ∷ map f os) (f x ∷ at_number change o.number (map f os))) (ne_eqb (f x).number o.number (λ e. (let n = num x in absurd (omega arith))))
    ∙ (let first : f x ≡ g x = there x (λ e. absurd (omega arith)) in λ j. first j ∷ at_is f g change os i o num (tail_rises x os h) at here there j)

-- The one of the number goes.
all_stay : (n : ℕ) (os : List Opened) → ((i : ℕ) (x : Opened) → slice_get os i ≡ Some x → x.number ≢ n) → filter (λ o. not (o.number == n)) os ≡ os
all_stay n [] h = refl
all_stay n (o ∷ os) h = ap (λ b. cond (not b) (o ∷ filter (λ o. not (o.number == n)) os) (filter (λ o. not (o.number == n)) os)) (ne_eqb o.number n (h 0 o refl)) ∙ ap (λ (ys : List Opened). o ∷ ys) (all_stay n os (λ i x e. h (suc i) x e))

pub without_is : (f : Opened → Current) (os : List Opened) (i : ℕ) (o : Opened) → ((x : Opened) → (f x).number ≡ x.number) → Rises os → slice_get os i ≡ Some o → without_number o.number (map f os) ≡ map f (filter (λ x. not (x.number == o.number)) os)
without_is f [] i o num h at = cc
without_is f (x ∷ os) zero o num h at =
    let same : x ≡ o = cc in let q : x.number ≡ o.number = ap (λ (y : Opened). y.number) same in
    ap (λ b. cond b (map f os) (f x ∷ without_number o.number (map f os))) (eq-eqb (f x).number o.number (num x ∙ q))
    ∙ sym (ap (λ b. map f (cond (not b) (x ∷ filter (λ (y : Opened). not (y.number == o.number)) os) (filter (λ (y : Opened). not (y.number == o.number)) os))) (eq-eqb x.number o.number q)
    ∙ ap (map f) (all_stay o.number os (λ n y e z. (let less = h 0 (suc n) x y (omega arith) refl e in absurd (omega arith)))))
without_is f (x ∷ os) (suc i) o num h at =
    let less = h 0 (suc i) x o (omega arith) refl at in
    ap (λ b. cond b (map f os) (f x ∷ without_number o.number (map f os))) (ne_eqb (f x).number o.number (λ e. (let n = num x in absurd (omega arith))))
    ∙ (ap (λ (ys : List Current). f x ∷ ys) (without_is f os i o num (tail_rises x os h) at)
    ∙ sym (ap (λ b. map f (cond (not b) (x ∷ filter (λ (y : Opened). not (y.number == o.number)) os) (filter (λ (y : Opened). not (y.number == o.number)) os))) (ne_eqb x.number o.number (λ e. absurd (omega arith)))))

-- 3. Marks

pub times_none : (n : ℕ) (marks : List Mark) → ((name : ℕ) → is_marked marks n name ≡ false) → times_done n marks ≡ 0
times_none n [] h = refl
times_none n (m ∷ marks) h = count_cons (λ (mark : Mark). mark.operation == n) m marks
    ∙ (let differs : (m.operation == n) ≡ false = false_from_ne_true _ (λ e. false≢true (sym (h m.name) ∙ or_left ((m.operation == n) && (m.name == m.name)) (is_marked marks n m.name) (and_from _ _ e (eq-eqb m.name m.name refl)))) in
    let rest = times_none n marks (λ name. false_from_ne_true _ (λ e. false≢true (sym (h name) ∙ or_right ((m.operation == n) && (m.name == name)) (is_marked marks n name) e))) in
    (λ i. cond (differs i) 1 0 + rest i))

-- An operation of another number.
pub other_current : (done : List Mark) (log : List Logged) (n name : ℕ) (x : Opened) → x.number ≢ n → current_of done log x ≡ current_of (with_mark done n name) log x
other_current done log n name x ne =
    let e : (n == x.number) ≡ false = ne_eqb n x.number (λ z. ne (sym z)) in
    let counted : times_done x.number (with_mark done n name) ≡ 0 + times_done x.number done = count_cons (λ (mark : Mark). mark.operation == x.number) (record { operation = n; name = name }) done ∙ ap (λ b. cond b 1 0 + times_done x.number done) e in
    let times : times_done x.number done ≡ times_done x.number (with_mark done n name) = omega arith in
    λ i. record {
      number = x.number;
      request = x.request;
      before = name_at_open x.number log;
      left = cond (is_census x.request) (cond x.operated 0 1) (steps_of x.request - times i);
      due = filter (λ t. among t x.live && not ((sym e i && (name == t)) || is_marked done x.number t)) (targets_of x.request);
      operated = x.operated;
    }

-- One more name is done.
not_marked : (a b c m : Bool) → b ≡ c → (a && not ((true && b) || m)) ≡ ((a && not m) && not c)
not_marked true true c m e = let z : not c ≡ false = ap not (sym e) in sym (ap (λ x. not m && x) z ∙ flat (not m))
  where
    flat : (x : Bool) → x && false ≡ false
    flat true = refl
    flat false = refl
not_marked true false c m e = let z : not c ≡ true = ap not (sym e) in sym (ap (λ x. not m && x) z ∙ flat (not m))
  where
    flat : (x : Bool) → x && true ≡ x
    flat true = refl
    flat false = refl
not_marked false b c m e = refl

same_way : (a b : ℕ) → (a == b) ≡ (b == a)
same_way a b = by (a == b) refl
  where
    by : (t : Bool) → (a == b) ≡ t → (a == b) ≡ (b == a)
    by true e = e ∙ sym (eq-eqb b a (sym (eqb-true a b e)))
    by false e = e ∙ sym (ne_eqb b a (λ z. eqb-false a b e (sym z)))

pub due_less : (done : List Mark) (name : ℕ) (o : Opened) → others name (due_of done o) ≡ due_of (with_mark done o.number name) o
due_less done name o = sym (filter_twice (λ t. not (t == name)) (λ t. among t o.live && not (is_marked done o.number t)) (λ t. among t o.live && not (is_marked (with_mark done o.number name) o.number t)) (targets_of o.request)
    (λ t. ap (λ b. among t o.live && not ((b && (name == t)) || is_marked done o.number t)) (eq-eqb o.number o.number refl) ∙ not_marked (among t o.live) (name == t) (t == name) (is_marked done o.number t) (same_way name t)))

pub left_less : (done : List Mark) (name : ℕ) (o : Opened) → is_census o.request ≡ false → left_of done o - 1 ≡ left_of (with_mark done o.number name) o
left_less done name o plain =
    let more : times_done o.number (with_mark done o.number name) ≡ 1 + times_done o.number done = count_cons (λ (mark : Mark). mark.operation == o.number) (record { operation = o.number; name = name }) done ∙ ap (λ b. cond b 1 0 + times_done o.number done) (eq-eqb o.number o.number refl) in
    let a : left_of done o ≡ steps_of o.request - times_done o.number done = ap (λ b. cond b (cond o.operated 0 1) (steps_of o.request - times_done o.number done)) plain in
    let b : left_of (with_mark done o.number name) o ≡ steps_of o.request - times_done o.number (with_mark done o.number name) = ap (λ b. cond b (cond o.operated 0 1) (steps_of o.request - times_done o.number (with_mark done o.number name))) plain in
    omega arith

pub finished_current : (done : List Mark) (log : List Logged) (name : ℕ) (o : Opened) → is_census o.request ≡ false → finished name (current_of done log o) ≡ current_of (with_mark done o.number name) log o
finished_current done log name o plain = λ i. record { number = o.number; request = o.request; before = (current_of done log o).before; left = left_less done name o plain i; due = due_less done name o i; operated = o.operated }
