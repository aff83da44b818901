-- The operations that wait for a thread, after one more was told or cleared; and where the thread of a name stands.
use Rattle.std.proofs.Common.{◌≡◌, ◌≢◌, ℕ, suc, ◌+◌, ◌<◌, Bool, true, false, cond, List, [], ◌∷◌, length, map, Option, Some, None, sym, refl, ap, ◌∙◌, ⊎_elim, subst, arith}
use Rattle.std.specs.Prelude.{not, ◌||◌, ◌&&◌, ◌==◌, slice_get, filter}
use Rattle.std.specs.List.{list_any}
use Rattle.std.proofs.lemmas.Bool.{false≢true, and_parts, or_cases, eqb-true, eqb-false, eq-eqb, ne_eqb}
use Rattle.operations.specs.Names.{among}
use Rattle.system.specs.Threads.{Thread}
use Rattle.system.specs.Operations.{Mark, is_marked, with_mark, greatest}
use Rattle.system.specs.World.{threads}
use Rattle.tie.specs.PollRow.{place_of}
use Rattle.system.proofs.ThreeNumbers.{waits, AtMost, max_least, max_here}

pub or_later : (x y : Bool) → y ≡ true → (x || y) ≡ true
or_later true y h = refl
or_later false y h = h

-- Nothing waits where all that was told is cleared.
pub waits_none : (cleared : List Mark) (name : ℕ) (ms : List Mark) → ((n : ℕ) → is_marked ms n name ≡ true → is_marked cleared n name ≡ true) → waits cleared name ms ≡ []
waits_none cleared name [] all = refl
waits_none cleared name (mark ∷ ms) all = by (mark.name == name) refl (is_marked cleared mark.operation name) refl
    (waits_none cleared name ms (λ n h. all n (or_later ((mark.operation == n) && (mark.name == name)) (is_marked ms n name) h)))
  where
    by : (b : Bool) → (mark.name == name) ≡ b → (c : Bool) → is_marked cleared mark.operation name ≡ c → waits cleared name ms ≡ [] → waits cleared name (mark ∷ ms) ≡ []
    by false e c f rest = rw e rest
    by true e true f rest = rw (e, f) rest
    by true e false f rest = absurd (false≢true (sym f ∙ all mark.operation (let own = eq-eqb mark.operation mark.operation refl in rw (own, e) refl)))

-- What was told and isn't cleared waits.
pub waits_has : (cleared : List Mark) (n name : ℕ) (ms : List Mark) → is_marked ms n name ≡ true → is_marked cleared n name ≡ false → among n (waits cleared name ms) ≡ true
waits_has cleared n name [] h clear = absurd (false≢true h)
waits_has cleared n name (mark ∷ ms) h clear = ⊎_elim first
    (λ (later : is_marked ms n name ≡ true). more ((mark.name == name) && not (is_marked cleared mark.operation name)) (waits_has cleared n name ms later clear))
    (or_cases ((mark.operation == n) && (mark.name == name)) (is_marked ms n name) h)
  where
    first : ((mark.operation == n) && (mark.name == name)) ≡ true → among n (waits cleared name (mark ∷ ms)) ≡ true
    first both =
        let parts = and_parts (mark.operation == n) (mark.name == name) both in
        let open_ : is_marked cleared mark.operation name ≡ false = ap (λ m. is_marked cleared m name) (eqb-true mark.operation n parts.0) ∙ clear in
        rw (parts.1, open_, parts.0) refl

    more : (b : Bool) → among n (waits cleared name ms) ≡ true
        → among n (map (λ (m : Mark). m.operation) (cond b (mark ∷ filter (λ (m : Mark). (m.name == name) && not (is_marked cleared m.operation name)) ms) (filter (λ (m : Mark). (m.name == name) && not (is_marked cleared m.operation name)) ms))) ≡ true
    more true r = or_later (mark.operation == n) (among n (waits cleared name ms)) r
    more false r = r

-- And nothing else waits.
pub waits_only : (cleared : List Mark) (n name : ℕ) (ms : List Mark) → among n (waits cleared name ms) ≡ true → (is_marked ms n name ≡ true) × (is_marked cleared n name ≡ false)
waits_only cleared n name [] h = absurd (false≢true h)
waits_only cleared n name (mark ∷ ms) h = by (mark.name == name) (is_marked cleared mark.operation name) refl refl h (λ k. waits_only cleared n name ms k)
  where
    later : (is_marked ms n name ≡ true) × (is_marked cleared n name ≡ false) → (is_marked (mark ∷ ms) n name ≡ true) × (is_marked cleared n name ≡ false)
    later r = (or_later ((mark.operation == n) && (mark.name == name)) (is_marked ms n name) r.0, r.1)

    by : (b c : Bool) → (mark.name == name) ≡ b → is_marked cleared mark.operation name ≡ c
        → among n (map (λ (m : Mark). m.operation) (cond (b && not c) (mark ∷ filter (λ (m : Mark). (m.name == name) && not (is_marked cleared m.operation name)) ms) (filter (λ (m : Mark). (m.name == name) && not (is_marked cleared m.operation name)) ms))) ≡ true
        → (among n (waits cleared name ms) ≡ true → (is_marked ms n name ≡ true) × (is_marked cleared n name ≡ false)) → (is_marked (mark ∷ ms) n name ≡ true) × (is_marked cleared n name ≡ false)
    by false c e f k rest = later (rest k)
    by true true e f k rest = later (rest k)
    by true false e f k rest = ⊎_elim
        (λ (first : (mark.operation == n) ≡ true). ((rw (first, e) refl), ap (λ m. is_marked cleared m name) (sym (eqb-true mark.operation n first)) ∙ f))
        (λ (more : among n (waits cleared name ms) ≡ true). later (rest more))
        (or_cases (mark.operation == n) (among n (waits cleared name ms)) k)

-- One more is told, to this thread or to another one.
pub waits_told : (cleared : List Mark) (n name : ℕ) (ms : List Mark) → is_marked cleared n name ≡ false → waits cleared name (with_mark ms n name) ≡ n ∷ waits cleared name ms
waits_told cleared n name ms open_ = let own = eq-eqb name name refl in rw (own, open_) refl

pub waits_told_other : (cleared : List Mark) (n other name : ℕ) (ms : List Mark) → other ≢ name → waits cleared name (with_mark ms n other) ≡ waits cleared name ms
waits_told_other cleared n other name ms ne = let e = ne_eqb other name ne in rw e refl

-- One more is cleared, for another thread or for this one.
pub waits_cleared_other : (cleared : List Mark) (n other name : ℕ) (ms : List Mark) → other ≢ name → waits (with_mark cleared n other) name ms ≡ waits cleared name ms
waits_cleared_other cleared n other name [] ne = refl
waits_cleared_other cleared n other name (mark ∷ ms) ne = by (mark.name == name) refl (is_marked cleared mark.operation name) refl (n == mark.operation) refl (waits_cleared_other cleared n other name ms ne)
  where
    by : (b : Bool) → (mark.name == name) ≡ b → (c : Bool) → is_marked cleared mark.operation name ≡ c → (d : Bool) → (n == mark.operation) ≡ d
        → waits (with_mark cleared n other) name ms ≡ waits cleared name ms → waits (with_mark cleared n other) name (mark ∷ ms) ≡ waits cleared name (mark ∷ ms)
    by false e c f d g rest = rw e rest
    by true e true f true g rest = let o = ne_eqb other name ne in rw (e, g, o, f) rest
    by true e true f false g rest = rw (e, g, f) rest
    by true e false f true g rest = let o = ne_eqb other name ne in rw (e, g, o, f) (ap (λ ns. mark.operation ∷ ns) rest)
    by true e false f false g rest = rw (e, g, f) (ap (λ ns. mark.operation ∷ ns) rest)

pub waits_cleared : (cleared : List Mark) (n name : ℕ) (ms : List Mark) → waits (with_mark cleared n name) name ms ≡ filter (λ m. not (m == n)) (waits cleared name ms)
waits_cleared cleared n name [] = refl
waits_cleared cleared n name (mark ∷ ms) = by (mark.name == name) refl (is_marked cleared mark.operation name) refl (mark.operation == n) refl (waits_cleared cleared n name ms)
  where
    turned_true : (mark.operation == n) ≡ true → (n == mark.operation) ≡ true
    turned_true g = eq-eqb n mark.operation (sym (eqb-true mark.operation n g))

    turned_false : (mark.operation == n) ≡ false → (n == mark.operation) ≡ false
    turned_false g = ne_eqb n mark.operation (λ same. eqb-false mark.operation n g (sym same))

    by : (b : Bool) → (mark.name == name) ≡ b → (c : Bool) → is_marked cleared mark.operation name ≡ c → (d : Bool) → (mark.operation == n) ≡ d
        → waits (with_mark cleared n name) name ms ≡ filter (λ m. not (m == n)) (waits cleared name ms)
        → waits (with_mark cleared n name) name (mark ∷ ms) ≡ filter (λ m. not (m == n)) (waits cleared name (mark ∷ ms))
    by false e c f d g rest = rw e rest
    by true e true f true g rest = let own = eq-eqb name name refl in let t = turned_true g in rw (e, t, own, f) rest
    by true e true f false g rest = let t = turned_false g in rw (e, t, f) rest
    by true e false f true g rest = let own = eq-eqb name name refl in let t = turned_true g in rw (e, t, own, f, g) rest
    by true e false f false g rest = let t = turned_false g in rw (e, t, f, g) (ap (λ ns. mark.operation ∷ ns) rest)

-- A number above all others of a list is the greatest.
none_above : (n : ℕ) (ns : List ℕ) → ((m : ℕ) → among m ns ≡ true → m < n) → AtMost n (greatest ns)
none_above n [] low = tt
none_above n (m ∷ ns) low = max_least n m (greatest ns) (let first = low m (let own = eq-eqb m m refl in rw own refl) in omega arith) (none_above n ns (λ k is. low k (or_later (m == k) (among k ns) is)))

pub greatest_first : (n : ℕ) (ns : List ℕ) → ((m : ℕ) → among m ns ≡ true → m < n) → greatest (n ∷ ns) ≡ Some n
greatest_first n ns low = ap Some (max_here n (greatest ns) (none_above n ns low))

-- What a filter leaves was in the list.
pub among_left : (test : ℕ → Bool) (m : ℕ) (ns : List ℕ) → among m (filter test ns) ≡ true → among m ns ≡ true
among_left test m [] h = h
among_left test m (n ∷ ns) h = by (test n) h (among_left test m ns)
  where
    by : (b : Bool) → among m (cond b (n ∷ filter test ns) (filter test ns)) ≡ true → (among m (filter test ns) ≡ true → among m ns ≡ true) → among m (n ∷ ns) ≡ true
    by false k rest = or_later (n == m) (among m ns) (rest k)
    by true k rest = ⊎_elim (λ (first : (n == m) ≡ true). rw first refl) (λ (more : among m (filter test ns) ≡ true). or_later (n == m) (among m ns) (rest more)) (or_cases (n == m) (among m (filter test ns)) k)

-- A list without a greatest number is empty.
pub greatest_none : (ns : List ℕ) → greatest ns ≡ None → ns ≡ []
greatest_none [] h = refl
greatest_none (n ∷ ns) h = cc

-- The thread of a live name stands where place_of says.
pub record StandsThere (places : List (Option Thread)) (name p : ℕ) : Type 0 where
  pub thread : Thread
  pub there : slice_get places p ≡ Some (Some thread)
  pub named : thread.name ≡ name
  pub low : p < length places

one_later : (o : Option Thread) (places : List (Option Thread)) (name p : ℕ) → StandsThere places name p → StandsThere (o ∷ places) name (1 + p)
one_later o places name p r = let low = r.low in let next : suc p ≡ 1 + p = omega arith in
    subst (StandsThere (o ∷ places) name) next (record { thread = r.thread; there = r.there; named = r.named; low = omega arith })

pub stands_there : (places : List (Option Thread)) (name : ℕ) → list_any (λ (t : Thread). t.name == name) (threads places) ≡ true → StandsThere places name (place_of places name)
stands_there [] name h = absurd (false≢true h)
stands_there (None ∷ places) name h = one_later None places name (place_of places name) (stands_there places name h)
stands_there (Some t ∷ places) name h = by (t.name == name) refl h (stands_there places name)
  where
    by : (b : Bool) → (t.name == name) ≡ b → (b || list_any (λ (u : Thread). u.name == name) (threads places)) ≡ true
        → (list_any (λ (u : Thread). u.name == name) (threads places) ≡ true → StandsThere places name (place_of places name)) → StandsThere (Some t ∷ places) name (cond b 0 (1 + place_of places name))
    by true e k rest = record { thread = t; there = refl; named = eqb-true t.name name e; low = omega arith }
    by false e k rest = one_later (Some t) places name (place_of places name) (rest k)
