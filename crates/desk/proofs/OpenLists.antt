-- Open requests, by their numbers.
use Rattle.std.proofs.Common.{◌≡◌, ◌≢◌, ℕ, zero, suc, ◌+◌, ◌<◌, ◌≤◌, Bool, true, false, cond, List, [], ◌∷◌, ◌++◌, length, map, Option, Some, None, sym, refl, ap, ◌∙◌, subst, arith}
use Rattle.std.specs.Prelude.{◌||◌, ◌==◌, nat_lt, IfSome, IfNone, slice_get, slice_set}
use Rattle.std.specs.List.{list_any, remove}
use Rattle.std.proofs.lemmas.Bool.{eq-eqb, ne_eqb, and_parts}
use Rattle.std.proofs.lemmas.Bool.Decides.{nat_tests}
use Rattle.std.proofs.lemmas.List.{length-map}
use Rattle.operations.specs.declared.Ask.{Ask}
use Rattle.operations.specs.declared.queue.Waiting.{Waiting}
use Rattle.operations.specs.Names.{is_distinct}
use Rattle.operations.specs.Requests.{is_census}
use Rattle.desk.specs.declared.entries.Carried.{Carried}
use Rattle.desk.specs.declared.entries.Opened.{Opened}
use Rattle.desk.specs.Machine.{Current, awaits_census, may_open_more, is_open, open_of, passes, at_number, without_number}
use Rattle.desk.specs.Room.{needs_of_opened}
use Rattle.desk.specs.JobsFit.{asks_it, is_asked_by}
use Rattle.desk.specs.Refusals.{oldest_of, chosen, front_is}
use Rattle.desk.proofs.Newest.{same_at}
use Rattle.desk.specs.Fields.{asked_of, current_of, IsIndex, AreFit, AreDistinct, due_of}

pub any_map : {A B : Type 0} (p : B → Bool) (f : A → B) (xs : List A) → list_any p (map f xs) ≡ list_any (λ x. p (f x)) xs
any_map p f [] = refl
any_map p f (x ∷ xs) = ap (λ b. p (f x) || b) (any_map p f xs)

here_is : (n : ℕ) (c : Current) (rest : Option Current) → c.number ≡ n → cond (c.number == n) (Some c) rest ≡ Some c
here_is n c rest e = ap (λ b. cond b (Some c) rest) (eq-eqb c.number n e)

there_is : {A : Type 0} (n m : ℕ) (x y : A) → m ≢ n → cond (m == n) x y ≡ y
there_is n m x y ne = ap (λ b. cond b x y) (ne_eqb m n ne)

pub later : {J : Type 0} (n i : ℕ) (x : Opened J) (os : List (Opened J)) → IsIndex n (x ∷ os) (Some (suc i)) → IsIndex n os (Some i)
later n i x os is = (
  (let a = is.0 in omega arith),
  (λ k o l h. is.1 (suc k) o (omega arith) h),
  (λ o h. is.2 o h),
)

pub open_at : {J : Type 0} (n i : ℕ) (os : List (Opened J)) (o : Opened J) → IsIndex n os (Some i) → slice_get os i ≡ Some o → open_of n (map current_of os) ≡ Some (current_of o)
open_at n i [] o is h = cc
open_at n zero (x ∷ os) o is h =
    let same : x ≡ o = cc in
    here_is n (current_of x) _ (is.2 x refl) ∙ ap (λ (z : Opened _). Some (current_of z)) same
open_at n (suc i) (x ∷ os) o is h =
    there_is n x.number (Some (current_of x)) (open_of n (map current_of os)) (is.1 0 x (omega arith) refl) ∙ open_at n i os o (later n i x os is) h

-- the ask of the open request with this number
pub asked_at : {J : Type 0} (n i : ℕ) (ask : Ask) (os : List (Opened J)) (o : Opened J) → IsIndex n os (Some i) → slice_get os i ≡ Some o → is_asked_by n ask (map current_of os) ≡ asks_it ask o.request
asked_at n i ask os o is h = ap (passes (λ c. asks_it ask c.request)) (open_at n i os o is h)

pub none_at : {J : Type 0} (n : ℕ) (os : List (Opened J)) → IsIndex n os None → open_of n (map current_of os) ≡ None
none_at n [] is = refl
none_at n (x ∷ os) is = there_is n x.number (Some (current_of x)) (open_of n (map current_of os)) (is 0 x refl) ∙ none_at n os (λ k o h. is (suc k) o h)

pub set_at : {J : Type 0} (f : Current → Current) (n i : ℕ) (os : List (Opened J)) (o o' : Opened J) → IsIndex n os (Some i) → slice_get os i ≡ Some o → current_of o' ≡ f (current_of o)
    → map current_of (slice_set os i o') ≡ at_number f n (map current_of os)
set_at f n i [] o o' is h e = cc
set_at f n zero (x ∷ os) o o' is h e =
    let same : x ≡ o = cc in
    ap (λ c. c ∷ map current_of os) (e ∙ ap (λ (z : Opened _). f (current_of z)) (sym same))
    ∙ sym (ap (λ b. cond b (f (current_of x) ∷ map current_of os) (current_of x ∷ at_number f n (map current_of os))) (eq-eqb x.number n (is.2 x refl)))
set_at f n (suc i) (x ∷ os) o o' is h e =
    ap (λ cs. current_of x ∷ cs) (set_at f n i os o o' (later n i x os is) h e)
    ∙ sym (there_is n x.number (f (current_of x) ∷ map current_of os) (current_of x ∷ at_number f n (map current_of os)) (is.1 0 x (omega arith) refl))

-- enough entries are reserved for the open requests
pub needs_at : (f : Current → Current) (n : ℕ) (cs : List Current) (c : Current) → open_of n cs ≡ Some c → needs_of_opened (at_number f n cs) + c.left ≡ needs_of_opened cs + (f c).left
needs_at f n [] c h = cc
needs_at f n (x ∷ cs) c h = by (x.number == n) h (needs_at f n cs c)
  where
    by : (b : Bool) → cond b (Some x) (open_of n cs) ≡ Some c → (open_of n cs ≡ Some c → needs_of_opened (at_number f n cs) + c.left ≡ needs_of_opened cs + (f c).left)
        → needs_of_opened (cond b (f x ∷ cs) (x ∷ at_number f n cs)) + c.left ≡ needs_of_opened (x ∷ cs) + (f c).left
    by true h rest = let same : x ≡ c = cc in let a = ap (λ (z : Current). z.left) same in let b = ap (λ (z : Current). (f z).left) same in omega arith
    by false h rest = let r = rest h in omega arith

pub needs_without : (n : ℕ) (cs : List Current) (c : Current) → open_of n cs ≡ Some c → needs_of_opened (without_number n cs) + (1 + c.left) ≡ needs_of_opened cs
needs_without n [] c h = cc
needs_without n (x ∷ cs) c h = by (x.number == n) h (needs_without n cs c)
  where
    by : (b : Bool) → cond b (Some x) (open_of n cs) ≡ Some c → (open_of n cs ≡ Some c → needs_of_opened (without_number n cs) + (1 + c.left) ≡ needs_of_opened cs)
        → needs_of_opened (cond b cs (x ∷ without_number n cs)) + (1 + c.left) ≡ needs_of_opened (x ∷ cs)
    by true h rest = let same : x ≡ c = cc in let a = ap (λ (z : Current). z.left) same in omega arith
    by false h rest = let r = rest h in omega arith

pub fit_of : (n : ℕ) (cs : List Current) (c : Current) → AreFit cs → open_of n cs ≡ Some c → (0 < c.number) × (due_of c ≤ c.left)
fit_of n [] c fit h = cc
fit_of n (x ∷ cs) c fit h = by (x.number == n) h (fit_of n cs c fit.2)
  where
    by : (b : Bool) → cond b (Some x) (open_of n cs) ≡ Some c → (open_of n cs ≡ Some c → (0 < c.number) × (due_of c ≤ c.left)) → (0 < c.number) × (due_of c ≤ c.left)
    by true h rest = let same : x ≡ c = cc in subst (λ (z : Current). (0 < z.number) × (due_of z ≤ z.left)) same (fit.0, fit.1)
    by false h rest = rest h

pub fit_at : (f : Current → Current) (n : ℕ) (cs : List Current) (c : Current) → AreFit cs → open_of n cs ≡ Some c → due_of (f c) ≤ (f c).left → (f c).number ≡ c.number → AreFit (at_number f n cs)
fit_at f n [] c fit h new same_number = tt
fit_at f n (x ∷ cs) c fit h new same_number = by (x.number == n) h (λ k l. fit_at f n cs c fit.2 k l same_number)
  where
    by : (b : Bool) → cond b (Some x) (open_of n cs) ≡ Some c → (open_of n cs ≡ Some c → due_of (f c) ≤ (f c).left → AreFit (at_number f n cs)) → AreFit (cond b (f x ∷ cs) (x ∷ at_number f n cs))
    by true h rest = let same : x ≡ c = cc in let low : 0 < (f x).number = (let a = ap (λ (z : Current). (f z).number) same in let b = ap (λ (z : Current). z.number) same in let l = fit.0 in omega arith) in (low, subst (λ (z : Current). due_of (f z) ≤ (f z).left) (sym same) new, fit.2)
    by false h rest = (fit.0, fit.1, rest h new)

pub fit_push : (cs : List Current) (c : Current) → AreFit cs → 0 < c.number → due_of c ≤ c.left → AreFit (cs ++ c ∷ [])
fit_push [] c fit low new = (low, new, tt)
fit_push (x ∷ cs) c fit low new = (fit.0, fit.1, fit_push cs c fit.2 low new)

pub needs_push : (cs : List Current) (c : Current) → needs_of_opened (cs ++ c ∷ []) ≡ needs_of_opened cs + (1 + c.left)
needs_push [] c = omega arith
needs_push (x ∷ cs) c = let r = needs_push cs c in omega arith

-- the open request at an index is removed
pub removed_at : {J : Type 0} (n i : ℕ) (os : List (Opened J)) → IsIndex n os (Some i) → map current_of (remove os i) ≡ without_number n (map current_of os)
removed_at n i [] is = absurd (let a = is.0 in omega arith)
removed_at n zero (x ∷ os) is = sym (ap (λ b. cond b (map current_of os) (current_of x ∷ without_number n (map current_of os))) (eq-eqb x.number n (is.2 x refl)))
removed_at n (suc i) (x ∷ os) is =
    ap (λ cs. current_of x ∷ cs) (removed_at n i os (later n i x os is))
    ∙ sym (there_is n x.number (map current_of os) (current_of x ∷ without_number n (map current_of os)) (is.1 0 x (omega arith) refl))

-- an open request has the same index by its own number
pub own_index : {J : Type 0} (n i : ℕ) (os : List (Opened J)) (o : Opened J) → IsIndex n os (Some i) → slice_get os i ≡ Some o → IsIndex o.number os (Some i)
own_index n i os o is h = subst (λ k. IsIndex k os (Some i)) (sym (is.2 o h)) is

pub first_index : {J : Type 0} (os : List (Opened J)) (o : Opened J) → slice_get os 0 ≡ Some o → 0 < length os → IsIndex o.number os (Some 0)
first_index os o here low = (low, (λ k x l h. absurd (omega arith)), (λ x h. ap (λ (z : Opened _). z.number) (same_at os 0 x o h here)))

-- the request at an index is open
pub open_is : {J : Type 0} (n i : ℕ) (os : List (Opened J)) (o : Opened J) → IsIndex n os (Some i) → slice_get os i ≡ Some o → is_open n (map current_of os) ≡ true
open_is n i [] o is h = cc
open_is n zero (x ∷ os) o is h = ap (λ b. b || is_open n (map current_of os)) (eq-eqb x.number n (is.2 x refl))
open_is n (suc i) (x ∷ os) o is h = or_true (x.number == n) (is_open n (map current_of os)) (open_is n i os o (later n i x os is) h)
  where
    or_true : (a b : Bool) → b ≡ true → (a || b) ≡ true
    or_true true b e = refl
    or_true false b e = e

-- the oldest
pub oldest_is : {J : Type 0} (os : List (Opened J)) (o : Opened J) → slice_get os 0 ≡ Some o → oldest_of (map current_of os) ≡ Some (current_of o)
oldest_is [] o h = cc
oldest_is (x ∷ os) o h = let same : x ≡ o = cc in ap (λ (z : Opened _). Some (current_of z)) same

-- a test of the oldest open request
pub front_there : {J : Type 0} (test : Current → Bool) (b : Bool) (os : List (Opened J)) → front_is test (map current_of os) b → 0 < length os
front_there test b [] h = grind (arith)
front_there test b (x ∷ os) h = omega arith

pub front_at : {J : Type 0} (test : Current → Bool) (b : Bool) (os : List (Opened J)) (o : Opened J) → front_is test (map current_of os) b → slice_get os 0 ≡ Some o → test (current_of o) ≡ b
front_at test b [] o h here = cc
front_at test b (x ∷ os) o h here = let same : x ≡ o = cc in ap (λ (z : Opened _). test (current_of z)) (sym same) ∙ h

-- the request at the index is the chosen one
abbrev pub IsChosen : {J : Type 0} → Option ℕ → List (Opened J) → ℕ → Type 0
IsChosen number os i = (i < length os) × ((o : Opened _) → slice_get os i ≡ Some o → IsIndex o.number os (Some i) × (chosen number (map current_of os) ≡ Some (current_of o)))

-- the request chosen by its number
pub chosen_some : {J : Type 0} (n : ℕ) (os : List (Opened J)) (found : Option ℕ) → IsIndex n os found
    → IfSome found (λ i. (i < length os) × ((o : Opened J) → slice_get os i ≡ Some o → IsIndex o.number os (Some i) × (chosen (Some n) (map current_of os) ≡ Some (current_of o))))
chosen_some n os None is = tt
chosen_some n os (Some i) is = (is.0, λ o h. (own_index n i os o is h, open_at n i os o is h))

pub chosen_none : {J : Type 0} (n : ℕ) (os : List (Opened J)) (found : Option ℕ) → IsIndex n os found → IfNone found (chosen (Some n) (map current_of os) ≡ None)
chosen_none n os None is = none_at n os is
chosen_none n os (Some i) is = tt

-- the oldest waiting request
pub awaits_at : {J : Type 0} (q : List (Waiting (Carried J))) (w : Waiting (Carried J)) → slice_get q 0 ≡ Some w → awaits_census (map asked_of q) ≡ is_census w.request
awaits_at [] w h = cc
awaits_at (x ∷ q) w h = let same : x ≡ w = cc in ap (λ (z : Waiting (Carried _)). is_census z.request) same

pub awaits_none : {J : Type 0} (q : List (Waiting (Carried J))) → slice_get q 0 ≡ None → awaits_census (map asked_of q) ≡ false
awaits_none [] h = refl
awaits_none (x ∷ q) h = cc

-- if one more may be opened, fewer than four are open
pub few_open : {J : Type 0} (q : List (Waiting (Carried J))) (os : List (Opened J)) → may_open_more (map asked_of q) (map current_of os) ≡ true → length os < 4
few_open q os h =
    let n : length (map current_of os) ≡ length os = length-map os current_of in
    let low = lt_is (length (map current_of os)) 4 (and_parts (nat_lt (length (map current_of os)) 4) _ h).0 in omega arith
  where
    lt_is : (a b : ℕ) → nat_lt a b ≡ true → a < b
    lt_is a b e = grind (arith, nat_tests)

-- each index below the length has an item
pub there_at : {X : Type 0} (xs : List X) (i : ℕ) → i < length xs → (x : X) × (slice_get xs i ≡ Some x)
there_at [] i low = absurd (omega arith)
there_at (x ∷ xs) zero low = (x, refl)
there_at (x ∷ xs) (suc i) low = there_at xs i (omega arith)

-- the reserved entries are enough without one request
pub fit_without : (n : ℕ) (cs : List Current) → AreFit cs → AreFit (without_number n cs)
fit_without n [] fit = tt
fit_without n (x ∷ cs) fit = by (x.number == n) (fit_without n cs fit.2)
  where
    by : (b : Bool) → AreFit (without_number n cs) → AreFit (cond b cs (x ∷ without_number n cs))
    by true rest = fit.2
    by false rest = (fit.0, fit.1, rest)

-- the due names of each request stay distinct
pub distinct_of : (n : ℕ) (cs : List Current) (c : Current) → AreDistinct cs → open_of n cs ≡ Some c → is_distinct c.due ≡ true
distinct_of n [] c all h = cc
distinct_of n (x ∷ cs) c all h = by (x.number == n) h (distinct_of n cs c all.1)
  where
    by : (b : Bool) → cond b (Some x) (open_of n cs) ≡ Some c → (open_of n cs ≡ Some c → is_distinct c.due ≡ true) → is_distinct c.due ≡ true
    by true h rest = let same : x ≡ c = cc in subst (λ (z : Current). is_distinct z.due ≡ true) same all.0
    by false h rest = rest h

pub distinct_at : (f : Current → Current) (n : ℕ) (cs : List Current) (c : Current) → AreDistinct cs → open_of n cs ≡ Some c → is_distinct (f c).due ≡ true → AreDistinct (at_number f n cs)
distinct_at f n [] c all h new = tt
distinct_at f n (x ∷ cs) c all h new = by (x.number == n) h (λ k. distinct_at f n cs c all.1 k new)
  where
    by : (b : Bool) → cond b (Some x) (open_of n cs) ≡ Some c → (open_of n cs ≡ Some c → AreDistinct (at_number f n cs)) → AreDistinct (cond b (f x ∷ cs) (x ∷ at_number f n cs))
    by true h rest = let same : x ≡ c = cc in (subst (λ (z : Current). is_distinct (f z).due ≡ true) (sym same) new, all.1)
    by false h rest = (all.0, rest h)

pub distinct_push : (cs : List Current) (c : Current) → AreDistinct cs → is_distinct c.due ≡ true → AreDistinct (cs ++ c ∷ [])
distinct_push [] c all new = (new, tt)
distinct_push (x ∷ cs) c all new = (all.0, distinct_push cs c all.1 new)

pub distinct_without : (n : ℕ) (cs : List Current) → AreDistinct cs → AreDistinct (without_number n cs)
distinct_without n [] all = tt
distinct_without n (x ∷ cs) all = by (x.number == n) (distinct_without n cs all.1)
  where
    by : (b : Bool) → AreDistinct (without_number n cs) → AreDistinct (cond b cs (x ∷ without_number n cs))
    by true rest = all.1
    by false rest = (all.0, rest)
