-- Lists of distinct names.
use Rattle.std.proofs.Common.{◌≡◌, ◌≢◌, ℕ, zero, suc, ◌<◌, ◌≤◌, ◌+◌, Bool, true, false, not, cond, List, [], ◌∷◌, length, get_or, refl, sym, ap, ◌∙◌, arith}
use Rattle.std.specs.Prelude.{◌&&◌, ◌||◌, ◌==◌, nat_le, filter, drop}
use Rattle.std.specs.List.{remove}
use Rattle.std.proofs.lemmas.Bool.{and_parts, eq-eqb, ne_eqb}
use Rattle.std.proofs.lemmas.Bool.Decides.{nat_tests}
use Rattle.operations.specs.declared.Request.{Request}
use Rattle.operations.specs.declared.Request.TheVariants.{Handshake, Census}
use Rattle.operations.specs.Names.{among, is_distinct}
use Rattle.operations.specs.Requests.{are_targets}
use Rattle.operations.proofs.Names.{listed_at}
use Rattle.desk.specs.Machine.{others, steps_of, targets_of}

or_none : (a b : Bool) → (a || b) ≡ false → (a ≡ false) × (b ≡ false)
or_none false b h = (refl, h)
or_none true b h = cc

is_not : (b : Bool) → not b ≡ true → b ≡ false
is_not false h = refl
is_not true h = cc

-- a name that isn't in the list isn't in a part of it
not_in_part : (p : ℕ → Bool) (n : ℕ) (ns : List ℕ) → among n ns ≡ false → among n (filter p ns) ≡ false
not_in_part p n [] h = refl
not_in_part p n (x ∷ xs) h = let parts = or_none (x == n) (among n xs) h in by (p x) parts.0 (not_in_part p n xs parts.1)
  where
    by : (b : Bool) → (x == n) ≡ false → among n (filter p xs) ≡ false → among n (cond b (x ∷ filter p xs) (filter p xs)) ≡ false
    by true here rest = ap (λ b. b || among n (filter p xs)) here ∙ rest
    by false here rest = rest

pub distinct_part : (p : ℕ → Bool) (ns : List ℕ) → is_distinct ns ≡ true → is_distinct (filter p ns) ≡ true
distinct_part p [] h = refl
distinct_part p (x ∷ xs) h =
    let parts = and_parts (not (among x xs)) (is_distinct xs) h in
    by (p x) (not_in_part p x xs (is_not (among x xs) parts.0)) (distinct_part p xs parts.1)
  where
    by : (b : Bool) → among x (filter p xs) ≡ false → is_distinct (filter p xs) ≡ true → is_distinct (cond b (x ∷ filter p xs) (filter p xs)) ≡ true
    by true here rest = ap (λ b. not b && is_distinct (filter p xs)) here ∙ rest
    by false here rest = rest

-- removing an absent name changes nothing
pub none_off : (name : ℕ) (ns : List ℕ) → among name ns ≡ false → ns ≡ others name ns
none_off name [] h = refl
none_off name (x ∷ xs) h =
    let parts = or_none (x == name) (among name xs) h in
    ap (λ l. x ∷ l) (none_off name xs parts.1) ∙ sym (ap (λ b. cond (not b) (x ∷ others name xs) (others name xs)) parts.0)

-- removing the name at its index leaves the others
pub one_off : (name i : ℕ) (ns : List ℕ) → is_distinct ns ≡ true → i < length ns → get_or ns i 0 ≡ name → remove ns i ≡ others name ns
one_off name i [] h low here = absurd (omega arith)
one_off name zero (x ∷ xs) h low here =
    let parts = and_parts (not (among x xs)) (is_distinct xs) h in
    let none : among name xs ≡ false = ap (λ n. among n xs) (sym here) ∙ is_not (among x xs) parts.0 in
    none_off name xs none ∙ sym (ap (λ b. cond (not b) (x ∷ others name xs) (others name xs)) (eq-eqb x name here))
one_off name (suc i) (x ∷ xs) h low here =
    let parts = and_parts (not (among x xs)) (is_distinct xs) h in
    let below : i < length xs = omega arith in
    let there : among name xs ≡ true = listed_at name xs i 0 below (eq-eqb (get_or xs i 0) name here) in
    let none : among x xs ≡ false = is_not (among x xs) parts.0 in
    let ne : x ≢ name = λ e. (let k : among name xs ≡ false = ap (λ n. among n xs) (sym e) ∙ none in cc) in
    ap (λ l. x ∷ l) (one_off name i xs parts.1 below here)
    ∙ sym (ap (λ b. cond (not b) (x ∷ others name xs) (others name xs)) (ne_eqb x name ne))

-- a name at no index isn't in the list
pub none_among : (name : ℕ) (ns : List ℕ) → ((k : ℕ) → k < length ns → get_or ns k 0 ≢ name) → among name ns ≡ false
none_among name [] none = refl
none_among name (x ∷ xs) none =
    ap (λ b. b || among name xs) (ne_eqb x name (none 0 (omega arith))) ∙ none_among name xs (λ k low. none (suc k) (omega arith))

-- valid targets are distinct
pub targets_distinct : (r : Request) → are_targets r ≡ true → is_distinct (targets_of r) ≡ true
targets_distinct Census h = refl
targets_distinct (Handshake targets ask) h = (and_parts _ (is_distinct targets) h).1

-- valid targets are few, and so are the entries between Open and Close
pub few_steps : (r : Request) → are_targets r ≡ true → steps_of r ≤ 64
few_steps Census h = omega arith
few_steps (Handshake targets ask) h = at_most (length targets) (and_parts _ (is_distinct targets) h).0
  where
    at_most : (n : ℕ) → nat_le n 64 ≡ true → n ≤ 64
    at_most n h = grind (arith, nat_tests)

-- the list after the first g names, without the name at an index
pub drop_remove : (ns : List ℕ) (g i j : ℕ) → g ≤ length ns → j ≡ g + i → drop g (remove ns j) ≡ remove (drop g ns) i
drop_remove ns zero i j low is = let same : j ≡ i = omega arith in ap (remove ns) same
drop_remove [] (suc g) i j low is = absurd (omega arith)
drop_remove (x ∷ xs) (suc g) i zero low is = absurd (omega arith)
drop_remove (x ∷ xs) (suc g) i (suc j) low is = drop_remove xs g i j (omega arith) (omega arith)

-- if the name after the first g names is this one, the others follow it
pub first_off : (name : ℕ) (ns : List ℕ) (g j d : ℕ) → j ≡ g + 1 → is_distinct (drop g ns) ≡ true → g < length ns → get_or ns g d ≡ name → drop j ns ≡ others name (drop g ns)
first_off name [] g j d is h low here = absurd (omega arith)
first_off name (x ∷ xs) zero zero d is h low here = absurd (omega arith)
first_off name (x ∷ xs) zero (suc zero) d is h low here = one_off name 0 (x ∷ xs) h (omega arith) here
first_off name (x ∷ xs) zero (suc (suc j)) d is h low here = absurd (omega arith)
first_off name (x ∷ xs) (suc g) zero d is h low here = absurd (omega arith)
first_off name (x ∷ xs) (suc g) (suc j) d is h low here = first_off name xs g j d (omega arith) h (omega arith) here
