-- Bodies of different places are no more than there are places; and what becomes of them as one comes, goes or changes.
use Rattle.std.proofs.Common.{◌≡◌, ◌≢◌, ◌<◌, ◌≤◌, ◌*◌, ◌%◌, ◌^◌, ℕ, zero, suc, Bool, true, false, not, List, [], ◌∷◌, ◌++◌, Some, None, length, refl, sym, ap, ◌∙◌, subst, arith}
use Rattle.std.specs.Prelude.{◌==◌, ◌||◌, cond, filter, slice_get, slice_set}
use Rattle.std.specs.List.{list_any, remove}
use Rattle.std.proofs.lemmas.Bool.Decides.{nat_tests}
use Rattle.bodies.specs.Bodies.{BodyView}
use Rattle.stopped_threads.specs.Held.{is_held, AreHeld, AreAmong}
use Rattle.std.proofs.lemmas.Nat.Bits.{bit_at_set_same, bit_at_set_other}
use Rattle.std.specs.Int.{bit_at, w64}
use Rattle.std.specs.Int.Bits.{bit_or}
use mathlib.Core.Logic.{dite}
use native.Mathlib.Decide.{ℕ_discrete}

same : (a b : ℕ) → (a == b) ≡ true → a ≡ b
same a b e = grind (arith, nat_tests)

apart : (a b : ℕ) → a ≢ b → (a == b) ≡ false
apart a b e = grind (arith, nat_tests)

differ : (a b : ℕ) → (a == b) ≡ false → a ≢ b
differ a b e = grind (arith, nat_tests)

or_false : (a b : Bool) → (a || b) ≡ false → (a ≡ false) × (b ≡ false)
or_false true b e = cc
or_false false b e = (refl, e)

neither : (a b : Bool) → a ≡ false → b ≡ false → (a || b) ≡ false
neither a b p q = ap (λ x. x || b) p ∙ q

-- No body is of the place where none at an index is.
pub none_there : (place : ℕ) (bs : List BodyView) → ((k : ℕ) (b : BodyView) → slice_get bs k ≡ Some b → b.seat.place ≢ place) → is_held place bs ≡ false
none_there place [] f = refl
none_there place (b ∷ bs) f = neither _ _ (apart b.seat.place place (f 0 b refl)) (none_there place bs (λ k c h. f (suc k) c h))

-- Numbers below a bound, no two the same.
abbrev AreApart : ℕ → List ℕ → Type 0
AreApart n [] = Unit {0}
AreApart n (x ∷ xs) = (x < n) × (list_any (λ y. y == x) xs ≡ false) × AreApart n xs

abbrev without : ℕ → List ℕ → List ℕ
without m xs = filter (λ x. not (x == m)) xs

any_without : (p : ℕ → Bool) (m : ℕ) (xs : List ℕ) → list_any p xs ≡ false → list_any p (without m xs) ≡ false
any_without p m [] e = refl
any_without p m (x ∷ xs) e =
    let q = or_false _ _ e in
    let r = any_without p m xs q.1 in
    elim (x == m) as (λ b. list_any p (cond (not b) (x ∷ without m xs) (without m xs)) ≡ false) [ true ↦ r | false ↦ (neither _ _ q.0 r) ]

without_apart : (m : ℕ) (xs : List ℕ) → AreApart (suc m) xs → AreApart m (without m xs)
without_apart m [] a = tt
without_apart m (x ∷ xs) a =
    let r = without_apart m xs a.2 in
    (elim (x == m) as (λ b. (x == m) ≡ b → AreApart m (cond (not b) (x ∷ without m xs) (without m xs))) [
      | true ↦ λ e. r
      | false ↦ λ e. ((let d = differ x m e in let low = a.0 in omega arith), any_without (λ y. y == x) m xs a.1, r)
    ]) refl

-- Where the number isn't there nothing is left out.
without_none : (m : ℕ) (xs : List ℕ) → list_any (λ y. y == m) xs ≡ false → length (without m xs) ≡ length xs
without_none m [] e = refl
without_none m (x ∷ xs) e =
    let q = or_false _ _ e in
    ap (λ b. length (cond (not b) (x ∷ without m xs) (without m xs))) q.0 ∙ ap suc (without_none m xs q.1)

-- Of different numbers at most one is left out.
without_one : (n m : ℕ) (xs : List ℕ) → AreApart n xs → length xs ≤ suc (length (without m xs))
without_one n m [] a = omega arith
without_one n m (x ∷ xs) a =
    let r = without_one n m xs a.2 in
    (elim (x == m) as (λ b. (x == m) ≡ b → suc (length xs) ≤ suc (length (cond (not b) (x ∷ without m xs) (without m xs)))) [
      | true ↦ λ e. (let k = without_none m xs (subst (λ z. list_any (λ y. y == z) xs ≡ false) (same x m e) a.1) in omega arith)
      | false ↦ λ e. (omega arith)
    ]) refl

few : (n : ℕ) (xs : List ℕ) → AreApart n xs → length xs ≤ n
few zero [] a = omega arith
few zero (x ∷ xs) a = absurd (let low = a.0 in omega arith)
few (suc m) xs a =
    let r = few m (without m xs) (without_apart m xs a) in
    let k = without_one (suc m) m xs a in
    omega arith

abbrev places_of : List BodyView → List ℕ
places_of [] = []
places_of (b ∷ bs) = b.seat.place ∷ places_of bs

places_count : (bs : List BodyView) → length (places_of bs) ≡ length bs
places_count [] = refl
places_count (b ∷ bs) = ap suc (places_count bs)

places_any : (p : ℕ → Bool) (bs : List BodyView) → list_any p (places_of bs) ≡ list_any (λ b. p b.seat.place) bs
places_any p [] = refl
places_any p (b ∷ bs) = ap (λ x. p b.seat.place || x) (places_any p bs)

places_apart : (n : ℕ) (bs : List BodyView) → AreHeld n bs → AreApart n (places_of bs)
places_apart n [] h = tt
places_apart n (b ∷ bs) h = (h.0, places_any (λ y. y == b.seat.place) bs ∙ h.3, places_apart n bs h.4)

-- There are no more held bodies than places.
pub few_held : (n : ℕ) (bs : List BodyView) → AreHeld n bs → length bs ≤ n
few_held n bs h =
    let k = few n (places_of bs) (places_apart n bs h) in
    let c = places_count bs in
    omega arith

-- Where another body can come there is room for it.
pub room : (n : ℕ) (b : BodyView) (bs : List BodyView) → AreHeld n bs → b.seat.place < n → is_held b.seat.place bs ≡ false → length bs < n
room n b bs h low e =
    let a : AreApart n (b.seat.place ∷ places_of bs) = (low, places_any (λ y. y == b.seat.place) bs ∙ e, places_apart n bs h) in
    let k = few n (b.seat.place ∷ places_of bs) a in
    let c = places_count bs in
    omega arith

held_pushed : (place : ℕ) (bs : List BodyView) (b : BodyView) → is_held place bs ≡ false → b.seat.place ≢ place → is_held place (bs ++ b ∷ []) ≡ false
held_pushed place [] b e d = neither _ _ (apart _ _ d) refl
held_pushed place (c ∷ bs) b e d = let q = or_false _ _ e in neither _ _ q.0 (held_pushed place bs b q.1 d)

-- Another body comes.
pub pushed : (n : ℕ) (bs : List BodyView) (b : BodyView) → AreHeld n bs → b.seat.place < n → 0 < b.name → b.seat.stored ≢ 0 → is_held b.seat.place bs ≡ false → AreHeld n (bs ++ b ∷ [])
pushed n [] b h low name stored e = (low, name, stored, refl, tt)
pushed n (c ∷ bs) b h low name stored e =
    let q = or_false _ _ e in
    (h.0, h.1, h.2, held_pushed c.seat.place bs b h.3 (λ k. differ c.seat.place b.seat.place q.0 (sym k)), pushed n bs b h.4 low name stored q.1)

held_removed : (place : ℕ) (bs : List BodyView) (i : ℕ) → is_held place bs ≡ false → is_held place (remove bs i) ≡ false
held_removed place [] zero e = e
held_removed place [] (suc i) e = e
held_removed place (b ∷ bs) zero e = (or_false _ _ e).1
held_removed place (b ∷ bs) (suc i) e = let q = or_false _ _ e in neither _ _ q.0 (held_removed place bs i q.1)

-- A body goes.
pub removed : (n : ℕ) (bs : List BodyView) (i : ℕ) → AreHeld n bs → AreHeld n (remove bs i)
removed n [] zero h = h
removed n [] (suc i) h = h
removed n (b ∷ bs) zero h = h.4
removed n (b ∷ bs) (suc i) h = (h.0, h.1, h.2, held_removed b.seat.place bs i h.3, removed n bs i h.4)

-- What is known of each.
pub known : (n : ℕ) (bs : List BodyView) (i : ℕ) (b : BodyView) → AreHeld n bs → slice_get bs i ≡ Some b → (0 < b.name) × (b.seat.stored ≢ 0) × (b.seat.place < n)
known n [] i b h e = absurd (let k : None ≡ Some b = e in cc)
known n (c ∷ bs) zero b h e = let k : c ≡ b = cc in subst (λ (x : BodyView). (0 < x.name) × (x.seat.stored ≢ 0) × (x.seat.place < n)) k (h.1, h.2, h.0)
known n (c ∷ bs) (suc i) b h e = known n bs i b h.4 e

held_set : (place : ℕ) (bs : List BodyView) (i : ℕ) (a b : BodyView) → slice_get bs i ≡ Some a → b.seat.place ≡ a.seat.place → is_held place (slice_set bs i b) ≡ is_held place bs
held_set place [] i a b e p = refl
held_set place (c ∷ bs) zero a b e p = let k : c ≡ a = cc in ap (λ x. (x == place) || is_held place bs) (p ∙ ap (λ (x : BodyView). x.seat.place) (sym k))
held_set place (c ∷ bs) (suc i) a b e p = ap (λ x. (c.seat.place == place) || x) (held_set place bs i a b e p)

-- A body changes, and keeps its place and its name.
pub changed : (n : ℕ) (bs : List BodyView) (i : ℕ) (a b : BodyView) → AreHeld n bs → slice_get bs i ≡ Some a → b.seat.place ≡ a.seat.place → b.name ≡ a.name → b.seat.stored ≢ 0 → AreHeld n (slice_set bs i b)
changed n [] i a b h e p m s = h
changed n (c ∷ bs) zero a b h e p m s =
    let k : c ≡ a = cc in
    let same_place : b.seat.place ≡ c.seat.place = p ∙ ap (λ (x : BodyView). x.seat.place) (sym k) in
    let same_name : b.name ≡ c.name = m ∙ ap (λ (x : BodyView). x.name) (sym k) in
    (subst (λ x. x < n) (sym same_place) h.0, subst (λ x. 0 < x) (sym same_name) h.1, s, subst (λ x. is_held x bs ≡ false) (sym same_place) h.3, h.4)
changed n (c ∷ bs) (suc i) a b h e p m s = (h.0, h.1, h.2, held_set c.seat.place bs i a b e p ∙ h.3, changed n bs i a b h.4 e p m s)

-- What is left as the last goes.
held_front : (place : ℕ) (xs ys : List BodyView) → is_held place (xs ++ ys) ≡ false → is_held place xs ≡ false
held_front place [] ys e = refl
held_front place (b ∷ xs) ys e = let q = or_false _ _ e in neither _ _ q.0 (held_front place xs ys q.1)

pub front : (n : ℕ) (xs ys : List BodyView) → AreHeld n (xs ++ ys) → AreHeld n xs
front n [] ys h = tt
front n (b ∷ xs) ys h = (h.0, h.1, h.2, held_front b.seat.place xs ys h.3, front n xs ys h.4)

-- What the bits say of the places stays true.
pub among_pushed : (bits : ℕ) (bs : List BodyView) (b : BodyView) → b.seat.place < 64 → AreAmong bits bs → AreAmong (bit_or bits (1 * 2 ^ b.seat.place % 2 ^ 64)) (bs ++ b ∷ [])
among_pushed bits bs b low a place few clear = dite (ℕ_discrete b.seat.place place)
    (λ e. absurd (let set : bit_at (bit_or bits (1 * 2 ^ b.seat.place % 2 ^ 64)) b.seat.place ≡ 1 = bit_at_set_same w64 bits b.seat.place low in
    let zero_there : bit_at (bit_or bits (1 * 2 ^ b.seat.place % 2 ^ 64)) b.seat.place ≡ 0 = subst (λ p. bit_at (bit_or bits (1 * 2 ^ b.seat.place % 2 ^ 64)) p ≡ 0) (sym e) clear in omega (arith, set, zero_there)))
    (λ ne. held_pushed place bs b (a place few (sym (bit_at_set_other w64 bits b.seat.place low place (λ e. ne (sym e))) ∙ clear)) ne)

pub among_removed : (bits : ℕ) (bs : List BodyView) (i : ℕ) → AreAmong bits bs → AreAmong bits (remove bs i)
among_removed bits bs i a place few clear = held_removed place bs i (a place few clear)

pub among_set : (bits : ℕ) (bs : List BodyView) (i : ℕ) (b c : BodyView) → AreAmong bits bs → slice_get bs i ≡ Some b → c.seat.place ≡ b.seat.place → AreAmong bits (slice_set bs i c)
among_set bits bs i b c a e p place few clear = held_set place bs i b c e p ∙ a place few clear

pub among_front : (bits : ℕ) (xs ys : List BodyView) → AreAmong bits (xs ++ ys) → AreAmong bits xs
among_front bits xs ys a place few clear = held_front place xs ys (a place few clear)

pub among_none : (bits : ℕ) (xs : List BodyView) → xs ≡ [] → AreAmong bits xs
among_none bits xs e place few clear = ap (is_held place) e

pub last : (n : ℕ) (xs : List BodyView) (b : BodyView) → AreHeld n (xs ++ b ∷ []) → (0 < b.name) × (b.seat.stored ≢ 0) × (b.seat.place < n)
last n [] b h = (h.1, h.2, h.0)
last n (c ∷ xs) b h = last n xs b h.4
