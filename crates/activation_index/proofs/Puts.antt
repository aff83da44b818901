-- Setting a serial's count keeps the entries in order.
use Rattle.std.proofs.Common.{◌≡◌, ◌≢◌, ℕ, ◌+◌, ◌<◌, ◌≤◌, ◌∙◌, zero, suc, Bool, true, false, ltb, eqb, List, [], ◌∷◌, length, set, get_or, refl, ap, cond, arith}
use Rattle.std.proofs.lemmas.Int.{ints}
use Rattle.std.specs.Prelude.{insert, remove, ℤ, pos, ◌+ℤ◌}
use Rattle.std.proofs.lemmas.Bool.Decides.{nat_tests}
use Rattle.activation_index.specs.declared.Entry.{Entry}
use Rattle.activation_index.specs.Counts.{count_in, with_entry, entries_for, put, place_in, IsRisingFrom, IsAt, IsNotAt}

-- a serial below all others has no count
pub count_in_new : (entries : List Entry) (least serial : ℕ) → IsRisingFrom least entries → serial < least → count_in entries serial ≡ 0
count_in_new [] least serial h lt = refl
count_in_new (e ∷ es) least serial h lt =
    let no : eqb e.serial serial ≡ false = grind (arith, nat_tests) in
    rw no (count_in_new es (e.serial + 1) serial h.2 (omega (arith, h.0)))

pub place_in_le : (entries : List Entry) (serial : ℕ) → place_in entries serial ≤ length entries
place_in_le [] serial = omega arith
place_in_le (e ∷ es) serial = elim (ltb e.serial serial) as (λ b. cond b (suc (place_in es serial)) 0 ≤ length (e ∷ es)) [ true ↦ omega (arith, place_in_le es serial) | false ↦ omega arith ]

abbrev entry_of : ℕ → ℕ → Entry
entry_of serial count = record { serial = serial; count = count }

pub is_at : (es : List Entry) (serial place : ℕ) (d : Entry) → place < length es → (get_or es place d).serial ≡ serial → IsAt es serial place
is_at [] serial place d lt h = absurd (omega arith)
is_at (e ∷ es) serial zero d lt h = h
is_at (e ∷ es) serial (suc place) d lt h = is_at es serial place d (omega arith) h

pub is_not_at : (es : List Entry) (serial place : ℕ) → ((d : Entry) → place < length es → (get_or es place d).serial ≡ serial → ⊥) → IsNotAt es serial place
is_not_at [] serial place h = tt
is_not_at (e ∷ es) serial zero h = λ k. h e (omega arith) k
is_not_at (e ∷ es) serial (suc place) h = is_not_at es serial place (λ d lt k. h d (omega arith) k)

removed_step : (e : Entry) (es : List Entry) (serial : ℕ) (b : Bool) → ltb e.serial serial ≡ b → (IsAt es serial (place_in es serial) → remove es (place_in es serial) ≡ put es serial 0) → IsAt (e ∷ es) serial (cond b (suc (place_in es serial)) 0) → remove (e ∷ es) (cond b (suc (place_in es serial)) 0) ≡ cond b (e ∷ put es serial 0) (cond (eqb e.serial serial) es (e ∷ es))
removed_step e es serial true k rest h = ap (λ xs. e ∷ xs) (rest h)
removed_step e es serial false k rest h = let same : eqb e.serial serial ≡ true = grind (arith, nat_tests) in rw same refl

pub removed : (es : List Entry) (serial : ℕ) → IsAt es serial (place_in es serial) → remove es (place_in es serial) ≡ put es serial 0
removed [] serial h = absurd h
removed (e ∷ es) serial h = removed_step e es serial (ltb e.serial serial) refl (removed es serial) h

set_step : (e : Entry) (es : List Entry) (serial count : ℕ) (b : Bool) → ltb e.serial serial ≡ b → eqb count 0 ≡ false → (IsAt es serial (place_in es serial) → set es (place_in es serial) (entry_of serial count) ≡ put es serial count) → IsAt (e ∷ es) serial (cond b (suc (place_in es serial)) 0) → set (e ∷ es) (cond b (suc (place_in es serial)) 0) (entry_of serial count) ≡ cond b (e ∷ put es serial count) (cond (eqb e.serial serial) (with_entry serial count es) (with_entry serial count (e ∷ es)))
set_step e es serial count true k some rest h = ap (λ xs. e ∷ xs) (rest h)
set_step e es serial count false k some rest h = let same : eqb e.serial serial ≡ true = grind (arith, nat_tests) in rw (same, some) refl

pub setted : (es : List Entry) (serial count : ℕ) → eqb count 0 ≡ false → IsAt es serial (place_in es serial) → set es (place_in es serial) (entry_of serial count) ≡ put es serial count
setted [] serial count some h = absurd h
setted (e ∷ es) serial count some h = set_step e es serial count (ltb e.serial serial) refl some (setted es serial count some) h

insert_step : (e : Entry) (es : List Entry) (serial count : ℕ) (b : Bool) → ltb e.serial serial ≡ b → eqb count 0 ≡ false → (IsNotAt es serial (place_in es serial) → insert es (place_in es serial) (entry_of serial count) ≡ put es serial count) → IsNotAt (e ∷ es) serial (cond b (suc (place_in es serial)) 0) → insert (e ∷ es) (cond b (suc (place_in es serial)) 0) (entry_of serial count) ≡ cond b (e ∷ put es serial count) (cond (eqb e.serial serial) (with_entry serial count es) (with_entry serial count (e ∷ es)))
insert_step e es serial count true k some rest h = ap (λ xs. e ∷ xs) (rest h)
insert_step e es serial count false k some rest h = let other : eqb e.serial serial ≡ false = grind (arith, nat_tests) in rw (other, some) refl

pub inserted : (es : List Entry) (serial count : ℕ) → eqb count 0 ≡ false → IsNotAt es serial (place_in es serial) → insert es (place_in es serial) (entry_of serial count) ≡ put es serial count
inserted [] serial count some h = rw some refl
inserted (e ∷ es) serial count some h = insert_step e es serial count (ltb e.serial serial) refl some (inserted es serial count some) h

kept_step : (e : Entry) (es : List Entry) (serial : ℕ) (b : Bool) → ltb e.serial serial ≡ b → (IsNotAt es serial (place_in es serial) → es ≡ put es serial 0) → IsNotAt (e ∷ es) serial (cond b (suc (place_in es serial)) 0) → e ∷ es ≡ cond b (e ∷ put es serial 0) (cond (eqb e.serial serial) es (e ∷ es))
kept_step e es serial true k rest h = ap (λ xs. e ∷ xs) (rest h)
kept_step e es serial false k rest h = let other : eqb e.serial serial ≡ false = grind (arith, nat_tests) in rw other refl

pub kept : (es : List Entry) (serial : ℕ) → IsNotAt es serial (place_in es serial) → es ≡ put es serial 0
kept [] serial h = refl
kept (e ∷ es) serial h = kept_step e es serial (ltb e.serial serial) refl (kept es serial) h

-- a serial without an entry at its index has no count
absent_step : (e : Entry) (es : List Entry) (least serial : ℕ) (b : Bool) → ltb e.serial serial ≡ b → IsRisingFrom least (e ∷ es) → (IsNotAt es serial (place_in es serial) → count_in es serial ≡ 0) → IsNotAt (e ∷ es) serial (cond b (suc (place_in es serial)) 0) → cond (eqb e.serial serial) e.count (count_in es serial) ≡ 0
absent_step e es least serial true k r rest h = let other : eqb e.serial serial ≡ false = grind (arith, nat_tests) in rw other (rest h)
absent_step e es least serial false k r rest h = let other : eqb e.serial serial ≡ false = grind (arith, nat_tests) in rw other (count_in_new es (e.serial + 1) serial r.2 (grind (arith, nat_tests)))

pub absent : (es : List Entry) (least serial : ℕ) → IsRisingFrom least es → IsNotAt es serial (place_in es serial) → count_in es serial ≡ 0
absent [] least serial r h = refl
absent (e ∷ es) least serial r h = absent_step e es least serial (ltb e.serial serial) refl r (absent es (e.serial + 1) serial r.2) h

count_with : (serial count q : ℕ) (es : List Entry) → count_in (with_entry serial count es) q ≡ cond (eqb count 0) (count_in es q) (cond (eqb serial q) count (count_in es q))
count_with serial count q es = elim (eqb count 0) as (λ b. count_in (cond b es (record { serial = serial; count = count } ∷ es)) q ≡ cond b (count_in es q) (cond (eqb serial q) count (count_in es q))) [ true ↦ refl | false ↦ refl ]

-- other serials keep their counts
other_step : (e : Entry) (es : List Entry) (serial count q : ℕ) (b : Bool) → (q ≡ serial → ⊥) → count_in (put es serial count) q ≡ count_in es q → count_in (cond b (e ∷ put es serial count) (cond (eqb e.serial serial) (with_entry serial count es) (with_entry serial count (e ∷ es)))) q ≡ cond (eqb e.serial q) e.count (count_in es q)
other_step e es serial count q true ne rest = ap (λ n. cond (eqb e.serial q) e.count n) rest
other_step e es serial count q false ne rest =
    let no : eqb serial q ≡ false = grind (arith, nat_tests) in
    elim (eqb e.serial serial) as (λ s. eqb e.serial serial ≡ s → count_in (cond s (with_entry serial count es) (with_entry serial count (e ∷ es))) q ≡ cond (eqb e.serial q) e.count (count_in es q)) [
      | true ↦ λ s. (let gone : eqb e.serial q ≡ false = grind (arith, nat_tests) in count_with serial count q es ∙ (rw (no, gone) (elim (eqb count 0) as (λ z. cond z (count_in es q) (count_in es q) ≡ count_in es q) [ true ↦ refl | false ↦ refl ])))
      | false ↦ λ s. count_with serial count q (e ∷ es) ∙ (rw no (elim (eqb count 0) as (λ z. cond z (count_in (e ∷ es) q) (count_in (e ∷ es) q) ≡ count_in (e ∷ es) q) [ true ↦ refl | false ↦ refl ]))
    ] refl

pub count_in_other : (entries : List Entry) (serial count q : ℕ) → (q ≡ serial → ⊥) → count_in (put entries serial count) q ≡ count_in entries q
count_in_other [] serial count q ne = let no : eqb serial q ≡ false = grind (arith, nat_tests) in count_with serial count q [] ∙ (rw no (elim (eqb count 0) as (λ z. cond z 0 0 ≡ count_in [] q) [ true ↦ refl | false ↦ refl ]))
count_in_other (e ∷ es) serial count q ne = other_step e es serial count q (ltb e.serial serial) ne (count_in_other es serial count q ne)

-- the serial has the new count
here_step : (e : Entry) (es : List Entry) (least serial count : ℕ) (b : Bool) → ltb e.serial serial ≡ b → IsRisingFrom least (e ∷ es) → count_in (put es serial count) serial ≡ count → count_in (cond b (e ∷ put es serial count) (cond (eqb e.serial serial) (with_entry serial count es) (with_entry serial count (e ∷ es)))) serial ≡ count
here_step e es least serial count true k r rest = let other : eqb e.serial serial ≡ false = grind (arith, nat_tests) in rw other rest
here_step e es least serial count false k r rest =
    let self : eqb serial serial ≡ true = grind (arith, nat_tests) in
    let last : count_in es serial ≡ 0 = count_in_new es (e.serial + 1) serial r.2 (grind (arith, nat_tests)) in
    elim (eqb e.serial serial) as (λ s. eqb e.serial serial ≡ s → count_in (cond s (with_entry serial count es) (with_entry serial count (e ∷ es))) serial ≡ count) [
      | true ↦ λ s. count_with serial count serial es ∙ (rw (self, last) (zero_or count))
      | false ↦ λ s. count_with serial count serial (e ∷ es) ∙ (rw (self, s, last) (zero_or count))
    ] refl
  where
    zero_or : (n : ℕ) → cond (eqb n 0) 0 n ≡ n
    zero_or n = grind (arith, nat_tests)

pub count_in_here : (es : List Entry) (least serial count : ℕ) → IsRisingFrom least es → count_in (put es serial count) serial ≡ count
count_in_here [] least serial count r =
    let self : eqb serial serial ≡ true = grind (arith, nat_tests) in
    count_with serial count serial [] ∙ (rw self (grind (arith, nat_tests)))
count_in_here (e ∷ es) least serial count r = here_step e es least serial count (ltb e.serial serial) refl r (count_in_here es (e.serial + 1) serial count r.2)

-- the entries stay rising
rising_later : (es : List Entry) (least more : ℕ) → more ≤ least → IsRisingFrom least es → IsRisingFrom more es
rising_later [] least more le r = tt
rising_later (e ∷ es) least more le r = (omega (arith, r.0), r.1, r.2)

rising_with : (es : List Entry) (least serial count : ℕ) → least ≤ serial → IsRisingFrom (serial + 1) es → IsRisingFrom least es → IsRisingFrom least (with_entry serial count es)
rising_with es least serial count le after all =
    elim (eqb count 0) as (λ z. eqb count 0 ≡ z → IsRisingFrom least (cond z es (record { serial = serial; count = count } ∷ es)))
    [ true ↦ λ z. all | false ↦ λ z. (le, grind (arith, nat_tests), after) ] refl

rising_step : (e : Entry) (es : List Entry) (least serial count : ℕ) (b : Bool) → ltb e.serial serial ≡ b → least ≤ serial → IsRisingFrom least (e ∷ es) → (e.serial + 1 ≤ serial → IsRisingFrom (e.serial + 1) (put es serial count)) → IsRisingFrom least (cond b (e ∷ put es serial count) (cond (eqb e.serial serial) (with_entry serial count es) (with_entry serial count (e ∷ es))))
rising_step e es least serial count true k le r rest = (r.0, r.1, rest (grind (arith, nat_tests)))
rising_step e es least serial count false k le r rest =
    elim (eqb e.serial serial) as (λ s. eqb e.serial serial ≡ s → IsRisingFrom least (cond s (with_entry serial count es) (with_entry serial count (e ∷ es)))) [
      | true ↦ λ s. rising_with es least serial count le (rising_later es (e.serial + 1) (serial + 1) (grind (arith, nat_tests)) r.2) (rising_later es (e.serial + 1) least (omega (arith, r.0)) r.2)
      | false ↦ λ s. rising_with (e ∷ es) least serial count le (grind (arith, nat_tests), r.1, r.2) r
    ] refl

pub rising_put : (es : List Entry) (least serial count : ℕ) → least ≤ serial → IsRisingFrom least es → IsRisingFrom least (put es serial count)
rising_put [] least serial count le r = rising_with [] least serial count le tt tt
rising_put (e ∷ es) least serial count le r = rising_step e es least serial count (ltb e.serial serial) refl le r (λ lt. rising_put es (e.serial + 1) serial count lt r.2)

pub is_not_past : (es : List Entry) (serial place : ℕ) → length es ≤ place → IsNotAt es serial place
is_not_past [] serial place h = tt
is_not_past (e ∷ es) serial zero h = absurd (omega arith)
is_not_past (e ∷ es) serial (suc place) h = is_not_past es serial place (omega arith)

pub is_not_here : (es : List Entry) (serial place : ℕ) (d : Entry) → place < length es → eqb (get_or es place d).serial serial ≡ false → IsNotAt es serial place
is_not_here [] serial place d lt h = tt
is_not_here (e ∷ es) serial zero d lt h = λ same. grind (arith, nat_tests)
is_not_here (e ∷ es) serial (suc place) d lt h = is_not_here es serial place d (omega arith) h

length-with_entry : (serial count : ℕ) (es : List Entry) → length (with_entry serial count es) ≡ length es + entries_for count
length-with_entry serial count es =
    elim (eqb count 0) as (λ z. length (cond z es (entry_of serial count ∷ es)) ≡ length es + cond z 0 1)
    [ true ↦ omega arith | false ↦ omega arith ]

one_entry : (count : ℕ) → 0 < count → entries_for count ≡ 1
one_entry count some = grind (arith, nat_tests)

length_step :
    (e : Entry) (es : List Entry) (least serial count : ℕ) (b : Bool) → ltb e.serial serial ≡ b
    → IsRisingFrom least (e ∷ es)
    → length (put es serial count) + entries_for (count_in es serial) ≡ length es + entries_for count
    → length (cond b (e ∷ put es serial count) (cond (eqb e.serial serial) (with_entry serial count es) (with_entry serial count (e ∷ es)))) + entries_for (count_in (e ∷ es) serial)
    ≡ length (e ∷ es) + entries_for count
length_step e es least serial count true lt r rest =
    let other : eqb e.serial serial ≡ false = grind (arith, nat_tests) in
    rw other (omega (arith, rest))
length_step e es least serial count false lt r rest =
    elim (eqb e.serial serial) as (λ s. eqb e.serial serial ≡ s → length (cond s (with_entry serial count es) (with_entry serial count (e ∷ es))) + entries_for (cond s e.count (count_in es serial)) ≡ length (e ∷ es) + entries_for count) [
      | true ↦ λ s. (let grown = length-with_entry serial count es in let one = one_entry e.count r.1 in omega arith)
      | false ↦ λ s. (let grown = length-with_entry serial count (e ∷ es) in
          let none : entries_for (count_in es serial) ≡ 0 = ap entries_for (count_in_new es (e.serial + 1) serial r.2 (grind (arith, nat_tests))) in
          omega arith)
    ] refl

-- the first count of a serial adds an entry, and a count of 0 removes one
pub length-put :
    (es : List Entry) (least serial count : ℕ) → IsRisingFrom least es
    → length (put es serial count) + entries_for (count_in es serial) ≡ length es + entries_for count
length-put [] least serial count r = let grown = length-with_entry serial count [] in omega (arith, grown)
length-put (e ∷ es) least serial count r =
    length_step e es least serial count (ltb e.serial serial) refl r (length-put es (e.serial + 1) serial count r.2)

few_by : (now was old count n : ℕ) → now + entries_for old ≡ was + entries_for count → was ≤ n → (old ≡ 0 → count ≢ 0 → was < n) → now ≤ n
few_by now was zero zero n e le room = omega (arith, e, le)
few_by now was zero (suc count) n e le room =
    let wide = room refl (λ h. omega (arith, h)) in let one = one_entry (suc count) (omega arith) in omega (arith, e, wide, one)
few_by now was (suc old) zero n e le room = let one = one_entry (suc old) (omega arith) in omega (arith, e, le, one)
few_by now was (suc old) (suc count) n e le room =
    let one = one_entry (suc old) (omega arith) in let also = one_entry (suc count) (omega arith) in omega (arith, e, le, one, also)

pub few_put :
    (es : List Entry) (least serial count n : ℕ) → IsRisingFrom least es → length es ≤ n
    → (count_in es serial ≡ 0 → count ≢ 0 → length es < n) → length (put es serial count) ≤ n
few_put es least serial count n r le room =
    few_by (length (put es serial count)) (length es) (count_in es serial) count n (length-put es least serial count r) le room

-- a serial gets its first count only if the addend isn't 0
pub room_for :
    (es : List Entry) (serial count slots : ℕ) (by : ℤ) → pos count ≡ pos (count_in es serial) +ℤ by
    → (count_in es serial ≡ 0 → by ≢ pos 0 → length es < slots)
    → count_in es serial ≡ 0 → count ≢ 0 → length es < slots
room_for es serial count slots by sum room none some = room none (λ still. some (omega (arith, ints, sum, none, still)))
