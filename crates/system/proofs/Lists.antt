-- Items of lists by index, after a map, a push or a search.
use Rattle.std.proofs.Common.{◌≡◌, ◌⊎◌, ℕ, zero, suc, ◌+◌, ◌<◌, ◌≤◌, Bool, true, false, cond, List, [], ◌∷◌, ◌++◌, length, map, Some, None, sym, refl, ap, ◌∙◌, inl, inr, ⊎_elim, subst, arith}
use Rattle.std.specs.Prelude.{slice_get, option_map, find, ◌||◌, ◌&&◌, filter}
use Rattle.std.specs.List.{list_any, list_all, position, position_from, remove}
use Rattle.std.proofs.lemmas.Iterator.Adapters.{position_from-zero}
use Rattle.std.proofs.lemmas.Bool.{false≢true, or_parts, and_parts, cases_lt}
use Rattle.method_table.specs.Numbers.{below}

-- The source of an item of a mapped list.
pub record IsImage {A B : Type 0} (f : A → B) (xs : List A) (i : ℕ) (y : B) : Type 0 where
  pub before : A
  pub at : slice_get xs i ≡ Some before
  pub is : f before ≡ y

-- The items of a mapped list.
pub map_at : {A B : Type 0} (f : A → B) (xs : List A) (i : ℕ) (y : B) → slice_get (map f xs) i ≡ Some y → IsImage f xs i y
map_at f [] i y h = cc
map_at f (x ∷ xs) zero y h = let e : f x ≡ y = cc in record { before = x; at = refl; is = e }
map_at f (x ∷ xs) (suc i) y h = let r = map_at f xs i y h in record { before = r.before; at = r.at; is = r.is }

-- The items of a list after a push.
pub push_at : {A : Type 0} (xs : List A) (y : A) (i : ℕ) (x : A) → slice_get (xs ++ y ∷ []) i ≡ Some x → (slice_get xs i ≡ Some x) ⊎ ((i ≡ length xs) × (y ≡ x))
push_at [] y zero x h = let e : y ≡ x = cc in inr (refl, e)
push_at [] y (suc i) x h = cc
push_at (z ∷ xs) y zero x h = inl h
push_at (z ∷ xs) y (suc i) x h = ⊎_elim (λ a. inl a) (λ b. inr (ap suc b.0, b.1)) (push_at xs y i x h)

pub push_low : {A : Type 0} (xs : List A) (y : A) (i : ℕ) (x : A) → slice_get xs i ≡ Some x → slice_get (xs ++ y ∷ []) i ≡ Some x
push_low [] y i x h = cc
push_low (z ∷ xs) y zero x h = h
push_low (z ∷ xs) y (suc i) x h = push_low xs y i x h

pub push_length : {A : Type 0} (xs : List A) (y : A) → length (xs ++ y ∷ []) ≡ length xs + 1
push_length [] y = refl
push_length (x ∷ xs) y = let r = push_length xs y in omega arith

pub map_length : {A B : Type 0} (f : A → B) (xs : List A) → length (map f xs) ≡ length xs
map_length f [] = refl
map_length f (x ∷ xs) = ap suc (map_length f xs)

pub at_low : {A : Type 0} (xs : List A) (i : ℕ) (x : A) → slice_get xs i ≡ Some x → i < length xs
at_low [] i x h = cc
at_low (y ∷ ys) zero x h = omega arith
at_low (y ∷ ys) (suc i) x h = let r = at_low ys i x h in omega arith

pub same_at : {A : Type 0} (xs : List A) (i : ℕ) (x y : A) → slice_get xs i ≡ Some x → slice_get xs i ≡ Some y → x ≡ y
same_at xs i x y h k = cc

-- The result of a search.
pub found_passes : {A : Type 0} (test : A → Bool) (xs : List A) (x : A) → find test xs ≡ Some x → test x ≡ true
found_passes test [] x h = cc
found_passes test (y ∷ ys) x h = by (test y) refl h (found_passes test ys x)
  where
    by : (b : Bool) → test y ≡ b → cond b (Some y) (find test ys) ≡ Some x → (find test ys ≡ Some x → test x ≡ true) → test x ≡ true
    by true e k rest = let same : y ≡ x = cc in ap test (sym same) ∙ e
    by false e k rest = rest k

pub find_place : {A : Type 0} (test : A → Bool) (xs : List A) (x : A) → find test xs ≡ Some x → (i : ℕ) × (slice_get xs i ≡ Some x)
find_place test [] x h = cc
find_place test (y ∷ ys) x h = by (test y) h (find_place test ys x)
  where
    by : (b : Bool) → cond b (Some y) (find test ys) ≡ Some x → (find test ys ≡ Some x → (i : ℕ) × (slice_get ys i ≡ Some x)) → (i : ℕ) × (slice_get (y ∷ ys) i ≡ Some x)
    by true k rest = (0, k)
    by false k rest = let r = rest k in (suc r.0, r.1)

pub find_none_at : {A : Type 0} (test : A → Bool) (xs : List A) (i : ℕ) (x : A) → find test xs ≡ None → slice_get xs i ≡ Some x → test x ≡ false
find_none_at {A = A} test [] i x h k = cc
find_none_at {A = A} test (y ∷ ys) i x h k = by (test y) refl h i k (find_none_at test ys)
  where
    by : (b : Bool) → test y ≡ b → cond b (Some y) (find test ys) ≡ None → (i : ℕ) → slice_get (y ∷ ys) i ≡ Some x → ((i : ℕ) (x : A) → find test ys ≡ None → slice_get ys i ≡ Some x → test x ≡ false) → test x ≡ false
    by true e n i k rest = cc
    by false e n zero k rest = let same : y ≡ x = cc in ap test (sym same) ∙ e
    by false e n (suc i) k rest = rest i x n k

-- The index of the first item that passes, counted from k.
place_found : {A : Type 0} (test : A → Bool) (k : ℕ) (xs : List A) (i : ℕ) → position_from test k xs ≡ Some i → (j : ℕ) × (i ≡ k + j) × (x : A) × (slice_get xs j ≡ Some x) × (find test xs ≡ Some x)
place_found test k [] i h = cc
place_found {A = A} test k (y ∷ ys) i h = by (test y) h (place_found test (k + 1) ys i)
  where
    by : (b : Bool) → cond b (Some k) (position_from test (k + 1) ys) ≡ Some i → (position_from test (k + 1) ys ≡ Some i → (j : ℕ) × (i ≡ k + 1 + j) × (x : A) × (slice_get ys j ≡ Some x) × (find test ys ≡ Some x))
        → (j : ℕ) × (i ≡ k + j) × (x : A) × (slice_get (y ∷ ys) j ≡ Some x) × (cond b (Some y) (find test ys) ≡ Some x)
    by true e rest = (0, (let is : k ≡ i = cc in omega arith), y, refl, refl)
    by false e rest = let r = rest e in (suc r.0, (let is = r.1 in omega arith), r.2, r.3, r.4)

pub position_found : {A : Type 0} (test : A → Bool) (xs : List A) (i : ℕ) → position test xs ≡ Some i → (x : A) × (slice_get xs i ≡ Some x) × (find test xs ≡ Some x)
position_found test xs i h =
    let r = place_found test 0 xs i (sym (position_from-zero test xs) ∙ h) in
    let is : r.0 ≡ i = (let e = r.1 in omega arith) in (r.2, subst (λ j. slice_get xs j ≡ Some r.2) is r.3, r.4)

no_place : {A : Type 0} (test : A → Bool) (k : ℕ) (xs : List A) → position_from test k xs ≡ None → find test xs ≡ None
no_place test k [] h = refl
no_place {A = A} test k (y ∷ ys) h = by (test y) h (no_place test (k + 1) ys)
  where
    by : (b : Bool) → cond b (Some k) (position_from test (k + 1) ys) ≡ None → (position_from test (k + 1) ys ≡ None → find test ys ≡ None) → cond b (Some y) (find test ys) ≡ None
    by true e rest = cc
    by false e rest = rest e

pub position_none : {A : Type 0} (test : A → Bool) (xs : List A) → position test xs ≡ None → find test xs ≡ None
position_none test xs h = no_place test 0 xs (sym (position_from-zero test xs) ∙ h)

pub find_map : {A : Type 0} (test : A → Bool) (f : A → A) (xs : List A) → ((x : A) → test (f x) ≡ test x) → find test (map f xs) ≡ option_map f (find test xs)
find_map test f [] h = refl
find_map test f (x ∷ xs) h = (let e = h x in rw e refl) ∙ by (test x) (find_map test f xs h)
  where
    by : (b : Bool) → find test (map f xs) ≡ option_map f (find test xs) → cond b (Some (f x)) (find test (map f xs)) ≡ option_map f (cond b (Some x) (find test xs))
    by true r = refl
    by false r = r

pub find_push : {A : Type 0} (test : A → Bool) (xs : List A) (y x : A) → find test xs ≡ Some x → find test (xs ++ y ∷ []) ≡ Some x
find_push test [] y x h = cc
find_push test (z ∷ zs) y x h = by (test z) h (find_push test zs y x)
  where
    by : (b : Bool) → cond b (Some z) (find test zs) ≡ Some x → (find test zs ≡ Some x → find test (zs ++ y ∷ []) ≡ Some x) → cond b (Some z) (find test (zs ++ y ∷ [])) ≡ Some x
    by true k rest = k
    by false k rest = rest k

pub find_push_none : {A : Type 0} (test : A → Bool) (xs : List A) (y : A) → find test xs ≡ None → find test (xs ++ y ∷ []) ≡ cond (test y) (Some y) None
find_push_none test [] y h = refl
find_push_none test (z ∷ zs) y h = by (test z) h (find_push_none test zs y)
  where
    by : (b : Bool) → cond b (Some z) (find test zs) ≡ None → (find test zs ≡ None → find test (zs ++ y ∷ []) ≡ cond (test y) (Some y) None) → cond b (Some z) (find test (zs ++ y ∷ [])) ≡ cond (test y) (Some y) None
    by true k rest = cc
    by false k rest = rest k

-- The index of an item that passes, or none passes.
pub any_none_at : {A : Type 0} (test : A → Bool) (xs : List A) (i : ℕ) (x : A) → list_any test xs ≡ false → slice_get xs i ≡ Some x → test x ≡ false
any_none_at test [] i x h k = cc
any_none_at test (y ∷ ys) zero x h k = let e : test y ≡ false = (or_parts (test y) (list_any test ys) h).0 in let same : y ≡ x = cc in ap test (sym same) ∙ e
any_none_at test (y ∷ ys) (suc i) x h k = any_none_at test ys i x (or_parts (test y) (list_any test ys) h).1 k

pub any_at : {A : Type 0} (test : A → Bool) (xs : List A) → list_any test xs ≡ true → (i : ℕ) × (x : A) × (slice_get xs i ≡ Some x) × (test x ≡ true)
any_at {A = A} test [] h = absurd (false≢true h)
any_at {A = A} test (y ∷ ys) h = by (test y) refl h (any_at test ys)
  where
    by : (b : Bool) → test y ≡ b → (b || list_any test ys) ≡ true → (list_any test ys ≡ true → (i : ℕ) × (x : A) × (slice_get ys i ≡ Some x) × (test x ≡ true)) → (i : ℕ) × (x : A) × (slice_get (y ∷ ys) i ≡ Some x) × (test x ≡ true)
    by true e k rest = (0, y, refl, e)
    by false e k rest = let r = rest k in (suc r.0, r.1, r.2, r.3)

pub any_here : {A : Type 0} (test : A → Bool) (xs : List A) (i : ℕ) (x : A) → slice_get xs i ≡ Some x → test x ≡ true → list_any test xs ≡ true
any_here test [] i x h k = cc
any_here test (y ∷ ys) zero x h k = let same : y ≡ x = cc in let e : test y ≡ true = ap test same ∙ k in rw e refl
any_here test (y ∷ ys) (suc i) x h k = by (test y) (any_here test ys i x h k)
  where
    by : (b : Bool) → list_any test ys ≡ true → (b || list_any test ys) ≡ true
    by true r = refl
    by false r = r

pub all_at : {A : Type 0} (test : A → Bool) (xs : List A) (i : ℕ) (x : A) → list_all test xs ≡ true → slice_get xs i ≡ Some x → test x ≡ true
all_at test [] i x h k = cc
all_at test (y ∷ ys) zero x h k = let e = (and_parts (test y) (list_all test ys) h).0 in let same : y ≡ x = cc in ap test (sym same) ∙ e
all_at test (y ∷ ys) (suc i) x h k = all_at test ys i x (and_parts (test y) (list_all test ys) h).1 k

-- The numbers below n.
pub below_low : (n i x : ℕ) → slice_get (below n) i ≡ Some x → x < n
below_low zero i x h = cc
below_low (suc n) i x h = ⊎_elim (λ a. (let r = below_low n i x a in omega arith)) (λ b. (let e = b.1 in omega arith)) (push_at (below n) n i x h)

pub push_here : {A : Type 0} (xs : List A) (y : A) → slice_get (xs ++ y ∷ []) (length xs) ≡ Some y
push_here [] y = refl
push_here (x ∷ xs) y = push_here xs y

below_length : (n : ℕ) → length (below n) ≡ n
below_length zero = refl
below_length (suc n) = let r = below_length n in push_length (below n) n ∙ (omega arith)

pub below_has : (n x : ℕ) → x < n → slice_get (below n) x ≡ Some x
below_has zero x h = absurd (omega arith)
below_has (suc n) x h = ⊎_elim (λ low. push_low (below n) n x x (below_has n x low))
    (λ high. let same : length (below n) ≡ x = (let r = below_length n in omega arith) in let is : n ≡ x = (let r = below_length n in omega arith) in
    subst (λ m. slice_get (below n ++ n ∷ []) m ≡ Some x) same (push_here (below n) n ∙ ap Some is))
    (cases_lt x n)

-- The index of an item that passes.
pub record Passes {A : Type 0} (test : A → Bool) (xs : List A) (x : A) : Type 0 where
  pub from : ℕ
  pub at : slice_get xs from ≡ Some x
  pub passes : test x ≡ true

-- The items of a filtered list.
pub filter_at : {A : Type 0} (test : A → Bool) (xs : List A) (i : ℕ) (x : A) → slice_get (filter test xs) i ≡ Some x → Passes test xs x
filter_at {A = A} test [] i x h = cc
filter_at {A = A} test (y ∷ ys) i x h = by (test y) refl i h (filter_at test ys)
  where
    by : (b : Bool) → test y ≡ b → (i : ℕ) → slice_get (cond b (y ∷ filter test ys) (filter test ys)) i ≡ Some x
        → ((i : ℕ) (x : A) → slice_get (filter test ys) i ≡ Some x → Passes test ys x) → Passes test (y ∷ ys) x
    by true e zero k rest = let same : y ≡ x = cc in record { from = 0; at = k; passes = ap test (sym same) ∙ e }
    by true e (suc i) k rest = let r = rest i x k in record { from = suc r.from; at = r.at; passes = r.passes }
    by false e i k rest = let r = rest i x k in record { from = suc r.from; at = r.at; passes = r.passes }

pub filter_less : {A : Type 0} (test : A → Bool) (xs : List A) → length (filter test xs) ≤ length xs
filter_less test [] = omega arith
filter_less test (y ∷ ys) = by (test y) (filter_less test ys)
  where
    by : (b : Bool) → length (filter test ys) ≤ length ys → length (cond b (y ∷ filter test ys) (filter test ys)) ≤ length (y ∷ ys)
    by true h = omega arith
    by false h = omega arith

-- Two items, one before the other.
pub record InOrder {A : Type 0} (xs : List A) (a b : A) : Type 0 where
  pub first : ℕ
  pub second : ℕ
  pub in_order : first < second
  pub at_first : slice_get xs first ≡ Some a
  pub at_second : slice_get xs second ≡ Some b

-- A filter keeps the order and every item that passes.
pub filter_pair : {A : Type 0} (test : A → Bool) (xs : List A) (i j : ℕ) (a b : A) → i < j → slice_get (filter test xs) i ≡ Some a → slice_get (filter test xs) j ≡ Some b
    → InOrder xs a b
filter_pair test [] i j a b low x y = cc
filter_pair {A} test (z ∷ zs) i j a b low x y = by (test z) (λ m n c d less p q. filter_pair test zs m n c d less p q) i j low x y
  where
    later : {c d : A} → InOrder zs c d → InOrder (z ∷ zs) c d
    later r = let h = r.in_order in record { first = suc r.first; second = suc r.second; in_order = omega arith; at_first = r.at_first; at_second = r.at_second }

    by : (t : Bool) → ((m n : ℕ) (c d : A) → m < n → slice_get (filter test zs) m ≡ Some c → slice_get (filter test zs) n ≡ Some d → InOrder zs c d)
        → (m n : ℕ) → m < n → slice_get (cond t (z ∷ filter test zs) (filter test zs)) m ≡ Some a → slice_get (cond t (z ∷ filter test zs) (filter test zs)) n ≡ Some b
        → InOrder (z ∷ zs) a b
    by false rest m n less p q = later (rest m n a b less p q)
    by true rest m zero less p q = absurd (omega arith)
    by true rest zero (suc n) less p q = let r = filter_at test zs n b q in record { first = 0; second = suc r.from; in_order = omega arith; at_first = p; at_second = r.at }
    by true rest (suc m) (suc n) less p q = later (rest m n a b (omega arith) p q)

pub filter_has : {A : Type 0} (test : A → Bool) (xs : List A) (i : ℕ) (a : A) → slice_get xs i ≡ Some a → test a ≡ true → (j : ℕ) × (slice_get (filter test xs) j ≡ Some a)
filter_has test [] i a x h = cc
filter_has {A} test (z ∷ zs) zero a x h = let same : z ≡ a = cc in let is : test z ≡ true = ap test same ∙ h in (0, rw is (ap (λ (y : A). Some y) same))
filter_has {A} test (z ∷ zs) (suc i) a x h = by (test z) (filter_has test zs i a x h)
  where
    by : (t : Bool) → ((j : ℕ) × (slice_get (filter test zs) j ≡ Some a)) → (j : ℕ) × (slice_get (cond t (z ∷ filter test zs) (filter test zs)) j ≡ Some a)
    by true r = (suc r.0, r.1)
    by false r = r

-- The index of the first item that passes: no item before it passes.
pub record IsFirst {A : Type 0} (test : A → Bool) (xs : List A) (x : A) : Type 0 where
  pub place : ℕ
  pub at : slice_get xs place ≡ Some x
  pub none_before : (j : ℕ) (y : A) → j < place → slice_get xs j ≡ Some y → test y ≡ false

-- A search finds the first item that passes.
pub find_before : {A : Type 0} (test : A → Bool) (xs : List A) (x : A) → find test xs ≡ Some x → IsFirst test xs x
find_before test [] x h = cc
find_before {A} test (z ∷ zs) x h = by (test z) refl h (λ k. find_before test zs x k)
  where
    before : (i : ℕ) → test z ≡ false → ((j : ℕ) (y : A) → j < i → slice_get zs j ≡ Some y → test y ≡ false) → (j : ℕ) (y : A) → j < suc i → slice_get (z ∷ zs) j ≡ Some y → test y ≡ false
    before i e rest zero y low at = let same : z ≡ y = cc in ap test (sym same) ∙ e
    before i e rest (suc j) y low at = rest j y (omega arith) at

    by : (t : Bool) → test z ≡ t → cond t (Some z) (find test zs) ≡ Some x → (find test zs ≡ Some x → IsFirst test zs x)
        → IsFirst test (z ∷ zs) x
    by true e k rest = record { place = 0; at = k; none_before = λ j y low at. absurd (omega arith) }
    by false e k rest = let r = rest k in record { place = suc r.place; at = r.at; none_before = before r.place e r.none_before }

-- A search in a filtered list.
pub find_filter : {A : Type 0} (f g : A → Bool) (xs : List A) → find f (filter g xs) ≡ find (λ x. f x && g x) xs
find_filter f g [] = refl
find_filter {A} f g (x ∷ xs) = by (g x) (f x) refl (find_filter f g xs)
  where
    by : (b c : Bool) → f x ≡ c → find f (filter g xs) ≡ find (λ x. f x && g x) xs → find f (cond b (x ∷ filter g xs) (filter g xs)) ≡ cond (c && b) (Some x) (find (λ x. f x && g x) xs)
    by true true e h = rw e refl
    by true false e h = rw e h
    by false true e h = h
    by false false e h = h

all_pass : {A : Type 0} (test : A → Bool) (xs : List A) → ((j : ℕ) (y : A) → slice_get xs j ≡ Some y → test y ≡ true) → filter test xs ≡ xs
all_pass test [] h = refl
all_pass {A} test (x ∷ xs) h = let e = h 0 x refl in rw e (ap (λ (ys : List A). x ∷ ys) (all_pass test xs (λ j y at. h (suc j) y at)))

-- A filter that only one item fails removes only this item.
pub remove_one : {A : Type 0} (test : A → Bool) (xs : List A) (i : ℕ) (x : A) → slice_get xs i ≡ Some x → test x ≡ false → ((j : ℕ) (y : A) → slice_get xs j ≡ Some y → (j ≡ i → ⊥) → test y ≡ true) → remove xs i ≡ filter test xs
remove_one test [] i x h out others = cc
remove_one {A} test (z ∷ zs) zero x h out others =
    let same : z ≡ x = cc in let is : test z ≡ false = ap test same ∙ out in
    rw is (sym (all_pass test zs (λ j y at. others (suc j) y at (λ e. absurd (omega arith)))))
remove_one {A} test (z ∷ zs) (suc i) x h out others =
    let pass : test z ≡ true = others 0 z refl (λ e. absurd (omega arith)) in
    rw pass (ap (λ (ys : List A). z ∷ ys) (remove_one test zs i x h out (λ j y at ne. others (suc j) y at (λ e. ne (omega arith)))))
