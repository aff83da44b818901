-- The cells and the list: what they have of each code, and what keeps them as they are.
use Rattle.std.proofs.Common.{◌≡◌, ◌≢◌, ℕ, zero, suc, ◌+◌, ◌%◌, ◌<◌, ◌≤◌, ◌∙◌, sym, Bool, true, false, not, ◌||◌, ◌&&◌, eqb, List, [], ◌∷◌, ◌++◌, length, set, get_or, replicate, None, refl, ap, subst, cond, arith, ℤ, pos, ◌+ℤ◌}
use Rattle.std.proofs.lemmas.Int.{ints}
use Rattle.std.proofs.lemmas.Bool.Decides.{nat_tests}
use Rattle.std.proofs.lemmas.List.Elements.{All-nil, filter-append}
use Rattle.std.proofs.lemmas.List.{get_or-set_same, get_or-set_other, get_or-replicate, get_or_default, length-set, length-replicate}
use Rattle.std.specs.Prelude.{filter}
use Rattle.frames.specs.declared.CodeId.{CodeId}
use Rattle.frames.specs.declared.Change.{Change}
use Rattle.frames.specs.Stack.{same_code, times}
use Rattle.frames.specs.Nets.{net_in, is_zero, net_of, add, settled, by_code, total, codes_in, cell_of, nothing_at, is_in, IsWithin, IsAt, IsPut, AreOnce, AreAmong, AreNetsAmong, AreAtRest, AreTouched, AreCells, AreApart, AreKept, AreSmall, net_sum}
use Rattle.frames.proofs.Bags.{same_code-equal, same_code-refl, times-cons}
use Rattle.frames.proofs.Moves.{zero_is, zero_not}
use Rattle.frames.proofs.Settling.{times_codes}
use Rattle.frames.proofs.Totals.{same_settled, settled_rising, settled_net, rising_settled, moved_settled, total_set, total_push, times_set, times_push, no_total, within_add, total_filter, total_of, none_plus, length_settled, small_once, more_left}

abbrev live : List Change → List Change
live es = filter (λ (e : Change). not (is_zero e.by)) es

-- what a test says of a net
pub tested : (b z : Bool) → b ≡ not z → b ≡ true → z ≡ false
tested true true e h = cc
tested true false e h = refl
tested false z e h = cc

pub tested_not : (b z : Bool) → b ≡ not z → b ≡ false → z ≡ true
tested_not true z e h = cc
tested_not false true e h = refl
tested_not false false e h = cc

place_bound : (code : CodeId) → cell_of code < 1024
place_bound code = omega arith

-- the entry has a net, and it is the code's
abbrev lives : Change → CodeId → Bool
lives e c = not (is_zero e.by) && same_code e.code c

no_share : (e : Change) (c : CodeId) → lives e c ≡ false → by_code e.code e.by c ≡ pos 0
no_share e c h = by_case (is_zero e.by) refl (same_code e.code c) h
  where
    by_case : (z : Bool) → is_zero e.by ≡ z → (s : Bool) → (not z && s) ≡ false → cond s e.by (pos 0) ≡ pos 0
    by_case true z true h = zero_is e.by z
    by_case true z false h = refl
    by_case false z true h = cc
    by_case false z false h = refl

both_none : (t y : ℤ) → t ≡ pos 0 → y ≡ pos 0 → t +ℤ y ≡ pos 0
both_none t y h k = omega (arith, ints, h, k)

first_only : (t x y : ℤ) → t ≡ x → y ≡ pos 0 → t +ℤ y ≡ x
first_only t x y h k = omega (arith, ints, h, k)

live_cons : (e : Change) (es : List Change) (c : CodeId) → times c (codes_in (live (e ∷ es))) ≡ cond (lives e c) 1 0 + times c (codes_in (live es))
live_cons e es c = by_case (is_zero e.by)
  where
    by_case : (z : Bool) → times c (codes_in (cond (not z) (e ∷ live es) (live es))) ≡ cond (not z && same_code e.code c) 1 0 + times c (codes_in (live es))
    by_case true = omega arith
    by_case false = times-cons c e.code (codes_in (live es))

all_none : (es : List Change) (c : CodeId) → ((k : ℕ) (d : Change) → k < length es → lives (get_or es k d) c ≡ false) → total es c ≡ pos 0
all_none [] c h = refl
all_none (e ∷ es) c h =
    both_none (total es c) (by_code e.code e.by c) (all_none es c (λ k d lt. h (suc k) d (omega arith))) (no_share e c (h 0 e (omega arith)))

-- where one place alone can have the code
only : (es : List Change) (i : ℕ) (d : Change) (c : CodeId) → ((k : ℕ) (d : Change) → k < length es → k ≢ i → lives (get_or es k d) c ≡ false) → i < length es → total es c ≡ by_code (get_or es i d).code (get_or es i d).by c
only [] i d c h lt = absurd (omega arith)
only (e ∷ es) zero d c h lt = none_plus (total es c) (by_code e.code e.by c) (all_none es c (λ k d lt. h (suc k) d (omega arith) (λ same. omega (arith, same))))
only (e ∷ es) (suc i) d c h lt =
    first_only (total es c) (by_code (get_or es i d).code (get_or es i d).by c) (by_code e.code e.by c)
    (only es i d c (λ k d lt ne. h (suc k) d (omega arith) (λ same. ne (omega (arith, same)))) (omega arith))
    (no_share e c (h 0 e (omega arith) (λ same. omega (arith, same))))

live_none : (es : List Change) (c : CodeId) → ((k : ℕ) (d : Change) → k < length es → lives (get_or es k d) c ≡ false) → times c (codes_in (live es)) ≡ 0
live_none [] c h = refl
live_none (e ∷ es) c h =
    live_cons e es c ∙ none (lives e c) (times c (codes_in (live es))) (h 0 e (omega arith)) (live_none es c (λ k d lt. h (suc k) d (omega arith)))
  where
    none : (b : Bool) (n : ℕ) → b ≡ false → n ≡ 0 → cond b 1 0 + n ≡ 0
    none true n h k = cc
    none false n h k = omega (arith, k)

live_only : (es : List Change) (i : ℕ) (d : Change) (c : CodeId) → ((k : ℕ) (d : Change) → k < length es → k ≢ i → lives (get_or es k d) c ≡ false) → i < length es → times c (codes_in (live es)) ≡ cond (lives (get_or es i d) c) 1 0
live_only [] i d c h lt = absurd (omega arith)
live_only (e ∷ es) zero d c h lt =
    let rest = live_none es c (λ k d lt. h (suc k) d (omega arith) (λ same. omega (arith, same))) in
    live_cons e es c ∙ omega (arith, rest)
live_only (e ∷ es) (suc i) d c h lt =
    live_cons e es c ∙ (none (lives e c) (times c (codes_in (live es))) (h 0 e (omega arith) (λ same. omega (arith, same)))
    ∙ live_only es i d c (λ k d lt ne. h (suc k) d (omega arith) (λ same. ne (omega (arith, same)))) (omega arith))
  where
    none : (b : Bool) (n : ℕ) → b ≡ false → cond b 1 0 + n ≡ n
    none true n h = cc
    none false n h = omega arith

-- whether a net is left
pub some_live : (es : List Change) (k : ℕ) (d : Change) → k < length es → is_zero (get_or es k d).by ≡ false → false ≡ eqb (length (live es)) 0
some_live [] k d lt some = absurd (omega arith)
some_live (e ∷ es) zero d lt some = by_case (is_zero e.by) some
  where
    by_case : (z : Bool) → z ≡ false → false ≡ eqb (length (cond (not z) (e ∷ live es) (live es))) 0
    by_case true h = cc
    by_case false h = sym (more_left (length (live es)))
some_live (e ∷ es) (suc k) d lt some = by_case (is_zero e.by) (some_live es k d (omega arith) some)
  where
    by_case : (z : Bool) → false ≡ eqb (length (live es)) 0 → false ≡ eqb (length (cond (not z) (e ∷ live es) (live es))) 0
    by_case true h = h
    by_case false h = sym (more_left (length (live es)))

pub none_live : (es : List Change) → ((k : ℕ) (d : Change) → k < length es → is_zero (get_or es k d).by ≡ true) → true ≡ eqb (length (live es)) 0
none_live [] h = refl
none_live (e ∷ es) h = rw (h 0 e (omega arith)) (none_live es (λ k d lt. h (suc k) d (omega arith)))

pub left_zero : (z : Bool) → (z ≡ false → false ≡ true) → z ≡ true
left_zero true h = refl
left_zero false h = let no : false ≡ true = h refl in cc

-- only a code's own cell has it
elsewhere : (cells list : List Change) → AreCells cells list → (c : CodeId) (k : ℕ) (d : Change) → k < length cells → k ≢ cell_of c → lives (get_or cells k d) c ≡ false
elsewhere cells list a c k d lt ne = by_case (is_zero (get_or cells k d).by) refl (same_code (get_or cells k d).code c) refl
  where
    by_case : (z : Bool) → is_zero (get_or cells k d).by ≡ z → (s : Bool) → same_code (get_or cells k d).code c ≡ s → (not z && s) ≡ false
    by_case true z s h = refl
    by_case false z false h = refl
    by_case false z true h =
        let long = a.long in
        absurd (ne (sym (a.home k d (omega arith) z) ∙ ap cell_of (same_code-equal (get_or cells k d).code c h)))

cell_bound : (cells list : List Change) → AreCells cells list → (c : CodeId) → cell_of c < length cells
cell_bound cells list a c = let long = a.long in let lt = place_bound c in rw long lt

in_cells : (cells list : List Change) → AreCells cells list → (c : CodeId) (d : Change) → total cells c ≡ by_code (get_or cells (cell_of c) d).code (get_or cells (cell_of c) d).by c
in_cells cells list a c d = only cells (cell_of c) d c (elsewhere cells list a c) (cell_bound cells list a c)

total_append : (xs ys : List Change) (c : CodeId) → total (xs ++ ys) c ≡ total xs c +ℤ total ys c
total_append [] ys c = let t : ℤ = total ys c in none t
  where
    none : (t : ℤ) → t ≡ pos 0 +ℤ t
    none t = omega (arith, ints)
total_append (x ∷ xs) ys c = step (total (xs ++ ys) c) (total xs c) (total ys c) (by_code x.code x.by c) (total_append xs ys c)
  where
    step : (a t u x : ℤ) → a ≡ t +ℤ u → a +ℤ x ≡ t +ℤ x +ℤ u
    step a t u x h = omega (arith, ints, h)

times_append : (xs ys : List Change) (c : CodeId) → times c (codes_in (xs ++ ys)) ≡ times c (codes_in xs) + times c (codes_in ys)
times_append [] ys c = omega arith
times_append (x ∷ xs) ys c =
    let a = times-cons c x.code (codes_in (xs ++ ys)) in
    let b = times-cons c x.code (codes_in xs) in
    let rest = times_append xs ys c in
    omega (arith, a, b, rest)

-- a cell's net is all that its code has
whole : (cells list : List Change) → AreCells cells list → AreApart cells list → (code : CodeId) (d : Change) → same_code (get_or cells (cell_of code) d).code code ≡ true → total (cells ++ list) code ≡ (get_or cells (cell_of code) d).by
whole cells list a apart code d h =
    total_append cells list code
    ∙ first_only (total cells code) (get_or cells (cell_of code) d).by (total list code) (in_cells cells list a code d ∙ ap (λ b. cond b (get_or cells (cell_of code) d).by (pos 0)) h) (no_total list code (apart code d h))

-- the nets that aren't 0 are of codes that stand once
once_live : (cells list : List Change) → AreCells cells list → AreOnce (live cells ++ list)
once_live cells list a c =
    let all = times_append (live cells) list c in
    let mine = live_only cells (cell_of c) nothing c (elsewhere cells list a c) (cell_bound cells list a c) in
    by_case (is_zero (get_or cells (cell_of c) nothing).by) refl (same_code (get_or cells (cell_of c) nothing).code c) refl (omega (arith, all, mine))
  where
    nothing : Change
    nothing = nothing_at 0

    by_case : {n : ℕ} (z : Bool) → is_zero (get_or cells (cell_of c) nothing).by ≡ z → (s : Bool) → same_code (get_or cells (cell_of c) nothing).code c ≡ s → n ≡ cond (not z && s) 1 0 + times c (codes_in list) → n ≤ 1
    by_case true z s h e = let few = a.once c in omega (arith, few, e)
    by_case false z false h e = let few = a.once c in omega (arith, few, e)
    by_case false z true h e = let none = a.apart c nothing h z in omega (arith, none, e)

same_live : (cells list : List Change) → settled (live cells ++ list) ≡ settled (cells ++ list)
same_live cells list = same_settled (live cells ++ list) (cells ++ list) (λ c. total_append (live cells) list c ∙ (ap (λ t. t +ℤ total list c) (total_filter cells c) ∙ sym (total_append cells list c)))

live_live : (es : List Change) → live (live es) ≡ live es
live_live [] = refl
live_live (e ∷ es) = by_case (is_zero e.by) refl (live_live es)
  where
    by_case : (z : Bool) → is_zero e.by ≡ z → live (live es) ≡ live es → live (cond (not z) (e ∷ live es) (live es)) ≡ cond (not z) (e ∷ live es) (live es)
    by_case true z rest = rest
    by_case false z rest = rw z (ap (λ (xs : List Change). e ∷ xs) rest)

-- how many nets there are
pub count_live : (cells list : List Change) → AreCells cells list → length (live cells) + length (live list) ≡ length (settled (cells ++ list))
count_live cells list a =
    let all = length_settled (live cells ++ list) (once_live cells list a) in
    let parts : live (live cells ++ list) ≡ live cells ++ live list = filter-append (λ (e : Change). not (is_zero e.by)) (live cells) list ∙ ap (λ xs. xs ++ live list) (live_live cells) in
    let same = same_live cells list in
    let long = length_both (live cells) (live list) in
    sym long ∙ (sym (ap length parts) ∙ (all ∙ ap length same))
  where
    length_both : (xs ys : List Change) → length (xs ++ ys) ≡ length xs + length ys
    length_both [] ys = omega arith
    length_both (x ∷ xs) ys = let rest = length_both xs ys in omega (arith, rest)

-- what stands at a place after a write
at_set : (es : List Change) (i k : ℕ) (y d : Change) → i < length es → (P : Change → Type 0) → (k ≡ i → P y) → (k ≢ i → P (get_or es k d)) → P (get_or (set es i y) k d)
at_set es i k y d lt P here other = by_case (eqb k i) refl
  where
    by_case : (b : Bool) → eqb k i ≡ b → P (get_or (set es i y) k d)
    by_case true e =
        let is : k ≡ i = grind (arith, nat_tests) in
        subst (λ j. P (get_or (set es i y) j d)) (sym is) (subst P (sym (get_or-set_same es i y d lt)) (here is))
    by_case false e =
        let ne : k ≢ i = λ same. (let no : eqb k i ≡ true = grind (arith, nat_tests) in cc) in
        subst P (sym (get_or-set_other es i k y d ne)) (other ne)

-- a code takes its cell, or its net moves there
taken_apart : (cells list : List Change) → AreCells cells list → AreApart cells list → (code : CodeId) (z : ℤ) → times code (codes_in list) ≡ 0 → AreApart (set cells (cell_of code) (net_of code z)) list
taken_apart cells list a apart code z none = λ c d. at_set cells (cell_of code) (cell_of c) (net_of code z) d (cell_bound cells list a code) (λ e. same_code e.code c ≡ true → times c (codes_in list) ≡ 0)
    (λ is s. subst (λ x. times x (codes_in list) ≡ 0) (same_code-equal code c s) none) (λ ne s. apart c d s)

taken : (cells list : List Change) → AreCells cells list → AreApart cells list → (code : CodeId) (z : ℤ) → times code (codes_in list) ≡ 0 → AreCells (set cells (cell_of code) (net_of code z)) list
taken cells list a apart code z none = record {
  long = length-set cells (cell_of code) (net_of code z) ∙ a.long;
  home = λ k d lt. at_set cells (cell_of code) k (net_of code z) d (cell_bound cells list a code) (λ e. is_zero e.by ≡ false → cell_of e.code ≡ k) (λ is s. sym is) (λ ne s. a.home k d lt s);
  once = a.once;
  apart = λ c d s some. taken_apart cells list a apart code z none c d s;
}

-- the list loses codes, or none
relisted : (cells list more : List Change) → AreCells cells list → ((c : CodeId) → times c (codes_in more) ≤ times c (codes_in list)) → AreCells cells more
relisted cells list more a h = record {
  long = a.long;
  home = a.home;
  once = λ c. (let le = h c in let one = a.once c in omega arith);
  apart = λ c d s some. (let le = h c in let none = a.apart c d s some in omega arith);
}

relisted_apart : (cells list more : List Change) → AreApart cells list → ((c : CodeId) → times c (codes_in more) ≤ times c (codes_in list)) → AreApart cells more
relisted_apart cells list more apart h = λ c d s. (let le = h c in let none = apart c d s in omega arith)

-- the list takes a code
listed_bound : (list more : List Change) (code : CodeId) (by : ℤ) → IsPut (net_of code by) list more → (c : CodeId) → times c (codes_in more) ≤ times c (codes_in list) + cond (same_code code c) 1 0
listed_bound list more code by put c = let all = put.codes c in omega (arith, all)

listed_apart : (cells list more : List Change) (code : CodeId) (by : ℤ) → AreApart cells list → IsPut (net_of code by) list more → ((d : Change) → same_code (get_or cells (cell_of code) d).code code ≡ false) → AreApart cells more
listed_apart cells list more code by apart put new = λ c d s. gone c d s (same_code code c) refl (listed_bound list more code by put c)
  where
    gone : (c : CodeId) (d : Change) → same_code (get_or cells (cell_of c) d).code c ≡ true → (b : Bool) → same_code code c ≡ b → times c (codes_in more) ≤ times c (codes_in list) + cond b 1 0 → times c (codes_in more) ≡ 0
    gone c d s true e all =
        let differs : same_code (get_or cells (cell_of c) d).code c ≡ false = subst (λ x. same_code (get_or cells (cell_of x) d).code x ≡ false) (same_code-equal code c e) (new d) in
        cc
    gone c d s false e all = let was = apart c d s in omega (arith, all, was)

listed : (cells list more : List Change) (code : CodeId) (by : ℤ) → AreCells cells list → AreApart cells list → IsPut (net_of code by) list more → times code (codes_in list) ≡ 0 → ((d : Change) → same_code (get_or cells (cell_of code) d).code code ≡ false) → AreCells cells more
listed cells list more code by a apart put none new = record {
  long = a.long;
  home = a.home;
  once = λ c. one c (same_code code c) refl (listed_bound list more code by put c);
  apart = λ c d s some. listed_apart cells list more code by apart put new c d s;
}
  where
    one : (c : CodeId) (b : Bool) → same_code code c ≡ b → times c (codes_in more) ≤ times c (codes_in list) + cond b 1 0 → times c (codes_in more) ≤ 1
    one c true e all =
        let no : times c (codes_in list) ≡ 0 = subst (λ x. times x (codes_in list) ≡ 0) (same_code-equal code c e) none in
        omega (arith, all, no)
    one c false e all = let was = a.once c in omega (arith, all, was)

-- an empty cell
nothing_apart : (i : ℕ) → cell_of (nothing_at i).code ≢ i
nothing_apart i = by_case (eqb i 0) refl
  where
    by_case : (b : Bool) → eqb i 0 ≡ b → cond b 1 0 % 1024 ≢ i
    by_case true e h = let is : i ≡ 0 = grind (arith, nat_tests) in omega (arith, h, is)
    by_case false e h = absurd (none (sym h))
      where
        none : i ≡ 0 → ⊥
        none is = let no : eqb i 0 ≡ true = grind (arith, nat_tests) in cc

-- what is left where the net of a cell goes, and another code may come with none
pub record Rested (cells list : List Change) (i : ℕ) (code : CodeId) (more : List Change) : Type 0 where
  pub are : AreCells (set cells i (net_of code (pos 0))) more
  pub totals : (c : CodeId) → total (set cells i (net_of code (pos 0)) ++ more) c ≡ total (cells ++ list) c
  pub nets : (places : List ℕ) → AreNetsAmong cells (i ∷ places) → AreNetsAmong (set cells i (net_of code (pos 0))) places

rested : (cells list more : List Change) (i : ℕ) (code : CodeId) → AreCells cells list → i < 1024 → AreOnce more → ((c : CodeId) → cell_of c ≢ i → times c (codes_in more) ≡ times c (codes_in list)) → AreCells (set cells i (net_of code (pos 0))) more
rested cells list more i code a lt once same =
    let bound : i < length cells = let long = a.long in omega arith in
    record {
      long = length-set cells i (net_of code (pos 0)) ∙ a.long;
      home = λ k d l. at_set cells i k (net_of code (pos 0)) d bound (λ e. is_zero e.by ≡ false → cell_of e.code ≡ k) (λ is s. cc) (λ ne s. a.home k d l s);
      once = once;
      apart = λ c d. at_set cells i (cell_of c) (net_of code (pos 0)) d bound (λ e. same_code e.code c ≡ true → is_zero e.by ≡ false → times c (codes_in more) ≡ 0)
          (λ is s some. cc) (λ ne s some. same c ne ∙ a.apart c d s some);
    }

-- a place that is the first or one of the others
not_first : (i k : ℕ) (places : List ℕ) (b : Bool) → eqb i k ≡ b → k ≢ i → (b || is_in k places) ≡ true → is_in k places ≡ true
not_first i k places true e ne h = absurd (ne (let is : i ≡ k = grind (arith, nat_tests) in sym is))
not_first i k places false e ne h = h

nets_less : (cells : List Change) (i : ℕ) (code : CodeId) → i < length cells → (places : List ℕ) → AreNetsAmong cells (i ∷ places) → AreNetsAmong (set cells i (net_of code (pos 0))) places
nets_less cells i code bound places all = λ k d lt. at_set cells i k (net_of code (pos 0)) d bound (λ e. is_zero e.by ≡ false → is_in k places ≡ true) (λ is some. cc) (λ ne some. not_first i k places (eqb i k) refl ne (all k d lt some))

no_net : (b : Bool) → cond b (pos 0) (pos 0) ≡ pos 0
no_net true = refl
no_net false = refl

pub rested_zero : (cells list : List Change) (i : ℕ) (code : CodeId) (e : Change) → AreCells cells list → i < 1024 → e ≡ get_or cells i e → is_zero e.by ≡ true → Rested cells list i code list
rested_zero cells list i code e a lt is z =
    let bound : i < length cells = let long = a.long in omega arith in
    record {
      are = rested cells list list i code a lt a.once (λ c ne. refl);
      totals = λ c. total_append (set cells i (net_of code (pos 0))) list c ∙ (ap (λ t. t +ℤ total list c) (same c bound) ∙ sym (total_append cells list c));
      nets = nets_less cells i code bound;
    }
  where
    plain : (s t : ℤ) (b : Bool) (x : ℤ) → x ≡ pos 0 → s +ℤ cond b x (pos 0) ≡ t +ℤ pos 0 → s ≡ t
    plain s t true x e h = omega (arith, ints, e, h)
    plain s t false x e h = omega (arith, ints, h)

    same : (c : CodeId) → i < length cells → total (set cells i (net_of code (pos 0))) c ≡ total cells c
    same c bound =
        let all = rw (no_net (same_code code c)) at (rw (← is) at (total_set cells i e (net_of code (pos 0)) bound c)) in
        plain (total (set cells i (net_of code (pos 0))) c) (total cells c) (same_code e.code c) e.by (zero_is e.by z) all

pub rested_net : (cells list : List Change) (i : ℕ) (code : CodeId) (e : Change) → AreCells cells list → i < 1024 → e ≡ get_or cells i e → is_zero e.by ≡ false → Rested cells list i code (list ++ e ∷ [])
rested_net cells list i code e a lt is some =
    let bound : i < length cells = let long = a.long in omega arith in
    record {
      are = rested cells list (list ++ e ∷ []) i code a lt (λ c. one c (same_code e.code c) refl (pushed c)) (λ c ne. other c ne (same_code e.code c) refl (pushed c));
      totals = λ c. join c bound;
      nets = nets_less cells i code bound;
    }
  where
    home : cell_of e.code ≡ i
    home = subst (λ (x : Change). cell_of x.code ≡ i) (sym is) (a.home i e lt (subst (λ (x : Change). is_zero x.by ≡ false) is some))

    pushed : (c : CodeId) → times c (codes_in (list ++ e ∷ [])) ≡ times c (codes_in list) + cond (same_code e.code c) 1 0
    pushed c = let all = times_push list e c in let one = times-cons c e.code [] in omega (arith, all, one)

    gone : times e.code (codes_in list) ≡ 0
    gone = a.apart e.code e (subst (λ j. same_code (get_or cells j e).code e.code ≡ true) (sym home) (subst (λ (x : Change). same_code x.code e.code ≡ true) is (same_code-refl e.code)))
        (subst (λ j. is_zero (get_or cells j e).by ≡ false) (sym home) (subst (λ (x : Change). is_zero x.by ≡ false) is some))

    one : (c : CodeId) (b : Bool) → same_code e.code c ≡ b → times c (codes_in (list ++ e ∷ [])) ≡ times c (codes_in list) + cond b 1 0 → times c (codes_in (list ++ e ∷ [])) ≤ 1
    one c true h all =
        let no : times c (codes_in list) ≡ 0 = subst (λ x. times x (codes_in list) ≡ 0) (same_code-equal e.code c h) gone in
        omega (arith, all, no)
    one c false h all = let few = a.once c in omega (arith, all, few)

    other : (c : CodeId) → cell_of c ≢ i → (b : Bool) → same_code e.code c ≡ b → times c (codes_in (list ++ e ∷ [])) ≡ times c (codes_in list) + cond b 1 0 → times c (codes_in (list ++ e ∷ [])) ≡ times c (codes_in list)
    other c ne true h all = absurd (ne (sym (ap cell_of (same_code-equal e.code c h)) ∙ home))
    other c ne false h all = omega (arith, all)

    sums : (s t x l m : ℤ) → s +ℤ x ≡ t +ℤ pos 0 → m ≡ l +ℤ x → s +ℤ m ≡ t +ℤ l
    sums s t x l m h k = omega (arith, ints, h, k)

    join : (c : CodeId) → i < length cells → total (set cells i (net_of code (pos 0)) ++ (list ++ e ∷ [])) c ≡ total (cells ++ list) c
    join c bound =
        let all = rw (no_net (same_code code c)) at (rw (← is) at (total_set cells i e (net_of code (pos 0)) bound c)) in
        total_append (set cells i (net_of code (pos 0))) (list ++ e ∷ []) c
        ∙ (sums (total (set cells i (net_of code (pos 0))) c) (total cells c) (by_code e.code e.by c) (total list c) (total (list ++ e ∷ []) c) all (total_push list e c) ∙ sym (total_append cells list c))

-- what emptying a cell leaves
pub record Emptied (cells list : List Change) (i : ℕ) (more : List Change) : Type 0 where
  pub are : AreCells (set cells i (nothing_at i)) more
  pub totals : (c : CodeId) → total (set cells i (nothing_at i) ++ more) c ≡ total (cells ++ list) c
  pub among : (places : List ℕ) → AreAmong cells (i ∷ places) → AreAmong (set cells i (nothing_at i)) places

among_less : (cells list : List Change) → AreCells cells list → (i : ℕ) → i < 1024 → (places : List ℕ) → AreAmong cells (i ∷ places) → AreAmong (set cells i (nothing_at i)) places
among_less cells list a i lt places all =
    let bound : i < length cells = let long = a.long in omega arith in
    λ k d l. at_set cells i k (nothing_at i) d bound (λ e. cell_of e.code ≡ k → is_in k places ≡ true) (λ is h. absurd (nothing_apart i (h ∙ is))) (λ ne h. not_first i k places (eqb i k) refl ne (all k d l h))

emptied : (cells list more : List Change) (i : ℕ) → AreCells cells list → i < 1024 → Rested cells list i (nothing_at i).code more → Emptied cells list i more
emptied cells list more i a lt left = record { are = left.are; totals = left.totals; among = among_less cells list a i lt }

pub emptied_zero : (cells list : List Change) (i : ℕ) (e : Change) → AreCells cells list → i < 1024 → e ≡ get_or cells i e → is_zero e.by ≡ true → Emptied cells list i list
emptied_zero cells list i e a lt is z = emptied cells list list i a lt (rested_zero cells list i (nothing_at i).code e a lt is z)

pub emptied_net : (cells list : List Change) (i : ℕ) (e : Change) → AreCells cells list → i < 1024 → e ≡ get_or cells i e → is_zero e.by ≡ false → Emptied cells list i (list ++ e ∷ [])
emptied_net cells list i e a lt is some = emptied cells list (list ++ e ∷ []) i a lt (rested_net cells list i (nothing_at i).code e a lt is some)

-- cells of which each is empty
abbrev pub IsFresh : List Change → Type 0
IsFresh cells = (k : ℕ) (d : Change) → k < 1024 → (is_zero (get_or cells k d).by ≡ true) × (cell_of (get_or cells k d).code ≢ k)

pub fresh_is : IsFresh (set (replicate 1024 (nothing_at 1)) 0 (nothing_at 0))
fresh_is k d lt =
    let bound : 0 < length (replicate 1024 (nothing_at 1)) = let long = length-replicate 1024 (nothing_at 1) in omega arith in
    at_set (replicate 1024 (nothing_at 1)) 0 k (nothing_at 0) d bound (λ e. (is_zero e.by ≡ true) × (cell_of e.code ≢ k)) (λ is. (refl, λ h. nothing_apart 0 (h ∙ is)))
    (λ ne. subst (λ (e : Change). (is_zero e.by ≡ true) × (cell_of e.code ≢ k)) (sym (get_or-replicate 1024 k (nothing_at 1) d lt)) (refl, λ h. ne (omega (arith, h))))

pub fresh_cells : (cells : List Change) → length cells ≡ 1024 → IsFresh cells → AreCells cells []
fresh_cells cells long fresh = record {
  long = long;
  home = λ k d lt some. (let none = (fresh k d lt).0 in cc);
  once = λ c. omega arith;
  apart = λ c d s some. refl;
}

pub fresh_among : (cells : List Change) → IsFresh cells → AreAmong cells []
fresh_among cells fresh = λ k d lt h. absurd ((fresh k d lt).1 h)

-- a touched cell
touched_here : (cells : List Change) (touched : List ℕ) (i : ℕ) (x : Change) → AreTouched cells touched → i < 1024 → x ≡ get_or cells i x → cell_of x.code ≡ i → is_in i touched ≡ true
touched_here cells touched i x t lt is home = t.among i x lt (subst (λ (e : Change). cell_of e.code ≡ i) is home)

touched_set : (cells : List Change) (touched : List ℕ) (i : ℕ) (y : Change) → AreTouched cells touched → i < length cells → is_in i touched ≡ true → AreTouched (set cells i y) touched
touched_set cells touched i y t lt in_ = record {
  among = λ k d l. at_set cells i k y d lt (λ e. cell_of e.code ≡ k → is_in k touched ≡ true) (λ is h. subst (λ j. is_in j touched ≡ true) (sym is) in_) (λ ne h. t.among k d l h);
  places = t.places;
  few = t.few;
}

-- a cell whose net goes keeps its code
pub touched_rested : (cells : List Change) (i : ℕ) (e : Change) → i < length cells → e ≡ get_or cells i e → (places : List ℕ) → AreTouched cells places → AreTouched (set cells i (net_of e.code (pos 0))) places
touched_rested cells i e bound is places t = record {
  among = λ k d l. at_set cells i k (net_of e.code (pos 0)) d bound (λ x. cell_of x.code ≡ k → is_in k places ≡ true)
      (λ same h. t.among k e l (subst (λ j. cell_of (get_or cells j e).code ≡ k) (sym same) (subst (λ (x : Change). cell_of x.code ≡ k) is h))) (λ ne h. t.among k d l h);
  places = t.places;
  few = t.few;
}

-- where the nets are
pub nets_touched : (cells list : List Change) (touched : List ℕ) → AreCells cells list → AreTouched cells touched → AreNetsAmong cells touched
nets_touched cells list touched a t = λ k d lt some. t.among k d lt (a.home k d lt some)

pub none_rest : (cells : List Change) → AreNetsAmong cells [] → AreAtRest cells
none_rest cells none = λ k d lt. left_zero (is_zero (get_or cells k d).by) (none k d lt)

pub among_rest : (cells list : List Change) → AreCells cells list → AreAmong cells [] → AreAtRest cells
among_rest cells list a none = none_rest cells (λ k d lt some. none k d lt (a.home k d lt some))

-- where no cell has a net the list has all
pub list_all : (cells list : List Change) → AreCells cells list → AreAtRest cells → settled (cells ++ list) ≡ settled list
list_all cells list a rest = same_settled (cells ++ list) list (λ c. total_append cells list c ∙ none_plus (total cells c) (total list c) (all_none cells c (λ k d lt. dead c k d (let long = a.long in omega arith))))
  where
    dead : (c : CodeId) (k : ℕ) (d : Change) → k < 1024 → lives (get_or cells k d) c ≡ false
    dead c k d lt = rw (rest k d lt) refl

-- what a move leaves
pub record Noted (cells list more : List Change) (touched : List ℕ) (places : ℕ) (others : List Change) (room : ℕ) (code : CodeId) (by : ℤ) : Type 0 where
  pub kept : AreKept more touched places others room false
  pub same : settled (more ++ others) ≡ add (settled (cells ++ list)) code by

noted :
    (cells list more others : List Change) (touched now_touched : List ℕ) (places room : ℕ) (code : CodeId) (by : ℤ) → AreKept cells touched places list room false → AreCells more others → AreApart more others → AreTouched more now_touched
    → length others ≤ 1024 → ((c : CodeId) → total (more ++ others) c ≡ total (cells ++ list) c +ℤ by_code code by c)
    → is_zero by ≡ false → IsWithin (net_in (settled (cells ++ list)) code +ℤ by) 256 → length (add (settled (cells ++ list)) code by) ≤ 512 → Noted cells list more now_touched places others room code by
noted cells list more others touched now_touched places room code by k a apart t fits moves some w few =
    let same = moved_settled (cells ++ list) (more ++ others) code by some moves in
    record {
      kept = record {
        cells_are = a;
        touched_are = t;
        has_places = k.has_places;
        has_room = k.has_room;
        fits = fits;
        small = rw same (within_add (settled (cells ++ list)) code by (settled_rising (cells ++ list)) k.small w);
        few = rw same few;
        rising = λ no. cc;
        apart = λ open_. apart;
        at_rest = λ no. cc;
      };
      same = same;
    }

-- how the sum of a code goes with what is written over
over : (s t x z b : ℤ) → s +ℤ x ≡ t +ℤ z → z ≡ x +ℤ b → s ≡ t +ℤ b
over s t x z b h e = omega (arith, ints, h, e)

-- one code's net moves
own_moves : (code c : CodeId) (x z by : ℤ) → z ≡ x +ℤ by → by_code code z c ≡ by_code code x c +ℤ by_code code by c
own_moves code c x z by e = by_case (same_code code c)
  where
    by_case : (b : Bool) → cond b z (pos 0) ≡ cond b x (pos 0) +ℤ cond b by (pos 0)
    by_case true = e
    by_case false = refl

-- it takes the place of none
none_moves : (code other c : CodeId) (x by : ℤ) → is_zero x ≡ true → by_code code by c ≡ by_code other x c +ℤ by_code code by c
none_moves code other c x by z = plain (by_code code by c) (same_code other c) (zero_is x z)
  where
    plain : (t : ℤ) (b : Bool) → x ≡ pos 0 → t ≡ cond b x (pos 0) +ℤ t
    plain t true e = omega (arith, ints, e)
    plain t false e = omega (arith, ints)

written : (es : List Change) (i : ℕ) (x y : Change) (code : CodeId) (by : ℤ) → i < length es → x ≡ get_or es i x → ((c : CodeId) → by_code y.code y.by c ≡ by_code x.code x.by c +ℤ by_code code by c)
    → (c : CodeId) → total (set es i y) c ≡ total es c +ℤ by_code code by c
written es i x y code by lt is moves c =
    let all = rw (← is) at (total_set es i x y lt c) in
    over (total (set es i y) c) (total es c) (by_code x.code x.by c) (by_code y.code y.by c) (by_code code by c) all (moves c)

left_moves : (cells more list : List Change) (code : CodeId) (by : ℤ) → ((c : CodeId) → total more c ≡ total cells c +ℤ by_code code by c) → (c : CodeId) → total (more ++ list) c ≡ total (cells ++ list) c +ℤ by_code code by c
left_moves cells more list code by h c = total_append more list c ∙ (ap (λ t. t +ℤ total list c) (h c) ∙ (swap (total cells c) (by_code code by c) (total list c) ∙ ap (λ t. t +ℤ by_code code by c) (sym (total_append cells list c))))
  where
    swap : (t x u : ℤ) → t +ℤ x +ℤ u ≡ t +ℤ u +ℤ x
    swap t x u = omega (arith, ints)

right_moves : (cells list others : List Change) (code : CodeId) (by : ℤ) → ((c : CodeId) → total others c ≡ total list c +ℤ by_code code by c) → (c : CodeId) → total (cells ++ others) c ≡ total (cells ++ list) c +ℤ by_code code by c
right_moves cells list others code by h c = total_append cells others c ∙ (ap (λ t. total cells c +ℤ t) (h c) ∙ (group (total cells c) (by_code code by c) (total list c) ∙ ap (λ t. t +ℤ by_code code by c) (sym (total_append cells list c))))
  where
    group : (t x u : ℤ) → t +ℤ (u +ℤ x) ≡ t +ℤ u +ℤ x
    group t x u = omega (arith, ints)

-- the code's cell has it
pub here_within : (cells list : List Change) (touched : List ℕ) (places room : ℕ) (code : CodeId) (x : Change) → AreKept cells touched places list room false
    → x ≡ get_or cells (cell_of code) x → same_code x.code code ≡ true → IsWithin x.by 256
here_within cells list touched places room code x k is same =
    let all = settled_net (cells ++ list) code ∙ (whole cells list k.cells_are (k.apart refl) code x (subst (λ (e : Change). same_code e.code code ≡ true) is same) ∙ ap (λ (e : Change). e.by) (sym is)) in
    subst (λ z. IsWithin z 256) all (k.small code)

pub noted_here : (cells list : List Change) (touched : List ℕ) (places room : ℕ) (code : CodeId) (by z : ℤ) (x : Change) → AreKept cells touched places list room false
    → x ≡ get_or cells (cell_of code) x → same_code x.code code ≡ true → z ≡ x.by +ℤ by
    → is_zero by ≡ false → IsWithin (net_in (settled (cells ++ list)) code +ℤ by) 256 → length (add (settled (cells ++ list)) code by) ≤ 512
    → Noted cells list (set cells (cell_of code) (net_of x.code z)) touched places list room code by
noted_here cells list touched places room code by z x k is same sum some w few =
    subst (λ q. Noted cells list (set cells (cell_of code) (net_of q z)) touched places list room code by) (sym code_is)
    (noted cells list (set cells (cell_of code) (net_of code z)) list touched touched places room code by k
    (taken cells list k.cells_are (k.apart refl) code z none)
    (taken_apart cells list k.cells_are (k.apart refl) code z none)
    (touched_set cells touched (cell_of code) (net_of code z) k.touched_are bound in_)
    k.fits
    (left_moves cells (set cells (cell_of code) (net_of code z)) list code by (written cells (cell_of code) x (net_of code z) code by bound is moves))
    some w few)
  where
    code_is : x.code ≡ code
    code_is = same_code-equal x.code code same

    bound : cell_of code < length cells
    bound = cell_bound cells list k.cells_are code

    none : times code (codes_in list) ≡ 0
    none = k.apart refl code x (subst (λ (e : Change). same_code e.code code ≡ true) is same)

    in_ : is_in (cell_of code) touched ≡ true
    in_ = touched_here cells touched (cell_of code) x k.touched_are (place_bound code) is (ap cell_of code_is)

    moves : (c : CodeId) → by_code code z c ≡ by_code x.code x.by c +ℤ by_code code by c
    moves c = subst (λ q. by_code code z c ≡ by_code q x.by c +ℤ by_code code by c) (sym code_is) (own_moves code c x.by z by sum)

-- it takes its cell
pub noted_taken : (cells list : List Change) (touched now_touched : List ℕ) (places room : ℕ) (code : CodeId) (by : ℤ) (x : Change) → AreKept cells touched places list room false
    → x ≡ get_or cells (cell_of code) x → is_zero x.by ≡ true → times code (codes_in list) ≡ 0 → AreTouched cells now_touched → is_in (cell_of code) now_touched ≡ true
    → is_zero by ≡ false → IsWithin (net_in (settled (cells ++ list)) code +ℤ by) 256 → length (add (settled (cells ++ list)) code by) ≤ 512
    → Noted cells list (set cells (cell_of code) (net_of code by)) now_touched places list room code by
noted_taken cells list touched now_touched places room code by x k is zero_net none t in_ some w few =
    noted cells list (set cells (cell_of code) (net_of code by)) list touched now_touched places room code by k
    (taken cells list k.cells_are (k.apart refl) code by none)
    (taken_apart cells list k.cells_are (k.apart refl) code by none)
    (touched_set cells now_touched (cell_of code) (net_of code by) t bound in_)
    k.fits
    (left_moves cells (set cells (cell_of code) (net_of code by)) list code by (written cells (cell_of code) x (net_of code by) code by bound is (λ c. none_moves code x.code c x.by by zero_net)))
    some w few
  where
    bound : cell_of code < length cells
    bound = cell_bound cells list k.cells_are code

-- the list has it
in_list : (cells list : List Change) → AreCells cells list → (code : CodeId) (d : Change) → same_code (get_or cells (cell_of code) d).code code ≡ false → total (cells ++ list) code ≡ total list code
in_list cells list a code d h = total_append cells list code ∙ none_plus (total cells code) (total list code) (in_cells cells list a code d ∙ ap (λ b. cond b (get_or cells (cell_of code) d).by (pos 0)) h)

pub list_within : (cells list : List Change) (touched : List ℕ) (places room : ℕ) (flushed : Bool) (code : CodeId) (place : ℕ) (x : Change) → AreKept cells touched places list room flushed
    → ((d : Change) → same_code (get_or cells (cell_of code) d).code code ≡ false) → IsAt list code place → x ≡ get_or list place x → IsWithin x.by 256
list_within cells list touched places room flushed code place x k new at_ is =
    let all = settled_net (cells ++ list) code ∙ (in_list cells list k.cells_are code x (new x) ∙ (sym (settled_net list code) ∙ (total_of list code place x k.cells_are.once at_ ∙ ap (λ (e : Change). e.by) (sym is)))) in
    subst (λ z. IsWithin z 256) all (k.small code)

pub noted_listed : (cells list : List Change) (touched : List ℕ) (places room : ℕ) (code : CodeId) (by z : ℤ) (place : ℕ) (x : Change) → AreKept cells touched places list room false
    → IsAt list code place → x ≡ get_or list place x → z ≡ x.by +ℤ by
    → is_zero by ≡ false → IsWithin (net_in (settled (cells ++ list)) code +ℤ by) 256 → length (add (settled (cells ++ list)) code by) ≤ 512
    → Noted cells list cells touched places (set list place (net_of x.code z)) room code by
noted_listed cells list touched places room code by z place x k at_ is sum some w few =
    noted cells list cells (set list place (net_of x.code z)) touched touched places room code by k
    (relisted cells list (set list place (net_of x.code z)) k.cells_are codes)
    (relisted_apart cells list (set list place (net_of x.code z)) (k.apart refl) codes)
    k.touched_are
    (let long = length-set list place (net_of x.code z) in let fits = k.fits in omega arith)
    (right_moves cells list (set list place (net_of x.code z)) code by (written list place x (net_of x.code z) code by at_.within is moves))
    some w few
  where
    code_is : x.code ≡ code
    code_is = ap (λ (e : Change). e.code) is ∙ at_.is x

    codes : (c : CodeId) → times c (codes_in (set list place (net_of x.code z))) ≤ times c (codes_in list)
    codes c =
        let all = rw (← is) at (times_set list place x (net_of x.code z) at_.within c) in
        omega (arith, all)

    moves : (c : CodeId) → by_code x.code z c ≡ by_code x.code x.by c +ℤ by_code code by c
    moves c = subst (λ q. by_code q z c ≡ by_code q x.by c +ℤ by_code code by c) (sym code_is) (own_moves code c x.by z by sum)

-- the list takes it
pub list_few : (cells list : List Change) (touched : List ℕ) (places room : ℕ) (flushed : Bool) → AreKept cells touched places list room flushed → length (settled list) ≤ 512
list_few cells list touched places room flushed k =
    let all = count_live cells list k.cells_are in
    let mine = length_settled list k.cells_are.once in
    let few = k.few in
    omega (arith, all, mine, few)

pub noted_put : (cells list others : List Change) (touched now_touched : List ℕ) (places room : ℕ) (code : CodeId) (by : ℤ) → AreKept cells touched places list room false
    → ((d : Change) → same_code (get_or cells (cell_of code) d).code code ≡ false) → times code (codes_in list) ≡ 0 → AreTouched cells now_touched → IsPut (net_of code by) list others
    → is_zero by ≡ false → IsWithin (net_in (settled (cells ++ list)) code +ℤ by) 256 → length (add (settled (cells ++ list)) code by) ≤ 512
    → Noted cells list cells now_touched places others room code by
noted_put cells list others touched now_touched places room code by k new none t put some w few =
    noted cells list cells others touched now_touched places room code by k
    (listed cells list others code by k.cells_are (k.apart refl) put none new)
    (listed_apart cells list others code by (k.apart refl) put new)
    t put.fits (right_moves cells list others code by put.totals) some w few

-- no net is left
pub none_kept : (cells : List Change) (touched : List ℕ) (places room : ℕ) → AreCells cells [] → AreTouched cells touched → AreAtRest cells → 1024 ≤ places → 2048 ≤ room → AreKept cells touched places [] room false
none_kept cells touched places room a t rest has_places has_room =
    let all = list_all cells [] a rest in
    record {
      cells_are = a;
      touched_are = t;
      has_places = has_places;
      has_room = has_room;
      fits = omega arith;
      small = rw all (λ c. record { low = omega (arith, ints); high = omega (arith, ints) });
      few = rw all (omega arith);
      rising = λ no. cc;
      apart = λ open_ c d s. refl;
      at_rest = λ no. cc;
    }

-- none was touched
pub none_touched : (cells : List Change) → AreAmong cells [] → AreTouched cells []
none_touched cells none = record { among = none; places = All-nil (λ k. k < 1024); few = omega arith }

same_all : (cells list more others : List Change) → AreCells more others → AreAtRest more → ((c : CodeId) → total (more ++ others) c ≡ total (cells ++ list) c) → settled others ≡ settled (cells ++ list)
same_all cells list more others a rest same = sym (list_all more others a rest) ∙ same_settled (more ++ others) (cells ++ list) same

settled_part : (es : List Change) (c : CodeId) → times c (codes_in (settled es)) ≤ times c (codes_in es)
settled_part es c = by_case (times c (codes_in es)) refl (is_zero (net_in (settled es) c)) refl (times_codes (settled es) None c (settled_rising es))
  where
    by_case : {m : ℕ} (n : ℕ) → times c (codes_in es) ≡ n → (z : Bool) → is_zero (net_in (settled es) c) ≡ z → m ≡ cond z 0 1 → m ≤ times c (codes_in es)
    by_case n e true z h = omega (arith, h)
    by_case zero e false z h = absurd (zero_not (net_in (settled es) c) z (settled_net es c ∙ no_total es c e))
    by_case (suc n) e false z h = omega (arith, e, h)

pub flushed_kept : (cells list more others : List Change) (touched now_touched : List ℕ) (places room : ℕ) → AreKept cells touched places list room false
    → AreCells more others → AreTouched more now_touched → AreAtRest more → ((c : CodeId) → total (more ++ others) c ≡ total (cells ++ list) c) → AreKept more now_touched places (settled others) room true
flushed_kept cells list more others touched now_touched places room k a t rest same =
    let b = relisted more others (settled others) a (settled_part others) in
    let all : settled (more ++ settled others) ≡ settled (cells ++ list) = list_all more (settled others) b rest ∙ (rising_settled (settled others) (settled_rising others) ∙ same_all cells list more others a rest same) in
    record {
      cells_are = b;
      touched_are = t;
      has_places = k.has_places;
      has_room = k.has_room;
      fits = (let long = ap length (same_all cells list more others a rest same) in let few = k.few in omega arith);
      small = rw all k.small;
      few = rw all k.few;
      rising = λ f. settled_rising others;
      apart = λ no. cc;
      at_rest = λ f. rest;
    }

pub flushed_same : (cells list more others : List Change) → AreCells more others → AreAtRest more → ((c : CodeId) → total (more ++ others) c ≡ total (cells ++ list) c) → settled (more ++ settled others) ≡ settled (cells ++ list)
flushed_same cells list more others a rest same =
    list_all more (settled others) (relisted more others (settled others) a (settled_part others)) rest ∙ (rising_settled (settled others) (settled_rising others) ∙ same_all cells list more others a rest same)

-- flushed, the list has all as it is
pub flushed_is : (cells list : List Change) (touched : List ℕ) (places room : ℕ) (flushed : Bool) → AreKept cells touched places list room flushed → flushed ≡ true → settled (cells ++ list) ≡ list
flushed_is cells list touched places room flushed k f =
    list_all cells list k.cells_are (k.at_rest f) ∙ rising_settled list (k.rising f)

-- two reads of a code's cell
pub read_same : (cells list : List Change) → AreCells cells list → (code : CodeId) (x y : Change) (b : Bool) → x ≡ get_or cells (cell_of code) x → y ≡ get_or cells (cell_of code) y → b ≡ same_code y.code code → b ≡ true → same_code x.code code ≡ true
read_same cells list a code x y b is was test h =
    let one : x ≡ y = is ∙ (get_or_default cells (cell_of code) x y (cell_bound cells list a code) ∙ sym was) in
    subst (λ (e : Change). same_code e.code code ≡ true) (sym one) (sym test ∙ h)

-- nothing was touched, and the list is empty
pub unmoved_none : (cells list : List Change) (touched : List ℕ) → AreCells cells list → AreTouched cells touched → length touched ≡ 0 → length list ≡ 0 → settled (cells ++ list) ≡ []
unmoved_none cells [] [] a t unmoved none = list_all cells [] a (among_rest cells [] a t.among)
unmoved_none cells (x ∷ xs) touched a t unmoved none = absurd (omega (arith, none))
unmoved_none cells [] (k ∷ ks) a t unmoved none = absurd (omega (arith, unmoved))

-- the tests of both parts
pub empty_both : (cells list : List Change) (b : Bool) → AreCells cells list → true ≡ eqb (length (live cells)) 0 → b ≡ eqb (length (live list)) 0 → b ≡ eqb (length (settled (cells ++ list))) 0
empty_both cells list b a none test =
    let all = count_live cells list a in
    let no : length (live cells) ≡ 0 = grind (arith, nat_tests) in
    test ∙ ap (λ n. eqb n 0) (omega (arith, all, no))

pub empty_not : (cells list : List Change) (b : Bool) → AreCells cells list → b ≡ eqb (length (live cells)) 0 → b ≡ false → b ≡ eqb (length (settled (cells ++ list))) 0
empty_not cells list b a test h = by_case (length (live cells)) refl (sym test ∙ h)
  where
    by_case : (n : ℕ) → length (live cells) ≡ n → eqb (length (live cells)) 0 ≡ false → b ≡ eqb (length (settled (cells ++ list))) 0
    by_case zero e some = let is : eqb (length (live cells)) 0 ≡ true = grind (arith, nat_tests) in cc
    by_case (suc n) e some =
        let all = count_live cells list a in
        h ∙ (sym (more_left (n + length (live list))) ∙ ap (λ m. eqb m 0) (omega (arith, all, e)))

-- small nets
small_append : (xs ys : List Change) → AreSmall (xs ++ ys) → AreSmall xs × AreSmall ys
small_append [] ys h = (tt, h)
small_append (x ∷ xs) ys h = let rest = small_append xs ys h.1 in ((h.0, rest.0), rest.1)

small_live : (es : List Change) → AreSmall (live es) → AreSmall es
small_live [] h = tt
small_live (e ∷ es) h = by_case (is_zero e.by) refl (small_live es) h
  where
    by_case : (z : Bool) → is_zero e.by ≡ z → (AreSmall (live es) → AreSmall es) → AreSmall (cond (not z) (e ∷ live es) (live es)) → IsWithin e.by 256 × AreSmall es
    by_case true z rest h = let none = zero_is e.by z in (record { low = omega (arith, ints, none); high = omega (arith, ints, none) }, rest h)
    by_case false z rest h = (h.0, rest h.1)

pub small_both : (cells list : List Change) (touched : List ℕ) (places room : ℕ) (flushed : Bool) → AreKept cells touched places list room flushed → AreSmall cells × AreSmall list
small_both cells list touched places room flushed k =
    let all = small_once (live cells ++ list) (once_live cells list k.cells_are) (λ c. subst (λ es. IsWithin (net_in es c) 256) (sym (same_live cells list)) (k.small c)) in
    let both = small_append (live cells) list all in
    (small_live cells both.0, both.1)

pub sum_append : (serial : ℕ) (xs ys : List Change) → net_sum serial (xs ++ ys) ≡ net_sum serial xs +ℤ net_sum serial ys
sum_append serial [] ys = let s : ℤ = net_sum serial ys in none s
  where
    none : (s : ℤ) → s ≡ pos 0 +ℤ s
    none s = omega (arith, ints)
sum_append serial (x ∷ xs) ys = step (net_sum serial (xs ++ ys)) (net_sum serial xs) (net_sum serial ys) (cond (eqb x.code.serial serial) x.by (pos 0)) (sum_append serial xs ys)
  where
    step : (a s u x : ℤ) → a ≡ s +ℤ u → x +ℤ a ≡ x +ℤ s +ℤ u
    step a s u x h = omega (arith, ints, h)

-- the list's nets are dropped
pub dropped : (cells list : List Change) → AreCells cells list → AreCells cells []
dropped cells list a = relisted cells list [] a (λ c. omega arith)

-- the only net is taken out of its cell, which keeps its code
pub record TakenOnly (cells list more : List Change) (touched : List ℕ) (places room : ℕ) (e : Change) : Type 0 where
  pub kept : AreKept more touched places list room false
  pub was : settled (cells ++ list) ≡ e ∷ []
  pub none : settled (more ++ list) ≡ []

pub taken_only : (cells list : List Change) (touched : List ℕ) (places room i : ℕ) (e : Change) → AreKept cells touched places list room false → length touched ≡ 1 → length list ≡ 0
    → i ≡ get_or touched 0 i → e ≡ get_or cells i e → is_zero e.by ≡ false → TakenOnly cells list (set cells i (net_of e.code (pos 0))) touched places room e
taken_only cells list [] places room i e k one none at_ is some = absurd (omega (arith, one))
taken_only cells list (j ∷ m ∷ ms) places room i e k one none at_ is some = absurd (omega (arith, one))
taken_only cells (x ∷ xs) (j ∷ []) places room i e k one none at_ is some = absurd (omega (arith, none))
taken_only cells [] (j ∷ []) places room i e k one none at_ is some =
    let lt : i < 1024 = rw at_ (k.touched_are.places 0 i (omega arith)) in
    let bound : i < length cells = let long = k.cells_are.long in omega arith in
    let left = rested_net cells [] i e.code e k.cells_are lt is some in
    let more : List Change = set cells i (net_of e.code (pos 0)) in
    let empty : AreCells more [] = dropped more (e ∷ []) left.are in
    let rest : AreAtRest more = none_rest more (left.nets [] (rw at_ (nets_touched cells [] (j ∷ []) k.cells_are k.touched_are))) in
    record {
      kept = none_kept more (j ∷ []) places room empty (touched_rested cells i e bound is (j ∷ []) k.touched_are) rest k.has_places k.has_room;
      was = sym (same_all cells [] more (e ∷ []) left.are rest left.totals) ∙ (rw some refl);
      none = list_all more [] empty rest;
    }
