-- What nets say of an image: which code changes next, how many codes are unsettled, and what a push or a pop keeps.
use Rattle.std.proofs.Common.{◌≡◌, ◌≢◌, ℕ, zero, suc, ◌+◌, ◌<◌, ◌≤◌, ◌∙◌, sym, Bool, true, false, not, ◌||◌, eqb, List, [], ◌∷◌, ◌++◌, length, take, drop, get_or, Option, Some, None, refl, ap, ap₂, subst, cond, arith, ℤ, pos, ◌+ℤ◌, negsuc, ◌-ℤ◌, replicate}
use Rattle.std.proofs.lemmas.Int.{ints}
use Rattle.std.proofs.lemmas.List.Sums.{sum_by-cons, sum_by-append}
use Rattle.std.proofs.lemmas.Option.{slice_get_within, get_or_from_slice_get}
use Rattle.std.specs.Prelude.{filter, slice_get, is_some, ◌≤ℤ◌, IsTrue, ◌↔◌}
use Rattle.std.proofs.lemmas.Bool.Decides.{nat_tests}
use Rattle.frames.specs.declared.CodeId.{CodeId}
use Rattle.frames.specs.declared.Frame.{Frame}
use Rattle.frames.specs.declared.Change.{Change}
use Rattle.frames.specs.Stack.{same_code, code_lt, is_of, act, has_serial, serial_is, serial_count, code_or, codes_of, times, is_among}
use Rattle.frames.specs.Least.{least}
use Rattle.frames.specs.Kept.{upto}
use Rattle.frames.specs.ImageView.{ImageView, SameBag, uncounted, next_code, IsNext, distinct, unsettled, serial_times}
use Rattle.frames.specs.Nets.{net_in, is_zero, add, IsRising, codes_in, counted_by, first_of, IsWithin, nat_of, net_sum, by_code}
use Rattle.frames.proofs.Bags.{same_code-equal, same_code-refl, times-cons, times-append, times-codes_of, act-cons, among-times}
use Rattle.frames.proofs.Ordered.{code_lt-irrefl, IsLeast, least-is_least, least-unique}
use Rattle.frames.proofs.Fewer.{apart, part_fits}
use Rattle.frames.proofs.Uncounted.{same_none, differ_some, times-uncounted}
use Rattle.frames.proofs.Moves.{upto_trans, rising_add, net_below, net_here, net_other, zero_not, balance, counted_is, apart_sym, zero_is}

-- the next code
some_differ : (m n : ℕ) → m ≢ n → 0 < cond (not (eqb m n)) (m + n) 0
some_differ m n h = grind (arith, nat_tests)

is_least_of : (image : ImageView) (o : Option CodeId) → IsNext image o → IsLeast (uncounted image.frames image.counted) o
is_least_of image None h = λ c. times-uncounted image.frames image.counted c ∙ same_none (act c image.frames) (times c image.counted) (h c)
is_least_of image (Some code) h = (
  rw times-uncounted (some_differ (act code image.frames) (times code image.counted) h.0),
  λ c k. h.1 c (differ_some (act c image.frames) (times c image.counted) (rw times-uncounted at k)),
)

pub next_code_is : (image : ImageView) (o : Option CodeId) → IsNext image o → next_code image ≡ o
next_code_is image o h =
    let ours : List CodeId = uncounted image.frames image.counted in
    least-unique ours ours (least ours) o (λ c k. k) (λ c k. k) (least-is_least ours) (is_least_of image o h)

-- the nets of a list say where counts differ
pub even : (frames : List Frame) (es : List Change) (c : CodeId) → net_in es c ≤ℤ pos (act c frames) → net_in es c ≡ pos 0 → act c frames ≡ times c (counted_by frames es)
even frames es c h z = let b = balance frames es c h in omega (arith, ints)

pub zero_net : (frames : List Frame) (es : List Change) (c : CodeId) → net_in es c ≤ℤ pos (act c frames) → act c frames ≡ times c (counted_by frames es) → net_in es c ≡ pos 0
zero_net frames es c h e = let b = balance frames es c h in omega (arith, ints)

pub rising_any : (es : List Change) (last : Option CodeId) → IsRising last es → IsRising None es
rising_any [] last r = tt
rising_any (e ∷ es) last r = (refl, r.1, r.2)

pub rising_drop : (n : ℕ) (es : List Change) → IsRising None es → IsRising None (drop n es)
rising_drop zero es r = r
rising_drop (suc n) [] r = tt
rising_drop (suc n) (e ∷ es) r = rising_drop n es (rising_any es (Some e.code) r.2)

pub itself : (e : Change) (es : List Change) → net_in (e ∷ es) e.code ≡ e.by
itself e es = rw same_code-refl refl

pub none_behind : (e : Change) (es : List Change) → IsRising (Some e.code) es → net_in es e.code ≡ pos 0
none_behind e es r = net_below es (Some e.code) e.code r (rw code_lt-irrefl refl)

pub shown : List Frame → List Change → List CodeId → Bool → ImageView
shown frames es changed publishing = record { frames = frames; counted = counted_by frames es; changed = changed; publishing = publishing }

not_lt_itself : (a b : CodeId) → same_code a b ≡ true → code_lt b a ≡ false
not_lt_itself a b h = subst (λ c. code_lt c a ≡ false) (same_code-equal a b h) (code_lt-irrefl a)

lt_behind : (a b : CodeId) → (upto (Some a) b ≡ true → ⊥) → code_lt b a ≡ false
lt_behind a b h = grind (arith, nat_tests)

pub is_next_of : (frames : List Frame) (es : List Change) (changed : List CodeId) (publishing : Bool) → IsRising None es → ((c : CodeId) → IsWithin (net_in es c) (act c frames))
    → IsNext (record { frames = frames; counted = counted_by frames es; changed = changed; publishing = publishing }) (first_of es)
is_next_of frames [] changed publishing r w = λ c. even frames [] c (w c).high refl
is_next_of frames (e ∷ es) changed publishing r w = (
  λ same. zero_not e.by r.1 (sym (itself e es) ∙ zero_net frames (e ∷ es) e.code (w e.code).high same),
  λ c differs. by_case c (same_code e.code c) refl differs,
)
  where
    by_case : (c : CodeId) (b : Bool) → same_code e.code c ≡ b → (act c frames ≡ times c (counted_by frames (e ∷ es)) → ⊥) → code_lt c e.code ≡ false
    by_case c true h differs = not_lt_itself e.code c h
    by_case c false h differs = lt_behind e.code c (λ k. differs (even frames (e ∷ es) c (w c).high (rw h (net_below es (Some e.code) c r.2 k))))

-- a list from a place on
pub one_more : (n : ℕ) → suc n ≡ n + 1
one_more n = omega arith

drop_suc : (n : ℕ) (es : List Change) (d : Change) → n < length es → drop n es ≡ get_or es n d ∷ drop (suc n) es
drop_suc n [] d h = absurd (omega arith)
drop_suc zero (e ∷ es) d h = refl
drop_suc (suc n) (e ∷ es) d h = drop_suc n es d (omega arith)

pub drop_next : (n : ℕ) (es : List Change) (d : Change) → n < length es → drop n es ≡ get_or es n d ∷ drop (n + 1) es
drop_next n es d h = drop_suc n es d h ∙ ap (λ m. get_or es n d ∷ drop m es) (one_more n)

pub length_left : (n : ℕ) (es : List Change) → n ≤ length es → length (drop n es) + n ≡ length es
length_left zero es h = omega arith
length_left (suc n) [] h = absurd (omega arith)
length_left (suc n) (e ∷ es) h = let k = length_left n es (omega arith) in omega arith

pub drop_all : (n : ℕ) (es : List Change) → length es ≤ n → drop n es ≡ []
drop_all zero [] h = refl
drop_all (suc n) [] h = refl
drop_all zero (e ∷ es) h = absurd (omega arith)
drop_all (suc n) (e ∷ es) h = drop_all n es (omega arith)

pub within_rest : (frames : List Frame) (e : Change) (es : List Change) → IsRising None (e ∷ es) → ((c : CodeId) → IsWithin (net_in (e ∷ es) c) (act c frames)) → (c : CodeId) → IsWithin (net_in es c) (act c frames)
within_rest frames e es r w c = by_case (same_code e.code c) refl (w c)
  where
    by_case : (b : Bool) → same_code e.code c ≡ b → IsWithin (cond b e.by (net_in es c)) (act c frames) → IsWithin (net_in es c) (act c frames)
    by_case false h k = k
    by_case true h k =
        let none : net_in es c ≡ pos 0 = subst (λ x. net_in es x ≡ pos 0) (same_code-equal e.code c h) (none_behind e es r.2) in
        record { low = omega (arith, ints); high = omega (arith, ints) }

-- the change of the first net
pub first_by : (frames : List Frame) (e : Change) (es : List Change) → IsWithin (net_in (e ∷ es) e.code) (act e.code frames) → pos (times e.code (counted_by frames (e ∷ es))) +ℤ e.by ≡ pos (act e.code frames)
first_by frames e es w = let b = balance frames (e ∷ es) e.code w.high in let i = itself e es in omega (arith, ints)

pub first_moved : (frames : List Frame) (e : Change) (es : List Change) → IsRising None (e ∷ es) → times e.code (counted_by frames es) ≡ act e.code frames
first_moved frames e es r = let none = none_behind e es r.2 in sym (even frames es e.code (omega (arith, ints)) none)

pub first_others : (frames : List Frame) (e : Change) (es : List Change) (c : CodeId) → same_code c e.code ≡ false → times c (counted_by frames es) ≡ times c (counted_by frames (e ∷ es))
first_others frames e es c h = let ne : same_code e.code c ≡ false = apart_sym c e.code h in counted_is frames es c ∙ sym (counted_is frames (e ∷ es) c ∙ rw ne refl)

same_sym : (a b : CodeId) → same_code a b ≡ same_code b a
same_sym a b = grind (arith, nat_tests)

or_swap : (x y z : Bool) → (x || (y || z)) ≡ (y || (x || z))
or_swap true true z = refl
or_swap true false z = refl
or_swap false true z = refl
or_swap false false z = refl

among_suc : (n : ℕ) (es : List Change) (d : Change) (c : CodeId) → n < length es → is_among c (codes_in (take (suc n) es)) ≡ (same_code c (get_or es n d).code || is_among c (codes_in (take n es)))
among_suc n [] d c h = absurd (omega arith)
among_suc zero (e ∷ es) d c h = ap (λ b. b || false) (same_sym e.code c)
among_suc (suc n) (e ∷ es) d c h = ap (λ b. same_code e.code c || b) (among_suc n es d c (omega arith)) ∙ or_swap (same_code e.code c) (same_code c (get_or es n d).code) (is_among c (codes_in (take n es)))

pub among_taken : (n : ℕ) (es : List Change) (d : Change) (c : CodeId) → n < length es → is_among c (codes_in (take (n + 1) es)) ≡ (same_code c (get_or es n d).code || is_among c (codes_in (take n es)))
among_taken n es d c h = ap (λ m. is_among c (codes_in (take m es))) (sym (one_more n)) ∙ among_suc n es d c h

below_differs : (a b : CodeId) → upto (Some a) b ≡ false → same_code a b ≡ false
below_differs a b h = grind (arith, nat_tests)

pub fresh_at : (n : ℕ) (es : List Change) (last : Option CodeId) (d : Change) → IsRising last es → n < length es → (is_among (get_or es n d).code (codes_in (take n es)) ≡ false) × (upto last (get_or es n d).code ≡ false)
fresh_at n [] last d r h = absurd (omega arith)
fresh_at zero (e ∷ es) last d r h = (refl, r.0)
fresh_at (suc n) (e ∷ es) last d r h =
    let rest = fresh_at n es (Some e.code) d r.2 (omega arith) in
    (ap₂ (λ a b. a || b) (below_differs e.code (get_or es n d).code rest.1) rest.0, upto_trans last e.code (get_or es n d).code r.0 rest.1)

-- how many nets there are
pub times_codes : (es : List Change) (last : Option CodeId) (c : CodeId) → IsRising last es → times c (codes_in es) ≡ cond (is_zero (net_in es c)) 0 1
times_codes [] last c r = refl
times_codes (e ∷ es) last c r = times-cons c e.code (codes_in es) ∙ by_case (times_codes es (Some e.code) c r.2) (same_code e.code c) refl
  where
    by_case : times c (codes_in es) ≡ cond (is_zero (net_in es c)) 0 1 → (b : Bool) → same_code e.code c ≡ b → cond b 1 0 + times c (codes_in es) ≡ cond (is_zero (cond b e.by (net_in es c))) 0 1
    by_case rest false h = omega (arith, rest)
    by_case rest true h =
        let none : net_in es c ≡ pos 0 = subst (λ x. net_in es x ≡ pos 0) (same_code-equal e.code c h) (none_behind e es r.2) in
        let zero_ : times c (codes_in es) ≡ 0 = rest ∙ rw none refl in
        rw (zero_, r.1) refl

pub length-codes_in : (es : List Change) → length (codes_in es) ≡ length es
length-codes_in [] = refl
length-codes_in (e ∷ es) = ap suc (length-codes_in es)

length-code_or : (o : Option CodeId) (cs : List CodeId) → length (code_or o cs) ≤ suc (length cs)
length-code_or None cs = omega arith
length-code_or (Some c) cs = omega arith

pub length-codes_of : (fs : List Frame) → length (codes_of fs) ≤ length fs
length-codes_of [] = omega arith
length-codes_of (f ∷ fs) = let a = length-code_or f.code (codes_of fs) in let b = length-codes_of fs in omega arith

pub times_le : (c : CodeId) (xs : List CodeId) → times c xs ≤ length xs
times_le c xs = let a = apart c xs in omega arith

pub act_le : (c : CodeId) (fs : List Frame) → act c fs ≤ length fs
act_le c fs = let a = times-codes_of c fs in let b = times_le c (codes_of fs) in let d = length-codes_of fs in omega arith

length-append : (xs ys : List CodeId) → length (xs ++ ys) ≡ length xs + length ys
length-append [] ys = omega arith
length-append (x ∷ xs) ys = omega (arith, length-append xs ys)

zero_one : (z : ℤ) (n : ℕ) → (z ≢ pos 0 → 0 < n) → cond (is_zero z) 0 1 ≤ n
zero_one z n h = by_case (is_zero z) refl
  where
    by_case : (b : Bool) → is_zero z ≡ b → cond b 0 1 ≤ n
    by_case true e = omega arith
    by_case false e = let k = h (zero_not z e) in omega arith

-- each code with a net has a frame or is counted, so that 512 nets are enough
pub nets_fit : (frames : List Frame) (es : List Change) → IsRising None es → ((c : CodeId) → IsWithin (net_in es c) (act c frames)) → length frames ≤ 256 → length (counted_by frames es) ≤ 256 → length es ≤ 512
nets_fit frames es r w f k =
    let bag : List CodeId = codes_of frames ++ counted_by frames es in
    let fits : length (codes_in es) ≤ length bag = part_fits (length bag) (codes_in es) bag (omega arith) (λ c. part c) in
    let all = length-append (codes_of frames) (counted_by frames es) in
    let some = length-codes_of frames in
    let same = length-codes_in es in omega arith
  where
    part : (c : CodeId) → times c (codes_in es) ≤ times c (codes_of frames ++ counted_by frames es)
    part c =
        let a = times_codes es None c r in
        let b = times-append c (codes_of frames) (counted_by frames es) in
        let d = times-codes_of c frames in
        let n = balance frames es c (w c).high in
        let m : cond (is_zero (net_in es c)) 0 1 ≤ act c frames + times c (counted_by frames es) = zero_one (net_in es c) (act c frames + times c (counted_by frames es)) (λ ne. some_there (act c frames) (times c (counted_by frames es)) (net_in es c) n ne) in
        omega arith
      where
        some_there : (a t : ℕ) (z : ℤ) → pos t +ℤ z ≡ pos a → z ≢ pos 0 → 0 < a + t
        some_there zero zero z e ne = absurd (ne (omega (arith, ints, e)))
        some_there (suc a) t z e ne = omega arith
        some_there zero (suc t) z e ne = omega arith

times-distinct : (c : CodeId) (xs : List CodeId) → times c (distinct xs) ≡ cond (is_among c xs) 1 0
times-distinct c [] = refl
times-distinct c (x ∷ xs) = by_case (times-distinct c xs) (is_among x xs) refl (same_code x c) refl
  where
    by_case : times c (distinct xs) ≡ cond (is_among c xs) 1 0 → (b : Bool) → is_among x xs ≡ b → (s : Bool) → same_code x c ≡ s → times c (cond b (distinct xs) (x ∷ distinct xs)) ≡ cond (s || is_among c xs) 1 0
    by_case rest true h true e = rest ∙ ap (λ b. cond b 1 0) (subst (λ y. is_among y xs ≡ true) (same_code-equal x c e) h)
    by_case rest true h false e = rest
    by_case rest false h true e =
        let none : is_among c xs ≡ false = subst (λ y. is_among y xs ≡ false) (same_code-equal x c e) h in
        times-cons c x (distinct xs) ∙ rw (e, rest, none) refl
    by_case rest false h false e = times-cons c x (distinct xs) ∙ rw e (omega (arith, rest))

pub same_length : (xs ys : List CodeId) → ((c : CodeId) → times c xs ≡ times c ys) → length xs ≡ length ys
same_length xs ys h =
    let a = part_fits (length ys) xs ys (omega arith) (λ c. omega (arith, h c)) in
    let b = part_fits (length xs) ys xs (omega arith) (λ c. omega (arith, h c)) in omega arith

pub unsettled_is : (frames : List Frame) (es : List Change) (changed : List CodeId) (publishing : Bool) → IsRising None es → ((c : CodeId) → IsWithin (net_in es c) (act c frames))
    → unsettled (record { frames = frames; counted = counted_by frames es; changed = changed; publishing = publishing }) ≡ length es
unsettled_is frames es changed publishing r w =
    same_length (distinct (uncounted frames (counted_by frames es))) (codes_in es)
    (λ c. times-distinct c (uncounted frames (counted_by frames es))
    ∙ (ap (λ b. cond b 1 0) (among-times c (uncounted frames (counted_by frames es)) ∙ ap (λ n. not (eqb n 0)) (times-uncounted frames (counted_by frames es) c))
    ∙ (by_net (act c frames) (times c (counted_by frames es)) (net_in es c) (balance frames es c (w c).high)
    ∙ sym (times_codes es None c r))))
    ∙ length-codes_in es
  where
    by_net : (a t : ℕ) (z : ℤ) → pos t +ℤ z ≡ pos a → cond {A = ℕ} (not (eqb (cond (not (eqb a t)) (a + t) 0) 0)) 1 0 ≡ cond (is_zero z) 0 1
    by_net a t z e = by_zero (is_zero z) refl
      where
        by_zero : (b : Bool) → is_zero z ≡ b → cond {A = ℕ} (not (eqb (cond (not (eqb a t)) (a + t) 0) 0)) 1 0 ≡ cond b 0 1
        by_zero true h = let z_is : z ≡ pos 0 = zero_is z h in let same : a ≡ t = omega (arith, ints) in grind (arith, nat_tests)
        by_zero false h = let ne : a ≢ t = (λ s. zero_not z h (omega (arith, ints))) in grind (arith, nat_tests)

-- a frame of the code comes or goes, by 1 or -1
pub nets_by : (es : List Change) (code : CodeId) (by : ℤ) → IsRising None es → (c : CodeId) → net_in (add es code by) c ≡ net_in es c +ℤ by_code code by c
nets_by es code by r c = by_case (same_code code c) refl
  where
    by_case : (b : Bool) → same_code code c ≡ b → net_in (add es code by) c ≡ net_in es c +ℤ cond b by (pos 0)
    by_case true h = subst (λ x. net_in (add es code by) x ≡ net_in es x +ℤ by) (same_code-equal code c h) (net_here es None code by r)
    by_case false h = let o = net_other es code c by h in omega (arith, ints)

pub within_all : (frames : List Frame) (n : ℕ) (net : ℤ) (c : CodeId) → length frames ≤ n → IsWithin net (act c frames) → IsWithin net n
within_all frames n net c few w = let le = act_le c frames in let h = w.high in record { low = w.low; high = omega (arith, ints) }

-- what a push and a pop keep
pub record After (frames others : List Frame) (es more : List Change) : Type 0 where
  pub within : (c : CodeId) → IsWithin (net_in more c) (act c others)
  pub same : SameBag (counted_by others more) (counted_by frames es)
  pub few : length (counted_by others more) ≤ 256

pub after : (frames others : List Frame) (es more : List Change) (d : CodeId → ℤ) → ((c : CodeId) → pos (act c others) ≡ pos (act c frames) +ℤ d c) → ((c : CodeId) → net_in more c ≡ net_in es c +ℤ d c)
    → ((c : CodeId) → IsWithin (net_in es c) (act c frames)) → length (counted_by frames es) ≤ 256 → After frames others es more
after frames others es more d acts nets w few = record {
  within = λ c. record { low = low c; high = high c };
  same = same;
  few = (let e = same_length (counted_by others more) (counted_by frames es) same in omega arith);
}
  where
    high : (c : CodeId) → net_in more c ≤ℤ pos (act c others)
    high c = let a = acts c in let n = nets c in let h = (w c).high in omega (arith, ints)

    same : (c : CodeId) → times c (counted_by others more) ≡ times c (counted_by frames es)
    same c = let a = acts c in let n = nets c in let old = balance frames es c (w c).high in let new = balance others more c (high c) in omega (arith, ints)

    low : (c : CodeId) → pos 0 ≤ℤ (net_in more c +ℤ pos 256)
    low c = let n = balance others more c (high c) in let s = same c in let t = times_le c (counted_by frames es) in omega (arith, ints)

-- and where a code's net moves with its frames
pub record Moved (frames others : List Frame) (es : List Change) (code : CodeId) (by : ℤ) : Type 0 where
  pub kept : After frames others es (add es code by)
  pub rising : IsRising None (add es code by)
  pub fits : length (add es code by) ≤ 512
  pub net : IsWithin (net_in es code +ℤ by) 256

pub moves : (frames others : List Frame) (es : List Change) (code : CodeId) (by : ℤ) → ((c : CodeId) → pos (act c others) ≡ pos (act c frames) +ℤ by_code code by c) → length others ≤ 256 → is_zero by ≡ false
    → IsRising None es → ((c : CodeId) → IsWithin (net_in es c) (act c frames)) → length (counted_by frames es) ≤ 256 → Moved frames others es code by
moves frames others es code by acts short some r w few =
    let kept = after frames others es (add es code by) (by_code code by) acts (nets_by es code by r) w few in
    let rising = rising_add es None code by some refl r in
    record {
      kept = kept;
      rising = rising;
      fits = nets_fit others (add es code by) rising kept.within short kept.few;
      net = subst (λ z. IsWithin z 256) (net_here es None code by r) (within_all others 256 _ code short (kept.within code));
    }

counted_no_nets : (frames : List Frame) (es : List Change) → IsRising None es → ((c : CodeId) → IsWithin (net_in es c) (act c frames)) → ((c : CodeId) → act c frames ≡ times c (counted_by frames es)) → es ≡ []
counted_no_nets frames [] r w h = refl
counted_no_nets frames (e ∷ es) r w h = absurd (zero_not e.by r.1 (sym (itself e es) ∙ zero_net frames (e ∷ es) e.code (w e.code).high (h e.code)))

-- an image is settled exactly where it has no nets
pub settled_iff : (frames : List Frame) (es : List Change) (publishing empty : Bool) → publishing ≡ false → empty ≡ eqb (length es) 0 → IsRising None es → ((c : CodeId) → IsWithin (net_in es c) (act c frames))
    → IsTrue empty ↔ ((publishing ≡ false) × ((code : CodeId) → act code frames ≡ times code (counted_by frames es)))
settled_iff frames es publishing empty closed e r w = (
  λ h. (closed, λ c. subst (λ xs. act c frames ≡ times c (counted_by frames xs)) (sym (no_length es (sym e ∙ h))) (sym (times-codes_of c frames))),
  λ h. e ∙ ap (λ (xs : List Change). eqb (length xs) 0) (counted_no_nets frames es r w h.1),
)
  where
    no_length : (xs : List Change) → eqb (length xs) 0 ≡ true → xs ≡ []
    no_length [] h = refl
    no_length (x ∷ xs) h = absurd (grind (arith, nat_tests))

-- before a publication gave anything, all nets are left
pub from_front : (frames : List Frame) (es : List Change) (n : ℕ) → n ≡ 0 → ((c : CodeId) → IsWithin (net_in (drop n es) c) (act c frames)) → (c : CodeId) → IsWithin (net_in es c) (act c frames)
from_front frames es n e w = subst (λ m. (c : CodeId) → IsWithin (net_in (drop m es) c) (act c frames)) e w

act-append : (c : CodeId) (fs : List Frame) (f : Frame) → act c (fs ++ f ∷ []) ≡ act c fs + cond (is_of c f) 1 0
act-append c [] f = act-cons c f [] ∙ omega arith
act-append c (g ∷ fs) f = act-cons c g (fs ++ f ∷ []) ∙ (ap (λ n. cond (is_of c g) 1 0 + n) (act-append c fs f) ∙ (let a = act-cons c g fs in omega arith))

pub pushed : (fs : List Frame) (f : Frame) (code : CodeId) → f.code ≡ Some code → (c : CodeId) → pos (act c (fs ++ f ∷ [])) ≡ pos (act c fs) +ℤ by_code code (pos 1) c
pushed fs f code is c = ap pos (act-append c fs f) ∙ (rw is (by_case (same_code code c)))
  where
    by_case : (b : Bool) → pos (act c fs + cond b 1 0) ≡ pos (act c fs) +ℤ cond b (pos 1) (pos 0)
    by_case true = refl
    by_case false = refl

pub popped : (fs others : List Frame) (f : Frame) (code : CodeId) → fs ≡ others ++ f ∷ [] → f.code ≡ Some code → (c : CodeId) → pos (act c others) ≡ pos (act c fs) +ℤ by_code code (negsuc 0) c
popped fs others f code e is c = rw e (rw (act-append c others f, is) (by_case (same_code code c)))
  where
    by_case : (b : Bool) → pos (act c others) ≡ pos (act c others + cond b 1 0) +ℤ cond b (negsuc 0) (pos 0)
    by_case true = omega (arith, ints)
    by_case false = omega (arith, ints)

pub pushed_none : (fs : List Frame) (f : Frame) → f.code ≡ None → (c : CodeId) → pos (act c (fs ++ f ∷ [])) ≡ pos (act c fs) +ℤ pos 0
pushed_none fs f is c = ap pos (act-append c fs f) ∙ (rw is refl)

pub popped_none : (fs others : List Frame) (f : Frame) → fs ≡ others ++ f ∷ [] → f.code ≡ None → (c : CodeId) → pos (act c others) ≡ pos (act c fs) +ℤ pos 0
popped_none fs others f e is c = rw e (rw (act-append c others f, is) (omega (arith, ints)))

pub still : (es : List Change) (c : CodeId) → net_in es c ≡ net_in es c +ℤ pos 0
still es c = omega (arith, ints)

pub length_pushed : (fs : List Frame) (f : Frame) → length (fs ++ f ∷ []) ≡ suc (length fs)
length_pushed [] f = refl
length_pushed (g ∷ fs) f = ap suc (length_pushed fs f)

-- nothing is left at the end
pub within_none : (frames : List Frame) (c : CodeId) → IsWithin (pos 0) (act c frames)
within_none frames c = record { low = omega (arith, ints); high = omega (arith, ints) }

-- the next code is that of the first net left
pub next_of_left : (frames : List Frame) (nets : List Change) (n : ℕ) → IsRising None nets → ((c : CodeId) → IsWithin (net_in (drop n nets) c) (act c frames)) → least (uncounted frames (counted_by frames (drop n nets))) ≡ first_of (drop n nets)
next_of_left frames nets n r w = next_code_is (record { frames = frames; counted = counted_by frames (drop n nets); changed = []; publishing = true }) (first_of (drop n nets)) (is_next_of frames (drop n nets) [] true (rising_drop n nets r) w)

some_left : (n : ℕ) (es : List Change) → n < length es → is_some (first_of (drop n es)) ≡ true
some_left n [] h = absurd (omega arith)
some_left zero (e ∷ es) h = refl
some_left (suc n) (e ∷ es) h = some_left n es (omega arith)

pub is_left : (frames : List Frame) (nets : List Change) (n : ℕ) → IsRising None nets → ((c : CodeId) → IsWithin (net_in (drop n nets) c) (act c frames)) → n < length nets → is_some (least (uncounted frames (counted_by frames (drop n nets)))) ≡ true
is_left frames nets n r w h = ap is_some (next_of_left frames nets n r w) ∙ some_left n nets h

pub none_left : (frames : List Frame) (nets : List Change) (n : ℕ) → IsRising None nets → ((c : CodeId) → IsWithin (net_in (drop n nets) c) (act c frames)) → length nets ≤ n → is_some (least (uncounted frames (counted_by frames (drop n nets)))) ≡ false
none_left frames nets n r w h = ap is_some (next_of_left frames nets n r w ∙ ap first_of (drop_all n nets h))

pub all_counted : (frames : List Frame) (nets : List Change) (n : ℕ) → ((c : CodeId) → IsWithin (net_in (drop n nets) c) (act c frames)) → length nets ≤ n → (c : CodeId) → act c frames ≡ times c (counted_by frames (drop n nets))
all_counted frames nets n w h c = even frames (drop n nets) c (w c).high (ap (λ es. net_in es c) (drop_all n nets h))

pub found : (es : List Change) (n : ℕ) (x : Change) → Some x ≡ slice_get es n → (n < length es) × (x ≡ get_or es n x)
found es n x h = (slice_get_within es n x (sym h), sym (get_or_from_slice_get es n x x (sym h)))

pub past : (es : List Change) (n : ℕ) → None ≡ slice_get es n → length es ≤ n
past [] n h = omega arith
past (e ∷ es) zero h = cc
past (e ∷ es) (suc n) h = omega (arith, past es n h)

pub left_is : (n : ℕ) (es : List Change) (x : Change) → n < length es → x ≡ get_or es n x → drop n es ≡ x ∷ drop (n + 1) es
left_is n es x h e = drop_next n es x h ∙ ap (λ y. y ∷ drop (n + 1) es) (sym e)

pub unsettled_fewer : (frames : List Frame) (es : List Change) (n : ℕ) (x : Change) (was now : List CodeId) (publishing : Bool) → IsRising None es → ((c : CodeId) → IsWithin (net_in (drop n es) c) (act c frames)) → drop n es ≡ x ∷ drop (n + 1) es
    → unsettled (record { frames = frames; counted = counted_by frames (drop n es); changed = was; publishing = publishing })
    ≡ unsettled (record { frames = frames; counted = counted_by frames (drop (n + 1) es); changed = now; publishing = publishing }) + 1
unsettled_fewer frames es n x was now publishing r w e =
    let a = unsettled_is frames (drop n es) was publishing (rising_drop n es r) w in
    let rising : IsRising None (x ∷ drop (n + 1) es) = subst (IsRising None) e (rising_drop n es r) in
    let within = within_rest frames x (drop (n + 1) es) rising (subst (λ xs. (c : CodeId) → IsWithin (net_in xs c) (act c frames)) e w) in
    let b = unsettled_is frames (drop (n + 1) es) now publishing (rising_drop (n + 1) es r) within in
    let l : length (drop n es) ≡ suc (length (drop (n + 1) es)) = ap length e in
    omega (arith, a, b, l)

serial_times-cons : (serial : ℕ) (x : CodeId) (xs : List CodeId) → serial_times serial (x ∷ xs) ≡ cond (eqb x.serial serial) 1 0 + serial_times serial xs
serial_times-cons serial x xs = sum_by-cons (λ c. cond (eqb c.serial serial) 1 0) x xs

serial_times-append : (serial : ℕ) (xs ys : List CodeId) → serial_times serial (xs ++ ys) ≡ serial_times serial xs + serial_times serial ys
serial_times-append serial xs ys = sum_by-append (λ c. cond (eqb c.serial serial) 1 0) xs ys

serial_times-replicate : (serial n : ℕ) (x : CodeId) → serial_times serial (replicate n x) ≡ cond (eqb x.serial serial) n 0
serial_times-replicate serial zero x = elim (eqb x.serial serial) as (λ b. ◌≡◌ {A = ℕ} 0 (cond b 0 0)) [ true ↦ refl | false ↦ refl ]
serial_times-replicate serial (suc n) x =
    serial_times-cons serial x (replicate n x) ∙ (ap (λ m. cond (eqb x.serial serial) 1 0 + m) (serial_times-replicate serial n x) ∙ elim (eqb x.serial serial) as (λ b. ◌≡◌ {A = ℕ} (cond b 1 0 + cond b n 0) (cond b (suc n) 0)) [ true ↦ omega arith | false ↦ refl ])

-- without the repetitions of one code, a bag has so many fewer of its serial
serial_without : (serial : ℕ) (x : CodeId) (xs : List CodeId) → serial_times serial (filter (λ c. not (same_code c x)) xs) + cond (eqb x.serial serial) (times x xs) 0 ≡ serial_times serial xs
serial_without serial x [] = elim (eqb x.serial serial) as (λ b. ◌≡◌ {A = ℕ} (0 + cond b 0 0) 0) [ true ↦ refl | false ↦ refl ]
serial_without serial x (y ∷ ys) = by_case (serial_without serial x ys) (same_code y x) refl
  where
    by_case : serial_times serial (filter (λ c. not (same_code c x)) ys) + cond (eqb x.serial serial) (times x ys) 0 ≡ serial_times serial ys
        → (b : Bool) → same_code y x ≡ b
        → serial_times serial (cond (not b) (y ∷ filter (λ c. not (same_code c x)) ys) (filter (λ c. not (same_code c x)) ys)) + cond (eqb x.serial serial) (times x (y ∷ ys)) 0 ≡ serial_times serial (y ∷ ys)
    by_case rest false h =
        let a = serial_times-cons serial y (filter (λ c. not (same_code c x)) ys) in
        let t : times x (y ∷ ys) ≡ times x ys = times-cons x y ys ∙ rw h (omega arith) in
        let s = serial_times-cons serial y ys in
        rw t (omega (arith, a, s, rest))
    by_case rest true h =
        let is : y.serial ≡ x.serial = ap (λ (c : CodeId). c.serial) (same_code-equal y x h) in
        let t : times x (y ∷ ys) ≡ 1 + times x ys = times-cons x y ys ∙ rw h refl in
        let s = serial_times-cons serial y ys in
        rw (t, s, is) (split (eqb x.serial serial) rest)
      where
        split : (b : Bool) → serial_times serial (filter (λ c. not (same_code c x)) ys) + cond b (times x ys) 0 ≡ serial_times serial ys → serial_times serial (filter (λ c. not (same_code c x)) ys) + cond b (1 + times x ys) 0 ≡ cond b 1 0 + serial_times serial ys
        split true r = omega (arith, r)
        split false r = omega (arith, r)

serial_codes : (serial : ℕ) (o : Option CodeId) (cs : List CodeId) → serial_times serial (code_or o cs) ≡ cond (serial_is serial o) 1 0 + serial_times serial cs
serial_codes serial None cs = omega arith
serial_codes serial (Some c) cs = serial_times-cons serial c cs

serial_all : (serial : ℕ) (fs : List Frame) → serial_times serial (codes_of fs) ≡ serial_count serial fs
serial_all serial [] = refl
serial_all serial (f ∷ fs) = serial_codes serial f.code (codes_of fs) ∙ (ap (λ n. cond (has_serial serial f) 1 0 + n) (serial_all serial fs) ∙ sym (sum_by-cons (λ g. cond (has_serial serial g) 1 0) f fs))

-- the frames of a serial are those counted and its nets
pub serial_balance : (serial : ℕ) (frames : List Frame) (es : List Change) → IsRising None es → ((c : CodeId) → IsWithin (net_in es c) (act c frames))
    → pos (serial_times serial (counted_by frames es)) +ℤ net_sum serial es ≡ pos (serial_count serial frames)
serial_balance serial frames [] r w = let a = serial_all serial frames in omega (arith, ints)
serial_balance serial frames (e ∷ es) r w =
    let rest = serial_balance serial frames es (rising_any es (Some e.code) r.2) (within_rest frames e es r w) in
    let bag : List CodeId = counted_by frames es in
    let n : ℕ = nat_of (pos (act e.code frames) -ℤ e.by) in
    let all = serial_times-append serial (replicate n e.code) (filter (λ c. not (same_code c e.code)) bag) in
    let front = serial_times-replicate serial n e.code in
    let back = serial_without serial e.code bag in
    let stands = first_moved frames e es r in
    let here = first_by frames e es (w e.code) in
    let mine : times e.code (counted_by frames (e ∷ es)) ≡ n = counted_is frames (e ∷ es) e.code ∙ ap (λ z. nat_of (pos (act e.code frames) -ℤ z)) (itself e es) in
    split (eqb e.code.serial serial) n (times e.code bag) (act e.code frames) e.by (rw mine at here) stands front back all rest
  where
    split : (b : Bool) (n t a : ℕ) (by : ℤ) → pos n +ℤ by ≡ pos a → t ≡ a
        → serial_times serial (replicate (nat_of (pos (act e.code frames) -ℤ e.by)) e.code) ≡ cond b n 0
        → serial_times serial (filter (λ c. not (same_code c e.code)) (counted_by frames es)) + cond b t 0 ≡ serial_times serial (counted_by frames es)
        → serial_times serial (counted_by frames (e ∷ es)) ≡ serial_times serial (replicate (nat_of (pos (act e.code frames) -ℤ e.by)) e.code) + serial_times serial (filter (λ c. not (same_code c e.code)) (counted_by frames es))
        → pos (serial_times serial (counted_by frames es)) +ℤ net_sum serial es ≡ pos (serial_count serial frames)
        → pos (serial_times serial (counted_by frames (e ∷ es))) +ℤ (cond b by (pos 0) +ℤ net_sum serial es) ≡ pos (serial_count serial frames)
    split true n t a by h s front back all rest = omega (arith, ints)
    split false n t a by h s front back all rest = omega (arith, ints)

-- the code of the only net is the only one whose counts differ
pub record OnlyDiffers (frames : List Frame) (e : Change) : Type 0 where
  pub by : pos (times e.code (counted_by frames (e ∷ []))) +ℤ e.by ≡ pos (act e.code frames)
  pub moved : times e.code (counted_by frames []) ≡ act e.code frames
  pub stay : (c : CodeId) → same_code c e.code ≡ false → times c (counted_by frames []) ≡ times c (counted_by frames (e ∷ []))
  pub differs : act e.code frames ≢ times e.code (counted_by frames (e ∷ []))
  pub others : (c : CodeId) → same_code c e.code ≡ false → act c frames ≡ times c (counted_by frames (e ∷ []))
  pub grown : (c : CodeId) → is_among c (e.code ∷ []) ≡ (same_code c e.code || false)

pub only_differs : (frames : List Frame) (es : List Change) (e : Change) → es ≡ e ∷ [] → IsRising None es → ((c : CodeId) → IsWithin (net_in es c) (act c frames)) → OnlyDiffers frames e
only_differs frames es e is r w =
    let rising : IsRising None (e ∷ []) = subst (IsRising None) is r in
    let within : (c : CodeId) → IsWithin (net_in (e ∷ []) c) (act c frames) = subst (λ xs. (c : CodeId) → IsWithin (net_in xs c) (act c frames)) is w in record {
      by = first_by frames e [] (within e.code);
      moved = first_moved frames e [] rising;
      stay = first_others frames e [];
      differs = (is_next_of frames (e ∷ []) [] false rising within).0;
      others = λ c h. sym (times-codes_of c frames) ∙ first_others frames e [] c h;
      grown = λ c. ap (λ b. b || false) (same_sym e.code c);
    }
