-- Lists of bodies that correspond one by one.
use Rattle.std.proofs.Common.{◌≡◌, ◌≢◌, ◌<◌, ◌≤◌, ◌+◌, ℕ, zero, suc, true, false, List, [], ◌∷◌, Some, None, length, refl, sym, ap, ◌∙◌, subst, arith, length-set}
use Rattle.std.specs.Prelude.{◌==◌, ◌||◌, slice_get, slice_set}
use Rattle.std.proofs.lemmas.Bool.Decides.{nat_tests}
use Rattle.std.proofs.lemmas.Option.{slice_get_within}
use Rattle.frames.specs.ImageView.{ImageView}
use Rattle.frames.specs.declared.board_rule.SeatView.{SeatView}
use Rattle.bodies.specs.Bodies.{BodyView, IsPublished}
use Rattle.thread_list.specs.Moves.{IsCleared, IsOperated}
use Rattle.stopped_threads.specs.Held.{is_held, AreHeld, AreEach, AreAmong}

pub some_is : {A : Type 0} (x y : A) → Some x ≡ Some y → x ≡ y
some_is x y e = cc

get_set_other : (xs : List BodyView) (i k : ℕ) (b : BodyView) → k ≢ i → slice_get (slice_set xs i b) k ≡ slice_get xs k
get_set_other [] i k b d = refl
get_set_other (x ∷ xs) zero zero b d = absurd (d refl)
get_set_other (x ∷ xs) zero (suc k) b d = refl
get_set_other (x ∷ xs) (suc i) zero b d = refl
get_set_other (x ∷ xs) (suc i) (suc k) b d = get_set_other xs i k b (λ e. d (ap suc e))

get_set_here : (xs : List BodyView) (i : ℕ) (a b : BodyView) → slice_get xs i ≡ Some a → slice_get (slice_set xs i b) i ≡ Some b
get_set_here [] i a b e = absurd (let k : None ≡ Some a = e in cc)
get_set_here (x ∷ xs) zero a b e = refl
get_set_here (x ∷ xs) (suc i) a b e = get_set_here xs i a b e

-- So far: before the index they correspond, from it on they are the same.
pub record AreSoFar (R : BodyView → BodyView → Type 0) (i : ℕ) (xs ys : List BodyView) : Type 0 where
  pub count : length ys ≡ length xs
  pub done : (k : ℕ) (a b : BodyView) → k < i → slice_get xs k ≡ Some a → slice_get ys k ≡ Some b → R a b
  pub left : (k : ℕ) → i ≤ k → slice_get ys k ≡ slice_get xs k

pub at_first : (R : BodyView → BodyView → Type 0) (xs : List BodyView) → AreSoFar R 0 xs xs
at_first R xs = record { count = refl; done = λ k a b low. absurd (omega arith); left = λ k low. refl }

pub at_next : (R : BodyView → BodyView → Type 0) (i : ℕ) (xs ys : List BodyView) (a b : BodyView) → AreSoFar R i xs ys → slice_get ys i ≡ Some a → R a b → AreSoFar R (i + 1) xs (slice_set ys i b)
at_next R i xs ys a b s here r = record {
  count = length-set ys i b ∙ s.count;
  done = λ k c d low x y. (elim (k == i) as (λ t. (k == i) ≡ t → R c d) [
    | true ↦ λ e.
        (let is : k ≡ i = grind (arith, nat_tests) in
        let c_is : a ≡ c = some_is a c (sym here ∙ s.left i (omega arith) ∙ subst (λ j. slice_get xs j ≡ Some c) is x) in
        let d_is : b ≡ d = some_is b d (sym (get_set_here ys i a b here) ∙ subst (λ j. slice_get (slice_set ys i b) j ≡ Some d) is y) in
        subst (λ u. R c u) d_is (subst (λ u. R u b) c_is r))
    | false ↦ λ e.
        (let not_is : k ≢ i = grind (arith, nat_tests) in
        s.done k c d (omega arith) x (sym (get_set_other ys i k b not_is) ∙ y))
  ]) refl;
  left = λ k low. get_set_other ys i k b (λ e. omega arith) ∙ s.left k (omega arith);
}

each : (R : BodyView → BodyView → Type 0) (xs ys : List BodyView) → length ys ≡ length xs → ((k : ℕ) (a b : BodyView) → slice_get xs k ≡ Some a → slice_get ys k ≡ Some b → R a b) → AreEach R xs ys
each R [] [] n f = tt
each R [] (b ∷ bs) n f = absurd (omega arith)
each R (a ∷ xs) [] n f = absurd (omega arith)
each R (a ∷ xs) (b ∷ bs) n f = (f 0 a b refl refl, each R xs bs (omega arith) (λ k c d x y. f (suc k) c d x y))

pub at_last : (R : BodyView → BodyView → Type 0) (i : ℕ) (xs ys : List BodyView) → AreSoFar R i xs ys → length ys ≤ i → AreEach R xs ys
at_last R i xs ys s all = each R xs ys s.count (λ k a b x y. s.done k a b (let w = slice_get_within ys k b y in omega arith) x y)

-- What corresponds keeps places and names.
abbrev pub Keeps : (BodyView → BodyView → Type 0) → Type 0
Keeps R = (a b : BodyView) → R a b → (b.name ≡ a.name) × (b.seat.place ≡ a.seat.place) × (a.seat.stored ≢ 0 → b.seat.stored ≢ 0)

each_is_held : (R : BodyView → BodyView → Type 0) (place : ℕ) (xs ys : List BodyView) → Keeps R → AreEach R xs ys → is_held place ys ≡ is_held place xs
each_is_held R place [] [] f e = refl
each_is_held R place [] (b ∷ bs) f e = absurd (let k : false ≡ true = e in cc)
each_is_held R place (a ∷ xs) [] f e = absurd (let k : false ≡ true = e in cc)
each_is_held R place (a ∷ xs) (b ∷ bs) f e =
    ap (λ p. (p == place) || is_held place bs) (f a b e.0).1 ∙ ap (λ t. (a.seat.place == place) || t) (each_is_held R place xs bs f e.1)

pub each_held : (R : BodyView → BodyView → Type 0) (n : ℕ) (xs ys : List BodyView) → Keeps R → AreEach R xs ys → AreHeld n xs → AreHeld n ys
each_held R n [] [] f e h = tt
each_held R n [] (b ∷ bs) f e h = absurd (let k : false ≡ true = e in cc)
each_held R n (a ∷ xs) [] f e h = absurd (let k : false ≡ true = e in cc)
each_held R n (a ∷ xs) (b ∷ bs) f e h =
    let k = f a b e.0 in (
      subst (λ p. p < n) (sym k.1) h.0,
      subst (λ p. 0 < p) (sym k.0) h.1,
      k.2 h.2,
      each_is_held R b.seat.place xs bs f e.1 ∙ subst (λ p. is_held p xs ≡ false) (sym k.1) h.3,
      each_held R n xs bs f e.1 h.4,
    )

pub each_among : (R : BodyView → BodyView → Type 0) (bits : ℕ) (xs ys : List BodyView) → Keeps R → AreEach R xs ys → AreAmong bits xs → AreAmong bits ys
each_among R bits xs ys f e a place few clear = each_is_held R place xs ys f e ∙ a place few clear

pub published_keeps : Keeps IsPublished
published_keeps a b p = (p.name_stays, p.place_stays, λ h e. (let m = p.some_moment in let s = p.stored_is in absurd (omega arith)))

pub each_count : (R : BodyView → BodyView → Type 0) (xs ys : List BodyView) → AreEach R xs ys → length ys ≡ length xs
each_count R [] [] e = refl
each_count R [] (b ∷ bs) e = absurd (let k : false ≡ true = e in cc)
each_count R (a ∷ xs) [] e = absurd (let k : false ≡ true = e in cc)
each_count R (a ∷ xs) (b ∷ bs) e = ap suc (each_count R xs bs e.1)

pub cleared_keeps : (op : ℕ) → Keeps (IsCleared op)
cleared_keeps op a b p = (p.1, ap (λ (t : SeatView). t.place) p.3, λ h e. h (ap (λ (t : SeatView). t.stored) (sym p.3) ∙ e))

pub operated_keeps : (op : ℕ) → Keeps (IsOperated op)
operated_keeps op a b o =
    let p = published_keeps a o.0 o.1 in
    let q = cleared_keeps op o.0 b o.2 in
    (q.0 ∙ p.0, q.1 ∙ p.1, λ h. q.2 (p.2 h))

pub operated_frames : (op : ℕ) (a b : BodyView) → IsOperated op a b → b.image.frames ≡ a.image.frames
operated_frames op a b o = ap (λ (i : ImageView). i.frames) o.2.2 ∙ o.1.frames_stay

-- Nothing is cleared where the operation has no number.
pub cleared_none : (op : ℕ) (xs : List BodyView) → op ≡ 0 → AreEach (IsCleared op) xs xs
cleared_none op [] e = tt
cleared_none op (a ∷ xs) e = (((λ ne. absurd (ne e)), refl, refl, refl), cleared_none op xs e)

-- One after the other.
pub each_both : (R S : BodyView → BodyView → Type 0) (xs ys zs : List BodyView) → AreEach R xs ys → AreEach S ys zs → AreEach (λ a c. (b : BodyView) × R a b × S b c) xs zs
each_both R S [] [] [] e f = tt
each_both R S [] [] (c ∷ zs) e f = absurd (let k : false ≡ true = f in cc)
each_both R S [] (b ∷ ys) zs e f = absurd (let k : false ≡ true = e in cc)
each_both R S (a ∷ xs) [] zs e f = absurd (let k : false ≡ true = e in cc)
each_both R S (a ∷ xs) (b ∷ ys) [] e f = absurd (let k : false ≡ true = f in cc)
each_both R S (a ∷ xs) (b ∷ ys) (c ∷ zs) e f = ((b, e.0, f.0), each_both R S xs ys zs e.1 f.1)
