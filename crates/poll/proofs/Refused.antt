-- No step at another word is told as one at the word of a place; and what the word of a place tells.
use Rattle.std.proofs.Common.{◌≡◌, ◌≢◌, ◌⊎◌, ℕ, zero, suc, ◌+◌, ◌<◌, List, [], ◌∷◌, length, get_or, set, sym, refl, ap, ◌∙◌, inl, inr, ⊎_elim, subst, arith, length-set, get_or-set_same, get_or-set_other, ne_eqb, replicate}
use Rattle.std.proofs.lemmas.List.{length-replicate, get_or-replicate}
use mathlib.Core.Logic.{dite}
use mathlib.Core.Option.{some, some-injective, some-ne-none}
use native.Mathlib.Decide.{ℕ_discrete}
use lib.ListN.{get_elem?}
use Rattle.atomic_table.proofs.Lists.{at_set, set_else}
use Rattle.thread_state.specs.declared.poll_rule.Deed.TheVariants.{Nothing, Load, Exchange}
use Rattle.thread_state.specs.declared.poll_rule.Arming.{Arming}
use Rattle.thread_state.specs.declared.poll_rule.Watching.{Watching}
use Rattle.thread_state.specs.PollRule.{IsPlaceKept, IsFound, armed_with, word_after}
use Rattle.thread_state.proofs.PollSteps.{found_is}
use Rattle.poll.specs.declared.views.Watch.{Watch}
use Rattle.poll.specs.declared.views.Watch.TheVariants.{Armer, Poller, Ended}
use Rattle.poll.specs.Rows.{IsRow, IsSeatedAt, IsToldBy, IsTold, IsLatest, watching_of, watching_or, watching_at, stamp_of, word_at, words_of, arming_of, ended_of, place_of}
use Rattle.poll.specs.Laws.{PollerMay, PollsElsewhereRefused, ClearsElsewhereRefused, ArmsElsewhereRefused, WordsTellTheCleared, WordsApart}
use Rattle.poll.proofs.Steps.{Whole, set_found, place, armer_same}

-- the pollers below the place p have ended, and its own knows w
abbrev pollers : ℕ → Watching → ℕ → List Watch
pollers zero w t = Poller w t ∷ []
pollers (suc p) w t = Ended ∷ pollers p w t

many : (p : ℕ) (w : Watching) (t : ℕ) → length (pollers p w t) ≡ suc p
many zero w t = refl
many (suc p) w t = ap suc (many p w t)

own : (p : ℕ) (w : Watching) (t : ℕ) → get_elem? (pollers p w t) p ≡ some (Poller w t)
own zero w t = refl
own (suc p) w t = own p w t

one_of : (p j : ℕ) (w : Watching) (t : ℕ) (v : Watch) → get_elem? (pollers p w t) j ≡ some v → ((j ≡ p) × (Poller w t ≡ v)) ⊎ (Ended ≡ v)
one_of zero zero w t v e = inl (refl, some-injective (Poller w t) v e)
one_of zero (suc j) w t v e = absurd (some-ne-none v (sym e))
one_of (suc p) zero w t v e = inr (some-injective Ended v e)
one_of (suc p) (suc j) w t v e = ⊎_elim (λ h. inl (ap suc h.0, h.1)) (λ h. inr h) (one_of p j w t v e)

others : (p j q : ℕ) (w : Watching) (t : ℕ) → j ≢ p → (watching_or q (get_elem? (pollers p w t) j)).cleared ≡ 0
others zero zero q w t ne = absurd (ne refl)
others zero (suc j) q w t ne = refl
others (suc p) zero q w t ne = refl
others (suc p) (suc j) q w t ne = others p j q w t (λ e. ne (ap suc e))

-- the place of w is armed with n, and the armer stepped after it
abbrev arming_with : ℕ → ℕ → ℕ → Arming
arming_with places p n = record { armed = set (replicate places 0) p n; split = suc p; steps = 0; last = Nothing }

abbrev row_with : ℕ → Watching → ℕ → ℕ → Whole
row_with places w t n = record {
  words = set (replicate (words_of places) 0) (word_at w.place) n;
  homes = [];
  views = Armer (arming_with places w.place n) [] (suc t) ∷ pollers w.place w t;
}

view_is : (places p n k : ℕ) (w : Watching) (t id : ℕ) (v : Watch) → get_elem? (Armer (arming_with places p n) [] k ∷ pollers p w t) id ≡ some v
    → ((id ≡ 0) × (Armer (arming_with places p n) [] k ≡ v)) ⊎ (((id ≡ suc p) × (Poller w t ≡ v)) ⊎ ((0 < id) × (Ended ≡ v)))
view_is places p n k w t zero v e = inl (refl, some-injective (Armer (arming_with places p n) [] k) v e)
view_is places p n k w t (suc id) v e = inr (⊎_elim (λ h. inl (ap suc h.0, h.1)) (λ h. inr (omega arith, h)) (one_of p id w t v e))

poller_told : (ws : List ℕ) (v : Watch) (w : Watching) → watching_of 0 v ≡ w → IsTold ws v → IsToldBy ws w.place w.last
poller_told ws (Armer a ended t) w is told = subst (λ (x : Watching). IsToldBy ws x.place x.last) is tt
poller_told ws (Poller u t) w is told = subst (λ (x : Watching). IsToldBy ws x.place x.last) is told
poller_told ws Ended w is told = subst (λ (x : Watching). IsToldBy ws x.place x.last) is tt

is_row : (places n t : ℕ) (w : Watching) → w.place < places → w.cleared < n → IsRow places (row_with places w t n)
is_row places n t w low later = let p : ℕ = w.place in let s : Whole = row_with places w t n in record {
  arming = arming_with places p n;
  ended = [];
  stamp = suc t;
  armer = refl;
  seated = λ id v e. ⊎_elim (λ h. subst (IsSeatedAt id) h.1 h.0) (⊎_elim (λ h. subst (IsSeatedAt id) h.1 h.0) (λ h. subst (IsSeatedAt id) h.1 h.0)) (view_is places p n (suc t) w t id v e);
  split = (ap suc (many p w t), omega arith);
  armed_at = length-set (replicate places 0) p n ∙ length-replicate {A = ℕ} places 0;
  words_at = length-set (replicate (words_of places) 0) (word_at p) n ∙ length-replicate {A = ℕ} (words_of places) 0;
  live = λ id u k e c. refl;
  kept = λ q h. dite (ℕ_discrete q p)
      (λ e. subst IsPlaceKept (ap (λ x. place x (get_or (arming_with places p n).armed p 0) (watching_at s.views p).cleared) (sym (get_or-set_same (replicate (words_of places) 0) (word_at p) n 0 (let l : length (replicate (words_of places) 0) ≡ words_of places = length-replicate {A = ℕ} (words_of places) 0 in omega arith)))
      ∙ ap (λ j. place (get_or s.words (word_at j) 0) (get_or (arming_with places p n).armed j 0) (watching_at s.views j).cleared) (sym e))
      (subst IsPlaceKept (ap (λ x. place n x (watching_at s.views p).cleared) (sym (get_or-set_same (replicate places 0) p n 0 (let l : length (replicate places 0) ≡ places = length-replicate {A = ℕ} places 0 in omega arith))))
      (subst IsPlaceKept (ap (λ o. place n n (watching_or p o).cleared) (sym (own p w t)))
      (record { cleared_by = omega arith; word_is = rw (ne_eqb w.cleared n (λ x. omega arith)) refl }))))
      (λ ne. subst IsPlaceKept (ap (λ x. place x (get_or (arming_with places p n).armed q 0) (watching_at s.views q).cleared) (sym (get_or-set_other (replicate (words_of places) 0) (word_at p) (word_at q) n 0 (λ x. ne (omega arith)) ∙ get_or-replicate {A = ℕ} (words_of places) (word_at q) 0 0 (omega arith))))
      (subst IsPlaceKept (ap (λ x. place 0 x (watching_at s.views q).cleared) (sym (get_or-set_other (replicate places 0) p q n 0 ne ∙ get_or-replicate {A = ℕ} places q 0 0 h)))
      (subst IsPlaceKept (ap (place 0 0) (sym (others p q q w t ne)))
      (record { cleared_by = omega arith; word_is = refl }))));
  told = λ id v e latest. ⊎_elim (λ h. subst (IsTold s.words) h.1 tt)
      (⊎_elim (λ h. let above = latest 0 (Armer (arming_with places p n) [] (suc t)) refl in let is : t ≡ stamp_of v = ap stamp_of h.1 in absurd (omega arith)) (λ h. subst (IsTold s.words) h.1 tt))
      (view_is places p n (suc t) w t id v e);
}

-- what the seat would have to be told, where its place is armed with n
forced : (places i t n : ℕ) (w : Watching) (f : ℕ → ℕ) (u : ℕ → Watching) → w.place < places → w.cleared < n → i < words_of places → i ≢ word_at w.place
    → PollerMay places t w i f u → (ws : List ℕ) × (get_or ws (word_at w.place) 0 ≡ n) × IsToldBy ws (u 0).place (u 0).last
forced places i t n w f u low later inside apart allowed =
    let p : ℕ = w.place in let s : Whole = row_with places w t n in
    let x : ℕ = get_or s.words i 0 in
    let found : x ≡ 0 = get_or-set_other (replicate (words_of places) 0) (word_at p) i n 0 apart ∙ get_or-replicate {A = ℕ} (words_of places) i 0 0 inside in
    let a = allowed s (is_row places n t w low later) refl (own p w t) (omega arith) in
    let v : Watch = a.0 in let r = a.3 in let told = a.4 in
    let after = set s.views (suc p) v in let ws = set s.words i (f x) in
    let here : get_elem? after (suc p) ≡ some v = set_found s.views (suc p) (Poller w t) v (own p w t) in
    let above : IsLatest after (stamp_of v) = λ id y e. ⊎_elim (λ h. let is : stamp_of v ≡ stamp_of y = ap stamp_of h.1 in omega arith)
    (λ h. ⊎_elim (λ k. let is : suc t ≡ stamp_of y = ap stamp_of k.1 in let past = told.1 in omega arith)
    (⊎_elim (λ k. let is : t ≡ stamp_of y = ap stamp_of k.1 in let past = told.1 in omega arith) (λ k. let is : 0 ≡ stamp_of y = ap stamp_of k.1 in omega arith))
    (view_is places p n (suc t) w t id y h.1))
    (at_set s.views (suc p) id v y e) in
    let says : IsToldBy ws (u x).place (u x).last = poller_told ws v (u x) told.0 (r.told (suc p) v here above) in (
      ws,
      get_or-set_other s.words i (word_at p) (f x) 0 (λ e. apart (sym e)) ∙ get_or-set_same (replicate (words_of places) 0) (word_at p) n 0 (let l : length (replicate (words_of places) 0) ≡ words_of places = length-replicate {A = ℕ} (words_of places) 0 in omega arith),
      subst (λ z. IsToldBy ws (u z).place (u z).last) found says,
    )

pub elsewhere_refused : PollsElsewhereRefused
elsewhere_refused places i t w u f g low inside apart is allowed =
    let one = forced places i t (w.cleared + 1) w f u low (omega arith) inside apart allowed in
    let two = forced places i t (w.cleared + 2) w f u low (omega arith) inside apart allowed in
    let made : (ws : List ℕ) → IsToldBy ws (u 0).place (u 0).last → IsToldBy ws w.place (Load (g 0)) = λ ws e. subst (λ p. IsToldBy ws p (Load (g 0))) (is 0).0 (subst (λ d. IsToldBy ws (u 0).place d) (is 0).1 e) in
    let first : w.cleared + 1 ≡ g 0 = sym one.1 ∙ made one.0 one.2 in let second : w.cleared + 2 ≡ g 0 = sym two.1 ∙ made two.0 two.2 in omega arith

pub clears_refused : ClearsElsewhereRefused
clears_refused places i t n w u f g low inside apart is allowed =
    let one = forced places i t (w.cleared + 1) w f u low (omega arith) inside apart allowed in
    let two = forced places i t (w.cleared + 2) w f u low (omega arith) inside apart allowed in
    let made : (ws : List ℕ) → IsToldBy ws (u 0).place (u 0).last → IsToldBy ws w.place (Exchange n (g 0)) = λ ws e. subst (λ p. IsToldBy ws p (Exchange n (g 0))) (is 0).0 (subst (λ d. IsToldBy ws (u 0).place d) (is 0).1 e) in
    let first : w.cleared + 1 ≡ word_after n (g 0) = sym one.1 ∙ made one.0 one.2 in let second : w.cleared + 2 ≡ word_after n (g 0) = sym two.1 ∙ made two.0 two.2 in let both : w.cleared + 1 ≡ w.cleared + 2 = first ∙ sym second in omega arith

-- a word that isn't written can't become what the place is armed with now
pub arms_refused : ArmsElsewhereRefused
arms_refused places slots p i n t a f s row homes at small low later apart allowed =
    let x : ℕ = get_or s.words i 0 in let q = allowed s row homes at small in let v : Watch = q.0 in let r = q.3 in
    let views = set s.views 0 v in let ws = set s.words i (f x) in
    let same : Armer row.arming row.ended row.stamp ≡ Armer a [] t = armer_same places s 0 a [] t row at in
    let wide : length a.armed ≡ places = subst (λ y. length (arming_of y).armed ≡ places) same row.armed_at in
    let here : get_elem? views 0 ≡ some (Armer (armed_with a p n) [] (stamp_of v)) = set_found s.views 0 (Armer a [] t) v at ∙ ap some q.4 in
    let now : Armer r.arming r.ended r.stamp ≡ Armer (armed_with a p n) [] (stamp_of v) = some-injective _ _ (sym r.armer ∙ here) in
    let c : ℕ = (watching_at s.views p).cleared in let y : ℕ = get_or s.words (word_at p) 0 in
    let before : IsFound (place y (get_or a.armed p 0) c) = found_is _ (subst (λ z. IsPlaceKept (place_of s.words (arming_of z) (ended_of z) s.views p)) same (row.kept p low)) in
    let kept : IsPlaceKept (place_of ws (armed_with a p n) [] views p) = subst (λ z. IsPlaceKept (place_of ws (arming_of z) (ended_of z) views p)) now (r.kept p low) in
    let after : IsFound (place y n c) = found_is _ (subst (λ z. IsPlaceKept (place z n c)) (get_or-set_other s.words i (word_at p) (f x) 0 (λ e. apart (sym e)))
    (subst (λ z. IsPlaceKept (place (get_or ws (word_at p) 0) z c)) (get_or-set_same a.armed p n 0 (omega arith))
    (subst (λ o. IsPlaceKept (place (get_or ws (word_at p) 0) (get_or (armed_with a p n).armed p 0) (watching_or p o).cleared)) (set_else s.views 0 (suc p) v (λ e. omega arith)) kept))) in
    ⊎_elim (λ h. ⊎_elim (λ k. let one = h.1 in let two = k.1 in absurd (omega arith)) (λ k. let one = h.1 in let two = k.1 in absurd (omega arith)) before)
    (λ h. ⊎_elim (λ k. let one = h.0 in let two = k.0 in absurd (omega arith)) (λ k. let one = h.0 in let two = k.0 in absurd (omega arith)) before) after

-- 0 is the word of a place whose number is cleared, and of no other
pub tell_the_cleared : WordsTellTheCleared
tell_the_cleared places p s row low = let found = found_is _ (row.kept p low) in (
  (λ zero_word. ⊎_elim (λ h. h.1) (λ h. let is = h.0 in let above = h.1 in absurd (omega arith)) found),
  (λ cleared. ⊎_elim (λ h. h.0) (λ h. let above = h.1 in absurd (omega arith)) found),
)

pub words_apart : WordsApart
words_apart places p q low = (omega arith, omega arith, λ h. omega arith)
