-- Each step of a seat keeps the rule of the row.
use Rattle.std.proofs.Common.{◌≡◌, ◌≢◌, ◌⊎◌, ℕ, zero, suc, ◌+◌, ◌<◌, ◌≤◌, eqb, List, [], ◌∷◌, ◌++◌, length, get_or, set, sym, refl, ap, ◌∙◌, inl, inr, ⊎_elim, subst, arith, length-set, get_or-set_same, get_or-set_other, eq-eqb, ne_eqb}
use mathlib.Core.Option.{none, some, some-injective, some-ne-none}
use prog.Atomic.{either}
use lib.ListN.{get_elem?}
use Rattle.atomic_table.specs.Table.{State, Me, step, keeps, stepped, Allows}
use Rattle.atomic_table.proofs.Lists.{at_set, set_else}
use Rattle.thread_state.specs.declared.poll_rule.Deed.TheVariants.{Store}
use Rattle.thread_state.specs.declared.poll_rule.Arming.{Arming}
use Rattle.thread_state.specs.declared.poll_rule.Watching.{Watching}
use Rattle.thread_state.specs.PollRule.{PlaceState, IsPlaceKept, IsPollKept, PollStep, RowStep, loads, stores, exchanges, armed_with, polled, exchanged}
use Rattle.thread_state.proofs.PollSteps.{found_is, row_step_keeps}
use Rattle.poll.specs.declared.views.Watch.{Watch}
use Rattle.poll.specs.declared.views.Watch.TheVariants.{Armer, Poller, Ended}
use Rattle.poll.specs.Rows.{IsRow, IsSeatedAt, IsMet, IsLive, arming_of, ended_of, watching_of, watching_or, watching_at, cleared_of, word_at, words_of, place_of, PollerSteps, Polls, Clears, Arms, IsArmer, IsPoller, stamp_of, IsToldBy, IsTold, IsLatest}

abbrev pub Whole : Type 0
Whole = State (Unit {0}) Watch

-- 1. Lists and views

-- a list that has a value at i has there what is put there
pub set_found : {A : Type 0} (l : List A) (i : ℕ) (a b : A) → get_elem? l i ≡ some a → get_elem? (set l i b) i ≡ some b
set_found [] i a b e = absurd (some-ne-none a (sym e))
set_found (x ∷ xs) zero a b e = refl
set_found (x ∷ xs) (suc i) a b e = set_found xs i a b e

pub at_end : (l : List Watch) (a b : Watch) (j : ℕ) → get_elem? (l ++ a ∷ []) j ≡ some b → (get_elem? l j ≡ some b) ⊎ ((j ≡ length l) × (a ≡ b))
at_end [] a b zero e = inr (refl, some-injective a b e)
at_end [] a b (suc j) e = absurd (some-ne-none b (sym e))
at_end (x ∷ xs) a b zero e = inl e
at_end (x ∷ xs) a b (suc j) e = ⊎_elim (λ t. inl t) (λ t. inr (ap suc t.0, t.1)) (at_end xs a b j e)

-- the views that have a poller
abbrev HasPoller : Watch → Type 0
HasPoller (Armer a ended t) = ⊥
HasPoller (Poller w t) = Unit {0}
HasPoller Ended = ⊥

pub no_poller : (v : Watch) (w : Watching) (t : ℕ) → v ≡ Poller w t → HasPoller v
no_poller v w t e = subst HasPoller (sym e) tt

view_same : (l : List Watch) (u v : Watch) → get_elem? l 0 ≡ some u → get_elem? l 0 ≡ some v → u ≡ v
view_same l u v e f = some-injective u v (sym e ∙ f)

-- the armer that the rule speaks of is the one whose seat steps
pub armer_same : (places : ℕ) (s : Whole) (id : ℕ) (a : Arming) (ended : List (ℕ × ℕ)) (t : ℕ) (r : IsRow places s) → get_elem? s.views id ≡ some (Armer a ended t) → Armer r.arming r.ended r.stamp ≡ Armer a ended t
armer_same places s id a ended t r at = view_same s.views (Armer r.arming r.ended r.stamp) (Armer a ended t) r.armer (subst (λ j. get_elem? s.views j ≡ some (Armer a ended t)) (r.seated id (Armer a ended t) at) at)

pub cleared_same : (ended : List (ℕ × ℕ)) (p q c d : ℕ) → p ≡ q → cleared_of ((p, c) ∷ ended) q d ≡ c
cleared_same ended p q c d e = rw (eq-eqb p q e) refl

pub cleared_other : (ended : List (ℕ × ℕ)) (p q c d : ℕ) → p ≢ q → cleared_of ((p, c) ∷ ended) q d ≡ cleared_of ended q d
cleared_other ended p q c d ne = rw (ne_eqb p q ne) refl

-- a place with these numbers
abbrev pub place : ℕ → ℕ → ℕ → PlaceState
place x a c = record { word = x; armed = a; cleared = c }

-- no stamp is above the sum of all
abbrev pub stamps : List Watch → ℕ
stamps [] = 0
stamps (v ∷ vs) = stamp_of v + stamps vs

stamp_by : (l : List Watch) (i : ℕ) (v : Watch) → get_elem? l i ≡ some v → stamp_of v ≤ stamps l
stamp_by [] i v e = absurd (some-ne-none v (sym e))
stamp_by (x ∷ xs) zero v e = let is : stamp_of x ≡ stamp_of v = ap stamp_of (some-injective x v e) in omega arith
stamp_by (x ∷ xs) (suc i) v e = let below = stamp_by xs i v e in omega arith

-- a seat steps last, and its last step left the words so
told_after : (l : List Watch) (ws : List ℕ) (id : ℕ) (old new : Watch) → get_elem? l id ≡ some old → stamps l < stamp_of new → IsTold ws new
    → (j : ℕ) (v : Watch) → get_elem? (set l id new) j ≡ some v → IsLatest (set l id new) (stamp_of v) → IsTold ws v
told_after l ws id old new at later told j v e latest = ⊎_elim (λ t. subst (IsTold ws) t.1 told)
    (λ t. let below = stamp_by l j v t.1 in let above = latest id new (set_found l id old new at) in absurd (omega arith))
    (at_set l id j new v e)

-- 2. Steps of a poller

-- the place of the poller w, whose seat is split off
pub its_place : (places : ℕ) (s : Whole) (id : ℕ) (w : Watching) (t : ℕ) (r : IsRow places s) → get_elem? s.views id ≡ some (Poller w t)
    → place_of s.words r.arming r.ended s.views w.place ≡ place (get_or s.words (word_at w.place) 0) (get_or r.arming.armed w.place 0) w.cleared
its_place places s id w t r at = let was : get_elem? s.views (suc w.place) ≡ some (Poller w t) = subst (λ j. get_elem? s.views j ≡ some (Poller w t)) (r.seated id (Poller w t) at) at in
    ap (λ o. place (get_or s.words (word_at w.place) 0) (get_or r.arming.armed w.place 0) (cleared_of r.ended w.place (watching_or w.place o).cleared)) was
    ∙ ap (place (get_or s.words (word_at w.place) 0) (get_or r.arming.armed w.place 0)) (r.live id w t at w.cleared)

-- a step of the poller w, which knows w' afterwards and leaves the number n in its word
module _ (places : ℕ) (s : Whole) (id : ℕ) (w w' : Watching) (k k' n : ℕ) (r : IsRow places s) (at : get_elem? s.views id ≡ some (Poller w k)) (low : w.place < places) where
  -- the row before and after
  abbrev old_row : ℕ → PlaceState
  old_row = place_of s.words r.arming r.ended s.views

  abbrev new_row : ℕ → PlaceState
  new_row = place_of (set s.words (word_at w.place) n) r.arming r.ended (set s.views id (Poller w' k'))

  -- its place afterwards
  place_after : new_row w.place ≡ place n (get_or r.arming.armed w.place 0) w'.cleared
  place_after =
      let armed : ℕ = get_or r.arming.armed w.place 0 in
      let mine : id ≡ suc w.place = r.seated id (Poller w k) at in
      let here : get_elem? (set s.views id (Poller w' k')) (suc w.place) ≡ some (Poller w' k') = subst (λ j. get_elem? (set s.views id (Poller w' k')) j ≡ some (Poller w' k')) mine (set_found s.views id (Poller w k) (Poller w' k') at) in
      let word : get_or (set s.words (word_at w.place) n) (word_at w.place) 0 ≡ n = get_or-set_same s.words (word_at w.place) n 0 (subst (λ k. word_at w.place < k) (sym r.words_at) (omega arith)) in
      ap (λ x. place x armed (cleared_of r.ended w.place (watching_at (set s.views id (Poller w' k')) w.place).cleared)) word
      ∙ (ap (λ o. place n armed (cleared_of r.ended w.place (watching_or w.place o).cleared)) here ∙ ap (place n armed) (r.live id w k at w'.cleared))

  module _ (made : PollStep w.place w'.last (place (get_or s.words (word_at w.place) 0) (get_or r.arming.armed w.place 0) w.cleared) (place n (get_or r.arming.armed w.place 0) w'.cleared)) where
    steps_row : RowStep places w.place w'.last old_row new_row
    steps_row = let mine : id ≡ suc w.place = r.seated id (Poller w k) at in record {
      in_range = low;
      step = subst (λ t. PollStep w.place w'.last (old_row w.place) t) (sym place_after) (subst (λ t. PollStep w.place w'.last t (place n (get_or r.arming.armed w.place 0) w'.cleared)) (sym (its_place places s id w k r at)) made);
      others = λ q ne. ap (λ x. place x (get_or r.arming.armed q 0) (cleared_of r.ended q (watching_at (set s.views id (Poller w' k')) q).cleared)) (get_or-set_other s.words (word_at w.place) (word_at q) n 0 (λ e. ne (omega arith)))
          ∙ ap (λ o. place (get_or s.words (word_at q) 0) (get_or r.arming.armed q 0) (cleared_of r.ended q (watching_or q o).cleared)) (set_else s.views id (suc q) (Poller w' k') (λ e. ne (omega arith)));
    }

    row_kept : IsPollKept places new_row
    row_kept = row_step_keeps places w.place w'.last old_row new_row steps_row r.kept

    poller_made : PollerSteps w w'
    poller_made = record {
      places = places;
      before = old_row;
      after = new_row;
      kept_before = r.kept;
      step = steps_row;
      kept_after = row_kept;
      cleared_before = ap (λ (t : PlaceState). t.cleared) (its_place places s id w k r at);
      cleared_after = ap (λ (t : PlaceState). t.cleared) place_after;
    }

    poller_steps : (c : List (ℕ × Unit {0})) → stamps s.views < k' → IsToldBy (set s.words (word_at w.place) n) w'.place w'.last → w'.place ≡ w.place
        → IsRow places (stepped s (word_at w.place) n id c (Poller w' k') keeps)
    poller_steps c later told same = let mine : id ≡ suc w.place = r.seated id (Poller w k) at in record {
      arming = r.arming;
      ended = r.ended;
      stamp = r.stamp;
      armer = set_else s.views id 0 (Poller w' k') (λ e. omega arith) ∙ r.armer;
      seated = λ j v e. ⊎_elim (λ t. subst (IsSeatedAt j) t.1 (t.0 ∙ (mine ∙ ap suc (sym same)))) (λ t. r.seated j v t.1) (at_set s.views id j (Poller w' k') v e);
      split = (length-set s.views id (Poller w' k') ∙ r.split.0, r.split.1);
      armed_at = r.armed_at;
      words_at = length-set s.words (word_at w.place) n ∙ r.words_at;
      live = λ j u t e. ⊎_elim (λ h. subst (IsLive r.ended) (sym same ∙ ap (λ v. (watching_of 0 v).place) h.1) (r.live id w k at)) (λ h. r.live j u t h.1) (at_set s.views id j (Poller w' k') (Poller u t) e);
      kept = row_kept;
      told = told_after s.views (set s.words (word_at w.place) n) id (Poller w k) (Poller w' k') at later told;
    }

-- what the rule says of the word that the poller w finds
met : (places : ℕ) (s : Whole) (id : ℕ) (w : Watching) (k : ℕ) (r : IsRow places s) → get_elem? s.views id ≡ some (Poller w k) → w.place < places → IsMet w.cleared (get_or s.words (word_at w.place) 0)
met places s id w k r at low =
    ⊎_elim (λ h. inl h.0) (λ h. let found = h.0 in let above = h.1 in inr (omega arith))
    (found_is (place (get_or s.words (word_at w.place) 0) (get_or r.arming.armed w.place 0) w.cleared) (subst IsPlaceKept (its_place places s id w k r at) (r.kept w.place low)))

polls_at : (places slots id : ℕ) (me : Me (Unit {0}) Watch) → IsPoller me.0 → (watching_of 0 me.0).place < places
    → Allows (IsRow places) slots id me (word_at (watching_of 0 me.0).place) (λ n. n) (Polls (step slots (word_at (watching_of 0 me.0).place) 0 0 none) me)
polls_at places slots id me is low s r _ at _ = let w : Watching = watching_of 0 me.0 in let x : ℕ = get_or s.words (word_at w.place) 0 in let k : ℕ = stamp_of me.0 in let at' : get_elem? s.views id ≡ some (Poller w k) = at ∙ ap some is in let below = stamp_by s.views id (Poller w k) at' in
    let here : word_at w.place < length s.words = subst (λ n. word_at w.place < n) (sym r.words_at) (omega arith) in
    let made : PollStep w.place (polled w x).last (place x (get_or r.arming.armed w.place 0) w.cleared) (place x (get_or r.arming.armed w.place 0) w.cleared) = loads (place x (get_or r.arming.armed w.place 0) w.cleared) in (
      Poller (polled w x) (suc (stamps s.views)),
      keeps,
      tt,
      poller_steps places s id w (polled w x) k (suc (stamps s.views)) x r at' low made me.1 (omega arith) (get_or-set_same s.words (word_at w.place) x 0 here) refl,
      (refl, omega arith, met places s id w k r at' low, poller_made places s id w (polled w x) k (suc (stamps s.views)) x r at' low made),
    )

pub polls : (places slots id i : ℕ) (me : Me (Unit {0}) Watch) → IsPoller me.0 → i ≡ word_at (watching_of 0 me.0).place → i < words_of places
    → Allows (IsRow places) slots id me i (λ n. n) (Polls (step slots i 0 0 none) me)
polls places slots id i me is here low = subst (λ k. Allows (IsRow places) slots id me k (λ n. n) (Polls (step slots k 0 0 none) me)) (sym here) (polls_at places slots id me is (omega arith))

clears_at : (places slots id n : ℕ) (me : Me (Unit {0}) Watch) → IsPoller me.0 → (watching_of 0 me.0).place < places → n ≢ 0
    → Allows (IsRow places) slots id me (word_at (watching_of 0 me.0).place) (λ x. either (eqb x n) 0 x) (Clears (step slots (word_at (watching_of 0 me.0).place) n 0 none) me)
clears_at places slots id n me is low some_n s r _ at _ = let w : Watching = watching_of 0 me.0 in let x : ℕ = get_or s.words (word_at w.place) 0 in let k : ℕ = stamp_of me.0 in let at' : get_elem? s.views id ≡ some (Poller w k) = at ∙ ap some is in let below = stamp_by s.views id (Poller w k) at' in
    let here : word_at w.place < length s.words = subst (λ n. word_at w.place < n) (sym r.words_at) (omega arith) in let y : ℕ = either (eqb x n) 0 x in
    let made : PollStep w.place (exchanged w n x).last (place x (get_or r.arming.armed w.place 0) w.cleared) (place y (get_or r.arming.armed w.place 0) (exchanged w n x).cleared) = exchanges (place x (get_or r.arming.armed w.place 0) w.cleared) n some_n in (
      Poller (exchanged w n x) (suc (stamps s.views)),
      keeps,
      tt,
      poller_steps places s id w (exchanged w n x) k (suc (stamps s.views)) y r at' low made me.1 (omega arith) (get_or-set_same s.words (word_at w.place) y 0 here) refl,
      (refl, omega arith, met places s id w k r at' low, poller_made places s id w (exchanged w n x) k (suc (stamps s.views)) y r at' low made),
    )

pub clears : (places slots id i n : ℕ) (me : Me (Unit {0}) Watch) → IsPoller me.0 → i ≡ word_at (watching_of 0 me.0).place → i < words_of places → n ≢ 0
    → Allows (IsRow places) slots id me i (λ x. either (eqb x n) 0 x) (Clears (step slots i n 0 none) me)
clears places slots id i n me is here low some_n = subst (λ k. Allows (IsRow places) slots id me k (λ x. either (eqb x n) 0 x) (Clears (step slots k n 0 none) me)) (sym here) (clears_at places slots id n me is (omega arith) some_n)

-- 3. Steps of the armer

arms_at : (places slots id p n : ℕ) (me : Me (Unit {0}) Watch) → IsArmer me.0 → p < places → get_or (arming_of me.0).armed p 0 < n
    → Allows (IsRow places) slots id me (word_at p) (λ _. n) (λ _. Arms (step slots (word_at p) n 0 none) me n)
arms_at places slots id p n me is low later s r _ at _ =
    let a : Arming = arming_of me.0 in let b : Arming = armed_with a p n in
    let k : ℕ = stamp_of me.0 in let k' : ℕ = suc (stamps s.views) in
    let at' : get_elem? s.views id ≡ some (Armer a [] k) = at ∙ ap some is in
    let first : id ≡ 0 = r.seated id (Armer a [] k) at' in
    let same : Armer r.arming r.ended r.stamp ≡ Armer a [] k = armer_same places s id a [] k r at' in
    let alike : r.arming ≡ a = ap arming_of same in
    let wide : length a.armed ≡ places = subst (λ (t : Arming). length t.armed ≡ places) alike r.armed_at in
    let kept : IsPollKept places (place_of s.words a [] s.views) = subst (λ v. IsPollKept places (place_of s.words (arming_of v) (ended_of v) s.views)) same r.kept in
    let views : List Watch = set s.views id (Armer b [] k') in
    let there : (q : ℕ) → get_elem? views (suc q) ≡ get_elem? s.views (suc q) = λ q. set_else s.views id (suc q) (Armer b [] k') (λ e. omega arith) in
    let after : place_of (set s.words (word_at p) n) b [] views p ≡ place n n (watching_at s.views p).cleared
    = ap (λ x. place x (get_or b.armed p 0) (watching_at views p).cleared) (get_or-set_same s.words (word_at p) n 0 (subst (λ k. word_at p < k) (sym r.words_at) (omega arith)))
    ∙ (ap (λ x. place n x (watching_at views p).cleared) (get_or-set_same a.armed p n 0 (subst (λ k. p < k) (sym wide) low)) ∙ ap (λ o. place n n (watching_or p o).cleared) (there p)) in
    let made : RowStep places p (Store p n) (place_of s.words a [] s.views) (place_of (set s.words (word_at p) n) b [] views) = record {
      in_range = low;
      step = subst (λ t. PollStep p (Store p n) (place_of s.words a [] s.views p) t) (sym after) (stores (place_of s.words a [] s.views p) n later);
      others = λ q ne. ap (λ x. place x (get_or b.armed q 0) (watching_at views q).cleared) (get_or-set_other s.words (word_at p) (word_at q) n 0 (λ e. ne (omega arith)))
          ∙ (ap (λ x. place (get_or s.words (word_at q) 0) x (watching_at views q).cleared) (get_or-set_other a.armed p q n 0 ne) ∙ ap (λ o. place (get_or s.words (word_at q) 0) (get_or a.armed q 0) (watching_or q o).cleared) (there q));
    } in
    let kept_after : IsPollKept places (place_of (set s.words (word_at p) n) b [] views) = row_step_keeps places p (Store p n) (place_of s.words a [] s.views) (place_of (set s.words (word_at p) n) b [] views) made kept in (
      Armer b [] k',
      keeps,
      tt,
      record {
        arming = b;
        ended = [];
        stamp = k';
        armer = subst (λ j. get_elem? (set s.views id (Armer b [] k')) j ≡ some (Armer b [] k')) first (set_found s.views id (Armer a [] k) (Armer b [] k') at');
        seated = λ j v e. ⊎_elim (λ t. subst (IsSeatedAt j) t.1 (t.0 ∙ first)) (λ t. r.seated j v t.1) (at_set s.views id j (Armer b [] k') v e);
        split = (length-set s.views id (Armer b [] k') ∙ (r.split.0 ∙ ap (λ (t : Arming). suc t.split) alike), subst (λ (t : Arming). t.split ≤ places) alike r.split.1);
        armed_at = length-set a.armed p n ∙ wide;
        words_at = length-set s.words (word_at p) n ∙ r.words_at;
        live = λ j u t e c. refl;
        kept = kept_after;
        told = told_after s.views (set s.words (word_at p) n) id (Armer a [] k) (Armer b [] k') at' (omega arith) (get_or-set_same s.words (word_at p) n 0 (subst (λ m. word_at p < m) (sym r.words_at) (omega arith)));
      },
      (
        p,
        refl,
        refl,
        (let below = stamp_by s.views id (Armer a [] k) at' in omega arith),
        record {
          places = places;
          count = wide;
          place = p;
          before = place_of s.words a [] s.views;
          after = place_of (set s.words (word_at p) n) b [] views;
          kept_before = kept;
          step = made;
          kept_after = kept_after;
          armed_before = λ q. refl;
          armed_after = λ q. refl;
        },
      ),
    )

pub arms : (places slots id i p n : ℕ) (me : Me (Unit {0}) Watch) → IsArmer me.0 → i ≡ word_at p → p < places → get_or (arming_of me.0).armed p 0 < n
    → Allows (IsRow places) slots id me i (λ _. n) (λ _. Arms (step slots i n 0 none) me n)
arms places slots id i p n me is here low later = subst (λ k. Allows (IsRow places) slots id me k (λ _. n) (λ _. Arms (step slots k n 0 none) me n)) (sym here) (arms_at places slots id p n me is low later)
