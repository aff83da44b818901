-- How the seats of a row are made and end.
use Rattle.std.proofs.Common.{◌≡◌, ℕ, zero, suc, ◌+◌, ◌<◌, ◌≤◌, List, [], ◌∷◌, ◌++◌, length, get_or, set, sym, refl, ap, ◌∙◌, ⊎_elim, subst, arith, Some, slice_get, replicate, length-set, length-append, get_or-set_same, get_or-set_other}
use Rattle.std.proofs.lemmas.List.{length-replicate, get_or-replicate}
use Rattle.std.proofs.lemmas.Option.{same_Some, none-some, slice_get_within}
use mathlib.Core.Logic.{dite}
use mathlib.Core.Option.{some, some-injective, some-ne-none}
use native.Mathlib.Decide.{ℕ_discrete}
use lib.ListN.{get_elem?}
use Rattle.atomic_table.specs.Table.{Splits, Joins, Final, Seen}
use Rattle.atomic_table.proofs.Lists.{at_set, set_else, at_longer}
use Rattle.thread_state.specs.declared.poll_rule.Arming.{Arming}
use Rattle.thread_state.specs.declared.poll_rule.Watching.{Watching}
use Rattle.thread_state.specs.PollRule.{IsPlaceKept, IsPollKept, first_arming, first_watching}
use Rattle.poll.specs.declared.views.Watch.{Watch}
use Rattle.poll.specs.declared.views.Watch.TheVariants.{Armer, Poller, Ended}
use Rattle.poll.specs.Rows.{IsRow, IsSeatedAt, IsLive, arming_of, ended_of, watching_of, watching_or, watching_at, cleared_of, word_at, words_of, place_of, left_of, right_of, both_of, fewer, IsArmer, IsPoller, IsClosing, RowId, PollerSeen, first_poller, stamp_of, IsTold, IsLatest}
use Rattle.poll.proofs.Steps.{Whole, set_found, at_end, no_poller, armer_same, cleared_same, cleared_other, its_place, place}

-- 1. A poller is split off

-- a poller that is split off knows what it was taken to know
one_more : (l : List Watch) (j q k : ℕ) → (watching_or q (get_elem? (l ++ Poller (first_watching k) 0 ∷ []) j)).cleared ≡ (watching_or q (get_elem? l j)).cleared
one_more [] zero q k = refl
one_more [] (suc j) q k = refl
one_more (x ∷ xs) zero q k = refl
one_more (x ∷ xs) (suc j) q k = one_more xs j q k

splits_at : (places id k : ℕ) (a : Arming) → a.split < places → Splits (IsRow places) id (Armer a [] k) (Armer (fewer a) [] k) (Poller (first_watching a.split) 0)
splits_at places id k a room s r at =
    let first : id ≡ 0 = r.seated id (Armer a [] k) at in
    let same : Armer r.arming r.ended r.stamp ≡ Armer a [] k = armer_same places s id a [] k r at in
    let alike : r.arming ≡ a = ap arming_of same in
    let l : List Watch = set s.views id (Armer (fewer a) [] k) in
    let long : length l ≡ suc a.split = length-set s.views id (Armer (fewer a) [] k) ∙ (r.split.0 ∙ ap (λ (t : Arming). suc t.split) alike) in record {
      arming = fewer a;
      ended = [];
      stamp = k;
      armer = at_longer l (Poller (first_watching a.split) 0 ∷ []) 0 (Armer (fewer a) [] k) (subst (λ j. get_elem? l j ≡ some (Armer (fewer a) [] k)) first (set_found s.views id (Armer a [] k) (Armer (fewer a) [] k) at));
      seated = λ j v e. ⊎_elim
          (λ old. ⊎_elim (λ t. subst (IsSeatedAt j) t.1 (t.0 ∙ first)) (λ t. r.seated j v t.1) (at_set s.views id j (Armer (fewer a) [] k) v old))
          (λ new. subst (IsSeatedAt j) new.1 (new.0 ∙ long))
          (at_end l (Poller (first_watching a.split) 0) v j e);
      split = (omega (arith, length-append l (Poller (first_watching a.split) 0 ∷ [])), omega arith);
      armed_at = subst (λ (t : Arming). length t.armed ≡ places) alike r.armed_at;
      words_at = r.words_at;
      live = λ j u t e c. refl;
      kept = λ q h.
          let before : IsPlaceKept (place_of s.words a [] s.views q) = subst (λ v. IsPlaceKept (place_of s.words (arming_of v) (ended_of v) s.views q)) same (r.kept q h) in
          let there : get_elem? l (suc q) ≡ get_elem? s.views (suc q) = set_else s.views id (suc q) (Armer (fewer a) [] k) (λ e. omega arith) in
          subst (λ n. IsPlaceKept (place (get_or s.words (word_at q) 0) (get_or a.armed q 0) n)) (sym (one_more l (suc q) q a.split ∙ ap (λ o. (watching_or q o).cleared) there)) before;
      told = λ j v e latest.
          let was : IsLatest s.views (stamp_of v) = λ i u h. dite (ℕ_discrete i id)
          (λ e. subst (λ x. x ≤ stamp_of v) (ap stamp_of (some-injective (Armer a [] k) u (sym at ∙ (ap (get_elem? s.views) (sym e) ∙ h)))) (latest id (Armer (fewer a) [] k) (at_longer l (Poller (first_watching a.split) 0 ∷ []) id (Armer (fewer a) [] k) (set_found s.views id (Armer a [] k) (Armer (fewer a) [] k) at))))
          (λ ne. latest i u (at_longer l (Poller (first_watching a.split) 0 ∷ []) i u (set_else s.views id i (Armer (fewer a) [] k) ne ∙ h))) in
          ⊎_elim (λ old. ⊎_elim
          (λ t. subst (IsTold s.words) t.1 (r.told id (Armer a [] k) at (subst (IsLatest s.views) (ap stamp_of (sym t.1)) was)))
          (λ t. r.told j v t.1 was)
          (at_set s.views id j (Armer (fewer a) [] k) v old))
          (λ new. subst (IsTold s.words) new.1 tt)
          (at_end l (Poller (first_watching a.split) 0) v j e);
    }

pub splits : (places id : ℕ) (v : Watch) → IsArmer v → (arming_of v).split < places → Splits (IsRow places) id v (left_of v) (right_of v)
splits places id v is room = subst (λ u. Splits (IsRow places) id u (left_of u) (right_of u)) (sym is) (splits_at places id (stamp_of v) (arming_of v) room)

-- 2. A poller ends

joins_at : (places id other k k' : ℕ) (a : Arming) (ended : List (ℕ × ℕ)) (w : Watching) → Joins (IsRow places) id (Armer a ended k) other (Poller w k') (both_of (Armer a ended k) (Poller w k')) Ended
joins_at places id other k k' a ended w s r at apart at_other =
    let b : Watch = both_of (Armer a ended k) (Poller w k') in let l : List Watch = set s.views id b in
    let first : id ≡ 0 = r.seated id (Armer a ended k) at in
    let was : get_elem? s.views other ≡ some (Poller w k') = sym (set_else s.views id other b apart) ∙ at_other in
    let mine : other ≡ suc w.place = r.seated other (Poller w k') was in
    let same : Armer r.arming r.ended r.stamp ≡ Armer a ended k = armer_same places s id a ended k r at in
    let alike : r.arming ≡ a = ap arming_of same in
    let its : place_of s.words a ended s.views w.place ≡ place (get_or s.words (word_at w.place) 0) (get_or a.armed w.place 0) w.cleared
    = subst (λ v. place_of s.words (arming_of v) (ended_of v) s.views w.place ≡ place (get_or s.words (word_at w.place) 0) (get_or (arming_of v).armed w.place 0) w.cleared) same (its_place places s other w k' r was) in
    let kept : IsPollKept places (place_of s.words a ended s.views) = subst (λ v. IsPollKept places (place_of s.words (arming_of v) (ended_of v) s.views)) same r.kept in
    let live : (j : ℕ) (u : Watching) (t : ℕ) → get_elem? s.views j ≡ some (Poller u t) → IsLive ended u.place = λ j u t e. subst (λ v. IsLive (ended_of v) u.place) same (r.live j u t e) in record {
      arming = a;
      ended = (w.place, w.cleared) ∷ ended;
      stamp = k + k';
      armer = set_else l other 0 Ended (λ e. omega arith) ∙ subst (λ j. get_elem? l j ≡ some b) first (set_found s.views id (Armer a ended k) b at);
      seated = λ j v e. ⊎_elim (λ t. subst (IsSeatedAt j) t.1 (let here = t.0 in omega arith))
          (λ t. ⊎_elim (λ u. subst (IsSeatedAt j) u.1 (u.0 ∙ first)) (λ u. r.seated j v u.1) (at_set s.views id j b v t.1))
          (at_set l other j Ended v e);
      split = (length-set l other Ended ∙ (length-set s.views id b ∙ (r.split.0 ∙ ap (λ (t : Arming). suc t.split) alike)), subst (λ (t : Arming). t.split ≤ places) alike r.split.1);
      armed_at = subst (λ (t : Arming). length t.armed ≡ places) alike r.armed_at;
      words_at = r.words_at;
      live = λ j u n e. ⊎_elim (λ t. absurd (no_poller Ended u n t.1))
          (λ t. ⊎_elim (λ h. absurd (no_poller b u n h.1))
          (λ h c. let there : j ≡ suc u.place = r.seated j (Poller u n) h.1 in let other_seat = t.0 in
          cleared_other ended w.place u.place w.cleared c (λ q. other_seat (omega arith)) ∙ live j u n h.1 c)
          (at_set s.views id j b (Poller u n) t.1))
          (at_set l other j Ended (Poller u n) e);
      kept = λ q h. dite (ℕ_discrete w.place q)
          (λ e. subst (λ k. IsPlaceKept (place (get_or s.words (word_at q) 0) (get_or a.armed q 0) k))
          (sym (cleared_same ended w.place q w.cleared (watching_at (set l other Ended) q).cleared e))
          (subst (λ k. IsPlaceKept (place (get_or s.words (word_at k) 0) (get_or a.armed k 0) w.cleared)) e (subst IsPlaceKept its (kept w.place (subst (λ k. k < places) (sym e) h)))))
          (λ ne. let there : get_elem? (set l other Ended) (suc q) ≡ get_elem? s.views (suc q) = set_else l other (suc q) Ended (λ e. ne (omega arith)) ∙ set_else s.views id (suc q) b (λ e. omega arith) in
          subst (λ k. IsPlaceKept (place (get_or s.words (word_at q) 0) (get_or a.armed q 0) k))
          (sym (cleared_other ended w.place q w.cleared (watching_at (set l other Ended) q).cleared ne ∙ ap (λ o. cleared_of ended q (watching_or q o).cleared) there)) (kept q h));
      told = λ j v e latest.
          let mine : k + k' ≤ stamp_of v = latest id b (set_else l other id Ended (λ q. apart (sym q)) ∙ set_found s.views id (Armer a ended k) b at) in
          let before : IsLatest s.views (stamp_of v) = λ i u h. dite (ℕ_discrete i id)
          (λ q. let is : k ≡ stamp_of u = ap stamp_of (some-injective (Armer a ended k) u (sym at ∙ (ap (get_elem? s.views) (sym q) ∙ h))) in omega arith)
          (λ ni. dite (ℕ_discrete i other)
          (λ q. let is : k' ≡ stamp_of u = ap stamp_of (some-injective (Poller w k') u (sym was ∙ (ap (get_elem? s.views) (sym q) ∙ h))) in omega arith)
          (λ no. latest i u (set_else l other i Ended no ∙ (set_else s.views id i b ni ∙ h)))) in
          ⊎_elim (λ t. subst (IsTold s.words) t.1 tt)
          (λ t. ⊎_elim (λ h. subst (IsTold s.words) h.1 tt) (λ h. r.told j v h.1 before) (at_set s.views id j b v t.1))
          (at_set l other j Ended v e);
    }

pub joins : (places id other : ℕ) (v u : Watch) → IsClosing v → IsPoller u → Joins (IsRow places) id v other u (both_of v u) Ended
joins places id other v u is poller = subst (λ x. Joins (IsRow places) id x other u (both_of x u) Ended) (sym is)
    (subst (λ y. Joins (IsRow places) id (Armer (arming_of v) (ended_of v) (stamp_of v)) other y (both_of (Armer (arming_of v) (ended_of v) (stamp_of v)) y) Ended) (sym poller) (joins_at places id other (stamp_of v) (stamp_of u) (arming_of v) (ended_of v) (watching_of 0 u)))

-- 3. The row is made, and ends

only_armer : (a : Arming) (id : ℕ) (v : Watch) → get_elem? (Armer a [] 0 ∷ []) id ≡ some v → IsSeatedAt id v
only_armer a zero v e = subst (IsSeatedAt 0) (some-injective (Armer a [] 0) v e) refl
only_armer a (suc id) v e = absurd (some-ne-none v (sym e))

only_told : (places : ℕ) (ws : List ℕ) (id : ℕ) (v : Watch) → get_elem? (Armer (first_arming places) [] 0 ∷ []) id ≡ some v → IsTold ws v
only_told places ws zero v e = subst (IsTold ws) (some-injective (Armer (first_arming places) [] 0) v e) tt
only_told places ws (suc id) v e = absurd (some-ne-none v (sym e))

-- the row as it is made
pub opens : (places : ℕ) (words : List ℕ) → words ≡ replicate (words_of places) 0 → IsRow places record { words = words; homes = []; views = Armer (first_arming places) [] 0 ∷ [] }
opens places words is = rw is record {
  arming = first_arming places;
  ended = [];
  stamp = 0;
  armer = refl;
  seated = only_armer (first_arming places);
  split = (refl, omega arith);
  armed_at = length-replicate {A = ℕ} places 0;
  words_at = length-replicate {A = ℕ} (words_of places) 0;
  live = λ j u t e c. refl;
  kept = λ q h. rw (get_or-replicate {A = ℕ} (words_of places) (word_at q) 0 0 (omega arith), get_or-replicate {A = ℕ} places q 0 0 h) record { cleared_by = omega arith; word_is = refl };
  told = λ j v e latest. only_told places (replicate (words_of places) 0) j v e;
}

found_or : (l : List ℕ) (i x : ℕ) → get_elem? l i ≡ some x → get_or l i 0 ≡ x
found_or [] i x e = absurd (some-ne-none x (sym e))
found_or (y ∷ ys) zero x e = some-injective y x e
found_or (y ∷ ys) (suc i) x e = found_or ys i x e

-- a list into which the words of the first n places are taken, and one more
pub one_taken : (xs ws : List ℕ) (n i x : ℕ) → n < length xs → ((k : ℕ) → k < n → get_or xs k 0 ≡ get_or ws (word_at k) 0) → i ≡ word_at n → get_elem? ws i ≡ some x
    → (k : ℕ) → k < n + 1 → get_or (set xs n x) k 0 ≡ get_or ws (word_at k) 0
one_taken xs ws n i x room taken here at k low = dite (ℕ_discrete k n)
    (λ e. ap (λ j. get_or (set xs n x) j 0) e ∙ (get_or-set_same xs n x 0 room ∙ (sym (found_or ws i x at) ∙ ap (λ j. get_or ws j 0) (here ∙ ap word_at (sym e)))))
    (λ ne. get_or-set_other xs n k x 0 ne ∙ taken k (omega arith))

-- the pollers from the n-th on have ended, with the numbers that they cleared
abbrev pub AreEnded : List (ℕ × ℕ) → ℕ → List PollerSeen → Type 0
AreEnded ended n pollers = (k : ℕ) (p : PollerSeen) → n ≤ k → slice_get pollers k ≡ Some p → (c : ℕ) → cleared_of ended k c ≡ p.seen.cleared

-- the words of a row at its end meet the rule, with the numbers of the armer and of the pollers
pub leaves : (places id : ℕ) (v : Watch) (ws out : List ℕ) (xs : List (Unit {0})) (pollers : List PollerSeen) → IsClosing v → Final (Seen (IsRow places) id v) ws xs → length out ≡ length (arming_of v).armed
    → ((k : ℕ) → k < length out → get_or out k 0 ≡ get_or ws (word_at k) 0) → AreEnded (ended_of v) 0 pollers
    → (k : ℕ) (p : PollerSeen) → slice_get pollers k ≡ Some p → k < length out → p.seen.place ≡ k → IsPlaceKept (place (get_or out p.seen.place 0) (get_or (arming_of v).armed p.seen.place 0) p.seen.cleared)
leaves places id v ws out xs pollers is end len taken ended k p there low here =
    let s : Whole = end.0 in let r : IsRow places s = end.1.0 in let a : Arming = arming_of v in
    let at : get_elem? s.views id ≡ some (Armer a (ended_of v) (stamp_of v)) = end.1.1 ∙ ap some is in
    let same : Armer r.arming r.ended r.stamp ≡ Armer a (ended_of v) (stamp_of v) = armer_same places s id a (ended_of v) (stamp_of v) r at in
    let wide : length a.armed ≡ places = subst (λ u. length (arming_of u).armed ≡ places) same r.armed_at in
    let kept : IsPollKept places (place_of s.words a (ended_of v) s.views) = subst (λ u. IsPollKept places (place_of s.words (arming_of u) (ended_of u) s.views)) same r.kept in
    let word : get_or s.words (word_at k) 0 ≡ get_or out k 0 = ap (λ l. get_or l (word_at k) 0) end.2 ∙ sym (taken k low) in
    subst (λ j. IsPlaceKept (place (get_or out j 0) (get_or a.armed j 0) p.seen.cleared)) (sym here)
    (subst (λ x. IsPlaceKept (place x (get_or a.armed k 0) p.seen.cleared)) word
    (subst (λ c. IsPlaceKept (place (get_or s.words (word_at k) 0) (get_or a.armed k 0) c)) (ended k p (omega arith) there (watching_at s.views k).cleared) (kept k (omega arith))))

-- one more poller has ended
pub one_ended : (ended : List (ℕ × ℕ)) (n : ℕ) (pollers : List PollerSeen) (x : PollerSeen) → slice_get pollers n ≡ Some x → x.seen.place ≡ n → AreEnded ended (n + 1) pollers → AreEnded ((x.seen.place, x.seen.cleared) ∷ ended) n pollers
one_ended ended n pollers x there here later k p low at c = dite (ℕ_discrete x.seen.place k)
    (λ e. cleared_same ended x.seen.place k x.seen.cleared c e ∙ ap (λ (t : PollerSeen). t.seen.cleared) (same_Some x p (sym there ∙ (ap (slice_get pollers) (sym here ∙ e) ∙ at))))
    (λ ne. cleared_other ended x.seen.place k x.seen.cleared c ne ∙ later k p (omega arith) at c)

-- a list that has f k at each k, with one value more
pub next_each : {X : Type 0} (xs : List X) (f : ℕ → X) (n : ℕ) (x : X) → length xs ≡ n → ((k : ℕ) → k < n → slice_get xs k ≡ Some (f k)) → x ≡ f n → (k : ℕ) → k < n + 1 → slice_get (xs ++ x ∷ []) k ≡ Some (f k)
next_each [] f zero x len each e zero h = ap Some e
next_each [] f zero x len each e (suc k) h = absurd (omega arith)
next_each [] f (suc n) x len each e k h = absurd (omega arith)
next_each (y ∷ ys) f zero x len each e k h = absurd (omega arith)
next_each (y ∷ ys) f (suc n) x len each e zero h = each 0 (omega arith)
next_each (y ∷ ys) f (suc n) x len each e (suc k) h = next_each ys (λ j. f (suc j)) n x (omega arith) (λ j q. each (suc j) (omega arith)) e k (omega arith)

pub still_there : {X : Type 0} (xs : List X) (x p : X) (k : ℕ) → slice_get xs k ≡ Some p → slice_get (xs ++ x ∷ []) k ≡ Some p
still_there [] x p k e = absurd (none-some p e)
still_there (y ∷ ys) x p zero e = e
still_there (y ∷ ys) x p (suc k) e = still_there ys x p k e

pub last_there : {X : Type 0} (xs : List X) (x : X) (n : ℕ) → n ≡ length xs → slice_get (xs ++ x ∷ []) n ≡ Some x
last_there [] x zero e = refl
last_there [] x (suc n) e = absurd (omega arith)
last_there (y ∷ ys) x zero e = absurd (omega arith)
last_there (y ∷ ys) x (suc n) e = last_there ys x n (omega arith)

-- the pollers of a row as they are made, and a single poller, are those of its places
pub all_first : (row : RowId) (pollers : List PollerSeen) (n : ℕ) → length pollers ≡ n → ((k : ℕ) → k < n → slice_get pollers k ≡ Some (first_poller row k))
    → (k : ℕ) (p : PollerSeen) → slice_get pollers k ≡ Some p → (p.table ≡ row) × (p.seen.place ≡ k)
all_first row pollers n len each k p there =
    let low = slice_get_within pollers k p there in let is : first_poller row k ≡ p = same_Some (first_poller row k) p (sym (each k (omega arith)) ∙ there) in
    (ap (λ (t : PollerSeen). t.table) (sym is), ap (λ (t : PollerSeen). t.seen.place) (sym is))

pub only_one : (row : RowId) (x : PollerSeen) → x.table ≡ row → x.seen.place ≡ 0 → (k : ℕ) (p : PollerSeen) → slice_get (x ∷ []) k ≡ Some p → (p.table ≡ row) × (p.seen.place ≡ k)
only_one row x table place zero p there = let is : x ≡ p = same_Some x p there in (subst (λ (t : PollerSeen). t.table ≡ row) is table, subst (λ (t : PollerSeen). t.seen.place ≡ 0) is place)
only_one row x table place (suc k) p there = absurd (none-some p there)
