-- A new table is a new board, a seat that is split off leaves it one, and so does its end.
use Rattle.std.proofs.Common.{◌≡◌, ◌⊎◌, ℕ, zero, suc, ◌+◌, ◌<◌, ◌≤◌, List, [], ◌∷◌, ◌++◌, length, get_or, set, sym, refl, ap, ◌∙◌, inl, inr, ⊎_elim, subst, arith, replicate, Some, slice_get, length-set, length-append}
use Rattle.std.proofs.lemmas.List.{length-replicate}
use mathlib.Core.Option.{some, some-injective, some-ne-none}
use mathlib.Core.Logic.{dite}
use native.Mathlib.Decide.{ℕ_discrete}
use lib.ListN.{get_elem?}
use Rattle.atomic_table.specs.Table.{Splits}
use Rattle.atomic_table.proofs.Lists.{at_set, set_else, at_longer}
use Rattle.frames.specs.declared.board_rule.SlotView.{SlotView}
use Rattle.frames.specs.declared.board_rule.KeeperView.{KeeperView}
use Rattle.frames.specs.declared.board_rule.BoardView.{BoardView}
use Rattle.frames.specs.declared.board_rule.BoardView.TheVariants.{Keeper, Thread}
use Rattle.frames.specs.BoardWords.{Word, IsWord, entry_of, count_of, place_of, the_moment}
use Rattle.frames.specs.BoardRule.{SlotState, BoardState, IsBoardKept, first_word, first_slot, first_board}
use Rattle.frames.specs.BoardViews.{slot_state, seat_state, slot_of, empty_slot, keeper_view, seat_view}
use Rattle.frames.proofs.BoardLaws.{first_kept}
use Rattle.board.specs.Boards.{index_of, word_in, keeper_of, IsKeeper, seat_or_first, seat_at, IsSeatedAt, IsBoard, one_more_split, left_of, right_of, AreFirst, stamp_of, IsTold, IsLatest}
use Rattle.board.proofs.Tables.{set_found, at_keeper, seats_by}

-- the rule asks about the words of the board alone
same_words : (slots places : ℕ) (b : BoardState) (word' : Word → ℕ) → ((x : Word) → IsWord slots places x → word' x ≡ b.word x) → IsBoardKept slots places b
    → IsBoardKept slots places record { word = word'; now = b.now; slot = b.slot; seat = b.seat }
same_words slots places b word' same r = record {
  keeper_words = ((λ k h. same (entry_of k) h ∙ r.keeper_words.0 k h), same the_moment tt ∙ r.keeper_words.1, r.keeper_words.2);
  place_words = λ p h. let t = r.place_words p h in record { word_is = same (place_of p) h ∙ t.word_is; stored_by = t.stored_by; moment_by = t.moment_by; uncounted = t.uncounted; unfresh = t.unfresh };
  held_stands = r.held_stands;
  fresh_late = r.fresh_late;
  counts = ((λ k h. same (count_of k) h ∙ r.counts.0 k h), r.counts.1);
  looks = λ k h. let z = r.looks k h in record { unlooked = z.unlooked; unclear = z.unclear; looked_unfresh = z.looked_unfresh; clear_uncounted = z.clear_uncounted; clear_unfresh = z.clear_unfresh };
  gone_past = r.gone_past;
  lefts = r.lefts;
  bounds = r.bounds;
}

replicated : {A : Type 0} (n k : ℕ) (x : A) → get_or (replicate n x) k x ≡ x
replicated zero k x = refl
replicated (suc n) zero x = refl
replicated (suc n) (suc k) x = replicated n k x

only_keeper : (a : KeeperView) (id : ℕ) (v : BoardView) → get_elem? (Keeper a [] 0 ∷ []) id ≡ some v → IsSeatedAt id v
only_keeper a zero v e = subst (IsSeatedAt 0) (some-injective (Keeper a [] 0) v e) refl
only_keeper a (suc id) v e = absurd (some-ne-none v (sym e))

only_told : (slots places : ℕ) (ws : List ℕ) (id : ℕ) (v : BoardView) → get_elem? (Keeper (keeper_view slots places) [] 0 ∷ []) id ≡ some v → IsTold slots ws v
only_told slots places ws zero v e = subst (IsTold slots ws) (some-injective (Keeper (keeper_view slots places) [] 0) v e) tt
only_told slots places ws (suc id) v e = absurd (some-ne-none v (sym e))

pub opens : (n : ℕ × ℕ) (ws : List ℕ) → AreFirst n.0 n.1 ws → IsBoard n record { words = ws; homes = []; views = Keeper (keeper_view n.0 0) [] 0 ∷ [] }
opens n ws f = (
  keeper_view n.0 0,
  [],
  record {
    stamp = 0;
    keeper_is = refl;
    seated = only_keeper (keeper_view n.0 0);
    split = (refl, omega arith);
    slots_are = length-replicate {A = SlotView} n.0 empty_slot;
    words_are = f.wide;
    live = λ j t g e h. refl;
    apart = tt;
    kept = subst (λ (g : ℕ → SlotState). IsBoardKept n.0 n.1 record { word = word_in n.0 ws; now = 1; slot = g; seat = λ p. seat_state (seat_at [] (Keeper (keeper_view n.0 0) [] 0 ∷ []) p) }) (sym slots)
        (same_words n.0 n.1 first_board (word_in n.0 ws) words (first_kept n.0 n.1));
    told = λ j v e latest. only_told n.0 0 ws j v e;
  },
)
  where
    slots : ◌≡◌ {A = ℕ → SlotState} (λ k. slot_state (slot_of (keeper_view n.0 0) k)) (λ k. first_slot)
    slots = λ i k. slot_state (replicated n.0 k empty_slot i)

    words : (x : Word) → IsWord n.0 n.1 x → word_in n.0 ws x ≡ first_word x
    words (entry_of k) h = f.entries k h
    words (count_of k) h = f.others (index_of n.0 (count_of k)) (omega arith)
    words (place_of p) h = f.others (index_of n.0 (place_of p)) (omega arith)
    words the_moment h = f.moment

at_end : (l : List BoardView) (a b : BoardView) (j : ℕ) → get_elem? (l ++ a ∷ []) j ≡ some b → (get_elem? l j ≡ some b) ⊎ ((j ≡ length l) × (a ≡ b))
at_end [] a b zero e = inr (refl, some-injective a b e)
at_end [] a b (suc j) e = absurd (some-ne-none b (sym e))
at_end (x ∷ xs) a b zero e = inl e
at_end (x ∷ xs) a b (suc j) e = ⊎_elim (λ t. inl t) (λ t. inr (ap suc t.0, t.1)) (at_end xs a b j e)

-- a seat that is split off has the opening view
one_more : (l : List BoardView) (j q k : ℕ) → seat_state (seat_or_first q (get_elem? (l ++ Thread (seat_view k) 0 ∷ []) j)) ≡ seat_state (seat_or_first q (get_elem? l j))
one_more [] zero q k = refl
one_more [] (suc j) q k = refl
one_more (x ∷ xs) zero q k = refl
one_more (x ∷ xs) (suc j) q k = one_more xs j q k

splits_at : (n : ℕ × ℕ) (id : ℕ) (k : KeeperView) (g : ℕ) → k.split < n.1 → Splits (IsBoard n) id (Keeper k [] g) (Keeper (one_more_split k) [] g) (Thread (seat_view k.split) 0)
splits_at n id k g room s b at =
    let z = at_keeper n s id k g b at in let first = z.0 in let r = z.1 in
    let l : List BoardView = set s.views id (Keeper (one_more_split k) [] g) in
    let long : length l ≡ suc k.split = length-set s.views id (Keeper (one_more_split k) [] g) ∙ r.split.0 in
    let seats : seats_by [] s.views ≡ seats_by [] (l ++ Thread (seat_view k.split) 0 ∷ [])
    = λ i p. sym (one_more l (suc p) p k.split ∙ ap (λ o. seat_state (seat_or_first p o)) (set_else s.views id (suc p) (Keeper (one_more_split k) [] g) (λ e. omega arith))) i in (
      one_more_split k,
      [],
      record {
        stamp = g;
        keeper_is = at_longer l (Thread (seat_view k.split) 0 ∷ []) 0 (Keeper (one_more_split k) [] g) (subst (λ j. get_elem? l j ≡ some (Keeper (one_more_split k) [] g)) first (set_found s.views id (Keeper k [] g) (Keeper (one_more_split k) [] g) at));
        seated = λ j v e. ⊎_elim
            (λ old. ⊎_elim (λ t. subst (IsSeatedAt j) t.1 (t.0 ∙ first)) (λ t. r.seated j v t.1) (at_set s.views id j (Keeper (one_more_split k) [] g) v old))
            (λ new. subst (IsSeatedAt j) new.1 (new.0 ∙ long))
            (at_end l (Thread (seat_view k.split) 0) v j e);
        split = (omega (arith, length-append l (Thread (seat_view k.split) 0 ∷ [])), omega arith);
        slots_are = r.slots_are;
        words_are = r.words_are;
        live = λ j u h e t. refl;
        apart = tt;
        kept = subst (λ seat. IsBoardKept n.0 n.1 record { word = word_in n.0 s.words; now = k.moment; slot = λ i. slot_state (slot_of k i); seat = seat }) seats r.kept;
        told = λ j v e latest.
            let was : IsLatest s.views (stamp_of v) = λ i u h. dite (ℕ_discrete i id)
            (λ q. subst (λ x. x ≤ stamp_of v) (ap stamp_of (some-injective (Keeper k [] g) u (sym at ∙ (ap (get_elem? s.views) (sym q) ∙ h)))) (latest id (Keeper (one_more_split k) [] g) (at_longer l (Thread (seat_view k.split) 0 ∷ []) id (Keeper (one_more_split k) [] g) (set_found s.views id (Keeper k [] g) (Keeper (one_more_split k) [] g) at))))
            (λ ne. latest i u (at_longer l (Thread (seat_view k.split) 0 ∷ []) i u (set_else s.views id i (Keeper (one_more_split k) [] g) ne ∙ h))) in
            ⊎_elim (λ old. ⊎_elim
            (λ t. subst (IsTold n.0 s.words) t.1 (r.told id (Keeper k [] g) at (subst (IsLatest s.views) (ap stamp_of (sym t.1)) was)))
            (λ t. r.told j v t.1 was)
            (at_set s.views id j (Keeper (one_more_split k) [] g) v old))
            (λ new. subst (IsTold n.0 s.words) new.1 tt)
            (at_end l (Thread (seat_view k.split) 0) v j e);
      },
    )

pub splits : (n : ℕ × ℕ) (id : ℕ) (v : BoardView) → IsKeeper v → (keeper_of v).split < n.1 → Splits (IsBoard n) id v (left_of v) (right_of v)
splits n id v is room = subst (λ u. Splits (IsBoard n) id u (left_of u) (right_of u)) (sym is) (splits_at n id (keeper_of v) (stamp_of v) room)

-- a list that has f k at each k, with one value more
pub next_each : {X : Type 0} (xs : List X) (f : ℕ → X) (n : ℕ) (x : X) → length xs ≡ n → ((k : ℕ) → k < n → slice_get xs k ≡ Some (f k)) → x ≡ f n → (k : ℕ) → k < n + 1 → slice_get (xs ++ x ∷ []) k ≡ Some (f k)
next_each [] f zero x len each e zero h = ap Some e
next_each [] f zero x len each e (suc k) h = absurd (omega arith)
next_each [] f (suc n) x len each e k h = absurd (omega arith)
next_each (y ∷ ys) f zero x len each e k h = absurd (omega arith)
next_each (y ∷ ys) f (suc n) x len each e zero h = each 0 (omega arith)
next_each (y ∷ ys) f (suc n) x len each e (suc k) h = next_each ys (λ j. f (suc j)) n x (omega arith) (λ j q. each (suc j) (omega arith)) e k (omega arith)
