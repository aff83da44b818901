-- What a closed board's words say, and what a weighing says of all seats.
use Rattle.std.proofs.Common.{◌≡◌, ◌≢◌, ℕ, zero, suc, ◌+◌, ◌<◌, ◌≤◌, true, List, [], ◌∷◌, ◌++◌, length, get_or, set, sym, refl, ap, ◌∙◌, ⊎_elim, subst, arith, Some, slice_get, get_or-set_same, length-set, eq-eqb, ne_eqb}
use Rattle.std.proofs.lemmas.Option.{same_Some, none-some}
use mathlib.Core.Logic.{dite}
use native.Mathlib.Decide.{ℕ_discrete}
use Rattle.atomic_table.proofs.Lists.{at_set, set_else}
use mathlib.Core.Option.{some, some-injective, some-ne-none}
use lib.ListN.{get_elem?}
use Rattle.atomic_table.specs.Table.{Final, Seen, Joins}
use Rattle.frames.specs.declared.CodeId.{CodeId}
use Rattle.frames.specs.declared.board_rule.KeeperView.{KeeperView}
use Rattle.frames.specs.declared.board_rule.SeatView.{SeatView}
use Rattle.frames.specs.BoardWords.{count_of}
use Rattle.frames.specs.declared.board_rule.BoardView.{BoardView}
use Rattle.frames.specs.declared.board_rule.BoardView.TheVariants.{Keeper, Thread, Ended}
use Rattle.frames.specs.BoardRule.{SlotState, SeatState, IsBoardKept, code, code_at, total}
use Rattle.frames.specs.BoardViews.{slot_of, slot_state, seat_state, seat_view, moment_read, weighed, slot_with_weight, empty_slot}
use Rattle.board.specs.Boards.{BoardId, IsBoard, KeeperSteps, KeeperSeen, SeatSeen, word_in, keeper_of, thread_of, ended_of, stamp_of, IsClosing, IsThread, IsSeatedAt, IsLatest, IsTold, AreApart, seat_known, seat_or_first, seat_at, both_of}
use Rattle.board.specs.Closing.{WordsLeft, words_left, word_left, IsLeftBy, AreVacant}
use Rattle.board.specs.Notes.{IsNowhere}
use Rattle.board.proofs.Tables.{at_closing, of_table, set_found, seats_by, no_thread}

pub found_at : (l : List ℕ) (i x : ℕ) → get_elem? l i ≡ some x → get_or l i 0 ≡ x
found_at [] i x e = absurd (some-ne-none x (sym e))
found_at (y ∷ ys) zero x e = some-injective y x e
found_at (y ∷ ys) (suc i) x e = found_at ys i x e

known_same : (us : List SeatView) (t x : SeatView) (p : ℕ) → t.place ≡ p → seat_known (t ∷ us) p x ≡ t
known_same us t x p e = rw (eq-eqb t.place p e) refl

known_other : (us : List SeatView) (t x : SeatView) (p : ℕ) → t.place ≢ p → seat_known (t ∷ us) p x ≡ seat_known us p x
known_other us t x p ne = rw (ne_eqb t.place p ne) refl

-- a seat is given back
joins_at : (n : ℕ × ℕ) (id other g g' : ℕ) (k : KeeperView) (us : List SeatView) (t : SeatView) → Joins (IsBoard n) id (Keeper k us g) other (Thread t g') (Keeper k (t ∷ us) (g + g')) Ended
joins_at n id other g g' k us t s b at apart at_other =
    let v : BoardView = Keeper k (t ∷ us) (g + g') in let l : List BoardView = set s.views id v in let after : List BoardView = set l other Ended in
    let z = at_closing n s id k us g b at in let first = z.0 in let r = z.1 in
    let was : get_elem? s.views other ≡ some (Thread t g') = sym (set_else s.views id other v apart) ∙ at_other in
    let mine : other ≡ suc t.place = r.seated other (Thread t g') was in
    let gone : (p : ℕ) → t.place ≢ p → get_elem? after (suc p) ≡ get_elem? s.views (suc p)
    = λ p ne. set_else l other (suc p) Ended (λ e. ne (omega arith)) ∙ set_else s.views id (suc p) v (λ e. omega arith) in
    let alike : (p : ℕ) → seat_at us s.views p ≡ seat_at (t ∷ us) after p = λ p. dite (ℕ_discrete t.place p)
    (λ e. ap (λ o. seat_known us p (seat_or_first p o)) (subst (λ j. get_elem? s.views j ≡ some (Thread t g')) (mine ∙ ap suc e) was)
    ∙ (subst (λ q. seat_known us q t ≡ t) e (r.live other t g' was t) ∙ sym (known_same us t (seat_or_first p (get_elem? after (suc p))) p e)))
    (λ ne. sym (known_other us t (seat_or_first p (get_elem? after (suc p))) p ne ∙ ap (λ o. seat_known us p (seat_or_first p o)) (gone p ne))) in
    let seats : seats_by us s.views ≡ seats_by (t ∷ us) after = λ i p. seat_state (alike p i) in (
      k,
      t ∷ us,
      record {
        stamp = g + g';
        keeper_is = set_else l other 0 Ended (λ e. omega arith) ∙ subst (λ j. get_elem? l j ≡ some v) first (set_found s.views id (Keeper k us g) v at);
        seated = λ j w e. ⊎_elim (λ x. subst (IsSeatedAt j) x.1 (let here = x.0 in omega arith))
            (λ x. ⊎_elim (λ y. subst (IsSeatedAt j) y.1 (y.0 ∙ first)) (λ y. r.seated j w y.1) (at_set s.views id j v w x.1))
            (at_set l other j Ended w e);
        split = (length-set l other Ended ∙ (length-set s.views id v ∙ r.split.0), r.split.1);
        slots_are = r.slots_are;
        words_are = r.words_are;
        live = λ j u h e. ⊎_elim (λ x. absurd (no_thread Ended u h x.1))
            (λ x. ⊎_elim (λ y. absurd (no_thread v u h y.1))
            (λ y c. let there : j ≡ suc u.place = r.seated j (Thread u h) y.1 in let elsewhere = x.0 in
            known_other us t c u.place (λ q. elsewhere (omega arith)) ∙ r.live j u h y.1 c)
            (at_set s.views id j v (Thread u h) x.1))
            (at_set l other j Ended (Thread u h) e);
        apart = (r.live other t g' was, r.apart);
        kept = subst (λ seat. IsBoardKept n.0 n.1 record { word = word_in n.0 s.words; now = k.moment; slot = λ i. slot_state (slot_of k i); seat = seat }) seats r.kept;
        told = λ j w e latest.
            let most : g + g' ≤ stamp_of w = latest id v (set_else l other id Ended (λ q. apart (sym q)) ∙ set_found s.views id (Keeper k us g) v at) in
            let before : IsLatest s.views (stamp_of w) = λ i u h. dite (ℕ_discrete i id)
            (λ q. let is : g ≡ stamp_of u = ap stamp_of (some-injective (Keeper k us g) u (sym at ∙ (ap (get_elem? s.views) (sym q) ∙ h))) in omega arith)
            (λ ni. dite (ℕ_discrete i other)
            (λ q. let is : g' ≡ stamp_of u = ap stamp_of (some-injective (Thread t g') u (sym was ∙ (ap (get_elem? s.views) (sym q) ∙ h))) in omega arith)
            (λ no. latest i u (set_else l other i Ended no ∙ (set_else s.views id i v ni ∙ h)))) in
            ⊎_elim (λ x. subst (IsTold n.0 s.words) x.1 tt)
            (λ x. ⊎_elim (λ y. subst (IsTold n.0 s.words) y.1 tt) (λ y. r.told j w y.1 before) (at_set s.views id j v w x.1))
            (at_set l other j Ended w e);
      },
    )

pub joins : (n : ℕ × ℕ) (id other : ℕ) (v u : BoardView) → IsClosing v → IsThread u → Joins (IsBoard n) id v other u (both_of v u) Ended
joins n id other v u closing is = subst (λ x. Joins (IsBoard n) id x other u (both_of x u) Ended) (sym closing)
    (subst (λ y. Joins (IsBoard n) id (Keeper (keeper_of v) (ended_of v) (stamp_of v)) other y (both_of (Keeper (keeper_of v) (ended_of v) (stamp_of v)) y) Ended) (sym is)
    (joins_at n id other (stamp_of v) (stamp_of u) (keeper_of v) (ended_of v) (thread_of u)))

-- what seats know
abbrev pub all_seen : List SeatSeen → List SeatView
all_seen [] = []
all_seen (s ∷ ss) = s.seen ∷ all_seen ss

pub seen_with : (ss : List SeatSeen) (s : SeatSeen) (us : List SeatView) → all_seen (ss ++ s ∷ []) ++ us ≡ all_seen ss ++ s.seen ∷ us
seen_with [] s us = refl
seen_with (x ∷ xs) s us = ap (λ l. x.seen ∷ l) (seen_with xs s us)

pub last_there : {X : Type 0} (xs : List X) (x : X) (n : ℕ) → n ≡ length xs → slice_get (xs ++ x ∷ []) n ≡ Some x
last_there [] x zero e = refl
last_there [] x (suc n) e = absurd (omega arith)
last_there (y ∷ ys) x zero e = absurd (omega arith)
last_there (y ∷ ys) x (suc n) e = last_there ys x n (omega arith)

pub still_there : {X : Type 0} (xs : List X) (x p : X) (k : ℕ) → slice_get xs k ≡ Some p → slice_get (xs ++ x ∷ []) k ≡ Some p
still_there [] x p k e = absurd (none-some p e)
still_there (y ∷ ys) x p zero e = e
still_there (y ∷ ys) x p (suc k) e = still_there ys x p k e

-- each of the seats that were given back, all of different places, is the one that is known at its place
known_at : (ss : List SeatSeen) (i : ℕ) (s : SeatSeen) → AreApart (all_seen ss) → slice_get ss i ≡ Some s → (x : SeatView) → seat_known (all_seen ss) s.seen.place x ≡ s.seen
known_at [] i s apart e x = absurd (none-some s e)
known_at (y ∷ ys) zero s apart e x = let is : y ≡ s = same_Some y s e in subst (λ (z : SeatSeen). seat_known (y.seen ∷ all_seen ys) z.seen.place x ≡ z.seen) is (known_same (all_seen ys) y.seen x y.seen.place refl)
known_at (y ∷ ys) (suc i) s apart e x = dite (ℕ_discrete y.seen.place s.seen.place)
    (λ same. let any : (z : SeatView) → z ≡ s.seen = λ z. sym (subst (λ p. seat_known (all_seen ys) p z ≡ z) same (apart.0 z)) ∙ known_at ys i s apart.1 e z in
    let none : 0 ≡ s.seen.steps = ap (λ (t : SeatView). t.steps) (any (seat_view 0)) in let one : 1 ≡ s.seen.steps = ap (λ (t : SeatView). t.steps) (any (moment_read (seat_view 0) 0)) in absurd (omega arith))
    (λ ne. known_other (all_seen ys) y.seen x s.seen.place ne ∙ known_at ys i s apart.1 e x)

pub left_by : (n : ℕ × ℕ) (k : KeeperSeen) (seats : List SeatSeen) (g id : ℕ) (v : BoardView) (ws : List ℕ) (xs : List (Unit {0})) → v ≡ Keeper k.seen (all_seen seats) g → Final (Seen (IsBoard n) id v) ws xs
    → IsLeftBy k seats (words_left n.0 n.1 ws)
left_by n k seats g id v ws xs is f =
    let s = f.0 in let at : get_elem? s.views id ≡ some (Keeper k.seen (all_seen seats) g) = f.1.1 ∙ ap some is in
    let r = (at_closing n s id k.seen (all_seen seats) g f.1.0 at).1 in record {
      state = of_table n s k.seen (all_seen seats);
      kept = r.kept;
      keeper = record { now_is = refl; slot_is = λ i. refl };
      seats_are = λ i t there. ap seat_state (known_at seats i t r.apart there (seat_or_first t.seen.place (get_elem? s.views (suc t.seen.place))));
      words_are = λ x h. ap (λ l. word_in n.0 l x) (sym f.2);
    }

-- no seat is left to be given back
pub none_left : (ss : List SeatSeen) (us vs : List SeatView) → length ss ≡ 0 → all_seen ss ++ us ≡ vs → us ≡ vs
none_left [] us vs h e = e
none_left (s ∷ ss) us vs h e = absurd (omega arith)

-- the sum of nothing
sum_none : (n : ℕ) (f : ℕ → ℕ) → ((p : ℕ) → p < n → f p ≡ 0) → total n f ≡ 0
sum_none zero f zeros = refl
sum_none (suc n) f zeros = let rest = sum_none n f (λ p h. zeros p (omega arith)) in let last = zeros n (omega arith) in omega arith

-- a board whose places were all given up counts nothing
pub left_vacant : (k : KeeperSeen) (seats : List SeatSeen) (b : WordsLeft) → IsLeftBy k seats b → AreVacant b.places seats → (slot : ℕ) → slot < b.slots → word_left b (count_of slot) ≡ 0
left_vacant k seats b left vacant slot low =
    left.words_are (count_of slot) low ∙ (left.kept.counts.0 slot low ∙ sum_none b.places _ (λ p h. let v = vacant p h in
    let here : left.state.seat p ≡ seat_state v.1.seen = ap left.state.seat (sym v.3) ∙ left.seats_are v.0 v.1 v.2 in
    (left.kept.place_words p h).uncounted (ap (λ (t : SeatState). t.stored) here ∙ v.4) (code_at left.state slot)))

-- what a weighing leaves of the slot
pub weighed_slot : (k : KeeperView) (c : CodeId) (found : ℕ) → c.slot < length k.slots → slot_of (weighed k c found) c.slot ≡ slot_with_weight (slot_of k c.slot) found
weighed_slot k c found low = get_or-set_same k.slots c.slot (slot_with_weight (slot_of k c.slot) found) empty_slot low

-- where the keeper knows that a code was weighed clear, no seat has it
pub clear_nowhere : (b : BoardId) (old new : KeeperView) (c : CodeId) → KeeperSteps b old new → c.slot < b.slots → (slot_of new c.slot).serial ≡ c.serial → (slot_of new c.slot).clear ≡ true → IsNowhere b new c
clear_nowhere b old new c s low serial clear =
    let at = s.keeper_after.slot_is c.slot in let z = s.kept_after.looks c.slot low in
    let is : code_at s.after c.slot ≡ c = (λ i. code c.slot ((ap (λ (x : SlotState). x.serial) at ∙ serial) i)) in
    let weighed : (s.after.slot c.slot).clear ≡ true = ap (λ (x : SlotState). x.clear) at ∙ clear in record {
      state = s.after;
      kept = s.kept_after;
      keeper = s.keeper_after;
      uncounted = λ p h. ap (s.after.seat p).counted (sym is) ∙ z.clear_uncounted weighed p h;
      unfresh = λ p h. ap (s.after.seat p).fresh (sym is) ∙ z.clear_unfresh weighed p h;
    }
