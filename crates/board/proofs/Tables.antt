-- A table stays a board where a seat makes a step of the board.
use Rattle.std.proofs.Common.{◌≡◌, ℕ, zero, suc, ◌+◌, ◌<◌, ◌≤◌, List, [], ◌∷◌, length, get_or, set, sym, refl, ap, ◌∙◌, inl, inr, ⊎_elim, subst, arith, cond, eqb, eq-eqb, length-set, get_or-set_same, get_or-set_other}
use mathlib.Core.Option.{some, some-injective, some-ne-none}
use lib.ListN.{get_elem?}
use Rattle.atomic_table.specs.Table.{State, Me, keeps, stepped}
use Rattle.atomic_table.proofs.Lists.{at_set, set_else}
use Rattle.frames.specs.declared.board_rule.SlotView.{SlotView}
use Rattle.frames.specs.declared.board_rule.KeeperView.{KeeperView}
use Rattle.frames.specs.declared.board_rule.SeatView.{SeatView}
use Rattle.frames.specs.declared.board_rule.StepMade.{StepMade}
use Rattle.frames.specs.declared.board_rule.BoardView.{BoardView}
use Rattle.frames.specs.declared.board_rule.BoardView.TheVariants.{Keeper, Thread, Ended}
use Rattle.frames.specs.BoardWords.{entry_of, count_of, place_of, the_moment}
use Rattle.frames.specs.BoardRule.{SlotState, SeatState, BoardState, IsBoardKept}
use Rattle.frames.specs.BoardStep.{Actor, BoardStep, SeatBecomes, SlotBecomes, keeper, thread, load_entry, store_in_use, store_not_entrant, load_moment, add_moment, store_place, add_count, sub_count, load_place, load_count, store_zombie, store_vacant}
use Rattle.frames.specs.BoardViews.{slot_state, seat_state, empty_slot}
use Rattle.frames.proofs.BoardLaws.{step_keeps}
use Rattle.board.specs.Boards.{BoardId, keeper_of, thread_of, ended_of, seat_or_first, seat_known, seat_at, IsLive, board_state, IsSeatedAt, IsBoardAt, IsBoard, ThreadSteps, KeeperSteps, stamp_of, word_in, IsToldBy, IsTold, IsLatest}

abbrev pub Whole : Type 0
Whole = State (Unit {0}) BoardView

abbrev pub Sat : Type 0
Sat = Me (Unit {0}) BoardView

-- a list that has a value at i has there what is put there
pub set_found : {A : Type 0} (l : List A) (i : ℕ) (a b : A) → get_elem? l i ≡ some a → get_elem? (set l i b) i ≡ some b
set_found [] i a b e = absurd (some-ne-none a (sym e))
set_found (x ∷ xs) zero a b e = refl
set_found (x ∷ xs) (suc i) a b e = set_found xs i a b e

pub below : {A : Type 0} (l : List A) (i : ℕ) (a : A) → get_elem? l i ≡ some a → i < length l
below [] i a e = absurd (some-ne-none a (sym e))
below (x ∷ xs) zero a e = omega arith
below (x ∷ xs) (suc i) a e = let rec : i < length xs = below xs i a e in omega arith

-- no stamp is above the sum of all
abbrev pub stamps : List BoardView → ℕ
stamps [] = 0
stamps (v ∷ vs) = stamp_of v + stamps vs

pub stamp_by : (l : List BoardView) (i : ℕ) (v : BoardView) → get_elem? l i ≡ some v → stamp_of v ≤ stamps l
stamp_by [] i v e = absurd (some-ne-none v (sym e))
stamp_by (x ∷ xs) zero v e = let is : stamp_of x ≡ stamp_of v = ap stamp_of (some-injective x v e) in omega arith
stamp_by (x ∷ xs) (suc i) v e = let rec = stamp_by xs i v e in omega arith

-- a seat steps last, and its last step left the words so
told_after : (slots : ℕ) (l : List BoardView) (ws : List ℕ) (id : ℕ) (old new : BoardView) → get_elem? l id ≡ some old → stamps l < stamp_of new → IsTold slots ws new
    → (j : ℕ) (v : BoardView) → get_elem? (set l id new) j ≡ some v → IsLatest (set l id new) (stamp_of v) → IsTold slots ws v
told_after slots l ws id old new at later told j v e latest = ⊎_elim (λ t. subst (IsTold slots ws) t.1 told)
    (λ t. let below = stamp_by l j v t.1 in let above = latest id new (set_found l id old new at) in absurd (omega arith))
    (at_set l id j new v e)

this : (k n m : ℕ) → cond (eqb k k) n m ≡ n
this k n m = let x = eq-eqb k k refl in rw x refl

abbrev pub place_by : Actor → ℕ
place_by keeper = 0
place_by (thread p) = p

-- each kind of step says what it left
told_by : (slots places : ℕ) (old new : BoardState) (actor : Actor) (made : StepMade) → BoardStep slots places old new actor made → IsBoardKept slots places old → IsToldBy new.word (place_by actor) made
told_by slots places old new actor made (load_entry p c low low' given loads s) r = loads (entry_of c.slot) low'
told_by slots places old new actor made (store_in_use c low vacant later bound writes s) r = writes (entry_of c.slot) low ∙ this c.slot _ _
told_by slots places old new actor made (store_not_entrant k low used writes s) r = writes (entry_of k) low ∙ this k _ _
told_by slots places old new actor made (load_moment p low loads s) r = loads the_moment tt
told_by slots places old new actor made (add_moment room writes s) r = writes the_moment tt
told_by slots places old new actor made (store_place p n low storable writes s) r = writes (place_of p) low ∙ this p _ _
told_by slots places old new actor made (add_count p c by low given fresh few writes s) r = writes (count_of c.slot) (r.held_stands p low c (inr fresh)).0 ∙ this c.slot _ _
told_by slots places old new actor made (sub_count p c by low given enough writes s) r = writes (count_of c.slot) (r.held_stands p low c (inl (omega arith))).0 ∙ this c.slot _ _
told_by slots places old new actor made (load_place k p low low' state loads s) r = loads (place_of p) low'
told_by slots places old new actor made (load_count k low unused all loads s) r = loads (count_of k) low
told_by slots places old new actor made (store_zombie k low state clear writes s) r = writes (entry_of k) low ∙ this k _ _
told_by slots places old new actor made (store_vacant k low state writes s) r = writes (entry_of k) low ∙ this k _ _

-- the board that the table s is, where its keeper knows k, and seats that knew us were given back
abbrev pub of_table : ℕ × ℕ → Whole → KeeperView → List SeatView → BoardState
of_table n s k us = board_state n.0 s.words k us s.views

-- the views that are a thread's
abbrev HasThread : BoardView → Type 0
HasThread (Keeper k us g) = ⊥
HasThread (Thread t g) = Unit {0}
HasThread Ended = ⊥

pub no_thread : (v : BoardView) (t : SeatView) (g : ℕ) → v ≡ Thread t g → HasThread v
no_thread v t g e = subst HasThread (sym e) tt

-- What is known of the thread's seat id with the view t
pub record AtThread (n : ℕ × ℕ) (s : Whole) (us : List SeatView) (t : SeatView) : Type 0 where
  pub low : t.place < n.1
  pub knows : seat_state (seat_at us s.views t.place) ≡ seat_state t

pub at_thread : (n : ℕ × ℕ) (s : Whole) (id : ℕ) (t : SeatView) (g : ℕ) (k : KeeperView) (us : List SeatView) → IsBoardAt n s k us → get_elem? s.views id ≡ some (Thread t g) → AtThread n s us t
at_thread n s id t g k us r at =
    let me : id ≡ suc t.place = r.seated id (Thread t g) at in
    let was : get_elem? s.views (suc t.place) ≡ some (Thread t g) = subst (λ j. get_elem? s.views j ≡ some (Thread t g)) me at in
    let inside : id < length s.views = below s.views id (Thread t g) at in let a = r.split.0 in let b = r.split.1 in record {
      low = omega arith;
      knows = ap (λ o. seat_state (seat_known us t.place (seat_or_first t.place o))) was ∙ ap seat_state (r.live id t g at t);
    }

-- its new view is what the board's seat knows, and nothing else changes
pub thread_becomes : (n : ℕ × ℕ) (s : Whole) (id : ℕ) (t t' : SeatView) (g g' : ℕ) (k : KeeperView) (us : List SeatView) (words' : List ℕ) (u : SeatState) → IsBoardAt n s k us → get_elem? s.views id ≡ some (Thread t g)
    → seat_state t' ≡ u → SeatBecomes t.place u (of_table n s k us) (board_state n.0 words' k us (set s.views id (Thread t' g')))
thread_becomes n s id t t' g g' k us words' u r at is =
    let me : id ≡ suc t.place = r.seated id (Thread t g) at in
    let here : get_elem? (set s.views id (Thread t' g')) (suc t.place) ≡ some (Thread t' g') = subst (λ j. get_elem? (set s.views id (Thread t' g')) j ≡ some (Thread t' g')) me (set_found s.views id (Thread t g) (Thread t' g') at) in record {
      mine = ap (λ o. seat_state (seat_known us t.place (seat_or_first t.place o))) here ∙ (ap seat_state (r.live id t g at t') ∙ is);
      others = λ p ne. ap (λ o. seat_state (seat_known us p (seat_or_first p o))) (set_else s.views id (suc p) (Thread t' g') (λ e. ne (omega arith)));
      slots_stay = refl;
      now_stays = refl;
    }

-- after a step of the thread's seat
pub thread_makes : (n : ℕ × ℕ) (s : Whole) (id i m : ℕ) (cc : List (ℕ × Unit {0})) (t t' : SeatView) (g : ℕ) (k : KeeperView) (us : List SeatView) → IsBoardAt n s k us → get_elem? s.views id ≡ some (Thread t g) → t'.place ≡ t.place
    → BoardStep n.0 n.1 (of_table n s k us) (board_state n.0 (set s.words i m) k us (set s.views id (Thread t' (suc (stamps s.views))))) (thread t.place) t'.last
    → IsBoard n (stepped s i m id cc (Thread t' (suc (stamps s.views))) keeps)
thread_makes n s id i m cc t t' g k us r at same step =
    let me : id ≡ suc t.place = r.seated id (Thread t g) at in (
      k,
      us,
      record {
        stamp = r.stamp;
        keeper_is = set_else s.views id 0 (Thread t' (suc (stamps s.views))) (λ e. omega arith) ∙ r.keeper_is;
        seated = λ j v e. ⊎_elim (λ x. subst (IsSeatedAt j) x.1 (x.0 ∙ (me ∙ ap suc (sym same)))) (λ x. r.seated j v x.1) (at_set s.views id j (Thread t' (suc (stamps s.views))) v e);
        split = (length-set s.views id (Thread t' (suc (stamps s.views))) ∙ r.split.0, r.split.1);
        slots_are = r.slots_are;
        words_are = length-set s.words i m ∙ r.words_are;
        live = λ j u h e. ⊎_elim (λ x. subst (IsLive us) (sym same ∙ ap (λ v. (thread_of v).place) x.1) (r.live id t g at)) (λ x. r.live j u h x.1) (at_set s.views id j (Thread t' (suc (stamps s.views))) (Thread u h) e);
        apart = r.apart;
        kept = step_keeps n.0 n.1 (of_table n s k us) _ (thread t.place) t'.last step r.kept;
        told = told_after n.0 s.views (set s.words i m) id (Thread t g) (Thread t' (suc (stamps s.views))) at (omega arith)
            (subst (λ p. IsToldBy (word_in n.0 (set s.words i m)) p t'.last) (sym same) (told_by n.0 n.1 (of_table n s k us) _ (thread t.place) t'.last step r.kept));
      },
    )

pub thread_tells : (n : ℕ × ℕ) (b : BoardId) (s : Whole) (id i m : ℕ) (t t' : SeatView) (g g' : ℕ) (k : KeeperView) (us : List SeatView) → n ≡ (b.slots, b.places) → IsBoardAt n s k us → get_elem? s.views id ≡ some (Thread t g)
    → BoardStep n.0 n.1 (of_table n s k us) (board_state n.0 (set s.words i m) k us (set s.views id (Thread t' g'))) (thread t.place) t'.last
    → ThreadSteps b t t'
thread_tells n b s id i m t t' g g' k us is r at step = let old = of_table n s k us in let new = board_state n.0 (set s.words i m) k us (set s.views id (Thread t' g')) in record {
  before = old;
  after = new;
  kept_before = subst (λ (n : ℕ × ℕ). IsBoardKept n.0 n.1 old) is r.kept;
  step = subst (λ (n : ℕ × ℕ). BoardStep n.0 n.1 old new (thread t.place) t'.last) is step;
  kept_after = subst (λ (n : ℕ × ℕ). IsBoardKept n.0 n.1 new) is (step_keeps n.0 n.1 old new (thread t.place) t'.last step r.kept);
  seat_before = (at_thread n s id t g k us r at).knows;
  seat_after = (thread_becomes n s id t t' g g' k us (set s.words i m) (seat_state t') r at refl).mine;
}

-- the table's keeper is the one whose seat steps
pub at_closing : (n : ℕ × ℕ) (s : Whole) (id : ℕ) (k : KeeperView) (us : List SeatView) (g : ℕ) → IsBoard n s → get_elem? s.views id ≡ some (Keeper k us g) → (id ≡ 0) × IsBoardAt n s k us
at_closing n s id k us g b at =
    let r = b.2 in let first : id ≡ 0 = r.seated id (Keeper k us g) at in
    let here : get_elem? s.views 0 ≡ some (Keeper k us g) = subst (λ j. get_elem? s.views j ≡ some (Keeper k us g)) first at in
    let same : Keeper b.0 b.1 r.stamp ≡ Keeper k us g = some-injective (Keeper b.0 b.1 r.stamp) (Keeper k us g) (sym r.keeper_is ∙ here) in
    (first, subst (λ v. IsBoardAt n s (keeper_of v) (ended_of v)) same r)

pub at_keeper : (n : ℕ × ℕ) (s : Whole) (id : ℕ) (k : KeeperView) (g : ℕ) → IsBoard n s → get_elem? s.views id ≡ some (Keeper k [] g) → (id ≡ 0) × IsBoardAt n s k []
at_keeper n s id k g b at = at_closing n s id k [] g b at

abbrev pub seats_by : List SeatView → List BoardView → ℕ → SeatState
seats_by us views p = seat_state (seat_at us views p)

-- its new view leaves the seats
pub seats_stay : (us : List SeatView) (views : List BoardView) (k : KeeperView) (g : ℕ) → seats_by us (set views 0 (Keeper k us g)) ≡ seats_by us views
seats_stay us views k g = λ i p. seat_state (seat_known us p (seat_or_first p (set_else views 0 (suc p) (Keeper k us g) (λ e. omega arith) i)))

pub keeper_makes : (n : ℕ × ℕ) (s : Whole) (id i m : ℕ) (cc : List (ℕ × Unit {0})) (k k' : KeeperView) (g : ℕ) → IsBoardAt n s k [] → get_elem? s.views id ≡ some (Keeper k [] g) → id ≡ 0
    → k'.split ≡ k.split → length k'.slots ≡ length k.slots
    → BoardStep n.0 n.1 (of_table n s k []) (board_state n.0 (set s.words i m) k' [] (set s.views id (Keeper k' [] (suc (stamps s.views))))) keeper k'.last
    → IsBoard n (stepped s i m id cc (Keeper k' [] (suc (stamps s.views))) keeps)
keeper_makes n s id i m cc k k' g r at first split long step = (
  k',
  [],
  record {
    stamp = suc (stamps s.views);
    keeper_is = subst (λ j. get_elem? (set s.views id (Keeper k' [] (suc (stamps s.views)))) j ≡ some (Keeper k' [] (suc (stamps s.views)))) first (set_found s.views id (Keeper k [] g) (Keeper k' [] (suc (stamps s.views))) at);
    seated = λ j v e. ⊎_elim (λ x. subst (IsSeatedAt j) x.1 (x.0 ∙ first)) (λ x. r.seated j v x.1) (at_set s.views id j (Keeper k' [] (suc (stamps s.views))) v e);
    split = let a = r.split in (length-set s.views id (Keeper k' [] (suc (stamps s.views))) ∙ (a.0 ∙ ap suc (sym split)), omega arith);
    slots_are = long ∙ r.slots_are;
    words_are = length-set s.words i m ∙ r.words_are;
    live = λ j u h e t. refl;
    apart = tt;
    kept = step_keeps n.0 n.1 (of_table n s k []) _ keeper k'.last step r.kept;
    told = told_after n.0 s.views (set s.words i m) id (Keeper k [] g) (Keeper k' [] (suc (stamps s.views))) at (omega arith) (told_by n.0 n.1 (of_table n s k []) _ keeper k'.last step r.kept);
  },
)

pub keeper_tells : (n : ℕ × ℕ) (b : BoardId) (s : Whole) (id i m : ℕ) (k k' : KeeperView) (g' : ℕ) → n ≡ (b.slots, b.places) → IsBoardAt n s k []
    → BoardStep n.0 n.1 (of_table n s k []) (board_state n.0 (set s.words i m) k' [] (set s.views id (Keeper k' [] g'))) keeper k'.last
    → KeeperSteps b k k'
keeper_tells n b s id i m k k' g' is r step = let old = of_table n s k [] in let new = board_state n.0 (set s.words i m) k' [] (set s.views id (Keeper k' [] g')) in record {
  before = old;
  after = new;
  kept_before = subst (λ (n : ℕ × ℕ). IsBoardKept n.0 n.1 old) is r.kept;
  step = subst (λ (n : ℕ × ℕ). BoardStep n.0 n.1 old new keeper k'.last) is step;
  kept_after = subst (λ (n : ℕ × ℕ). IsBoardKept n.0 n.1 new) is (step_keeps n.0 n.1 old new keeper k'.last step r.kept);
  keeper_before = record { now_is = refl; slot_is = λ i. refl };
  keeper_after = record { now_is = refl; slot_is = λ i. refl };
}

-- a step that changes the slot i alone
pub slot_becomes : (n : ℕ × ℕ) (s : Whole) (id i : ℕ) (k k' : KeeperView) (g' : ℕ) (words' : List ℕ) (v : SlotView) (u : SlotState) → IsBoardAt n s k [] → id ≡ 0 → i < n.0
    → k'.slots ≡ set k.slots i v → k'.moment ≡ k.moment → slot_state v ≡ u
    → SlotBecomes i u (of_table n s k []) (board_state n.0 words' k' [] (set s.views id (Keeper k' [] g')))
slot_becomes n s id i k k' g' words' v u r first low slots now is = let wide = r.slots_are in record {
  mine = ap (λ l. slot_state (get_or l i empty_slot)) slots ∙ (ap slot_state (get_or-set_same k.slots i v empty_slot (omega arith)) ∙ is);
  others = λ j ne. ap (λ l. slot_state (get_or l j empty_slot)) slots ∙ ap slot_state (get_or-set_other k.slots i j v empty_slot ne);
  seats_stay = subst (λ z. seats_by [] (set s.views z (Keeper k' [] g')) ≡ seats_by [] s.views) (sym first) (seats_stay [] s.views k' g');
  now_stays = now;
}
