-- A board on which another seat stepped last, and its last step is forgotten: what a seat knows doesn't tell it from the board that
-- it was made of.
use Rattle.std.proofs.Common.{◌≡◌, ◌≢◌, ◌⊎◌, ℕ, zero, suc, ◌≤◌, Bool, true, false, cond, eqb, List, [], ◌∷◌, length, sym, refl, ap, ◌∙◌, inl, inr, ⊎_elim, subst, arith}
use mathlib.Core.Option.{some, some-injective, some-ne-none}
use lib.ListN.{get_elem?}
use Rattle.frames.specs.declared.board_rule.StepMade.TheVariants.{Nothing}
use Rattle.frames.specs.declared.board_rule.SlotView.{SlotView}
use Rattle.frames.specs.declared.board_rule.KeeperView.{KeeperView}
use Rattle.frames.specs.declared.board_rule.SeatView.{SeatView}
use Rattle.frames.specs.declared.board_rule.BoardView.{BoardView}
use Rattle.frames.specs.declared.board_rule.BoardView.TheVariants.{Keeper, Thread, Ended}
use Rattle.frames.specs.BoardRule.{SeatState, IsBoardKept}
use Rattle.frames.specs.BoardViews.{slot_state, seat_state, empty_slot}
use Rattle.board.specs.Boards.{word_in, thread_of, stamp_of, seat_or_first, seat_known, IsLive, IsSeatedAt, IsTold, IsLatest, IsBoardAt, IsBoard}
use Rattle.board.proofs.Tables.{Whole, seats_by, no_thread}

-- the last step is forgotten, and the stamp is g
abbrev pub quiet_keeper : KeeperView → KeeperView
quiet_keeper k = record { moment = k.moment; slots = k.slots; split = k.split; steps = k.steps; last = Nothing }

abbrev pub quiet : ℕ → BoardView → BoardView
quiet g (Keeper k us h) = Keeper (quiet_keeper k) us g
quiet g (Thread t h) = Thread record { place = t.place; counted = t.counted; fresh = t.fresh; moment = t.moment; stored = t.stored; gone = t.gone; steps = t.steps; last = Nothing } g
quiet g Ended = Ended

abbrev pub with_stamp : ℕ → BoardView → BoardView
with_stamp g (Keeper k us h) = Keeper k us g
with_stamp g (Thread t h) = Thread t g
with_stamp g Ended = Ended

abbrev pub all_quiet : ℕ → List BoardView → List BoardView
all_quiet g [] = []
all_quiet g (v ∷ vs) = quiet g v ∷ all_quiet g vs

-- the seat id has the stamp g, and the others are quiet, with the next stamp
abbrev pub calmed : ℕ → ℕ → List BoardView → List BoardView
calmed id g [] = []
calmed zero g (v ∷ vs) = with_stamp g v ∷ all_quiet (suc g) vs
calmed (suc id) g (v ∷ vs) = quiet (suc g) v ∷ calmed id g vs

abbrev pub calm : ℕ → ℕ → Whole → Whole
calm id g s = record { words = s.words; homes = s.homes; views = calmed id g s.views }

-- 1. Which view is where

at_quiet : (g : ℕ) (vs : List BoardView) (j : ℕ) (w : BoardView) → get_elem? (all_quiet g vs) j ≡ some w → (v : BoardView) × (get_elem? vs j ≡ some v) × (w ≡ quiet g v)
at_quiet g [] j w e = absurd (some-ne-none w (sym e))
at_quiet g (v ∷ vs) zero w e = (v, refl, sym (some-injective (quiet g v) w e))
at_quiet g (v ∷ vs) (suc j) w e = at_quiet g vs j w e

at_calm : (id g : ℕ) (vs : List BoardView) (j : ℕ) (w : BoardView) → get_elem? (calmed id g vs) j ≡ some w
    → (v : BoardView) × (get_elem? vs j ≡ some v) × (((j ≡ id) × (w ≡ with_stamp g v)) ⊎ (w ≡ quiet (suc g) v))
at_calm id g [] j w e = absurd (some-ne-none w (sym e))
at_calm zero g (v ∷ vs) zero w e = (v, refl, inl (refl, sym (some-injective (with_stamp g v) w e)))
at_calm zero g (v ∷ vs) (suc j) w e = let q = at_quiet (suc g) vs j w e in (q.0, q.1, inr q.2)
at_calm (suc id) g (v ∷ vs) zero w e = (v, refl, inr (sym (some-injective (quiet (suc g) v) w e)))
at_calm (suc id) g (v ∷ vs) (suc j) w e = let q = at_calm id g vs j w e in (q.0, q.1, ⊎_elim (λ h. inl (ap suc h.0, h.1)) (λ h. inr h) q.2)

quiet_at : (g : ℕ) (vs : List BoardView) (j : ℕ) (v : BoardView) → get_elem? vs j ≡ some v → get_elem? (all_quiet g vs) j ≡ some (quiet g v)
quiet_at g [] j v e = absurd (some-ne-none v (sym e))
quiet_at g (x ∷ xs) zero v e = ap (λ y. some (quiet g y)) (some-injective x v e)
quiet_at g (x ∷ xs) (suc j) v e = quiet_at g xs j v e

pub own_at : (id g : ℕ) (vs : List BoardView) (v : BoardView) → get_elem? vs id ≡ some v → get_elem? (calmed id g vs) id ≡ some (with_stamp g v)
own_at id g [] v e = absurd (some-ne-none v (sym e))
own_at zero g (x ∷ xs) v e = ap (λ y. some (with_stamp g y)) (some-injective x v e)
own_at (suc id) g (x ∷ xs) v e = own_at id g xs v e

pub other_at : (id g : ℕ) (vs : List BoardView) (j : ℕ) (v : BoardView) → j ≢ id → get_elem? vs j ≡ some v → get_elem? (calmed id g vs) j ≡ some (quiet (suc g) v)
other_at id g [] j v ne e = absurd (some-ne-none v (sym e))
other_at zero g (x ∷ xs) zero v ne e = absurd (ne refl)
other_at zero g (x ∷ xs) (suc j) v ne e = quiet_at (suc g) xs j v e
other_at (suc id) g (x ∷ xs) zero v ne e = ap (λ y. some (quiet (suc g) y)) (some-injective x v e)
other_at (suc id) g (x ∷ xs) (suc j) v ne e = other_at id g xs j v (λ q. ne (ap suc q)) e

many_quiet : (g : ℕ) (vs : List BoardView) → length (all_quiet g vs) ≡ length vs
many_quiet g [] = refl
many_quiet g (v ∷ vs) = ap suc (many_quiet g vs)

many : (id g : ℕ) (vs : List BoardView) → length (calmed id g vs) ≡ length vs
many id g [] = refl
many zero g (v ∷ vs) = ap suc (many_quiet (suc g) vs)
many (suc id) g (v ∷ vs) = ap suc (many id g vs)

-- 2. What the views say

stamp_low : (g : ℕ) (v : BoardView) → stamp_of (with_stamp g v) ≤ g
stamp_low g (Keeper k us h) = omega arith
stamp_low g (Thread t h) = omega arith
stamp_low g Ended = omega arith

stamp_quiet : (g : ℕ) (v : BoardView) → stamp_of (quiet g v) ≤ g
stamp_quiet g (Keeper k us h) = omega arith
stamp_quiet g (Thread t h) = omega arith
stamp_quiet g Ended = omega arith

pub calm_latest : (id g : ℕ) (vs : List BoardView) → IsLatest (calmed id g vs) (suc g)
calm_latest id g vs j w e = let q = at_calm id g vs j w e in
    ⊎_elim (λ h. let low = stamp_low g q.0 in let is = ap stamp_of h.1 in omega arith) (λ h. let low = stamp_quiet (suc g) q.0 in let is = ap stamp_of h in omega arith) q.2

quiet_told : (slots : ℕ) (ws : List ℕ) (g : ℕ) (v : BoardView) → IsTold slots ws (quiet g v)
quiet_told slots ws g (Keeper k [] h) = tt
quiet_told slots ws g (Keeper k (u ∷ us) h) = tt
quiet_told slots ws g (Thread t h) = tt
quiet_told slots ws g Ended = tt

quiet_seated : (j g : ℕ) (v : BoardView) → IsSeatedAt j v → IsSeatedAt j (quiet g v)
quiet_seated j g (Keeper k us h) e = e
quiet_seated j g (Thread t h) e = e
quiet_seated j g Ended e = e

stamp_seated : (j g : ℕ) (v : BoardView) → IsSeatedAt j v → IsSeatedAt j (with_stamp g v)
stamp_seated j g (Keeper k us h) e = e
stamp_seated j g (Thread t h) e = e
stamp_seated j g Ended e = e

quiet_live : (us : List SeatView) (g : ℕ) (v : BoardView) (t : SeatView) (h : ℕ) → ((x : SeatView) (y : ℕ) → v ≡ Thread x y → IsLive us x.place) → quiet g v ≡ Thread t h → IsLive us t.place
quiet_live us g (Keeper k xs y) t h live e = absurd (no_thread (quiet g (Keeper k xs y)) t h e)
quiet_live us g (Thread x y) t h live e = subst (λ v. IsLive us (thread_of v).place) e (live x y refl)
quiet_live us g Ended t h live e = absurd (no_thread Ended t h e)

stamp_live : (us : List SeatView) (g : ℕ) (v : BoardView) (t : SeatView) (h : ℕ) → ((x : SeatView) (y : ℕ) → v ≡ Thread x y → IsLive us x.place) → with_stamp g v ≡ Thread t h → IsLive us t.place
stamp_live us g (Keeper k xs y) t h live e = absurd (no_thread (with_stamp g (Keeper k xs y)) t h e)
stamp_live us g (Thread x y) t h live e = subst (λ v. IsLive us (thread_of v).place) e (live x y refl)
stamp_live us g Ended t h live e = absurd (no_thread Ended t h e)

quiet_knows : (g : ℕ) (v : BoardView) → seat_state (thread_of (quiet g v)) ≡ seat_state (thread_of v)
quiet_knows g (Keeper k us h) = refl
quiet_knows g (Thread t h) = refl
quiet_knows g Ended = refl

stamp_knows : (g : ℕ) (v : BoardView) → seat_state (thread_of (with_stamp g v)) ≡ seat_state (thread_of v)
stamp_knows g (Keeper k us h) = refl
stamp_knows g (Thread t h) = refl
stamp_knows g Ended = refl

quiet_seats : (g : ℕ) (vs : List BoardView) (j p : ℕ) → seat_state (seat_or_first p (get_elem? (all_quiet g vs) j)) ≡ seat_state (seat_or_first p (get_elem? vs j))
quiet_seats g [] j p = refl
quiet_seats g (v ∷ vs) zero p = quiet_knows g v
quiet_seats g (v ∷ vs) (suc j) p = quiet_seats g vs j p

calm_seats : (id g : ℕ) (vs : List BoardView) (j p : ℕ) → seat_state (seat_or_first p (get_elem? (calmed id g vs) j)) ≡ seat_state (seat_or_first p (get_elem? vs j))
calm_seats id g [] j p = refl
calm_seats zero g (v ∷ vs) zero p = stamp_knows g v
calm_seats zero g (v ∷ vs) (suc j) p = quiet_seats (suc g) vs j p
calm_seats (suc id) g (v ∷ vs) zero p = quiet_knows (suc g) v
calm_seats (suc id) g (v ∷ vs) (suc j) p = calm_seats id g vs j p

known_alike : (us : List SeatView) (p : ℕ) (t t' : SeatView) → seat_state t ≡ seat_state t' → seat_state (seat_known us p t) ≡ seat_state (seat_known us p t')
known_alike [] p t t' e = e
known_alike (u ∷ us) p t t' e = by (eqb u.place p) (known_alike us p t t' e)
  where
    by : (b : Bool) → seat_state (seat_known us p t) ≡ seat_state (seat_known us p t') → seat_state (cond b u (seat_known us p t)) ≡ seat_state (cond b u (seat_known us p t'))
    by true rest = refl
    by false rest = rest

-- 3. The board

calm_at : (n : ℕ × ℕ) (s : Whole) (k k' : KeeperView) (us : List SeatView) (id g h l : ℕ) (v : BoardView) → IsBoardAt n s k us → k'.moment ≡ k.moment → k'.slots ≡ k.slots → k'.split ≡ k.split
    → get_elem? (calmed id g s.views) 0 ≡ some (Keeper k' us h) → l ≢ id → get_elem? s.views l ≡ some v → stamp_of (quiet (suc g) v) ≡ suc g → IsBoardAt n (calm id g s) k' us
calm_at n s k k' us id g h l v r moment slots split at other there seen = record {
  stamp = h;
  keeper_is = at;
  seated = λ j w e. let q = at_calm id g s.views j w e in
      ⊎_elim (λ x. subst (IsSeatedAt j) (sym x.1) (stamp_seated j g q.0 (r.seated j q.0 q.1))) (λ x. subst (IsSeatedAt j) (sym x) (quiet_seated j (suc g) q.0 (r.seated j q.0 q.1))) q.2;
  split = (many id g s.views ∙ (r.split.0 ∙ ap suc (sym split)), subst (λ x. x ≤ n.1) (sym split) r.split.1);
  slots_are = ap length slots ∙ r.slots_are;
  words_are = r.words_are;
  live = λ j t y e. let q = at_calm id g s.views j (Thread t y) e in
      ⊎_elim (λ x. stamp_live us g q.0 t y (λ a b c. r.live j a b (q.1 ∙ ap some c)) (sym x.1)) (λ x. quiet_live us (suc g) q.0 t y (λ a b c. r.live j a b (q.1 ∙ ap some c)) (sym x)) q.2;
  apart = r.apart;
  kept = subst (λ x. IsBoardKept n.0 n.1 record { word = word_in n.0 s.words; now = x; slot = λ i. slot_state (lib.ListN.get_or k'.slots i empty_slot); seat = seats_by us (calmed id g s.views) }) (sym moment)
      (subst (λ (xs : List SlotView). IsBoardKept n.0 n.1 record { word = word_in n.0 s.words; now = k.moment; slot = λ i. slot_state (lib.ListN.get_or xs i empty_slot); seat = seats_by us (calmed id g s.views) }) (sym slots)
      (subst (λ (x : ℕ → SeatState). IsBoardKept n.0 n.1 record { word = word_in n.0 s.words; now = k.moment; slot = λ i. slot_state (lib.ListN.get_or k.slots i empty_slot); seat = x })
      (λ i p. sym (known_alike us p (seat_or_first p (get_elem? (calmed id g s.views) (suc p))) (seat_or_first p (get_elem? s.views (suc p))) (calm_seats id g s.views (suc p) p)) i) r.kept));
  told = λ j w e latest. let q = at_calm id g s.views j w e in
      ⊎_elim (λ x. let low = stamp_low g q.0 in let is = ap stamp_of x.1 in let high = latest l (quiet (suc g) v) (other_at id g s.views l v other there) in absurd (omega arith))
      (λ x. subst (IsTold n.0 s.words) (sym x) (quiet_told n.0 s.words (suc g) q.0)) q.2;
}

-- to a thread of the place p
pub calm_thread : (n : ℕ × ℕ) (s : Whole) (p g : ℕ) → IsBoard n s → IsBoard n (calm (suc p) g s)
calm_thread n s p g b = let r = b.2 in (
  quiet_keeper b.0,
  b.1,
  calm_at n s b.0 (quiet_keeper b.0) b.1 (suc p) g (suc g) 0 (Keeper b.0 b.1 r.stamp) r refl refl refl (other_at (suc p) g s.views 0 (Keeper b.0 b.1 r.stamp) (λ e. omega arith) r.keeper_is) (λ e. omega arith) r.keeper_is refl,
)

-- to the keeper, where the place p has a seat
pub calm_keeper : (n : ℕ × ℕ) (s : Whole) (p g g' : ℕ) (t : SeatView) → IsBoard n s → get_elem? s.views (suc p) ≡ some (Thread t g') → IsBoard n (calm 0 g s)
calm_keeper n s p g g' t b at = let r = b.2 in (
  b.0,
  b.1,
  calm_at n s b.0 b.0 b.1 0 g g (suc p) (Thread t g') r refl refl refl (own_at 0 g s.views (Keeper b.0 b.1 r.stamp) r.keeper_is) (λ e. omega arith) at refl,
)
