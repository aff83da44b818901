-- How the words and views of a world change where an event changes one place, or one slot.
use Rattle.std.proofs.Common.{◌≡◌, ◌≢◌, ℕ, zero, suc, ◌+◌, ◌<◌, false, cond, List, [], ◌∷◌, length, Option, Some, None, sym, refl, ap, ◌∙◌, subst, arith}
use Rattle.std.specs.Prelude.{◌&&◌, slice_get, slice_set, sum_by}
use Rattle.std.proofs.lemmas.Bool.{ne_eqb, eq-eqb}
use Rattle.std.proofs.lemmas.List.Sums.{sum_by-cons}
use mathlib.Core.Logic.{dite}
use native.Mathlib.Decide.{ℕ_discrete}
use Rattle.frames.specs.declared.CodeId.{CodeId}
use Rattle.method_table.specs.declared.Code.{Code}
use Rattle.system.specs.declared.events.Event.{Event}
use Rattle.system.specs.declared.answers.Answer.{Answer}
use Rattle.frames.specs.BoardWords.{Word, entry_of, count_of, place_of, the_moment, pack}
use Rattle.frames.specs.BoardRule.{SlotState, SeatState, code}
use Rattle.frames.specs.BoardStep.{Loads, Writes, SeatBecomes, SlotBecomes}
use Rattle.system.specs.Threads.{Thread, is_publishing}
use Rattle.system.specs.Log.{Entry, is_invalidate, is_round, is_look, says_clear, is_looked, moment}
use Rattle.system.specs.World.{World, found, part_at, walk, thread_at}
use Rattle.system.specs.Moments.{left_at, begun, ended, published_at, publishing_at}
use Rattle.system.proofs.Outcomes.{seated, coded}
use Rattle.system.proofs.Seats.{get_set_same, get_set_other}
use Rattle.system.proofs.Moments.{moment_step}
use Rattle.method_table.specs.Entries.{newest_in}
use Rattle.tie.specs.BoardOf.{slot_by, slot_at, is_given, seat_by, seat_at, word_by, board_of}
use Rattle.tie.proofs.Quiet.{IsUnseen, unseen_fresh, unseen_missed}

-- An entry that the keeper doesn't notice: it is no round, invalidates no code, and finds no place clear.
pub record IsUnkept (e : Entry) : Type 0 where
  pub no_round : is_round e.event ≡ false
  pub no_invalidate : (s : ℕ) → is_invalidate s e.event ≡ false
  pub no_look : (s q : ℕ) → (is_look s q e.event && says_clear e.answer) ≡ false

pub same_moment : (e : Entry) (log : List Entry) → is_round e.event ≡ false → moment (e ∷ log) ≡ moment log
same_moment e log h = moment_step e log ∙ ap (λ b. cond b (1 + moment log) (moment log)) h

pub slot_same : (e : Entry) (log : List Entry) (o : Option Code) → ((k : Code) → o ≡ Some k → left_at k.serial (e ∷ log) ≡ left_at k.serial log)
    → ((k : Code) → o ≡ Some k → (p : ℕ) → is_looked (e ∷ log) k.serial p ≡ is_looked log k.serial p) → slot_by (e ∷ log) o ≡ slot_by log o
slot_same e log None left looked = refl
slot_same e log (Some k) left looked = λ i. record { serial = k.serial; state = (slot_by log (Some k)).state; left = left k refl i; looked = λ p. looked k refl p i; clear = (slot_by log (Some k)).clear }

pub slot_unkept : (e : Entry) (log : List Entry) (o : Option Code) → IsUnkept e → slot_by (e ∷ log) o ≡ slot_by log o
slot_unkept e log o h = slot_same e log o (λ k x. (let a = h.no_invalidate k.serial in rw a refl)) (λ k x p. (let a = h.no_look k.serial p in rw a refl))

pub seat_same : (codes : List Code) (log : List Entry) (q : ℕ) (o : Option Thread) (e : Entry) → IsUnseen q e → seat_by codes (e ∷ log) q o ≡ seat_by codes log q o
seat_same codes log q o e h = λ i. record {
  counted = λ c. part_at c o;
  fresh = λ c. is_given codes c && unseen_fresh q c.serial e log h i;
  moment = open_same o i;
  stored = stored_same o i;
  gone = λ c. is_given codes c && unseen_missed q c.serial e log h i;
}
  where
    begun_same : begun q (e ∷ log) ≡ begun q log
    begun_same = let a = h.starts_not in let b = h.begins_not in rw (a, b) refl

    ended_same : ended q (e ∷ log) ≡ ended q log
    ended_same = let a = h.starts_not in let b = h.ends_not in rw (a, b) refl

    open_same : (o : Option Thread) → publishing_at (e ∷ log) q o ≡ publishing_at log q o
    open_same None = refl
    open_same (Some t) = ap (λ n. cond (is_publishing t) n 0) begun_same

    stored_same : (o : Option Thread) → published_at (e ∷ log) q o ≡ published_at log q o
    stored_same None = refl
    stored_same (Some t) = ap (λ n. cond t.published n 0) ended_same

-- Two worlds whose moments, slots, seats and counts are the same have the same board.
pub same_board : (v w : World) → moment v.log ≡ moment w.log → ((k : ℕ) → slot_at v k ≡ slot_at w k) → ((q : ℕ) → seat_at v q ≡ seat_at w q) → ((c : CodeId) → walk v c ≡ walk w c) → board_of v ≡ board_of w
same_board v w turn slots seats walks = λ i. record { word = λ y. words y i; now = turn i; slot = λ k. slots k i; seat = λ q. seats q i }
  where
    words : (y : Word) → word_by v y ≡ word_by w y
    words (entry_of k) = ap (λ (s : SlotState). pack s.serial s.state) (slots k)
    words (count_of k) = walks (code k (slot_at v k).serial) ∙ ap (λ (s : SlotState). walk w (code k s.serial)) (slots k)
    words (place_of p) = ap (λ (t : SeatState). t.stored) (seats p)
    words the_moment = turn

-- One place changes.
pub thread_set : (w : World) (p : ℕ) (o : Option Thread) → p < length w.places → found (slice_get (slice_set w.places p o) p) ≡ o
thread_set w p o low = ap found (get_set_same w.places p o low)

pub walk_set : (c : CodeId) (places : List (Option Thread)) (p : ℕ) (old o : Option Thread) → slice_get places p ≡ Some old → sum_by (part_at c) (slice_set places p o) + part_at c old ≡ sum_by (part_at c) places + part_at c o
walk_set c [] p old o h = cc
walk_set c (x ∷ xs) zero old o h = let same : x ≡ old = cc in let is : part_at c x ≡ part_at c old = ap (part_at c) same in let a = sum_by-cons (part_at c) o xs in let b = sum_by-cons (part_at c) x xs in omega arith
walk_set c (x ∷ xs) (suc p) old o h = let r = walk_set c xs p old o h in let a = sum_by-cons (part_at c) x (slice_set xs p o) in let b = sum_by-cons (part_at c) x xs in omega arith

-- An event of the place p, where old was and o is then: the keeper doesn't notice it, nor do the other seats.
pub record IsAt (w : World) (p : ℕ) (old : Option Thread) (e : Entry) : Type 0 where
  pub there : slice_get w.places p ≡ Some old
  pub low : p < length w.places
  pub unkept : IsUnkept e
  pub others : (q : ℕ) → q ≢ p → IsUnseen q e

module _ (w : World) (p : ℕ) (old o : Option Thread) (e : Event) (a : Answer) (h : IsAt w p old (record { event = e; answer = a })) (t : SeatState) (mine : seat_by w.codes (record { event = e; answer = a } ∷ w.log) p o ≡ t) where
  abbrev new : World
  new = seated w p o e a

  seat_old : seat_at w p ≡ seat_by w.codes w.log p old
  seat_old = ap (λ x. seat_by w.codes w.log p (found x)) h.there

  seat_mine : seat_at new p ≡ t
  seat_mine = ap (seat_by w.codes (record { event = e; answer = a } ∷ w.log) p) (thread_set w p o h.low) ∙ mine

  seat_other : (q : ℕ) → q ≢ p → seat_at new q ≡ seat_at w q
  seat_other q ne = ap (λ x. seat_by w.codes (record { event = e; answer = a } ∷ w.log) q (found x)) (get_set_other w.places p q o ne) ∙ seat_same w.codes w.log q (thread_at w q) (record { event = e; answer = a }) (h.others q ne)

  slot_stays : (k : ℕ) → slot_at new k ≡ slot_at w k
  slot_stays k = slot_unkept (record { event = e; answer = a }) w.log (newest_in w.codes k) h.unkept

  moment_stays : moment new.log ≡ moment w.log
  moment_stays = same_moment (record { event = e; answer = a }) w.log h.unkept.no_round

  pub seat_becomes : SeatBecomes p t (board_of w) (board_of new)
  seat_becomes = record { mine = seat_mine; others = seat_other; slots_stay = λ i. λ k. slot_stays k i; now_stays = moment_stays }

  pub walk_moves : (c : CodeId) → walk new c + part_at c old ≡ walk w c + t.counted c
  walk_moves c = walk_set c w.places p old o h.there ∙ ap (λ (s : SeatState). walk w c + s.counted c) mine

  pub entry_stays : (k : ℕ) → word_by new (entry_of k) ≡ word_by w (entry_of k)
  entry_stays k = ap (λ (s : SlotState). pack s.serial s.state) (slot_stays k)

  pub count_is : (k : ℕ) → word_by new (count_of k) ≡ walk new (code k (slot_at w k).serial)
  count_is k = ap (λ (s : SlotState). walk new (code k s.serial)) (slot_stays k)

  walk_stays : ((c : CodeId) → t.counted c ≡ part_at c old) → (c : CodeId) → walk new c ≡ walk w c
  walk_stays same c = let m = walk_moves c in let s = same c in omega arith

  pub place_other : (q : ℕ) → q ≢ p → word_by new (place_of q) ≡ word_by w (place_of q)
  place_other q ne = ap (λ (s : SeatState). s.stored) (seat_other q ne)

  pub place_mine : word_by new (place_of p) ≡ t.stored
  place_mine = ap (λ (s : SeatState). s.stored) seat_mine

  -- It is a load where the seat counts and has stored what it had.
  pub loads : ((c : CodeId) → t.counted c ≡ part_at c old) → t.stored ≡ published_at w.log p old → Loads w.slots (length w.places) (board_of w) (board_of new)
  loads counted stored (entry_of k) low = entry_stays k
  loads counted stored (count_of k) low = count_is k ∙ walk_stays counted (code k (slot_at w k).serial)
  loads counted stored (place_of q) low = dite (ℕ_discrete q p)
      (λ same. subst (λ r. word_by new (place_of r) ≡ word_by w (place_of r)) (sym same) (place_mine ∙ (stored ∙ sym (ap (λ (s : SeatState). s.stored) seat_old))))
      (λ ne. place_other q ne)
  loads counted stored the_moment low = moment_stays

  -- It is a write of the place where the seat counts what it counted.
  pub writes_place : ((c : CodeId) → t.counted c ≡ part_at c old) → Writes w.slots (length w.places) (place_of p) t.stored (board_of w) (board_of new)
  writes_place counted (entry_of k) low = entry_stays k
  writes_place counted (count_of k) low = count_is k ∙ walk_stays counted (code k (slot_at w k).serial)
  writes_place counted (place_of q) low = dite (ℕ_discrete q p)
      (λ same. (let b = eq-eqb q p same in rw b (subst (λ r. word_by new (place_of r) ≡ t.stored) (sym same) place_mine)))
      (λ ne. (let b = ne_eqb q p ne in rw b (place_other q ne)))
  writes_place counted the_moment low = moment_stays

  -- It is a write of a count where the seat has stored what it had, and the sums are so.
  pub writes_count : (k n : ℕ) → walk new (code k (slot_at w k).serial) ≡ n → ((j : ℕ) → j ≢ k → t.counted (code j (slot_at w j).serial) ≡ part_at (code j (slot_at w j).serial) old)
      → t.stored ≡ published_at w.log p old → Writes w.slots (length w.places) (count_of k) n (board_of w) (board_of new)
  writes_count k n sum others stored (entry_of j) low = entry_stays j
  writes_count k n sum others stored (count_of j) low = dite (ℕ_discrete j k)
      (λ same. (let b = eq-eqb j k same in rw b (subst (λ r. word_by new (count_of r) ≡ n) (sym same) (count_is k ∙ sum))))
      (λ ne. (let b = ne_eqb j k ne in rw b (count_is j ∙ (let m = walk_moves (code j (slot_at w j).serial) in let s = others j ne in omega arith))))
  writes_count k n sum others stored (place_of q) low = dite (ℕ_discrete q p)
      (λ same. subst (λ r. word_by new (place_of r) ≡ word_by w (place_of r)) (sym same) (place_mine ∙ (stored ∙ sym (ap (λ (s : SeatState). s.stored) seat_old))))
      (λ ne. place_other q ne)
  writes_count k n sum others stored the_moment low = moment_stays

-- Where the seat of the place doesn't change either, the board is the same.
pub rests_at : (w : World) (p : ℕ) (old o : Option Thread) (e : Event) (a : Answer) → IsAt w p old (record { event = e; answer = a }) → seat_by w.codes (record { event = e; answer = a } ∷ w.log) p o ≡ seat_by w.codes w.log p old
    → board_of (seated w p o e a) ≡ board_of w
rests_at w p old o e a h mine = same_board (seated w p o e a) w (moment_stays w p old o e a h (seat_by w.codes w.log p old) mine) (slot_stays w p old o e a h (seat_by w.codes w.log p old) mine)
    (λ q. dite (ℕ_discrete q p)
    (λ same. subst (λ r. seat_at (seated w p o e a) r ≡ seat_at w r) (sym same) (seat_mine w p old o e a h (seat_by w.codes w.log p old) mine ∙ sym (seat_old w p old o e a h (seat_by w.codes w.log p old) mine)))
    (λ ne. seat_other w p old o e a h (seat_by w.codes w.log p old) mine q ne))
    (walk_stays w p old o e a h (seat_by w.codes w.log p old) mine (λ c. refl))

-- One slot changes: no seat notices the event, and the codes given out for what was entered or sent away stay.
pub record IsOf (w : World) (codes : List Code) (e : Entry) : Type 0 where
  pub no_round : is_round e.event ≡ false
  pub unseen : (q : ℕ) → IsUnseen q e
  pub seats : (q : ℕ) → seat_by codes w.log q (thread_at w q) ≡ seat_by w.codes w.log q (thread_at w q)

module _ (w : World) (codes : List Code) (e : Event) (a : Answer) (h : IsOf w codes (record { event = e; answer = a })) where
  abbrev new_coded : World
  new_coded = coded w codes e a

  pub seat_of_code : (q : ℕ) → seat_at new_coded q ≡ seat_at w q
  seat_of_code q = seat_same codes w.log q (thread_at w q) (record { event = e; answer = a }) (h.unseen q) ∙ h.seats q

  pub moment_of_code : moment new_coded.log ≡ moment w.log
  moment_of_code = same_moment (record { event = e; answer = a }) w.log h.no_round

  module _ (k : ℕ) (s : SlotState) (mine : slot_at new_coded k ≡ s) (others : (j : ℕ) → j ≢ k → slot_at new_coded j ≡ slot_at w j) where
    pub slot_becomes : SlotBecomes k s (board_of w) (board_of new_coded)
    slot_becomes = record { mine = mine; others = others; seats_stay = λ i. λ q. seat_of_code q i; now_stays = moment_of_code }

    count_other : (j : ℕ) → j ≢ k → word_by new_coded (count_of j) ≡ word_by w (count_of j)
    count_other j ne = ap (λ (s : SlotState). walk w (code j s.serial)) (others j ne)

    -- It is a write of the entry, or a load, where the count of the slot's code stays.
    pub writes_entry : walk w (code k s.serial) ≡ word_by w (count_of k) → Writes w.slots (length w.places) (entry_of k) (pack s.serial s.state) (board_of w) (board_of new_coded)
    writes_entry count (entry_of j) low = dite (ℕ_discrete j k)
        (λ same. (let b = eq-eqb j k same in rw b (subst (λ r. word_by new_coded (entry_of r) ≡ pack s.serial s.state) (sym same) (ap (λ (x : SlotState). pack x.serial x.state) mine))))
        (λ ne. (let b = ne_eqb j k ne in rw b (ap (λ (x : SlotState). pack x.serial x.state) (others j ne))))
    writes_entry count (count_of j) low = dite (ℕ_discrete j k)
        (λ same. subst (λ r. word_by new_coded (count_of r) ≡ word_by w (count_of r)) (sym same) (ap (λ (x : SlotState). walk w (code k x.serial)) mine ∙ count))
        (λ ne. count_other j ne)
    writes_entry count (place_of q) low = ap (λ (x : SeatState). x.stored) (seat_of_code q)
    writes_entry count the_moment low = moment_of_code

    pub loads_entry : walk w (code k s.serial) ≡ word_by w (count_of k) → pack s.serial s.state ≡ word_by w (entry_of k) → Loads w.slots (length w.places) (board_of w) (board_of new_coded)
    loads_entry count entry (entry_of j) low = dite (ℕ_discrete j k)
        (λ same. subst (λ r. word_by new_coded (entry_of r) ≡ word_by w (entry_of r)) (sym same) (ap (λ (x : SlotState). pack x.serial x.state) mine ∙ entry))
        (λ ne. ap (λ (x : SlotState). pack x.serial x.state) (others j ne))
    loads_entry count entry (count_of j) low = dite (ℕ_discrete j k)
        (λ same. subst (λ r. word_by new_coded (count_of r) ≡ word_by w (count_of r)) (sym same) (ap (λ (x : SlotState). walk w (code k x.serial)) mine ∙ count))
        (λ ne. count_other j ne)
    loads_entry count entry (place_of q) low = ap (λ (x : SeatState). x.stored) (seat_of_code q)
    loads_entry count entry the_moment low = moment_of_code
