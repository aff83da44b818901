-- Change adds to, or takes from, the count of a slot.
use Rattle.std.proofs.Common.{◌≡◌, ◌≢◌, ℕ, zero, suc, ◌+◌, ◌-◌, ◌<◌, ◌≤◌, Bool, true, false, cond, ◌∷◌, length, Some, sym, refl, ap, ◌∙◌, ⊎_elim, subst, arith, pos, negsuc, ◌-ℤ◌}
use Rattle.std.specs.Prelude.{not, ◌||◌, ◌&&◌, ◌==◌}
use Rattle.std.proofs.lemmas.Bool.{false≢true, not-true, and_parts, and_from, eqb-false, eq-eqb, lt-ltb, le-ltb, false_from_ne_true, cases_lt}
use mathlib.Core.Logic.{dite}
use native.Mathlib.Decide.{ℕ_discrete}
use Rattle.frames.specs.declared.CodeId.{CodeId}
use Rattle.frames.specs.declared.board_rule.StepMade.TheVariants.{AddCount, SubCount}
use Rattle.system.specs.declared.events.Act.TheVariants as act
use Rattle.system.specs.declared.events.Event.TheVariants as event
use Rattle.frames.specs.Stack as stack
use Rattle.frames.specs.Stack.{same_code}
use Rattle.frames.specs.BoardWords.{count_of}
use Rattle.frames.specs.BoardRule.{code}
use Rattle.frames.specs.BoardStep.{thread, seat_counted, add_count, sub_count}
use Rattle.system.specs.Threads.{Thread, has_changed, part}
use Rattle.system.specs.Log.{Entry}
use Rattle.system.specs.World.{World, part_at, walk, thread_at}
use Rattle.system.specs.Facts.{IsLive}
use Rattle.system.specs.Moments.{begun, published_at, publishing_at, is_fresh}
use Rattle.system.proofs.Outcomes.{changed_by, seated, difference, Changes}
use Rattle.system.proofs.Frames.{same_is, same_refl, act_length, next_left}
use Rattle.system.proofs.ReclaimInvariant.{IsThread}
use Rattle.method_table.specs.Entries.{newest_in}
use Rattle.tie.specs.BoardOf.{stands_in, is_given, is_missed, seat_by, seat_at, word_by, slot_at, slot_by, board_of}
use Rattle.tie.specs.Steps.{GoesBy, of_thread, for_code, count_by, change_steps}
use Rattle.tie.proofs.Tied.{IsReached}
use Rattle.tie.proofs.Board.{stands_newest, stand_takes}
use Rattle.tie.proofs.Views.{IsAt, seat_becomes, walk_moves, writes_count}
use Rattle.tie.proofs.ThreadSteps.{one, seat_there}

same_sym : (a b : CodeId) → same_code a b ≡ same_code b a
same_sym a b = by (same_code a b) (same_code b a) refl refl
  where
    by : (x y : Bool) → same_code a b ≡ x → same_code b a ≡ y → x ≡ y
    by true true e f = refl
    by false false e f = refl
    by true false e f = absurd (false≢true (sym f ∙ (ap (same_code b) (same_is a b e) ∙ same_refl b)))
    by false true e f = absurd (false≢true (sym e ∙ (ap (same_code a) (same_is b a f) ∙ same_refl a)))

other_code : (a b : CodeId) → a ≢ b → same_code a b ≡ false
other_code a b ne = false_from_ne_true (same_code a b) (λ e. ne (same_is a b e))

-- A difference of two numbers, by its sign.
up : (a b : ℕ) → b < a → pos a -ℤ pos b ≡ pos (a - b)
up a zero h = let e : a + 0 ≡ a - 0 = omega arith in ap pos e
up a (suc b) h = let x = le-ltb a (suc b) (omega arith) in rw x refl

down : (a b : ℕ) → a < b → pos a -ℤ pos b ≡ negsuc (b - suc a)
down a zero h = absurd (omega arith)
down a (suc b) h = let x = lt-ltb a (suc b) h in rw x refl

module _ (w : World) (p : ℕ) (t : Thread) (c : CodeId) (h : IsReached w) (i : Changes w p t c) where
  abbrev change_made : Entry
  change_made = record { event = event.At p act.Change; answer = difference t c }

  abbrev after_change : World
  after_change = seated w p (Some (changed_by t c)) (event.At p act.Change) (difference t c)

  abbrev stands_now : ℕ
  stands_now = stack.act c t.stack

  abbrev was_shown : ℕ
  was_shown = stack.act c t.shown

  there : thread_at w p ≡ Some t
  there = seat_there w p t i.publishes.stands

  m : IsThread w.codes w.log p t
  m = h.reclaimed.seats p t i.publishes.stands.there

  left : (has_changed t c ≡ false) × (stands_now ≢ was_shown)
  left = let x = and_parts (not (has_changed t c)) (not (stands_now == was_shown)) (next_left t c i.next) in (not-true (has_changed t c) x.0, eqb-false stands_now was_shown (not-true (stands_now == was_shown) x.1))

  part_is : part c t ≡ was_shown
  part_is = ap (λ b. cond b stands_now was_shown) left.0

  live : IsLive w.codes c
  live = dite (ℕ_discrete stands_now 0) (λ z. m.counted c (let e = part_is in let ne = left.1 in some_of was_shown (part c t) e (λ y. ne (z ∙ sym y)))) (λ z. m.live c (omega arith))
    where
      some_of : (a b : ℕ) → b ≡ a → (a ≡ 0 → ⊥) → 0 < b
      some_of a b e ne = omega arith

  newest : newest_in w.codes c.slot ≡ Some live.0
  newest = stands_newest w h c live.0 live.1 (ap (λ (x : CodeId). x.slot) live.2) (stand_takes live.0.state live.3)

  code_is : code c.slot (slot_at w c.slot).serial ≡ c
  code_is = ap (λ o. code c.slot (slot_by w.log o).serial) newest ∙ (λ j. record { slot = c.slot; serial = (ap (λ (x : CodeId). x.serial) live.2) j })

  found_word : word_by w (count_of c.slot) ≡ walk w c
  found_word = ap (walk w) code_is

  at : IsAt w p (Some t) change_made
  at = record {
    there = i.publishes.stands.there;
    low = i.publishes.stands.low;
    unkept = record { no_round = refl; no_invalidate = λ s. refl; no_look = λ s q. refl };
    others = λ q ne. record { starts_not = refl; exits_not = refl; begins_not = refl; ends_not = refl; enters_not = λ s. refl; misses_not = λ s. refl };
  }

  counts : (d : CodeId) → part d (changed_by t c) ≡ cond (same_code d c) stands_now (part d t)
  counts d = by (same_code c d) refl
    where
      by : (b : Bool) → same_code c d ≡ b → cond (same_code c d || has_changed t d) (stack.act d t.stack) (stack.act d t.shown) ≡ cond (same_code d c) stands_now (part d t)
      by true e = let f = sym (same_sym c d) ∙ e in rw (e, f) (ap (λ x. stack.act x t.stack) (sym (same_is c d e)))
      by false e = let f = sym (same_sym c d) ∙ e in rw (e, f) refl

  opens : publishing_at w.log p (Some (changed_by t c)) ≡ publishing_at w.log p (Some t)
  opens = ap (λ b. cond b (begun p w.log) 0) (sym i.publishes.publishing)

  -- The seat counts n of the code then.
  mine : (n : ℕ) → stands_now ≡ n → seat_by w.codes (change_made ∷ w.log) p (Some (changed_by t c)) ≡ seat_counted (seat_at w p) c n
  mine n is = λ j. record {
    counted = λ d. (counts d ∙ (ap (λ x. cond (same_code d c) x (part d t)) is ∙ ap (λ o. cond (same_code d c) n (part_at d o)) (sym there))) j;
    fresh = λ d. is_given w.codes d && is_fresh p d.serial w.log;
    moment = (opens ∙ ap (publishing_at w.log p) (sym there)) j;
    stored = ap (published_at w.log p) (sym there) j;
    gone = λ d. is_given w.codes d && is_missed p d.serial w.log;
  }

  -- Other slots have other codes.
  others : (n : ℕ) (j : ℕ) → j ≢ c.slot → (seat_counted (seat_at w p) c n).counted (code j (slot_at w j).serial) ≡ part (code j (slot_at w j).serial) t
  others n j ne = let x = other_code (code j (slot_at w j).serial) c (λ e. ne (ap (λ (y : CodeId). y.slot) e)) in rw x (ap (part_at (code j (slot_at w j).serial)) there)

  -- The sum moves by the difference.
  moves : (n : ℕ) → stands_now ≡ n → walk after_change (code c.slot (slot_at w c.slot).serial) + was_shown ≡ word_by w (count_of c.slot) + n
  moves n is =
      let x = walk_moves w p (Some t) (Some (changed_by t c)) (event.At p act.Change) (difference t c) at (seat_counted (seat_at w p) c n) (mine n is) c in
      let self = same_refl c in let y : (seat_counted (seat_at w p) c n).counted c ≡ n = (rw self refl) in
      let z : walk after_change (code c.slot (slot_at w c.slot).serial) ≡ walk after_change c = ap (walk after_change) code_is in
      let e = part_is in let f = found_word in omega arith

  seat_counts : (seat_at w p).counted c ≡ was_shown
  seat_counts = ap (part_at c) there ∙ part_is

  given : is_given w.codes c ≡ true
  given = ap (λ o. stands_in o c.slot) live.1 ∙ eq-eqb live.0.slot c.slot (ap (λ (x : CodeId). x.slot) live.2)

  steps_are : change_steps w p (difference t c) ≡ of_thread p (count_by c (pos stands_now -ℤ pos was_shown) (word_by w (count_of c.slot)))
  steps_are = ap (λ o. for_code o (λ d. of_thread p (count_by d (pos stands_now -ℤ pos was_shown) (word_by w (count_of d.slot))))) live.1
      ∙ ap (λ d. of_thread p (count_by d (pos stands_now -ℤ pos was_shown) (word_by w (count_of d.slot)))) live.2

  few : stands_now ≤ 256
  few = let s = h.kept.threads.each p t i.publishes.stands.there in let deep = s.depth in let least = act_length c t.stack in omega arith

  more : was_shown < stands_now → GoesBy w.slots (length w.places) (board_of w) (of_thread p (AddCount c (stands_now - was_shown) (word_by w (count_of c.slot)))) (board_of after_change)
  more lt =
      let n : ℕ = (seat_at w p).counted c + (stands_now - was_shown) in let s = seat_counts in let is : stands_now ≡ (seat_at w p).counted c + (stands_now - was_shown) = omega arith in let deep = few in
      one w after_change (record { actor = thread p; step = AddCount c (stands_now - was_shown) (word_by w (count_of c.slot)) }) h
      (add_count p c (stands_now - was_shown) i.publishes.stands.low (omega arith)
      (and_from (is_given w.codes c) (is_fresh p c.serial w.log) given (⊎_elim (λ le. absurd (omega arith)) (λ f. f) (m.held c))) (omega arith)
      (writes_count w p (Some t) (Some (changed_by t c)) (event.At p act.Change) (difference t c) at (seat_counted (seat_at w p) c n) (mine n is) c.slot (word_by w (count_of c.slot) + (stands_now - was_shown))
      (let x = moves n is in omega arith) (others n) (ap (published_at w.log p) there))
      (seat_becomes w p (Some t) (Some (changed_by t c)) (event.At p act.Change) (difference t c) at (seat_counted (seat_at w p) c n) (mine n is)))

  less : stands_now < was_shown → GoesBy w.slots (length w.places) (board_of w) (of_thread p (SubCount c (was_shown - stands_now) (word_by w (count_of c.slot)))) (board_of after_change)
  less lt =
      let n : ℕ = (seat_at w p).counted c - (was_shown - stands_now) in let s = seat_counts in let is : stands_now ≡ (seat_at w p).counted c - (was_shown - stands_now) = omega arith in
      one w after_change (record { actor = thread p; step = SubCount c (was_shown - stands_now) (word_by w (count_of c.slot)) }) h
      (sub_count p c (was_shown - stands_now) i.publishes.stands.low (omega arith) (omega arith)
      (writes_count w p (Some t) (Some (changed_by t c)) (event.At p act.Change) (difference t c) at (seat_counted (seat_at w p) c n) (mine n is) c.slot (word_by w (count_of c.slot) - (was_shown - stands_now))
      (let x = moves n is in omega arith) (others n) (ap (published_at w.log p) there))
      (seat_becomes w p (Some t) (Some (changed_by t c)) (event.At p act.Change) (difference t c) at (seat_counted (seat_at w p) c n) (mine n is)))

  pub change_step : GoesBy w.slots (length w.places) (board_of w) (change_steps w p (difference t c)) (board_of after_change)
  change_step = subst (λ steps. GoesBy w.slots (length w.places) (board_of w) steps (board_of after_change)) (sym steps_are) (⊎_elim
      (λ lt. subst (λ steps. GoesBy w.slots (length w.places) (board_of w) (of_thread p steps) (board_of after_change))
      (let e : (was_shown - suc stands_now) + 1 ≡ was_shown - stands_now = omega arith in ap (λ n. SubCount c n (word_by w (count_of c.slot))) (sym e) ∙ ap (λ z. count_by c z (word_by w (count_of c.slot))) (sym (down stands_now was_shown lt))) (less lt))
      (λ ge. (let ne = left.1 in let lt : was_shown < stands_now = (strictly stands_now was_shown ge ne) in subst (λ steps. GoesBy w.slots (length w.places) (board_of w) (of_thread p steps) (board_of after_change))
      (ap (λ z. count_by c z (word_by w (count_of c.slot))) (sym (up stands_now was_shown lt))) (more lt)))
      (cases_lt stands_now was_shown))
    where
      strictly : (a b : ℕ) → b ≤ a → a ≢ b → b < a
      strictly a b le ne = dite (ℕ_discrete a b) (λ e. absurd (ne e)) (λ x. omega arith)
