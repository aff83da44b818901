-- Look, Weigh and Install as steps of the keeper.
use Rattle.std.proofs.Common.{◌≡◌, ◌≢◌, ℕ, zero, suc, ◌<◌, Bool, true, false, cond, List, [], ◌∷◌, length, Option, Some, None, sym, refl, ap, ◌∙◌, subst, arith}
use Rattle.std.specs.Prelude.{◌||◌, ◌&&◌, ◌==◌, slice_get, sum_by}
use Rattle.std.proofs.lemmas.Bool.{false≢true, and_right, eq-eqb, ne_eqb, false_from_ne_true}
use Rattle.std.proofs.lemmas.List.Sums.{sum_by-cons}
use mathlib.Core.Logic.{dite}
use native.Mathlib.Decide.{ℕ_discrete}
use Rattle.frames.specs.declared.CodeId.{CodeId}
use Rattle.frames.specs.declared.board_rule.EntryState.TheVariants as entry
use Rattle.frames.specs.declared.board_rule.StepMade.TheVariants.{StoreEntry, LoadPlace, LoadCount}
use Rattle.method_table.specs.declared.Code.{Code}
use Rattle.method_table.specs.declared.CodeState.{CodeState}
use Rattle.method_table.specs.declared.CodeState.TheVariants.{InUse, NotEntrant, Zombie, Freed}
use Rattle.system.specs.declared.events.Event.TheVariants as event
use Rattle.system.specs.declared.answers.Answer.{Answer}
use Rattle.system.specs.declared.answers.Answer.TheVariants as answer
use Rattle.frames.specs.BoardWords.{entry_of, count_of, pack}
use Rattle.frames.specs.BoardRule.{SlotState, BoardState, code, code_at, IsBoardKept}
use Rattle.frames.specs.BoardStep.{BoardStep, keeper, is_past, slot_installed, slot_looked, slot_weighed, slot_in, store_in_use, load_place, load_count, store_zombie}
use Rattle.frames.proofs.BoardLaws.{step_keeps}
use Rattle.method_table.specs.Codes.{id_of, is_in_use, takes_slot, code_of, free_slot, next_serial, with_code, with_state}
use Rattle.system.specs.Threads.{Thread, part}
use Rattle.system.specs.Log.{Entry, says_clear, is_looked, moment}
use Rattle.system.specs.World.{World, part_at, walk, thread_at}
use Rattle.system.specs.Step.{unlooked}
use Rattle.system.specs.Laws.{is_retired}
use Rattle.system.specs.Moments.{invalidated, left_at, published_at, is_fresh}
use Rattle.system.proofs.Outcomes.{coded, Installs, IsCode, Looks, FindsUsed, Retires}
use Rattle.system.proofs.Lists.{at_low, find_push, find_place}
use Rattle.system.proofs.Table.{code_serial}
use Rattle.system.proofs.ReclaimInvariant.{is_unused}
use Rattle.system.proofs.NoRetiredStands.{covered_is}
use Rattle.method_table.specs.Entries.{entry_state, newest_in}
use Rattle.tie.specs.BoardOf.{slot_by, slot_at, stands_in, is_given, is_missed, seat_by, seat_at, word_by, board_of}
use Rattle.tie.specs.Steps.{GoesBy, of_keeper, for_code, for_slot, weigh_steps}
use Rattle.method_table.proofs.Newest.{newest_push, newest_place}
use Rattle.tie.proofs.Slots.{newest_code, free_is}
use Rattle.tie.proofs.Tied.{IsReached, looked_all}
use Rattle.tie.proofs.Board.{board_kept, never_left, stand_takes}
use Rattle.tie.proofs.Views.{IsOf, slot_same, slot_becomes, writes_entry, loads_entry}
use Rattle.tie.proofs.ThreadSteps.{one, same_number}
use Rattle.frames.specs.BoardWords.{rank}
use Rattle.frames.specs.BoardStep.{Writes, SlotBecomes}
use Rattle.tie.proofs.EntrySteps.{eqb_sym}
use Rattle.tie.proofs.Views.{seat_of_code, moment_of_code}
use Rattle.tie.proofs.KeeperSteps.{code_here, newest_here, slot_is_low, slot_is, state_here, code_at_is, other_slot, newest_then, newest_other, steps_for, seats_with}

-- Look loads the place.
module _ (w : World) (s p : ℕ) (k : Code) (a : Answer) (b : Bool) (h : IsReached w) (i : Looks w s p k b) (says : says_clear a ≡ b) where
  abbrev entry_looked : Entry
  entry_looked = record { event = event.Look s p; answer = a }

  abbrev after_look : World
  after_look = coded w w.codes (event.Look s p) a

  abbrev place_word : ℕ
  place_word = published_at w.log p (thread_at w p)

  of_look : IsOf w w.codes entry_looked
  of_look = record {
    no_round = refl;
    unseen = λ q. record { starts_not = refl; exits_not = refl; begins_not = refl; ends_not = refl; enters_not = λ r. refl; misses_not = λ r. refl };
    seats = λ q. refl;
  }

  past_is : is_past (left_at k.serial w.log) place_word ≡ b
  past_is = ap (λ n. is_past (left_at n w.log) place_word) i.code_is.serial_is
      ∙ (sym (covered_is w h.reclaimed s p k (code_here w s k NotEntrant h i.code_is) (ap is_in_use i.code_is.state_is)) ∙ i.covered_is)

  looked_is : (q : ℕ) → is_looked (entry_looked ∷ w.log) k.serial q ≡ (((q == p) && is_past (left_at k.serial w.log) place_word) || is_looked w.log k.serial q)
  looked_is q = let x = eq-eqb s k.serial (sym i.code_is.serial_is) in let y = eqb_sym p q in let z = past_is in let u = says in rw (x, y, z, u) refl

  slot_found : slot_at after_look k.slot ≡ slot_looked (slot_at w k.slot) p place_word
  slot_found = ap (slot_by (entry_looked ∷ w.log)) (newest_here w s k NotEntrant h i.code_is)
      ∙ ((λ j. record { serial = k.serial; state = entry_state k.state; left = left_at k.serial w.log; looked = λ q. looked_is q j; clear = is_retired k.state })
      ∙ ap (λ x. slot_looked x p place_word) (sym (slot_is w s k NotEntrant h i.code_is)))

  others_found : (j : ℕ) → j ≢ k.slot → slot_at after_look j ≡ slot_at w j
  others_found j ne = slot_same entry_looked w.log (newest_in w.codes j) (λ x at. refl) (λ x at q. (let y = ne_eqb s x.serial (λ e. other_slot w s k NotEntrant h i.code_is j ne x at (sym e)) in rw y refl))

  pub look_step : GoesBy w.slots (length w.places) (board_of w) (for_code (code_of w.codes s) (λ c. of_keeper (LoadPlace c p place_word))) (board_of after_look)
  look_step = subst (λ steps. GoesBy w.slots (length w.places) (board_of w) steps (board_of after_look)) (sym (steps_for w s k NotEntrant h i.code_is (λ c. of_keeper (LoadPlace c p place_word))))
      (subst (λ c. GoesBy w.slots (length w.places) (board_of w) (of_keeper (LoadPlace c p place_word)) (board_of after_look)) (code_at_is w s k NotEntrant h i.code_is)
      (one w after_look (record { actor = keeper; step = LoadPlace (code_at (board_of w) k.slot) p place_word }) h
      (load_place k.slot p (slot_is_low w s k NotEntrant h i.code_is) i.low (state_here w s k NotEntrant h i.code_is)
      (loads_entry w w.codes (event.Look s p) a of_look k.slot (slot_looked (slot_at w k.slot) p place_word) slot_found others_found refl refl)
      (slot_becomes w w.codes (event.Look s p) a of_look k.slot (slot_looked (slot_at w k.slot) p place_word) slot_found others_found))))

-- Weigh of a code that each place was looked at for.
module _ (w : World) (s : ℕ) (k : Code) (h : IsReached w) (i : IsCode w s k NotEntrant) (all : unlooked w s ≡ None) where
  abbrev sum_word : ℕ
  sum_word = word_by w (count_of k.slot)

  pub sum_is : sum_word ≡ walk w (id_of k)
  sum_is = ap (λ (x : SlotState). walk w (code k.slot x.serial)) (slot_is w s k NotEntrant h i)

  pub unused_state : (slot_at w k.slot).state ≢ entry.InUse
  unused_state z = let n : rank entry.NotEntrant ≡ rank entry.InUse = ap rank (sym (state_here w s k NotEntrant h i) ∙ z) in absurd (apart n)
    where
      apart : suc zero ≡ zero → ⊥
      apart e = omega arith

  pub looked_here : (p : ℕ) → p < length w.places → (slot_at w k.slot).looked p ≡ true
  looked_here p low = ap (λ (x : SlotState). x.looked p) (slot_is w s k NotEntrant h i) ∙ (ap (λ n. is_looked w.log n p) i.serial_is ∙ looked_all w s all p low)

  abbrev entry_weighed : Answer → Entry
  entry_weighed a = record { event = event.Weigh s; answer = a }

  pub of_weigh : (codes : List Code) (a : Answer) → ((q : ℕ) → seat_by codes w.log q (thread_at w q) ≡ seat_by w.codes w.log q (thread_at w q)) → IsOf w codes (entry_weighed a)
  of_weigh codes a seats = record {
    no_round = refl;
    unseen = λ q. record { starts_not = refl; exits_not = refl; begins_not = refl; ends_not = refl; enters_not = λ r. refl; misses_not = λ r. refl };
    seats = seats;
  }

-- Where it is used, the count is loaded.
module _ (w : World) (s : ℕ) (k : Code) (h : IsReached w) (i : FindsUsed w s k) where
  abbrev used : Answer
  used = answer.Used (walk w (id_of k))

  abbrev after_used : World
  after_used = coded w w.codes (event.Weigh s) (answer.Used (walk w (id_of k)))

  abbrev weighed : SlotState
  weighed = slot_weighed (slot_at w k.slot) (word_by w (count_of k.slot))

  of_used : IsOf w w.codes (record { event = event.Weigh s; answer = used })
  of_used = of_weigh w s k h i.code_is i.all_looked w.codes used (λ q. refl)

  clear_is : is_retired k.state ≡ (word_by w (count_of k.slot) == 0)
  clear_is = ap is_retired i.code_is.state_is ∙ sym (ne_eqb (word_by w (count_of k.slot)) 0 (λ z. i.used (sym (sum_is w s k h i.code_is i.all_looked) ∙ z)))

  slot_weighed_is : slot_at after_used k.slot ≡ weighed
  slot_weighed_is = ap (slot_by (record { event = event.Weigh s; answer = used } ∷ w.log)) (newest_here w s k NotEntrant h i.code_is)
      ∙ ((λ j. record { serial = k.serial; state = entry_state k.state; left = left_at k.serial w.log; looked = λ q. is_looked w.log k.serial q; clear = clear_is j })
      ∙ ap (λ x. slot_weighed x (word_by w (count_of k.slot))) (sym (slot_is w s k NotEntrant h i.code_is)))

  others_weighed : (j : ℕ) → j ≢ k.slot → slot_at after_used j ≡ slot_at w j
  others_weighed j ne = slot_same (record { event = event.Weigh s; answer = used }) w.log (newest_in w.codes j) (λ x at. refl) (λ x at q. refl)

  pub used_step : GoesBy w.slots (length w.places) (board_of w) (for_code (code_of w.codes s) (λ c. weigh_steps w c used)) (board_of after_used)
  used_step = subst (λ steps. GoesBy w.slots (length w.places) (board_of w) steps (board_of after_used)) (sym (steps_for w s k NotEntrant h i.code_is (λ c. weigh_steps w c used)))
      (subst (λ c. GoesBy w.slots (length w.places) (board_of w) (of_keeper (LoadCount c (word_by w (count_of k.slot)))) (board_of after_used)) (code_at_is w s k NotEntrant h i.code_is)
      (one w after_used (record { actor = keeper; step = LoadCount (code_at (board_of w) k.slot) (word_by w (count_of k.slot)) }) h
      (load_count k.slot (slot_is_low w s k NotEntrant h i.code_is) (unused_state w s k h i.code_is i.all_looked) (looked_here w s k h i.code_is i.all_looked)
      (loads_entry w w.codes (event.Weigh s) used of_used k.slot weighed slot_weighed_is others_weighed refl refl)
      (slot_becomes w w.codes (event.Weigh s) used of_used k.slot weighed slot_weighed_is others_weighed))))

-- Where it isn't, the entry is stored as zombie then.
module _ (w : World) (s : ℕ) (k : Code) (h : IsReached w) (i : Retires w s k) where
  abbrev after_retired : World
  after_retired = coded w (with_state w.codes s Zombie) (event.Weigh s) answer.Retired

  abbrev weighed_clear : SlotState
  weighed_clear = slot_weighed (slot_at w k.slot) (word_by w (count_of k.slot))

  -- The board between the two.
  abbrev between : BoardState
  between = record { word = word_by w; now = moment w.log; slot = λ j. cond (j == k.slot) (slot_weighed (slot_at w k.slot) (word_by w (count_of k.slot))) (slot_at w j); seat = seat_at w }

  between_here : between.slot k.slot ≡ weighed_clear
  between_here = let x = same_number k.slot in rw x refl

  between_other : (j : ℕ) → j ≢ k.slot → between.slot j ≡ slot_at w j
  between_other j ne = let x = ne_eqb j k.slot ne in rw x refl

  loaded : BoardStep w.slots (length w.places) (board_of w) between keeper (LoadCount (code_at (board_of w) k.slot) (word_by w (count_of k.slot)))
  loaded = load_count k.slot (slot_is_low w s k NotEntrant h i.code_is) (unused_state w s k h i.code_is i.all_looked) (looked_here w s k h i.code_is i.all_looked) (λ y low. refl)
      (record { mine = between_here; others = between_other; seats_stay = refl; now_stays = refl })

  of_retired : IsOf w (with_state w.codes s Zombie) (record { event = event.Weigh s; answer = answer.Retired })
  of_retired = of_weigh w s k h i.code_is i.all_looked (with_state w.codes s Zombie) answer.Retired (seats_with w s Zombie)

  clear_now : (word_by w (count_of k.slot) == 0) ≡ true
  clear_now = eq-eqb (word_by w (count_of k.slot)) 0 (sum_is w s k h i.code_is i.all_looked ∙ i.unused)

  slot_retired : slot_at after_retired k.slot ≡ slot_in weighed_clear entry.Zombie
  slot_retired = ap (slot_by (record { event = event.Weigh s; answer = answer.Retired } ∷ w.log)) (newest_then w s k NotEntrant h i.code_is Zombie)
      ∙ ((λ j. record { serial = k.serial; state = entry.Zombie; left = left_at k.serial w.log; looked = λ p. is_looked w.log k.serial p; clear = sym clear_now j })
      ∙ ap (λ x. slot_in (slot_weighed x (word_by w (count_of k.slot))) entry.Zombie) (sym (slot_is w s k NotEntrant h i.code_is)))

  others_retired : (j : ℕ) → j ≢ k.slot → slot_at after_retired j ≡ slot_at w j
  others_retired j ne = ap (slot_by (record { event = event.Weigh s; answer = answer.Retired } ∷ w.log)) (newest_other w s k NotEntrant h i.code_is Zombie j ne)
      ∙ slot_same (record { event = event.Weigh s; answer = answer.Retired }) w.log (newest_in w.codes j) (λ x at. refl) (λ x at p. refl)

  -- What the second step needs of the slot between.
  abbrev Stored : SlotState → Type 0
  Stored x = (x.state ≡ entry.NotEntrant) × (x.clear ≡ true) × Writes w.slots (length w.places) (entry_of k.slot) (pack x.serial entry.Zombie) between (board_of after_retired) × SlotBecomes k.slot (slot_in x entry.Zombie) between (board_of after_retired)

  stored : Stored (between.slot k.slot)
  stored = subst Stored (sym between_here) (
    state_here w s k NotEntrant h i.code_is,
    clear_now,
    writes_entry w (with_state w.codes s Zombie) (event.Weigh s) answer.Retired of_retired k.slot (slot_in weighed_clear entry.Zombie) slot_retired others_retired refl,
    record {
      mine = slot_retired;
      others = λ j ne. others_retired j ne ∙ sym (between_other j ne);
      seats_stay = λ x. λ q. seat_of_code w (with_state w.codes s Zombie) (event.Weigh s) answer.Retired of_retired q x;
      now_stays = moment_of_code w (with_state w.codes s Zombie) (event.Weigh s) answer.Retired of_retired;
    },
  )

  made_zombie : BoardStep w.slots (length w.places) between (board_of after_retired) keeper (StoreEntry (code_at (board_of w) k.slot) entry.Zombie)
  made_zombie = subst (λ (x : SlotState). BoardStep w.slots (length w.places) between (board_of after_retired) keeper (StoreEntry (code k.slot x.serial) entry.Zombie)) between_here
      (store_zombie k.slot (slot_is_low w s k NotEntrant h i.code_is) stored.0 stored.1 stored.2 stored.3)

  both_kept : IsBoardKept w.slots (length w.places) between
  both_kept = step_keeps w.slots (length w.places) (board_of w) between keeper (LoadCount (code_at (board_of w) k.slot) (word_by w (count_of k.slot))) loaded (board_kept w h)

  pub retire_steps : GoesBy w.slots (length w.places) (board_of w) (for_code (code_of w.codes s) (λ c. weigh_steps w c answer.Retired)) (board_of after_retired)
  retire_steps = subst (λ steps. GoesBy w.slots (length w.places) (board_of w) steps (board_of after_retired)) (sym (steps_for w s k NotEntrant h i.code_is (λ c. weigh_steps w c answer.Retired)))
      (subst (λ c. GoesBy w.slots (length w.places) (board_of w) (record { actor = keeper; step = LoadCount c (word_by w (count_of k.slot)) } ∷ of_keeper (StoreEntry c entry.Zombie)) (board_of after_retired)) (code_at_is w s k NotEntrant h i.code_is) (
        between,
        loaded,
        both_kept,
        (
          board_of after_retired,
          made_zombie,
          step_keeps w.slots (length w.places) between (board_of after_retired) keeper (StoreEntry (code_at (board_of w) k.slot) entry.Zombie) made_zombie both_kept,
          refl,
        ),
      ))

-- Install stores the entry as in use.
walk_zero : (c : CodeId) (places : List (Option Thread)) → ((p : ℕ) (t : Thread) → slice_get places p ≡ Some (Some t) → part c t ≡ 0) → sum_by (part_at c) places ≡ 0
walk_zero c [] h = refl
walk_zero c (None ∷ places) h = let a = sum_by-cons (part_at c) None places in let r = walk_zero c places (λ p t x. h (suc p) t x) in omega arith
walk_zero c (Some t ∷ places) h = let a = sum_by-cons (part_at c) (Some t) places in let r = walk_zero c places (λ p t x. h (suc p) t x) in let z = h 0 t refl in omega arith

module _ (w : World) (method slot : ℕ) (h : IsReached w) (i : Installs w method slot) where
  abbrev installed : Code
  installed = record { serial = next_serial w.codes; slot = slot; method = method; state = InUse }

  abbrev entry_installed : Entry
  entry_installed = record { event = event.Install method; answer = answer.Code (next_serial w.codes) }

  abbrev after_install : World
  after_install = coded w (with_code w.codes method slot) (event.Install method) (answer.Code (next_serial w.codes))

  free : (slot < w.slots) × ((n : ℕ) (a : Code) → slice_get w.codes n ≡ Some a → a.slot ≡ slot → takes_slot a.state ≡ false)
  free = free_is w method slot i

  -- No code of the slot is counted anywhere.
  uncounted : (serial : ℕ) → walk w (code slot serial) ≡ 0
  uncounted serial = walk_zero (code slot serial) w.places (λ p t x. dite (ℕ_discrete (part (code slot serial) t) 0) (λ z. z) (λ ne. (
      let m = h.reclaimed.seats p t x in let l = m.counted (code slot serial) (omega arith) in let n = find_place (λ (y : Code). y.serial == serial) w.codes l.0 l.1 in
      absurd (false≢true (sym (free.1 n.0 l.0 n.1 (ap (λ (y : CodeId). y.slot) l.2)) ∙ stand_takes l.0.state l.3)))))

  unknown : code_of w.codes (next_serial w.codes) ≡ None
  unknown = by (code_of w.codes (next_serial w.codes)) refl
    where
      by : (o : Option Code) → code_of w.codes (next_serial w.codes) ≡ o → code_of w.codes (next_serial w.codes) ≡ None
      by None e = e
      by (Some k) e = (let n = find_place (λ (y : Code). y.serial == next_serial w.codes) w.codes k e in let a = h.kept.table.serial_is n.0 k n.1 in let b = code_serial w.codes (next_serial w.codes) k e in let low = at_low w.codes n.0 k n.1 in absurd (omega arith))

  never_invalidated : invalidated (next_serial w.codes) w.log ≡ false
  never_invalidated = h.reclaimed.table.invalidated_is (next_serial w.codes) ∙ ap is_unused unknown

  -- The codes that were entered or sent away were given out before.
  given_more : (c : CodeId) (f : Bool) → (f ≡ true → (k : Code) × (code_of w.codes c.serial ≡ Some k)) → (is_given (with_code w.codes method slot) c && f) ≡ (is_given w.codes c && f)
  given_more c true known = let k = known refl in ap (λ o. stands_in o c.slot && true) (find_push (λ (y : Code). y.serial == c.serial) w.codes installed k.0 k.1 ∙ sym k.1)
  given_more c false known = and_right (is_given (with_code w.codes method slot) c) false refl ∙ sym (and_right (is_given w.codes c) false refl)

  of_install : IsOf w (with_code w.codes method slot) entry_installed
  of_install = record {
    no_round = refl;
    unseen = λ q. record { starts_not = refl; exits_not = refl; begins_not = refl; ends_not = refl; enters_not = λ r. refl; misses_not = λ r. refl };
    seats = λ q. (λ j. record {
      counted = λ c. part_at c (thread_at w q);
      fresh = λ c. given_more c (is_fresh q c.serial w.log) (λ f. (let l = h.tied.fresh_stands q c.serial f in (l.0, l.1))) j;
      moment = (seat_at w q).moment;
      stored = (seat_at w q).stored;
      gone = λ c. given_more c (is_missed q c.serial w.log) (λ f. (let l = h.tied.missed_left q c.serial f in (l.0, l.1))) j;
    });
  }

  vacant : (slot_at w slot).state ≡ entry.Vacant
  vacant = by (newest_in w.codes slot) refl
    where
      freed_is : (x : CodeState) → takes_slot x ≡ false → entry_state x ≡ entry.Vacant
      freed_is InUse e = absurd (false≢true (sym e))
      freed_is NotEntrant e = absurd (false≢true (sym e))
      freed_is Zombie e = absurd (false≢true (sym e))
      freed_is Freed e = refl

      by : (o : Option Code) → newest_in w.codes slot ≡ o → (slot_by w.log o).state ≡ entry.Vacant
      by None e = refl
      by (Some k) e = (let n = newest_place w.codes slot k e in freed_is k.state (free.1 n.0 k n.1 n.2))

  earlier : (slot_at w slot).serial < next_serial w.codes
  earlier = by (newest_in w.codes slot) refl
    where
      by : (o : Option Code) → newest_in w.codes slot ≡ o → (slot_by w.log o).serial < next_serial w.codes
      by None e = omega arith
      by (Some k) e = (newest_code w.slots w.methods w.codes h.kept.table slot k e).3

  newest_new : newest_in (with_code w.codes method slot) slot ≡ Some installed
  newest_new = newest_push w.codes installed slot ∙ (let x = same_number slot in rw x refl)

  newest_old : (j : ℕ) → j ≢ slot → newest_in (with_code w.codes method slot) j ≡ newest_in w.codes j
  newest_old j ne = newest_push w.codes installed j ∙ (let x = ne_eqb slot j (λ e. ne (sym e)) in rw x refl)

  slot_new : slot_at after_install slot ≡ slot_installed (next_serial w.codes)
  slot_new = ap (slot_by (entry_installed ∷ w.log)) newest_new
      ∙ (λ j. record {
        serial = next_serial w.codes;
        state = entry.InUse;
        left = never_left (next_serial w.codes) w.log never_invalidated j;
        looked = λ p. false_from_ne_true (is_looked w.log (next_serial w.codes) p) (λ l. false≢true (sym never_invalidated ∙ h.reclaimed.table.looked_by (next_serial w.codes) p l)) j;
        clear = false;
      })

  others_new : (j : ℕ) → j ≢ slot → slot_at after_install j ≡ slot_at w j
  others_new j ne = ap (slot_by (entry_installed ∷ w.log)) (newest_old j ne)
      ∙ slot_same entry_installed w.log (newest_in w.codes j) (λ x at. refl) (λ x at p. refl)

  pub install_step : GoesBy w.slots (length w.places) (board_of w) (for_slot (free_slot w.codes w.slots) (λ n. of_keeper (StoreEntry (code n (next_serial w.codes)) entry.InUse))) (board_of after_install)
  install_step = subst (λ steps. GoesBy w.slots (length w.places) (board_of w) steps (board_of after_install)) (sym (ap (λ o. for_slot o (λ n. of_keeper (StoreEntry (code n (next_serial w.codes)) entry.InUse))) i.least))
      (one w after_install (record { actor = keeper; step = StoreEntry (code slot (next_serial w.codes)) entry.InUse }) h
      (store_in_use (code slot (next_serial w.codes)) free.0 vacant earlier (let room = i.room in omega arith)
      (writes_entry w (with_code w.codes method slot) (event.Install method) (answer.Code (next_serial w.codes)) of_install slot (slot_installed (next_serial w.codes)) slot_new others_new
      (uncounted (next_serial w.codes) ∙ sym (uncounted (slot_at w slot).serial)))
      (slot_becomes w (with_code w.codes method slot) (event.Install method) (answer.Code (next_serial w.codes)) of_install slot (slot_installed (next_serial w.codes)) slot_new others_new)))
