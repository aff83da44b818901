-- What a step leaves, as a function of what was before it and of the step.
use Rattle.std.proofs.Common.{◌≡◌, ℕ, ◌+◌, ◌-◌, ◌<◌, cond, sym, refl, ap, ◌∙◌, inl, inr, arith}
use Rattle.std.specs.Prelude.{◌==◌}
use Rattle.std.proofs.lemmas.Bool.{eq-eqb, ne_eqb}
use mathlib.Core.Logic.{dite}
use native.Mathlib.Decide.{ℕ_discrete}
use Rattle.frames.specs.declared.CodeId.{CodeId}
use Rattle.frames.specs.declared.board_rule.EntryState.{EntryState}
use Rattle.frames.specs.declared.board_rule.EntryState.TheVariants.{InUse, NotEntrant, Zombie, Vacant}
use Rattle.frames.specs.declared.board_rule.StepMade.{StepMade}
use Rattle.frames.specs.declared.board_rule.StepMade.TheVariants.{LoadEntry, StoreEntry, LoadMoment, AddMoment, StorePlace, AddCount, SubCount, LoadPlace, LoadCount}
use Rattle.frames.specs.BoardWords.{Word, IsWord, entry_of, count_of, place_of, the_moment, same_word, pack}
use Rattle.frames.specs.BoardRule.{SlotState, SeatState, BoardState, IsBoardKept}
use Rattle.frames.specs.BoardStep.{Actor, keeper, thread, BoardStep, SeatBecomes, SlotBecomes, seat_entered, seat_read, seat_stored, seat_counted, slot_installed, slot_invalidated, slot_looked, slot_weighed, slot_in, load_entry, store_in_use, store_not_entrant, load_moment, add_moment, store_place, add_count, sub_count, load_place, load_count, store_zombie, store_vacant}
use Rattle.tie.specs.Determined.{HasSameWords, unmet, BoardStepsAreDetermined, BoardStepsMeetTheWords}

-- 1. The words

abbrev word_after : Actor → StepMade → Word → ℕ → ℕ
word_after (thread p) (StorePlace n) y m = cond (same_word y (place_of p)) n m
word_after actor (StoreEntry c state) y m = cond (same_word y (entry_of c.slot)) (pack c.serial state) m
word_after actor (AddMoment found) y m = cond (same_word y the_moment) (found + 1) m
word_after actor (AddCount c by found) y m = cond (same_word y (count_of c.slot)) (found + by) m
word_after actor (SubCount c by found) y m = cond (same_word y (count_of c.slot)) (found - by) m
word_after actor made y m = m

leaves_words : (slots places : ℕ) (old new : BoardState) (actor : Actor) (made : StepMade) → BoardStep slots places old new actor made
    → (y : Word) → IsWord slots places y → new.word y ≡ word_after actor made y (old.word y)
leaves_words slots places old new actor made (load_entry p c low slot some loads s) y h = loads y h
leaves_words slots places old new actor made (store_in_use c low vacant later bound writes s) y h = writes y h
leaves_words slots places old new actor made (store_not_entrant k low used writes s) y h = writes y h
leaves_words slots places old new actor made (load_moment p low loads s) y h = loads y h
leaves_words slots places old new actor made (add_moment room writes s) y h = writes y h
leaves_words slots places old new actor made (store_place p n low may writes s) y h = writes y h
leaves_words slots places old new actor made (add_count p c by low some fresh few writes s) y h = writes y h
leaves_words slots places old new actor made (sub_count p c by low some enough writes s) y h = writes y h
leaves_words slots places old new actor made (load_place k p slot low left loads s) y h = loads y h
leaves_words slots places old new actor made (load_count k low left all loads s) y h = loads y h
leaves_words slots places old new actor made (store_zombie k low left clear writes s) y h = writes y h
leaves_words slots places old new actor made (store_vacant k low left writes s) y h = writes y h

-- 2. The views

abbrev seat_change : StepMade → SeatState → SeatState
seat_change (LoadEntry c found) t = seat_entered t c found
seat_change (LoadMoment found) t = seat_read t found
seat_change (StorePlace n) t = seat_stored t n
seat_change (AddCount c by found) t = seat_counted t c (t.counted c + by)
seat_change (SubCount c by found) t = seat_counted t c (t.counted c - by)
seat_change made t = t

abbrev seat_after : Actor → StepMade → ℕ → SeatState → SeatState
seat_after keeper made q t = t
seat_after (thread p) made q t = cond (q == p) (seat_change made t) t

seat_becomes : (old new : BoardState) (p q : ℕ) (F : SeatState → SeatState) → SeatBecomes p (F (old.seat p)) old new → new.seat q ≡ cond (q == p) (F (old.seat q)) (old.seat q)
seat_becomes old new p q F s = dite (ℕ_discrete q p)
    (λ e. let b = eq-eqb q p e in rw b (ap new.seat e ∙ (s.mine ∙ ap (λ x. F (old.seat x)) (sym e))))
    (λ ne. let b = ne_eqb q p ne in rw b (s.others q ne))

leaves_seats : (slots places : ℕ) (old new : BoardState) (actor : Actor) (made : StepMade) → BoardStep slots places old new actor made
    → (q : ℕ) → new.seat q ≡ seat_after actor made q (old.seat q)
leaves_seats slots places old new actor made (load_entry p c low slot some loads s) q = seat_becomes old new p q (λ t. seat_entered t c (old.word (entry_of c.slot))) s
leaves_seats slots places old new actor made (store_in_use c low vacant later bound writes s) q = ap (λ f. f q) s.seats_stay
leaves_seats slots places old new actor made (store_not_entrant k low used writes s) q = ap (λ f. f q) s.seats_stay
leaves_seats slots places old new actor made (load_moment p low loads s) q = seat_becomes old new p q (λ t. seat_read t (old.word the_moment)) s
leaves_seats slots places old new actor made (add_moment room writes s) q = ap (λ f. f q) s.seats_stay
leaves_seats slots places old new actor made (store_place p n low may writes s) q = seat_becomes old new p q (λ t. seat_stored t n) s
leaves_seats slots places old new actor made (add_count p c by low some fresh few writes s) q = seat_becomes old new p q (λ t. seat_counted t c (t.counted c + by)) s
leaves_seats slots places old new actor made (sub_count p c by low some enough writes s) q = seat_becomes old new p q (λ t. seat_counted t c (t.counted c - by)) s
leaves_seats slots places old new actor made (load_place k p slot low left loads s) q = ap (λ f. f q) s.seats_stay
leaves_seats slots places old new actor made (load_count k low left all loads s) q = ap (λ f. f q) s.seats_stay
leaves_seats slots places old new actor made (store_zombie k low left clear writes s) q = ap (λ f. f q) s.seats_stay
leaves_seats slots places old new actor made (store_vacant k low left writes s) q = ap (λ f. f q) s.seats_stay

abbrev slot_stored : ℕ → CodeId → EntryState → SlotState → SlotState
slot_stored now c InUse s = slot_installed c.serial
slot_stored now c NotEntrant s = slot_invalidated s now
slot_stored now c Zombie s = slot_in s Zombie
slot_stored now c Vacant s = slot_in s Vacant

abbrev slot_after : ℕ → StepMade → ℕ → SlotState → SlotState
slot_after now (StoreEntry c state) j s = cond (j == c.slot) (slot_stored now c state s) s
slot_after now (LoadPlace c p found) j s = cond (j == c.slot) (slot_looked s p found) s
slot_after now (LoadCount c found) j s = cond (j == c.slot) (slot_weighed s found) s
slot_after now made j s = s

slot_becomes : (old new : BoardState) (k j : ℕ) (F : SlotState → SlotState) → SlotBecomes k (F (old.slot k)) old new → new.slot j ≡ cond (j == k) (F (old.slot j)) (old.slot j)
slot_becomes old new k j F s = dite (ℕ_discrete j k)
    (λ e. let b = eq-eqb j k e in rw b (ap new.slot e ∙ (s.mine ∙ ap (λ x. F (old.slot x)) (sym e))))
    (λ ne. let b = ne_eqb j k ne in rw b (s.others j ne))

leaves_slots : (slots places : ℕ) (old new : BoardState) (actor : Actor) (made : StepMade) → BoardStep slots places old new actor made
    → (j : ℕ) → new.slot j ≡ slot_after old.now made j (old.slot j)
leaves_slots slots places old new actor made (load_entry p c low slot some loads s) j = ap (λ f. f j) s.slots_stay
leaves_slots slots places old new actor made (store_in_use c low vacant later bound writes s) j = slot_becomes old new c.slot j (λ t. slot_installed c.serial) s
leaves_slots slots places old new actor made (store_not_entrant k low used writes s) j = slot_becomes old new k j (λ t. slot_invalidated t old.now) s
leaves_slots slots places old new actor made (load_moment p low loads s) j = ap (λ f. f j) s.slots_stay
leaves_slots slots places old new actor made (add_moment room writes s) j = ap (λ f. f j) s.slots_stay
leaves_slots slots places old new actor made (store_place p n low may writes s) j = ap (λ f. f j) s.slots_stay
leaves_slots slots places old new actor made (add_count p c by low some fresh few writes s) j = ap (λ f. f j) s.slots_stay
leaves_slots slots places old new actor made (sub_count p c by low some enough writes s) j = ap (λ f. f j) s.slots_stay
leaves_slots slots places old new actor made (load_place k p slot low left loads s) j = slot_becomes old new k j (λ t. slot_looked t p (old.word (place_of p))) s
leaves_slots slots places old new actor made (load_count k low left all loads s) j = slot_becomes old new k j (λ t. slot_weighed t (old.word (count_of k))) s
leaves_slots slots places old new actor made (store_zombie k low left clear writes s) j = slot_becomes old new k j (λ t. slot_in t Zombie) s
leaves_slots slots places old new actor made (store_vacant k low left writes s) j = slot_becomes old new k j (λ t. slot_in t Vacant) s

abbrev now_after : StepMade → ℕ → ℕ
now_after (AddMoment found) now = now + 1
now_after made now = now

leaves_now : (slots places : ℕ) (old new : BoardState) (actor : Actor) (made : StepMade) → BoardStep slots places old new actor made → new.now ≡ now_after made old.now
leaves_now slots places old new actor made (load_entry p c low slot some loads s) = s.now_stays
leaves_now slots places old new actor made (store_in_use c low vacant later bound writes s) = s.now_stays
leaves_now slots places old new actor made (store_not_entrant k low used writes s) = s.now_stays
leaves_now slots places old new actor made (load_moment p low loads s) = s.now_stays
leaves_now slots places old new actor made (add_moment room writes s) = s.mine
leaves_now slots places old new actor made (store_place p n low may writes s) = s.now_stays
leaves_now slots places old new actor made (add_count p c by low some fresh few writes s) = s.now_stays
leaves_now slots places old new actor made (sub_count p c by low some enough writes s) = s.now_stays
leaves_now slots places old new actor made (load_place k p slot low left loads s) = s.now_stays
leaves_now slots places old new actor made (load_count k low left all loads s) = s.now_stays
leaves_now slots places old new actor made (store_zombie k low left clear writes s) = s.now_stays
leaves_now slots places old new actor made (store_vacant k low left writes s) = s.now_stays

pub board_steps_are_determined : BoardStepsAreDetermined
board_steps_are_determined slots places old new other next actor made first second = (
  λ same y h. leaves_words slots places old new actor made first y h ∙ (ap (word_after actor made y) (same y h) ∙ sym (leaves_words slots places other next actor made second y h)),
  λ same. record {
    moments = leaves_now slots places old new actor made first ∙ (ap (now_after made) same.moments ∙ sym (leaves_now slots places other next actor made second));
    slots_are = λ k low. leaves_slots slots places old new actor made first k
        ∙ (ap (λ n. slot_after n made k (old.slot k)) same.moments ∙ (ap (slot_after other.now made k) (same.slots_are k low) ∙ sym (leaves_slots slots places other next actor made second k)));
    seats_are = λ p low. leaves_seats slots places old new actor made first p ∙ (ap (seat_after actor made p) (same.seats_are p low) ∙ sym (leaves_seats slots places other next actor made second p));
  },
)

-- 3. What was met

abbrev met_at : (Word → ℕ) → StepMade → StepMade
met_at word (LoadEntry c found) = LoadEntry c (word (entry_of c.slot))
met_at word (LoadMoment found) = LoadMoment (word the_moment)
met_at word (AddMoment found) = AddMoment (word the_moment)
met_at word (AddCount c by found) = AddCount c by (word (count_of c.slot))
met_at word (SubCount c by found) = SubCount c by (word (count_of c.slot))
met_at word (LoadPlace c p found) = LoadPlace c p (word (place_of p))
met_at word (LoadCount c found) = LoadCount c (word (count_of c.slot))
met_at word made = made

meets : (slots places : ℕ) (old new : BoardState) (actor : Actor) (made : StepMade) → BoardStep slots places old new actor made → made ≡ met_at old.word (unmet made)
meets slots places old new actor made (load_entry p c low slot some loads s) = refl
meets slots places old new actor made (store_in_use c low vacant later bound writes s) = refl
meets slots places old new actor made (store_not_entrant k low used writes s) = refl
meets slots places old new actor made (load_moment p low loads s) = refl
meets slots places old new actor made (add_moment room writes s) = refl
meets slots places old new actor made (store_place p n low may writes s) = refl
meets slots places old new actor made (add_count p c by low some fresh few writes s) = refl
meets slots places old new actor made (sub_count p c by low some enough writes s) = refl
meets slots places old new actor made (load_place k p slot low left loads s) = refl
meets slots places old new actor made (load_count k low left all loads s) = refl
meets slots places old new actor made (store_zombie k low left clear writes s) = refl
meets slots places old new actor made (store_vacant k low left writes s) = refl

meets_same : (slots places : ℕ) (old new other : BoardState) (actor : Actor) (made : StepMade) → IsBoardKept slots places old → HasSameWords slots places old other
    → BoardStep slots places old new actor made → met_at old.word (unmet made) ≡ met_at other.word (unmet made)
meets_same slots places old new other actor made r same (load_entry p c low slot some loads s) = ap (LoadEntry c) (same (entry_of c.slot) slot)
meets_same slots places old new other actor made r same (store_in_use c low vacant later bound writes s) = refl
meets_same slots places old new other actor made r same (store_not_entrant k low used writes s) = refl
meets_same slots places old new other actor made r same (load_moment p low loads s) = ap LoadMoment (same the_moment tt)
meets_same slots places old new other actor made r same (add_moment room writes s) = ap AddMoment (same the_moment tt)
meets_same slots places old new other actor made r same (store_place p n low may writes s) = refl
meets_same slots places old new other actor made r same (add_count p c by low some fresh few writes s) =
    let stands = r.held_stands p low c (inr fresh) in ap (AddCount c by) (same (count_of c.slot) stands.0)
meets_same slots places old new other actor made r same (sub_count p c by low some enough writes s) =
    let held : 0 < (old.seat p).counted c = omega arith in let stands = r.held_stands p low c (inl held) in ap (SubCount c by) (same (count_of c.slot) stands.0)
meets_same slots places old new other actor made r same (load_place k p slot low left loads s) = ap (LoadPlace (record { slot = k; serial = (old.slot k).serial }) p) (same (place_of p) low)
meets_same slots places old new other actor made r same (load_count k low left all loads s) = ap (LoadCount (record { slot = k; serial = (old.slot k).serial })) (same (count_of k) low)
meets_same slots places old new other actor made r same (store_zombie k low left clear writes s) = refl
meets_same slots places old new other actor made r same (store_vacant k low left writes s) = refl

pub board_steps_meet_the_words : BoardStepsMeetTheWords
board_steps_meet_the_words slots places old new other next actor made met kept same first second is =
    meets slots places old new actor made first ∙ (meets_same slots places old new other actor made kept same first
    ∙ (ap (met_at other.word) is ∙ sym (meets slots places other next actor met second)))
