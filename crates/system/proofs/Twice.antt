-- An Install over code in use is an Invalidate and an Install.
use Rattle.std.proofs.Common.{◌≡◌, ◌⊎◌, inl, inr, ⊎_elim, ℕ, ◌+◌, Bool, true, false, List, ◌∷◌, length, Option, Some, None, sym, refl, ap, ◌∙◌, subst}
use Rattle.std.specs.Prelude.{◌&&◌, ◌==◌, nat_lt, nat_le, slice_get}
use Rattle.std.proofs.lemmas.Bool.{false≢true, and_parts, eqb-true, eq-eqb}
use Rattle.method_table.specs.declared.Code.{Code}
use Rattle.method_table.specs.declared.CodeState.TheVariants.{NotEntrant}
use Rattle.method_table.specs.Numbers.{last_number}
use Rattle.method_table.specs.Codes.{is_in_use, takes_slot, unfreed, in_use_for, free_slot, next_serial, with_code, in_state, with_state}
use Rattle.method_table.proofs.Left.{used_takes, free_left}
use Rattle.system.specs.declared.events.Event.{Event}
use Rattle.system.specs.declared.events.Event.TheVariants as event
use Rattle.system.specs.declared.answers.Answer.TheVariants as answer
use Rattle.system.specs.declared.answers.Refusal.{Refusal}
use Rattle.system.specs.declared.answers.Refusal.TheVariants as refusal
use Rattle.system.specs.World.{World}
use Rattle.system.specs.Runs.{after, answer_to}
use Rattle.system.specs.Facts.{TableIsSound}
use Rattle.system.proofs.Lists.{map_at, map_length, find_place, found_passes, at_low, same_at}
use Rattle.system.proofs.CaseOfEvent.{Simple, each_kind}
use Rattle.system.proofs.Table.{in_state_here, one_place}

-- The code found is the code of its serial.
found_only : (codes : List Code) (k : Code) (i : ℕ) → slice_get codes i ≡ Some k → takes_slot k.state ≡ true → ((j : ℕ) (a : Code) → slice_get codes j ≡ Some a → a.serial ≡ k.serial → a ≡ k) → unfreed codes k.serial ≡ Some k
found_only codes k i at takes one = by (unfreed codes k.serial) refl
  where
    by : (o : Option Code) → unfreed codes k.serial ≡ o → o ≡ Some k
    by None e = absurd (false≢true (sym (Rattle.system.proofs.Lists.find_none_at (λ (x : Code). (x.serial == k.serial) && takes_slot x.state) codes i k e at) ∙ (let a = eq-eqb k.serial k.serial refl in rw (a, takes) refl)))
    by (Some a) e =
        let f = find_place (λ (x : Code). (x.serial == k.serial) && takes_slot x.state) codes a e in
        let p = and_parts (a.serial == k.serial) (takes_slot a.state) (found_passes (λ (x : Code). (x.serial == k.serial) && takes_slot x.state) codes a e) in
        ap (λ (x : Code). Some x) (one f.0 a f.1 (eqb-true a.serial k.serial p.0))

-- The method then has no code in use.
pub none_then : (w : World) (method : ℕ) (old : Code) → TableIsSound w.slots w.methods w.codes → in_use_for w.codes method ≡ Some old → in_use_for (with_state w.codes old.serial NotEntrant) method ≡ None
none_then w method old table is = by (in_use_for (with_state w.codes old.serial NotEntrant) method) refl
  where
    test : Code → Bool
    test code = (code.method == method) && is_in_use code.state

    by : (o : Option Code) → in_use_for (with_state w.codes old.serial NotEntrant) method ≡ o → o ≡ None
    by None e = refl
    by (Some a) e =
        let f = find_place (λ (c : Code). (c.method == method) && is_in_use c.state) (with_state w.codes old.serial NotEntrant) a e in
        let m = map_at (in_state old.serial NotEntrant) w.codes f.0 a f.1 in
        let p = and_parts (a.method == method) (is_in_use a.state) (found_passes (λ (c : Code). (c.method == method) && is_in_use c.state) (with_state w.codes old.serial NotEntrant) a e) in
        let q = find_place (λ (c : Code). (c.method == method) && is_in_use c.state) w.codes old is in
        let r = and_parts (old.method == method) (is_in_use old.state) (found_passes (λ (c : Code). (c.method == method) && is_in_use c.state) w.codes old is) in
        absurd (never f.0 m.before a m.at m.is p.1 (eqb-true a.method method p.0) q.0 q.1 r.1 (eqb-true old.method method r.0) (m.before.serial == old.serial) refl)
      where
        never : (j : ℕ) (b a : Code) → slice_get w.codes j ≡ Some b → in_state old.serial NotEntrant b ≡ a → is_in_use a.state ≡ true → a.method ≡ method → (i : ℕ) → slice_get w.codes i ≡ Some old → is_in_use old.state ≡ true → old.method ≡ method → (t : Bool) → (b.serial == old.serial) ≡ t → ⊥
        never j b a x same used its i y old_used olds true e = false≢true (ap (λ (c : Code). is_in_use c.state) (sym (in_state_here old.serial NotEntrant b (eqb-true b.serial old.serial e)) ∙ same) ∙ used)
        never j b a x same used its i y old_used olds false e =
            let b_is : b ≡ a = (let z : in_state old.serial NotEntrant b ≡ b = rw e refl in sym z ∙ same) in
            let b_used : is_in_use b.state ≡ true = ap (λ (c : Code). is_in_use c.state) b_is ∙ used in
            let b_method : b.method ≡ old.method = ap (λ (c : Code). c.method) b_is ∙ (its ∙ sym olds) in
            let place : j ≡ i = table.one_in_use j i b old x y b_used old_used b_method in
            let one : b ≡ old = same_at w.codes i b old (subst (λ n. slice_get w.codes n ≡ Some b) place x) y in
            let serial : (b.serial == old.serial) ≡ true = eq-eqb b.serial old.serial (ap (λ (c : Code). c.serial) one) in
            false≢true (sym e ∙ serial)

-- The world after the Invalidate.
abbrev pub between : World → Code → World
between w old = record w { codes = with_state w.codes old.serial NotEntrant; log = record { event = event.Invalidate old.serial; answer = answer.Done } ∷ w.log }

-- The world after both.
abbrev pub over : World → Code → ℕ → ℕ → ℕ → World
over w old method slot given = record w {
  codes = with_code (with_state w.codes old.serial NotEntrant) method slot;
  log = record { event = event.Install method; answer = answer.Code (given + 1) } ∷ record { event = event.Invalidate old.serial; answer = answer.Done } ∷ w.log;
}

-- The Install is refused and leaves the world unchanged.
pub record Rests (w : World) (method : ℕ) : Type 0 where
  pub refusal : Refusal
  pub said : answer_to w (event.Install method) ≡ answer.Refused refusal
  pub after_is : after w (event.Install method) ≡ w

-- The Install is an Invalidate followed by an Install.
pub record Both (w : World) (method : ℕ) (old : Code) : Type 0 where
  pub slot : ℕ
  pub said : answer_to w (event.Install method) ≡ answer.Code (length w.codes + 1)
  pub said_between : answer_to (between w old) (event.Install method) ≡ answer.Code (length w.codes + 1)
  pub after_is : after w (event.Install method) ≡ over w old method slot (length w.codes)
  pub after_between : after (between w old) (event.Install method) ≡ over w old method slot (length w.codes)

pub place_of : (w : World) (method : ℕ) (old : Code) → in_use_for w.codes method ≡ Some old → (i : ℕ) × (slice_get w.codes i ≡ Some old) × (is_in_use old.state ≡ true)
place_of w method old is =
    let q = find_place (λ (c : Code). (c.method == method) && is_in_use c.state) w.codes old is in
    let r = and_parts (old.method == method) (is_in_use old.state) (found_passes (λ (c : Code). (c.method == method) && is_in_use c.state) w.codes old is) in (q.0, q.1, r.1)

pub found_in_use : (w : World) (method : ℕ) (old : Code) → TableIsSound w.slots w.methods w.codes → in_use_for w.codes method ≡ Some old → unfreed w.codes old.serial ≡ Some old
found_in_use w method old table is =
    let q = place_of w method old is in
    found_only w.codes old q.0 q.1 (used_takes old.state q.2) (λ j a x e. one_place w.slots w.methods w.codes table j q.0 a old x q.1 e)

pub between_is : (w : World) (method : ℕ) (old : Code) → TableIsSound w.slots w.methods w.codes → in_use_for w.codes method ≡ Some old → after w (event.Invalidate old.serial) ≡ between w old
between_is w method old table is =
    let found = found_in_use w method old table is in
    rw (found, (place_of w method old is).2) refl

pub between_said : (w : World) (method : ℕ) (old : Code) → TableIsSound w.slots w.methods w.codes → in_use_for w.codes method ≡ Some old → answer_to w (event.Invalidate old.serial) ≡ answer.Done
between_said w method old table is =
    let found = found_in_use w method old table is in
    rw (found, (place_of w method old is).2) refl

pub free_between : (w : World) (method : ℕ) (old : Code) → TableIsSound w.slots w.methods w.codes → in_use_for w.codes method ≡ Some old → free_slot (with_state w.codes old.serial NotEntrant) w.slots ≡ free_slot w.codes w.slots
free_between w method old table is =
    let q = place_of w method old is in
    free_left w.codes old.serial w.slots (λ j a x e. ap (λ (c : Code). takes_slot c.state) (one_place w.slots w.methods w.codes table j q.0 a old x q.1 e) ∙ used_takes old.state q.2)

-- An accepted Install is both, one after the other.
pub twice : (w : World) (method : ℕ) (old : Code) → TableIsSound w.slots w.methods w.codes → in_use_for w.codes method ≡ Some old → Rests w method ⊎ Both w method old
twice w method old table is = on_method (nat_lt method w.methods) refl
  where
    none : in_use_for (with_state w.codes old.serial NotEntrant) method ≡ None
    none = none_then w method old table is

    free : free_slot (with_state w.codes old.serial NotEntrant) w.slots ≡ free_slot w.codes w.slots
    free = free_between w method old table is

    long : length (with_state w.codes old.serial NotEntrant) ≡ length w.codes
    long = map_length (in_state old.serial NotEntrant) w.codes

    on_room : nat_lt method w.methods ≡ true → (slot : ℕ) → free_slot w.codes w.slots ≡ Some slot → (b : Bool) → nat_le (next_serial w.codes) last_number ≡ b → Rests w method ⊎ Both w method old
    on_room low slot e false r = inl (record { refusal = refusal.SerialsSpent; said = rw (low, e, r) refl; after_is = rw (low, e, r) refl })
    on_room low slot e true r =
        let room : nat_le (next_serial (with_state w.codes old.serial NotEntrant)) last_number ≡ true = ap (λ n. nat_le (n + 1) last_number) long ∙ r in
        let a : after w (event.Install method) ≡ over w old method slot (length w.codes) = rw (low, e, r, is) refl in
        let b : after (between w old) (event.Install method) ≡ over w old method slot (length (with_state w.codes old.serial NotEntrant)) = rw (low, free, e, room, none) refl in
        let c : answer_to (between w old) (event.Install method) ≡ answer.Code (length (with_state w.codes old.serial NotEntrant) + 1) = rw (low, free, e, room) refl in
        inr (record { slot = slot; said = rw (low, e, r) refl; said_between = c ∙ ap (λ n. answer.Code (n + 1)) long; after_is = a; after_between = b ∙ ap (over w old method slot) long })

    on_slot : nat_lt method w.methods ≡ true → (o : Option ℕ) → free_slot w.codes w.slots ≡ o → Rests w method ⊎ Both w method old
    on_slot low None e = inl (record { refusal = refusal.TableFull; said = rw (low, e) refl; after_is = rw (low, e) refl })
    on_slot low (Some slot) e = on_room low slot e (nat_le (next_serial w.codes) last_number) refl

    on_method : (b : Bool) → nat_lt method w.methods ≡ b → Rests w method ⊎ Both w method old
    on_method false e = inl (record { refusal = refusal.NoSuchMethod; said = rw e refl; after_is = rw e refl })
    on_method true e = on_slot e (free_slot w.codes w.slots) refl

-- Each event preserves what each simple event preserves.
pub in_steps : (Inv : World → Type 0) → ((w : World) → Inv w → TableIsSound w.slots w.methods w.codes) → ((w : World) (e : Event) → Simple w e → Inv w → Inv (after w e)) → (w : World) (e : Event) → Inv w → Inv (after w e)
in_steps Inv table step w e h = each_kind w (λ e. Inv (after w e)) (λ method. on method (in_use_for w.codes method) refl) (λ e simple. step w e simple h) e
  where
    on : (method : ℕ) (o : Option Code) → in_use_for w.codes method ≡ o → Inv (after w (event.Install method))
    on method None e = step w (event.Install method) e h
    on method (Some old) e = ⊎_elim (λ r. subst Inv (sym r.after_is) h)
        (λ b. subst Inv (b.after_between ∙ sym b.after_is) (step (between w old) (event.Install method) (none_then w method old (table w h) e) (subst Inv (between_is w method old (table w h) e) (step w (event.Invalidate old.serial) tt h))))
        (twice w method old (table w h) e)
