-- The table of codes is sound in every reachable world.
use Rattle.std.proofs.Common.{◌≡◌, ◌≢◌, ℕ, ◌<◌, Bool, true, false, cond, List, [], Option, Some, None, sym, refl, ap, ◌∙◌, ⊎_elim, subst, arith}
use Rattle.std.specs.Prelude.{not, ◌&&◌, ◌==◌, slice_get, option_map}
use Rattle.std.proofs.lemmas.Bool.{false≢true, not-true, and_parts, and_cases, eqb-true, eqb-false, eq-eqb, ne_eqb}
use Rattle.frames.specs.declared.CodeId.{CodeId}
use Rattle.method_table.specs.declared.Code.{Code}
use Rattle.method_table.specs.declared.CodeState.{CodeState}
use Rattle.method_table.specs.declared.CodeState.TheVariants.{InUse, NotEntrant, Zombie, Freed}
use Rattle.method_table.specs.Numbers.{below}
use Rattle.method_table.specs.Codes.{id_of, is_in_use, takes_slot, code_of, unfreed, is_taken, next_serial, with_code, in_state, with_state}
use Rattle.system.specs.World.{World}
use Rattle.system.specs.Facts.{IsGiven, TableIsSound}
use Rattle.system.proofs.Lists.{map_at, push_at, push_length, map_length, same_at, found_passes, find_place, find_none_at, find_map, find_push, any_none_at, below_low}
use Rattle.system.proofs.Outcomes.{IsCode, Installs}
use Rattle.system.proofs.EventCases.{Cases}

-- A change of state changes nothing else of a code.
pub in_state_serial : (s : ℕ) (state : CodeState) (k : Code) → (in_state s state k).serial ≡ k.serial
in_state_serial s state k = by (k.serial == s)
  where
    by : (b : Bool) → (cond b (record k { state = state }) k).serial ≡ k.serial
    by true = refl
    by false = refl

pub in_state_slot : (s : ℕ) (state : CodeState) (k : Code) → (in_state s state k).slot ≡ k.slot
in_state_slot s state k = by (k.serial == s)
  where
    by : (b : Bool) → (cond b (record k { state = state }) k).slot ≡ k.slot
    by true = refl
    by false = refl

pub in_state_method : (s : ℕ) (state : CodeState) (k : Code) → (in_state s state k).method ≡ k.method
in_state_method s state k = by (k.serial == s)
  where
    by : (b : Bool) → (cond b (record k { state = state }) k).method ≡ k.method
    by true = refl
    by false = refl

pub in_state_id : (s : ℕ) (state : CodeState) (k : Code) → id_of (in_state s state k) ≡ id_of k
in_state_id s state k = by (k.serial == s)
  where
    by : (b : Bool) → id_of (cond b (record k { state = state }) k) ≡ id_of k
    by true = refl
    by false = refl

pub in_state_here : (s : ℕ) (state : CodeState) (k : Code) → k.serial ≡ s → in_state s state k ≡ record k { state = state }
in_state_here s state k h = let e = eq-eqb k.serial s h in rw e refl

pub in_state_other : (s : ℕ) (state : CodeState) (k : Code) → k.serial ≢ s → in_state s state k ≡ k
in_state_other s state k h = let e = ne_eqb k.serial s h in rw e refl

-- The code of a serial, by index.
pub code_serial : (codes : List Code) (s : ℕ) (k : Code) → code_of codes s ≡ Some k → k.serial ≡ s
code_serial codes s k h = eqb-true k.serial s (found_passes (λ (x : Code). x.serial == s) codes k h)

pub code_with_state : (codes : List Code) (s : ℕ) (state : CodeState) (r : ℕ) → code_of (with_state codes s state) r ≡ option_map (in_state s state) (code_of codes r)
code_with_state codes s state r = find_map (λ (x : Code). x.serial == r) (in_state s state) codes (λ x. ap (λ n. n == r) (in_state_serial s state x))

-- Two indices with one serial are the same.
pub one_place : (slots methods : ℕ) (codes : List Code) → TableIsSound slots methods codes → (i j : ℕ) (a b : Code) → slice_get codes i ≡ Some a → slice_get codes j ≡ Some b → a.serial ≡ b.serial → a ≡ b
one_place slots methods codes h i j a b x y e =
    let u = h.serial_is i a x in let v = h.serial_is j b y in let same : i ≡ j = omega arith in same_at codes j a b (subst (λ n. slice_get codes n ≡ Some a) same x) y

-- The unfreed code of a serial is the code of this serial.
pub unfreed_code : (slots methods : ℕ) (codes : List Code) → TableIsSound slots methods codes → (s : ℕ) (k : Code) → unfreed codes s ≡ Some k → code_of codes s ≡ Some k
unfreed_code slots methods codes h s k e = by (code_of codes s) refl
  where
    by : (o : Option Code) → code_of codes s ≡ o → code_of codes s ≡ Some k
    by None n =
        let place = find_place (λ (x : Code). (x.serial == s) && takes_slot x.state) codes k e in
        let passes = and_parts (k.serial == s) (takes_slot k.state) (found_passes (λ (x : Code). (x.serial == s) && takes_slot x.state) codes k e) in
        absurd (false≢true (sym (find_none_at (λ (x : Code). x.serial == s) codes place.0 k n place.1) ∙ passes.0))
    by (Some j) n =
        let place = find_place (λ (x : Code). (x.serial == s) && takes_slot x.state) codes k e in
        let other = find_place (λ (x : Code). x.serial == s) codes j n in
        let passes = and_parts (k.serial == s) (takes_slot k.state) (found_passes (λ (x : Code). (x.serial == s) && takes_slot x.state) codes k e) in
        let same : k.serial ≡ j.serial = eqb-true k.serial s passes.0 ∙ sym (code_serial codes s j n) in
        n ∙ ap Some (sym (one_place slots methods codes h place.0 other.0 k j place.1 other.1 same))

pub unfreed_takes : (codes : List Code) (s : ℕ) (k : Code) → unfreed codes s ≡ Some k → takes_slot k.state ≡ true
unfreed_takes codes s k e = (and_parts (k.serial == s) (takes_slot k.state) (found_passes (λ (x : Code). (x.serial == s) && takes_slot x.state) codes k e)).1

-- A code stays given out.
pub given_state : (codes : List Code) (s : ℕ) (state : CodeState) (c : CodeId) → IsGiven codes c → IsGiven (with_state codes s state) c
given_state codes s state c g = (in_state s state g.0, code_with_state codes s state c.serial ∙ ap (option_map (in_state s state)) g.1, in_state_id s state g.0 ∙ g.2)

pub given_code : (codes : List Code) (method slot : ℕ) (c : CodeId) → IsGiven codes c → IsGiven (with_code codes method slot) c
given_code codes method slot c g = (g.0, find_push (λ (x : Code). x.serial == c.serial) codes (record { serial = next_serial codes; slot = slot; method = method; state = InUse }) g.0 g.1, g.2)

-- The code of an unfreed serial changes its state.
restated : (slots methods : ℕ) (codes : List Code) (s : ℕ) (state : CodeState) → TableIsSound slots methods codes → is_in_use state ≡ false
    → ((i : ℕ) (k : Code) → slice_get codes i ≡ Some k → k.serial ≡ s → takes_slot state ≡ true → takes_slot k.state ≡ true) → TableIsSound slots methods (with_state codes s state)
restated slots methods codes s state h unused takes = record {
  serial_is = λ i k x. (let m = map_at (in_state s state) codes i k x in ap (λ (y : Code). y.serial) (sym m.is) ∙ (in_state_serial s state m.before ∙ h.serial_is i m.before m.at));
  slot_low = λ i k x. (let m = map_at (in_state s state) codes i k x in let low = h.slot_low i m.before m.at in let e : k.slot ≡ m.before.slot = ap (λ (y : Code). y.slot) (sym m.is) ∙ in_state_slot s state m.before in omega arith);
  method_low = λ i k x. (let m = map_at (in_state s state) codes i k x in let low = h.method_low i m.before m.at in let e : k.method ≡ m.before.method = ap (λ (y : Code). y.method) (sym m.is) ∙ in_state_method s state m.before in omega arith);
  one_in_slot = λ i j a b x y u v e. (let m = map_at (in_state s state) codes i a x in let n = map_at (in_state s state) codes j b y in
      h.one_in_slot i j m.before n.before m.at n.at (took i m.before m.at (ap (λ (z : Code). takes_slot z.state) m.is ∙ u)) (took j n.before n.at (ap (λ (z : Code). takes_slot z.state) n.is ∙ v))
      (sym (in_state_slot s state m.before) ∙ (ap (λ (z : Code). z.slot) m.is ∙ (e ∙ (ap (λ (z : Code). z.slot) (sym n.is) ∙ in_state_slot s state n.before)))));
  one_in_use = λ i j a b x y u v e. (let m = map_at (in_state s state) codes i a x in let n = map_at (in_state s state) codes j b y in
      h.one_in_use i j m.before n.before m.at n.at (used m.before (ap (λ (z : Code). is_in_use z.state) m.is ∙ u)) (used n.before (ap (λ (z : Code). is_in_use z.state) n.is ∙ v))
      (sym (in_state_method s state m.before) ∙ (ap (λ (z : Code). z.method) m.is ∙ (e ∙ (ap (λ (z : Code). z.method) (sym n.is) ∙ in_state_method s state n.before)))));
  few = (let e = map_length (in_state s state) codes in let f = h.few in omega arith);
}
  where
    took : (i : ℕ) (k : Code) → slice_get codes i ≡ Some k → takes_slot (in_state s state k).state ≡ true → takes_slot k.state ≡ true
    took i k x t = by (k.serial == s) refl t
      where
        by : (b : Bool) → (k.serial == s) ≡ b → takes_slot (cond b (record k { state = state }) k).state ≡ true → takes_slot k.state ≡ true
        by true e u = takes i k x (eqb-true k.serial s e) u
        by false e u = u

    used : (k : Code) → is_in_use (in_state s state k).state ≡ true → is_in_use k.state ≡ true
    used k t = by (k.serial == s) t
      where
        by : (b : Bool) → is_in_use (cond b (record k { state = state }) k).state ≡ true → is_in_use k.state ≡ true
        by true u = absurd (false≢true (sym unused ∙ u))
        by false u = u

restated_by : (w : World) (s : ℕ) (k : Code) (from to : CodeState) → TableIsSound w.slots w.methods w.codes → IsCode w s k from → is_in_use to ≡ false → TableIsSound w.slots w.methods (with_state w.codes s to)
restated_by w s k from to h is unused = restated w.slots w.methods w.codes s to h unused (λ i j x e t.
    let place = find_place (λ (y : Code). (y.serial == s) && takes_slot y.state) w.codes k is.found in
    subst (λ (y : Code). takes_slot y.state ≡ true) (one_place w.slots w.methods w.codes h place.0 i k j place.1 x (is.serial_is ∙ sym e)) (unfreed_takes w.codes s k is.found))

-- A new code.
installed : (w : World) (method slot : ℕ) → TableIsSound w.slots w.methods w.codes → Installs w method slot → TableIsSound w.slots w.methods (with_code w.codes method slot)
installed w method slot h i = record {
  serial_is = λ n k x. ⊎_elim (λ a. h.serial_is n k a) (λ b. (let e : next_serial w.codes ≡ k.serial = ap (λ (y : Code). y.serial) b.1 in let z = b.0 in omega arith)) (push_at w.codes new n k x);
  slot_low = λ n k x. ⊎_elim (λ a. h.slot_low n k a) (λ b. subst (λ (y : Code). y.slot < w.slots) b.1 slot_is_low) (push_at w.codes new n k x);
  method_low = λ n k x. ⊎_elim (λ a. h.method_low n k a) (λ b. subst (λ (y : Code). y.method < w.methods) b.1 i.low_method) (push_at w.codes new n k x);
  one_in_slot = λ n m a b x y u v e. ⊎_elim
      (λ old. ⊎_elim (λ old2. h.one_in_slot n m a b old old2 u v e) (λ new2. absurd (free_of n a old u (e ∙ ap (λ (z : Code). z.slot) (sym new2.1)))) (push_at w.codes new m b y))
      (λ new1. ⊎_elim (λ old2. absurd (free_of m b old2 v (sym e ∙ ap (λ (z : Code). z.slot) (sym new1.1)))) (λ new2. new1.0 ∙ sym new2.0) (push_at w.codes new m b y)) (push_at w.codes new n a x);
  one_in_use = λ n m a b x y u v e. ⊎_elim
      (λ old. ⊎_elim (λ old2. h.one_in_use n m a b old old2 u v e) (λ new2. absurd (none_of n a old u (e ∙ ap (λ (z : Code). z.method) (sym new2.1)))) (push_at w.codes new m b y))
      (λ new1. ⊎_elim (λ old2. absurd (none_of m b old2 v (sym e ∙ ap (λ (z : Code). z.method) (sym new1.1)))) (λ new2. new1.0 ∙ sym new2.0) (push_at w.codes new m b y)) (push_at w.codes new n a x);
  few = (let e = push_length w.codes new in let r = i.room in omega arith);
}
  where
    new : Code
    new = record { serial = next_serial w.codes; slot = slot; method = method; state = InUse }

    slot_is_low : slot < w.slots
    slot_is_low = let place = find_place (λ s. not (is_taken w.codes s)) (below w.slots) slot i.least in below_low w.slots place.0 slot place.1

    free_of : (n : ℕ) (a : Code) → slice_get w.codes n ≡ Some a → takes_slot a.state ≡ true → a.slot ≡ slot → ⊥
    free_of n a x u e =
        let free : is_taken w.codes slot ≡ false = not-true (is_taken w.codes slot) (found_passes (λ s. not (is_taken w.codes s)) (below w.slots) slot i.least) in
        let fails : (a.slot == slot) && takes_slot a.state ≡ false = any_none_at (λ (k : Code). (k.slot == slot) && takes_slot k.state) w.codes n a free x in
        ⊎_elim (λ d. eqb-false a.slot slot d e) (λ d. false≢true (sym d ∙ u)) (and_cases (a.slot == slot) (takes_slot a.state) fails)

    none_of : (n : ℕ) (a : Code) → slice_get w.codes n ≡ Some a → is_in_use a.state ≡ true → a.method ≡ method → ⊥
    none_of n a x u e =
        let fails : (a.method == method) && is_in_use a.state ≡ false = find_none_at (λ (k : Code). (k.method == method) && is_in_use k.state) w.codes n a i.none_in_use x in
        ⊎_elim (λ d. eqb-false a.method method d e) (λ d. false≢true (sym d ∙ u)) (and_cases (a.method == method) (is_in_use a.state) fails)

-- Each event preserves this.
pub table_kept : (w : World) → TableIsSound w.slots w.methods w.codes → Cases w (λ e a v. TableIsSound v.slots v.methods v.codes)
table_kept w h = record {
  refuses = λ e r. h;
  begins = λ p t i. h;
  changes = λ p t code i. h;
  rests = λ p t i. h;
  ends = λ p t i. h;
  moves = λ p t a state given i. h;
  interprets = λ p t method i. h;
  enters = λ p t method serial code i. h;
  misses = λ p t method serial code i. h;
  leaves = λ p t state i. h;
  exits = λ p t i. h;
  finishes = λ p t opened i. h;
  clears = λ p t opened i. h;
  holds = λ p t opened i. h;
  releases = λ p t i. h;
  shows = λ p t i. h;
  starts = λ p i. h;
  installs = λ method slot i. installed w method slot h i;
  invalidates = λ serial code i. restated_by w serial code InUse NotEntrant h i refl;
  goes_round = λ i. h;
  looks_clear = λ serial p code i. h;
  looks_late = λ serial p code i. h;
  finds_unlooked = λ serial code p i. h;
  finds_used = λ serial code i. h;
  retires = λ serial code i. restated_by w serial code NotEntrant Zombie h i.code_is refl;
  frees = λ serial code i. restated_by w serial code Zombie Freed h i refl;
  asks = λ request i. h;
  opens = λ oldest others i. h;
  tells = λ name opened i. h;
  finds_gone = λ name i. h;
  operates = λ opened others i. h;
  closes = λ number opened i. h;
  counts = λ serial code i. h;
  says_state = λ serial code i. h;
  resolves = λ method i. h;
}

pub table_start : (slots methods : ℕ) → TableIsSound slots methods []
table_start slots methods = record {
  serial_is = λ i k x. cc;
  slot_low = λ i k x. cc;
  method_low = λ i k x. cc;
  one_in_slot = λ i j a b x y u v e. cc;
  one_in_use = λ i j a b x y u v e. cc;
  few = omega arith;
}
