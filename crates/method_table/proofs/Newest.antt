-- The newest code of each slot.
use Rattle.std.proofs.Common.{◌≡◌, ◌⊎◌, ℕ, zero, suc, ◌≤◌, Bool, true, false, cond, List, [], ◌∷◌, ◌++◌, Option, Some, None, sym, refl, ap, ◌∙◌, inl, inr, subst, arith}
use Rattle.std.specs.Prelude.{◌==◌, slice_get, option_map}
use Rattle.std.proofs.lemmas.Bool.{cases_eq, eqb-true, eq-eqb, ne_eqb}
use Rattle.std.proofs.lemmas.Option.{same_Some}
use Rattle.method_table.specs.declared.Code.{Code}
use Rattle.method_table.specs.declared.CodeState.{CodeState}
use Rattle.method_table.specs.Codes.{code_of, takes_slot, in_state, with_state}
use Rattle.method_table.specs.Entries.{first_of, newest_in}
use Rattle.method_table.specs.Kept.{Puts, AreNewest}
use Rattle.method_table.proofs.Serials.{code_of_serial, code_of-with_state}

-- a change of state keeps the slots
pub slot_stays : (serial : ℕ) (state : CodeState) (code : Code) → (in_state serial state code).slot ≡ code.slot
slot_stays serial state code = by (code.serial == serial)
  where
    by : (b : Bool) → (cond b (record code { state = state }) code).slot ≡ code.slot
    by true = refl
    by false = refl

-- Searches for the newest code after a push and after a change of state.
first_none : (o : Option Code) → first_of o None ≡ o
first_none None = refl
first_none (Some k) = refl

first_assoc : (a b c : Option Code) → first_of (first_of a b) c ≡ first_of a (first_of b c)
first_assoc None b c = refl
first_assoc (Some k) b c = refl

first_map : (f : Code → Code) (a b : Option Code) → first_of (option_map f a) (option_map f b) ≡ option_map f (first_of a b)
first_map f None b = refl
first_map f (Some k) b = refl

abbrev here : Code → ℕ → Option Code
here k slot = cond (k.slot == slot) (Some k) None

pub newest_push : (codes : List Code) (k : Code) (slot : ℕ) → newest_in (codes ++ k ∷ []) slot ≡ first_of (here k slot) (newest_in codes slot)
newest_push [] k slot = sym (first_none (here k slot))
newest_push (x ∷ xs) k slot = ap (λ o. first_of o (here x slot)) (newest_push xs k slot) ∙ first_assoc (here k slot) (newest_in xs slot) (here x slot)

pub newest_with : (codes : List Code) (s : ℕ) (state : CodeState) (slot : ℕ) → newest_in (with_state codes s state) slot ≡ option_map (in_state s state) (newest_in codes slot)
newest_with [] s state slot = refl
newest_with (x ∷ xs) s state slot =
    ap (λ o. first_of o (here (in_state s state x) slot)) (newest_with xs s state slot)
    ∙ (ap (λ n. first_of (option_map (in_state s state) (newest_in xs slot)) (cond (n == slot) (Some (in_state s state x)) None)) (slot_stays s state x)
    ∙ (ap (first_of (option_map (in_state s state) (newest_in xs slot))) (two (x.slot == slot)) ∙ first_map (in_state s state) (newest_in xs slot) (here x slot)))
  where
    two : (b : Bool) → cond b (Some (in_state s state x)) None ≡ option_map (in_state s state) (cond b (Some x) None)
    two true = refl
    two false = refl

-- The index of the newest code.
pub newest_place : (codes : List Code) (slot : ℕ) (k : Code) → newest_in codes slot ≡ Some k → (i : ℕ) × (slice_get codes i ≡ Some k) × (k.slot ≡ slot)
newest_place [] slot k h = cc
newest_place (x ∷ xs) slot k h = by (newest_in xs slot) refl h (newest_place xs slot)
  where
    two : (b : Bool) → (x.slot == slot) ≡ b → cond b (Some x) None ≡ Some k → (i : ℕ) × (slice_get (x ∷ xs) i ≡ Some k) × (k.slot ≡ slot)
    two true e h = let same : x ≡ k = cc in (0, h, ap (λ (y : Code). y.slot) (sym same) ∙ eqb-true x.slot slot e)
    two false e h = cc

    by : (o : Option Code) → newest_in xs slot ≡ o → first_of o (here x slot) ≡ Some k → ((j : Code) → newest_in xs slot ≡ Some j → (i : ℕ) × (slice_get xs i ≡ Some j) × (j.slot ≡ slot)) → (i : ℕ) × (slice_get (x ∷ xs) i ≡ Some k) × (k.slot ≡ slot)
    by None e h rest = two (x.slot == slot) refl h
    by (Some j) e h rest = let r = rest k (e ∙ h) in (suc r.0, r.1, r.2)

pub newest_last : (codes : List Code) (slot i : ℕ) (k : Code) → slice_get codes i ≡ Some k → k.slot ≡ slot → (n : ℕ) × (j : Code) × (newest_in codes slot ≡ Some j) × (slice_get codes n ≡ Some j) × (i ≤ n)
newest_last [] slot i k h e = cc
newest_last (x ∷ xs) slot zero k h e = by (newest_in xs slot) refl
  where
    by : (o : Option Code) → newest_in xs slot ≡ o → (n : ℕ) × (j : Code) × (first_of o (here x slot) ≡ Some j) × (slice_get (x ∷ xs) n ≡ Some j) × (0 ≤ n)
    by None z = let same : x ≡ k = cc in let a = eq-eqb x.slot slot (ap (λ (y : Code). y.slot) same ∙ e) in (0, x, (rw a refl), refl, omega arith)
    by (Some j) z = let p = newest_place xs slot j z in (suc p.0, j, refl, p.1, omega arith)
newest_last (x ∷ xs) slot (suc i) k h e =
    let r = newest_last xs slot i k h e in let low = r.4 in
    (suc r.0, r.1, ap (λ o. first_of o (here x slot)) r.2, r.3, omega arith)

-- A new code in a free slot is the newest there, and the other codes stay the newest of their slots.
pub newest_added : (codes : List Code) (new : Code) → AreNewest codes → Puts (code_of codes) (code_of (codes ++ new ∷ [])) new.serial (Some new)
    → ((serial : ℕ) (code : Code) → code_of codes serial ≡ Some code → takes_slot code.state ≡ true → code.slot ≡ new.slot → ⊥) → AreNewest (codes ++ new ∷ [])
newest_added codes new newest put free serial code is takes = by (cases_eq serial new.serial)
  where
    by : (serial ≡ new.serial) ⊎ (serial ≡ new.serial → ⊥) → newest_in (codes ++ new ∷ []) code.slot ≡ Some code
    by (inl at_new) =
        let At : ℕ → Type 0 = λ s. code_of (codes ++ new ∷ []) s ≡ Some code in
        let there : code_of (codes ++ new ∷ []) new.serial ≡ Some code = subst At at_new is in
        let same : new ≡ code = same_Some new code (sym put.here ∙ there) in
        let at_slot : (new.slot == code.slot) ≡ true = eq-eqb new.slot code.slot (ap (λ (c : Code). c.slot) same) in
        newest_push codes new code.slot ∙ (rw at_slot (ap Some same))
    by (inr ne) =
        let was : code_of codes serial ≡ Some code = sym (put.others serial ne) ∙ is in
        let elsewhere : (new.slot == code.slot) ≡ false = ne_eqb new.slot code.slot (λ e. free serial code was takes (sym e)) in
        newest_push codes new code.slot ∙ (rw elsewhere (newest serial code was takes))

-- A code that changes its state stays the newest of its slot.
pub newest_stated : (codes : List Code) (serial : ℕ) (state : CodeState) (old : Code) → AreNewest codes → code_of codes serial ≡ Some old → takes_slot old.state ≡ true → AreNewest (with_state codes serial state)
newest_stated codes serial state old newest there took other code is takes = by (code_of codes other) refl (sym (code_of-with_state serial other state codes) ∙ is)
  where
    took_slot : (c : Code) → code_of codes other ≡ Some c → in_state serial state c ≡ code → takes_slot c.state ≡ true
    took_slot c at_other now = two (c.serial == serial) refl
      where
        two : (b : Bool) → (c.serial == serial) ≡ b → takes_slot c.state ≡ true
        two true e =
            let its : other ≡ serial = sym (code_of_serial codes other c at_other) ∙ eqb-true c.serial serial e in
            let same : c ≡ old = same_Some c old (sym at_other ∙ (ap (code_of codes) its ∙ there)) in
            ap (λ (k : Code). takes_slot k.state) same ∙ took
        two false e = let same : c ≡ code = (let stays : in_state serial state c ≡ c = rw e refl in sym stays ∙ now) in ap (λ (k : Code). takes_slot k.state) same ∙ takes

    by : (o : Option Code) → code_of codes other ≡ o → option_map (in_state serial state) o ≡ Some code → newest_in (with_state codes serial state) code.slot ≡ Some code
    by None at_other now = let no : None ≡ Some code = now in cc
    by (Some c) at_other now =
        let is_now : in_state serial state c ≡ code = same_Some (in_state serial state c) code now in
        let slot_is : c.slot ≡ code.slot = sym (slot_stays serial state c) ∙ ap (λ (k : Code). k.slot) is_now in
        let was : newest_in codes c.slot ≡ Some c = newest other c at_other (took_slot c at_other is_now) in
        newest_with codes serial state code.slot ∙ (ap (λ slot. option_map (in_state serial state) (newest_in codes slot)) (sym slot_is) ∙ (ap (option_map (in_state serial state)) was ∙ ap Some is_now))
