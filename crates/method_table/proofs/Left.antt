-- A code that leaves use keeps its slot, and its method then has no code in use.
use Rattle.std.proofs.Common.{◌≡◌, ℕ, suc, ◌+◌, ◌∙◌, sym, Bool, true, false, not, ◌&&◌, List, [], ◌∷◌, length, Option, Some, None, refl, ap, subst, arith}
use Rattle.std.specs.Prelude.{slice_get, option_map, ◌==◌}
use Rattle.std.proofs.lemmas.Bool.{false≢true, eqb-true, eq-eqb, and_parts}
use Rattle.std.proofs.lemmas.Option.{same_Some}
use Rattle.method_table.specs.declared.Code.{Code}
use Rattle.method_table.specs.declared.CodeState.{CodeState}
use Rattle.method_table.specs.declared.CodeState.TheVariants.{InUse, NotEntrant, Zombie, Freed}
use Rattle.method_table.specs.Numbers.{below}
use Rattle.method_table.specs.Kept.{IsNumberedFrom}
use Rattle.method_table.specs.Codes.{code_of, unfreed, in_use_for, is_taken, free_slot, takes_slot, is_in_use, in_state, with_state}
use Rattle.method_table.specs.TableView.{TableView, IsTable, install_fault}
use Rattle.method_table.proofs.Searches.{find_passes, find_same}
use Rattle.method_table.proofs.Serials.{code_of_serial, listed_is, found_is, unfreed_is, is_unfreed, numbered_state, state_keeps_length, code_of-with_state}

-- Code in use takes its slot.
pub used_takes : (state : CodeState) → is_in_use state ≡ true → takes_slot state ≡ true
used_takes InUse h = refl
used_takes NotEntrant h = refl
used_takes Zombie h = refl
used_takes Freed h = absurd (false≢true h)

taken_left : (codes : List Code) (s slot : ℕ) → ((j : ℕ) (a : Code) → slice_get codes j ≡ Some a → a.serial ≡ s → takes_slot a.state ≡ true) → is_taken (with_state codes s NotEntrant) slot ≡ is_taken codes slot
taken_left [] s slot all = refl
taken_left (k ∷ codes) s slot all = by (k.serial == s) refl (taken_left codes s slot (λ j a x e. all (suc j) a x e))
  where
    by : (b : Bool) → (k.serial == s) ≡ b → is_taken (with_state codes s NotEntrant) slot ≡ is_taken codes slot → is_taken (with_state (k ∷ codes) s NotEntrant) slot ≡ is_taken (k ∷ codes) slot
    by true e rest = let t = all 0 k refl (eqb-true k.serial s e) in rw (e, t, rest) refl
    by false e rest = rw (e, rest) refl

-- The least free slot stays the same if no code of the serial is freed.
pub free_left : (codes : List Code) (s slots : ℕ) → ((j : ℕ) (a : Code) → slice_get codes j ≡ Some a → a.serial ≡ s → takes_slot a.state ≡ true) → free_slot (with_state codes s NotEntrant) slots ≡ free_slot codes slots
free_left codes s slots all = find_same (λ slot. not (is_taken (with_state codes s NotEntrant) slot)) (λ slot. not (is_taken codes slot)) (below slots) (λ slot. ap not (taken_left codes s slot all))

numbered_by : (first : ℕ) (codes : List Code) → ((i : ℕ) (c : Code) → slice_get codes i ≡ Some c → c.serial ≡ first + i) → IsNumberedFrom first codes
numbered_by first [] h = tt
numbered_by first (c ∷ codes) h = ((let e = h 0 c refl in omega arith), numbered_by (first + 1) codes (λ i d at. (let e = h (suc i) d at in omega arith)))

module _ (t : TableView) (table : IsTable t) (method : ℕ) (old : Code) (used : in_use_for t.codes method ≡ Some old) where
  numbered : IsNumberedFrom 1 t.codes
  numbered = numbered_by 1 t.codes (λ i c at. (let e = table.serials i c at in omega arith))

  passes : ((old.method == method) ≡ true) × (is_in_use old.state ≡ true)
  passes = and_parts (old.method == method) (is_in_use old.state) (find_passes (λ c. (c.method == method) && is_in_use c.state) t.codes old used)

  pub state_is : is_in_use old.state ≡ true
  state_is = passes.1

  -- The code in use is the code of its serial.
  pub unfreed_here : unfreed t.codes old.serial ≡ Some old
  unfreed_here = unfreed_is 1 old.serial t.codes old numbered (found_is (λ c. (c.method == method) && is_in_use c.state) t.codes old numbered used) (used_takes old.state passes.1)

  pub slot_left : free_slot (with_state t.codes old.serial NotEntrant) t.slots ≡ free_slot t.codes t.slots
  slot_left = free_left t.codes old.serial t.slots (λ j a at e. (
      let here : code_of t.codes old.serial ≡ Some a = subst (λ s. code_of t.codes s ≡ Some a) e (listed_is 1 j t.codes a numbered at).1 in
      let same : old ≡ a = same_Some old a (sym (is_unfreed old.serial t.codes old numbered unfreed_here).0 ∙ here) in
      ap (λ (c : Code). takes_slot c.state) (sym same) ∙ used_takes old.state passes.1))

  pub long_left : length (with_state t.codes old.serial NotEntrant) ≡ length t.codes
  long_left = state_keeps_length old.serial NotEntrant t.codes

  -- An accepted install is still accepted after the method's code leaves use.
  pub fault_left : install_fault (record t { codes = with_state t.codes old.serial NotEntrant }) method ≡ install_fault t method
  fault_left = rw (slot_left, long_left) refl

  -- The method then has no code in use.
  pub none_left : in_use_for (with_state t.codes old.serial NotEntrant) method ≡ None
  none_left = by (in_use_for (with_state t.codes old.serial NotEntrant) method) refl
    where
      never : (a b : Code) (flag : Bool) → (b.serial == old.serial) ≡ flag → in_state old.serial NotEntrant b ≡ a → code_of t.codes b.serial ≡ Some b → a.method ≡ method → is_in_use a.state ≡ true → ⊥
      never a b true e same there m u = (let changed : record b { state = NotEntrant } ≡ a = (let x : in_state old.serial NotEntrant b ≡ record b { state = NotEntrant } = rw e refl in sym x ∙ same) in
          false≢true (ap (λ (c : Code). is_in_use c.state) changed ∙ u))
      never a b false e same there m u =
          let b_is : b ≡ a = (let x : in_state old.serial NotEntrant b ≡ b = rw e refl in sym x ∙ same) in
          let b_used : is_in_use b.state ≡ true = ap (λ (c : Code). is_in_use c.state) b_is ∙ u in
          let b_method : b.method ≡ method = ap (λ (c : Code). c.method) b_is ∙ m in
          let mine : in_use_for t.codes b.method ≡ Some b = table.one_in_use b.serial b (unfreed_is 1 b.serial t.codes b numbered there (used_takes b.state b_used)) b_used in
          let one : b ≡ old = same_Some b old (sym (subst (λ n. in_use_for t.codes n ≡ Some b) b_method mine) ∙ used) in
          false≢true (sym e ∙ eq-eqb b.serial old.serial (ap (λ (c : Code). c.serial) one))

      from : (a : Code) (o : Option Code) → code_of t.codes a.serial ≡ o → option_map (in_state old.serial NotEntrant) o ≡ Some a → a.method ≡ method → is_in_use a.state ≡ true → ⊥
      from a None e same m u = let no : None ≡ Some a = same in cc
      from a (Some b) e same m u =
          let is : in_state old.serial NotEntrant b ≡ a = same_Some (in_state old.serial NotEntrant b) a same in
          let serial : b.serial ≡ a.serial = code_of_serial t.codes a.serial b e in
          never a b (b.serial == old.serial) refl is (subst (λ s. code_of t.codes s ≡ Some b) (sym serial) e) m u

      by : (o : Option Code) → in_use_for (with_state t.codes old.serial NotEntrant) method ≡ o → o ≡ None
      by None e = refl
      by (Some a) e =
          let p = and_parts (a.method == method) (is_in_use a.state) (find_passes (λ c. (c.method == method) && is_in_use c.state) (with_state t.codes old.serial NotEntrant) a e) in
          let there = found_is (λ c. (c.method == method) && is_in_use c.state) (with_state t.codes old.serial NotEntrant) a (numbered_state 1 old.serial NotEntrant t.codes numbered) e in
          absurd (from a (code_of t.codes a.serial) refl (sym (code_of-with_state old.serial a.serial NotEntrant t.codes) ∙ there) (eqb-true a.method method p.0) p.1)
