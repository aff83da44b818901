-- An install over code in use: first the old code leaves use, then the new code enters it.
use Rattle.std.proofs.Common.{◌≡◌, ℕ, zero, suc, ◌+◌, ◌<◌, ◌≤◌, ◌∙◌, sym, Bool, true, false, not, ◌&&◌, List, [], ◌∷◌, ◌++◌, length, set, Option, Some, None, refl, ap, subst, cond, arith, inl, inr, ◌⊎◌, length-set}
use Rattle.std.specs.Prelude.{slice_get, slice_set, option_map, ◌==◌, IfSome, IfNone}
use Rattle.std.proofs.lemmas.Bool.{false≢true, eqb-true, cases_eq, and_parts}
use Rattle.std.proofs.lemmas.Option.{same_Some, slice_get_within}
use Rattle.frames.specs.declared.CodeId.{CodeId}
use Rattle.method_table.specs.declared.Code.{Code}
use Rattle.method_table.specs.declared.CodeState.TheVariants.{InUse, NotEntrant}
use Rattle.method_table.specs.Numbers.{below, last_number}
use Rattle.method_table.specs.Codes.{unfreed, in_use_for, takes_slot, is_in_use, id_of, with_state, with_code, without_use}
use Rattle.method_table.specs.Kept.{Puts, IsKept, holds, least_free, with_record}
use Rattle.method_table.proofs.Searches.{find_passes, find_same}
use Rattle.method_table.proofs.Serials.{found_is, unfreed_is, state_keeps_length}
use Rattle.method_table.proofs.Left.{used_takes}
use Rattle.method_table.proofs.KeptLemmas.{put_set, put_record, slot_next, slot_is_free, installed_at, record_there, dropped, current_is}

-- writes to a list
set_again : {X : Type 0} (xs : List X) (i : ℕ) (y z : X) → set (set xs i y) i z ≡ set xs i z
set_again [] i y z = refl
set_again (x ∷ xs) zero y z = refl
set_again (x ∷ xs) (suc i) y z = ap (λ l. x ∷ l) (set_again xs i y z)

set_apart : {X : Type 0} (xs : List X) (i j : ℕ) (y z : X) → (i ≡ j → ⊥) → set (set xs i y) j z ≡ set (set xs j z) i y
set_apart [] i j y z ne = refl
set_apart (x ∷ xs) zero zero y z ne = absurd (ne refl)
set_apart (x ∷ xs) zero (suc j) y z ne = refl
set_apart (x ∷ xs) (suc i) zero y z ne = refl
set_apart (x ∷ xs) (suc i) (suc j) y z ne = ap (λ l. x ∷ l) (set_apart xs i j y z (λ e. ne (ap suc e)))

set_before : {X : Type 0} (xs : List X) (i : ℕ) (y z : X) → i < length xs → set (xs ++ z ∷ []) i y ≡ set xs i y ++ z ∷ []
set_before [] i y z l = absurd (omega arith)
set_before (x ∷ xs) zero y z l = refl
set_before (x ∷ xs) (suc i) y z l = ap (λ l. x ∷ l) (set_before xs i y z (omega arith))

-- a record in another slot
with_record_where : (records : List Code) (i : ℕ) (after new : Code) (b : Bool) → i < length records → (i ≡ new.slot → ⊥)
    → cond b (set records i after ++ new ∷ []) (set (set records i after) new.slot new) ≡ set (cond b (records ++ new ∷ []) (set records new.slot new)) i after
with_record_where records i after new true l ne = sym (set_before records i after new l)
with_record_where records i after new false l ne = set_apart records i new.slot after new ne

with_record_apart : (records : List Code) (i : ℕ) (after new : Code) → i < length records → (i ≡ new.slot → ⊥) → with_record (set records i after) new ≡ set (with_record records new) i after
with_record_apart records i after new l ne = rw (length-set records i after) (with_record_where records i after new (new.slot == length records) l ne)

-- the codes without the method's code in use, by the method's entry
pub codes_without : (codes codes' : List Code) (entry : Option CodeId) (o : Option Code) (P : Type 0) → entry ≡ option_map id_of o → IfSome entry (λ id. codes' ≡ with_state codes id.serial NotEntrant) → IfNone entry ((codes' ≡ codes) × P) → codes' ≡ without_use codes o
codes_without codes codes' None None P e some none = none.0
codes_without codes codes' (Some id) (Some old) P e some none = some ∙ ap (λ (i : CodeId). with_state codes i.serial NotEntrant) (same_Some id (id_of old) e)
codes_without codes codes' None (Some old) P e some none = let no : None ≡ Some (id_of old) = e in cc
codes_without codes codes' (Some id) None P e some none = let no : Some id ≡ None = e in cc

module _ (codes : List Code) (slots next : ℕ) (records : List Code) (slot_of : ℕ → Option ℕ) (current : List (Option CodeId)) (taken : ℕ) (kept : IsKept codes slots next records slot_of current taken) (method slot : ℕ) (free : least_free records slots ≡ Some slot) where
  module _ (old : Code) (used : in_use_for codes method ≡ Some old) where
    passes : ((old.method == method) ≡ true) × (is_in_use old.state ≡ true)
    passes = and_parts (old.method == method) (is_in_use old.state) (find_passes (λ c. (c.method == method) && is_in_use c.state) codes old used)

    of_method : old.method ≡ method
    of_method = eqb-true old.method method passes.0

    takes : takes_slot old.state ≡ true
    takes = used_takes old.state passes.1

    found : unfreed codes old.serial ≡ Some old
    found = unfreed_is 1 old.serial codes old kept.numbered (found_is (λ c. (c.method == method) && is_in_use c.state) codes old kept.numbered used) takes

    there : slice_get records old.slot ≡ Some old
    there = record_there codes slots next records slot_of current taken kept old.serial old found

    within : old.slot < length records
    within = slice_get_within records old.slot old there

    apart : old.slot ≡ slot → ⊥
    apart e = (let held : holds (slice_get records slot) ≡ true = rw (← e) (rw there takes) in false≢true (sym (slot_is_free codes slots next records slot_of current taken kept slot free) ∙ held))

    abbrev after : Code
    after = record old { state = NotEntrant }

    without : IsKept (with_state codes old.serial NotEntrant) slots next (set records old.slot after) slot_of (set current method None) taken
    without = let At : ℕ → Type 0 = λ m. IsKept (with_state codes old.serial NotEntrant) slots next (set records old.slot after) slot_of (set current m None) taken in subst At of_method (dropped codes slots next records slot_of current taken kept old.serial old found NotEntrant passes.1 refl refl)

    same_hold : (k : ℕ) → (k ≡ old.slot) ⊎ (k ≡ old.slot → ⊥) → holds (slice_get (set records old.slot after) k) ≡ holds (slice_get records k)
    same_hold k (inl e) = rw e (rw (put_set records old.slot after within).here (rw there (sym takes)))
    same_hold k (inr ne) = ap holds ((put_set records old.slot after within).others k ne)

    still_free : least_free (set records old.slot after) slots ≡ Some slot
    still_free = find_same (λ k. not (holds (slice_get (set records old.slot after) k))) (λ k. not (holds (slice_get records k))) (below slots) (λ k. ap not (same_hold k (cases_eq k old.slot))) ∙ free

    over : (entry : Option CodeId) → slice_get current method ≡ Some entry → (serial : ℕ) (codes' records' : List Code) (slot_of' : ℕ → Option ℕ) (current' : List (Option CodeId)) → next ≤ last_number → serial ≡ length codes + 1
        → codes' ≡ with_code (with_state codes old.serial NotEntrant) method slot → records' ≡ set (with_record records (record { serial = serial; slot = slot; method = method; state = InUse })) old.slot after
        → current' ≡ set current method (Some (record { slot = slot; serial = serial })) → Puts slot_of slot_of' serial (Some slot) → IsKept codes' slots (serial + 1) records' slot_of' current' (slot + 1)
    over entry at_method serial codes' records' slot_of' current' below_last s c r u noted =
        installed_at (with_state codes old.serial NotEntrant) slots next (set records old.slot after) slot_of (set current method None) taken without method slot
        ((put_set current method None (slice_get_within current method entry at_method)).here) still_free serial codes' records' slot_of' current' below_last
        (s ∙ ap (λ n. n + 1) (sym (state_keeps_length old.serial NotEntrant codes))) c
        (r ∙ sym (with_record_apart records old.slot after (record { serial = serial; slot = slot; method = method; state = InUse }) within apart))
        (u ∙ sym (set_again current method None (Some (record { slot = slot; serial = serial })))) noted

    -- the old record is unchanged by the new one
    still_there : (serial : ℕ) → slice_get (with_record records (record { serial = serial; slot = slot; method = method; state = InUse })) old.slot ≡ Some old
    still_there serial = (put_record records (record { serial = serial; slot = slot; method = method; state = InUse }) (slot_next codes slots next records slot_of current taken kept slot free)).others old.slot apart ∙ there

  -- an install, whatever code the method has
  replaced_where : (entry : Option CodeId) (o : Option Code) → in_use_for codes method ≡ o → entry ≡ option_map id_of o → slice_get current method ≡ Some entry
      → (serial : ℕ) (codes₁ codes' records₁ records' : List Code) (slot_of' : ℕ → Option ℕ) (current' : List (Option CodeId)) → next ≤ last_number → serial ≡ length codes + 1
      → codes' ≡ with_code codes₁ method slot → records₁ ≡ with_record records (record { serial = serial; slot = slot; method = method; state = InUse })
      → IfSome entry (λ id. codes₁ ≡ with_state codes id.serial NotEntrant)
      → IfSome entry (λ id. (code : Code) → slice_get records₁ id.slot ≡ Some code → records' ≡ slice_set records₁ id.slot (record code { state = NotEntrant }))
      → IfNone entry ((codes₁ ≡ codes) × (records' ≡ records₁))
      → current' ≡ set current method (Some (record { slot = slot; serial = serial })) → Puts slot_of slot_of' serial (Some slot) → IsKept codes' slots (serial + 1) records' slot_of' current' (slot + 1)
  replaced_where None None e same at_method serial codes₁ codes' records₁ records' slot_of' current' below_last s c r some moved none u noted =
      installed_at codes slots next records slot_of current taken kept method slot at_method free serial codes' records' slot_of' current' below_last s (c ∙ ap (λ l. with_code l method slot) none.0) (none.1 ∙ r) u noted
  replaced_where (Some id) (Some old) e same at_method serial codes₁ codes' records₁ records' slot_of' current' below_last s c r some moved none u noted =
      let id_is : id ≡ id_of old = same_Some id (id_of old) same in
      let slot_is : id.slot ≡ old.slot = ap (λ (i : CodeId). i.slot) id_is in
      let stands : slice_get records₁ id.slot ≡ Some old = rw (slot_is, r) (still_there old e serial) in
      over old e (Some id) at_method serial codes' records' slot_of' current' below_last s
      (c ∙ ap (λ l. with_code l method slot) (some ∙ ap (λ (i : CodeId). with_state codes i.serial NotEntrant) id_is))
      (moved old stands ∙ (rw (slot_is, r) refl)) u noted
  replaced_where None (Some old) e same at_method serial codes₁ codes' records₁ records' slot_of' current' below_last s c r some moved none u noted = let no : None ≡ Some (id_of old) = same in cc
  replaced_where (Some id) None e same at_method serial codes₁ codes' records₁ records' slot_of' current' below_last s c r some moved none u noted = let no : Some id ≡ None = same in cc

  pub replaced_at : (entry : Option CodeId) → slice_get current method ≡ Some entry
      → (serial : ℕ) (codes₁ codes' records₁ records' : List Code) (slot_of' : ℕ → Option ℕ) (current' : List (Option CodeId)) → next ≤ last_number → serial ≡ length codes + 1
      → codes' ≡ with_code codes₁ method slot → records₁ ≡ with_record records (record { serial = serial; slot = slot; method = method; state = InUse })
      → IfSome entry (λ id. codes₁ ≡ with_state codes id.serial NotEntrant)
      → IfSome entry (λ id. (code : Code) → slice_get records₁ id.slot ≡ Some code → records' ≡ slice_set records₁ id.slot (record code { state = NotEntrant }))
      → IfNone entry ((codes₁ ≡ codes) × (records' ≡ records₁))
      → current' ≡ set current method (Some (record { slot = slot; serial = serial })) → Puts slot_of slot_of' serial (Some slot) → IsKept codes' slots (serial + 1) records' slot_of' current' (slot + 1)
  replaced_at entry at_method = replaced_where entry (in_use_for codes method) refl (current_is codes slots next records slot_of current taken kept method entry at_method) at_method

  -- the replaced code has a slot, also after the new record is stored
  old_where : (entry : Option CodeId) (o : Option Code) → in_use_for codes method ≡ o → entry ≡ option_map id_of o → (serial : ℕ) (records₁ : List Code) → records₁ ≡ with_record records (record { serial = serial; slot = slot; method = method; state = InUse }) → IfSome entry (λ id. id.slot < length records₁)
  old_where None o e same serial records₁ r = tt
  old_where (Some id) (Some old) e same serial records₁ r =
      let slot_is : id.slot ≡ old.slot = ap (λ (i : CodeId). i.slot) (same_Some id (id_of old) same) in
      rw (slot_is, r) (slice_get_within _ old.slot old (still_there old e serial))
  old_where (Some id) None e same serial records₁ r = let no : Some id ≡ None = same in cc

  pub old_within : (entry : Option CodeId) → slice_get current method ≡ Some entry → (serial : ℕ) (records₁ : List Code) → records₁ ≡ with_record records (record { serial = serial; slot = slot; method = method; state = InUse }) → IfSome entry (λ id. id.slot < length records₁)
  old_within entry at_method serial records₁ r = old_where entry (in_use_for codes method) refl (current_is codes slots next records slot_of current taken kept method entry at_method) serial records₁ r
