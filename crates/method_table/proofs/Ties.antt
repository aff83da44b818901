-- The records still represent the codes after one code is added or changed, with the record of its slot and of its
-- method.
use Rattle.std.proofs.Common.{◌≡◌, ℕ, ◌∙◌, sym, true, false, Option, Some, None, ap, inl, inr, ◌⊎◌}
use Rattle.std.proofs.lemmas.Bool.{false≢true, cases_eq}
use Rattle.std.proofs.lemmas.Option.{same_Some}
use Rattle.frames.specs.declared.CodeId.{CodeId}
use Rattle.method_table.specs.declared.Code.{Code}
use Rattle.method_table.specs.Codes.{takes_slot, is_in_use, id_of}
use Rattle.method_table.specs.Kept.{Puts, IsTied, IsCurrent, IsInUse}

-- the value is the new one at the place, or an old one elsewhere
put_cases : {A : Type 0} (before after : ℕ → Option A) (place : ℕ) (x y : A) (other : ℕ) → Puts before after place (Some x) → after other ≡ Some y
    → ((other ≡ place) × (y ≡ x)) ⊎ ((other ≡ place → ⊥) × (before other ≡ Some y))
put_cases {A = A} before after place x y other put h = by (cases_eq other place)
  where
    by : (other ≡ place) ⊎ (other ≡ place → ⊥) → ((other ≡ place) × (y ≡ x)) ⊎ ((other ≡ place → ⊥) × (before other ≡ Some y))
    by (inl at_place) = inl (at_place, (let there : after place ≡ Some y = rw (← at_place) h in same_Some y x (sym there ∙ put.here)))
    by (inr elsewhere) = inr (elsewhere, sym (put.others other elsewhere) ∙ h)

module _ (code_at code_at' record_at record_at' : ℕ → Option Code) (new : Code) (tied : IsTied code_at record_at)
    (codes : Puts code_at code_at' new.serial (Some new)) (records : Puts record_at record_at' new.slot (Some new))
    (was_in_slot : (c : Code) → record_at new.slot ≡ Some c → takes_slot c.state ≡ true → c.serial ≡ new.serial)
    (had_serial : (c : Code) → code_at new.serial ≡ Some c → takes_slot c.state ≡ true → c.slot ≡ new.slot) where
  put_serials : (serial : ℕ) (c : Code) → code_at' serial ≡ Some c → c.serial ≡ serial
  put_serials serial c h = by (put_cases code_at code_at' new.serial new c serial codes h)
    where
      by : ((serial ≡ new.serial) × (c ≡ new)) ⊎ ((serial ≡ new.serial → ⊥) × (code_at serial ≡ Some c)) → c.serial ≡ serial
      by (inl it) = ap (λ (d : Code). d.serial) it.1 ∙ sym it.0
      by (inr it) = tied.serials serial c it.1

  put_listed : (slot : ℕ) (c : Code) → record_at' slot ≡ Some c → takes_slot c.state ≡ true → (code_at' c.serial ≡ Some c) × (c.slot ≡ slot)
  put_listed slot c h takes = by (put_cases record_at record_at' new.slot new c slot records h)
    where
      by : ((slot ≡ new.slot) × (c ≡ new)) ⊎ ((slot ≡ new.slot → ⊥) × (record_at slot ≡ Some c)) → (code_at' c.serial ≡ Some c) × (c.slot ≡ slot)
      by (inl it) = (rw it.1 codes.here, ap (λ (d : Code). d.slot) it.1 ∙ sym it.0)
      by (inr it) =
          let was = tied.listed slot c it.1 takes in
          let other : c.serial ≡ new.serial → ⊥ = λ e. it.0 (sym was.1 ∙ had_serial c (rw (← e) was.0) takes) in
          (codes.others c.serial other ∙ was.0, was.1)

  put_recorded : (serial : ℕ) (c : Code) → code_at' serial ≡ Some c → takes_slot c.state ≡ true → record_at' c.slot ≡ Some c
  put_recorded serial c h takes = by (put_cases code_at code_at' new.serial new c serial codes h)
    where
      by : ((serial ≡ new.serial) × (c ≡ new)) ⊎ ((serial ≡ new.serial → ⊥) × (code_at serial ≡ Some c)) → record_at' c.slot ≡ Some c
      by (inl it) = rw it.1 records.here
      by (inr it) =
          let was = tied.recorded serial c it.1 takes in
          let serial_is = tied.serials serial c it.1 in
          let other : c.slot ≡ new.slot → ⊥ = λ e. it.0 (sym serial_is ∙ was_in_slot c (rw (← e) was) takes) in
          records.others c.slot other ∙ was

  pub tied_put : IsTied code_at' record_at'
  tied_put = record { serials = put_serials; listed = put_listed; recorded = put_recorded }

-- a code with another serial leaves the code in use unchanged
in_use_stays : (code_at code_at' : ℕ → Option Code) (new : Code) (method : ℕ) (id : CodeId) → Puts code_at code_at' new.serial (Some new) → (was : IsInUse code_at method id) → (was.code.serial ≡ new.serial → ⊥) → IsInUse code_at' method id
in_use_stays code_at code_at' new method id codes was other =
    record { code = was.code; listed = codes.others was.code.serial other ∙ was.listed; id_is = was.id_is; method_is = was.method_is; in_use = was.in_use }

-- a new code in use for a method that has none
module _ (code_at code_at' : ℕ → Option Code) (current_at current_at' : ℕ → Option (Option CodeId)) (new : Code) (is : IsCurrent code_at current_at)
    (codes : Puts code_at code_at' new.serial (Some new)) (fresh : code_at new.serial ≡ None) (in_use : is_in_use new.state ≡ true)
    (entries : Puts current_at current_at' new.method (Some (Some (id_of new)))) (free : current_at new.method ≡ Some None) where
  added_entered : (method : ℕ) (id : CodeId) → current_at' method ≡ Some (Some id) → IsInUse code_at' method id
  added_entered method id h = by (put_cases current_at current_at' new.method (Some (id_of new)) (Some id) method entries h)
    where
      by : ((method ≡ new.method) × (Some id ≡ Some (id_of new))) ⊎ ((method ≡ new.method → ⊥) × (current_at method ≡ Some (Some id))) → IsInUse code_at' method id
      by (inl it) = record { code = new; listed = codes.here; id_is = same_Some id (id_of new) it.1; method_is = sym it.0; in_use = in_use }
      by (inr it) =
          let was = is.entered method id it.1 in
          in_use_stays code_at code_at' new method id codes was (λ e. let there : code_at new.serial ≡ Some was.code = rw (← e) was.listed in let no : None ≡ Some was.code = sym fresh ∙ there in cc)

  added_current : (serial : ℕ) (c : Code) → code_at' serial ≡ Some c → is_in_use c.state ≡ true → current_at' c.method ≡ Some (Some (id_of c))
  added_current serial c h used = by (put_cases code_at code_at' new.serial new c serial codes h)
    where
      by : ((serial ≡ new.serial) × (c ≡ new)) ⊎ ((serial ≡ new.serial → ⊥) × (code_at serial ≡ Some c)) → current_at' c.method ≡ Some (Some (id_of c))
      by (inl it) = rw it.1 entries.here
      by (inr it) =
          let was = is.current serial c it.1 used in
          let other : c.method ≡ new.method → ⊥ = λ e. (let there : current_at new.method ≡ Some (Some (id_of c)) = rw (← e) was in let no : Some None ≡ Some (Some (id_of c)) = sym free ∙ there in cc) in
          entries.others c.method other ∙ was

  pub current_added : IsCurrent code_at' current_at'
  current_added = record { entered = added_entered; current = added_current }

-- a code leaves use
module _ (code_at code_at' record_at : ℕ → Option Code) (current_at current_at' : ℕ → Option (Option CodeId)) (old new : Code) (is : IsCurrent code_at current_at) (tied : IsTied code_at record_at)
    (codes : Puts code_at code_at' new.serial (Some new)) (was_there : code_at new.serial ≡ Some old) (was_used : is_in_use old.state ≡ true) (unused : is_in_use new.state ≡ false)
    (entries : Puts current_at current_at' old.method (Some None)) where
  dropped_entered : (method : ℕ) (id : CodeId) → current_at' method ≡ Some (Some id) → IsInUse code_at' method id
  dropped_entered method id h = by (put_cases current_at current_at' old.method None (Some id) method entries h)
    where
      by : ((method ≡ old.method) × (Some id ≡ None)) ⊎ ((method ≡ old.method → ⊥) × (current_at method ≡ Some (Some id))) → IsInUse code_at' method id
      by (inl it) = let no : Some id ≡ None = it.1 in cc
      by (inr it) =
          let was = is.entered method id it.1 in
          in_use_stays code_at code_at' new method id codes was
          (λ e. let there : code_at new.serial ≡ Some was.code = rw (← e) was.listed in let same : was.code ≡ old = same_Some was.code old (sym there ∙ was_there) in it.0 (sym was.method_is ∙ ap (λ (d : Code). d.method) same))

  dropped_current : (serial : ℕ) (c : Code) → code_at' serial ≡ Some c → is_in_use c.state ≡ true → current_at' c.method ≡ Some (Some (id_of c))
  dropped_current serial c h used = by (put_cases code_at code_at' new.serial new c serial codes h)
    where
      by : ((serial ≡ new.serial) × (c ≡ new)) ⊎ ((serial ≡ new.serial → ⊥) × (code_at serial ≡ Some c)) → current_at' c.method ≡ Some (Some (id_of c))
      by (inl it) = absurd (false≢true (sym unused ∙ (ap (λ (d : Code). is_in_use d.state) (sym it.1) ∙ used)))
      by (inr it) =
          let was = is.current serial c it.1 used in
          let its = is.current new.serial old was_there was_used in
          let serial_is = tied.serials serial c it.1 in
          let old_serial = tied.serials new.serial old was_there in
          let other : c.method ≡ old.method → ⊥ = λ e. (let there : current_at old.method ≡ Some (Some (id_of c)) = rw (← e) was in let same : id_of c ≡ id_of old = same_Some (id_of c) (id_of old) (same_Some (Some (id_of c)) (Some (id_of old)) (sym there ∙ its)) in it.0 (sym serial_is ∙ (ap (λ (i : CodeId). i.serial) same ∙ old_serial))) in
          entries.others c.method other ∙ was

  pub current_dropped : IsCurrent code_at' current_at'
  current_dropped = record { entered = dropped_entered; current = dropped_current }

-- a code that wasn't in use changes its state
module _ (code_at code_at' : ℕ → Option Code) (current_at : ℕ → Option (Option CodeId)) (old new : Code) (is : IsCurrent code_at current_at)
    (codes : Puts code_at code_at' new.serial (Some new)) (was_there : code_at new.serial ≡ Some old) (was_unused : is_in_use old.state ≡ false) (unused : is_in_use new.state ≡ false) where
  moved_entered : (method : ℕ) (id : CodeId) → current_at method ≡ Some (Some id) → IsInUse code_at' method id
  moved_entered method id h =
      let was = is.entered method id h in
      in_use_stays code_at code_at' new method id codes was
      (λ e. let there : code_at new.serial ≡ Some was.code = rw (← e) was.listed in let same : was.code ≡ old = same_Some was.code old (sym there ∙ was_there) in false≢true (sym was_unused ∙ (ap (λ (d : Code). is_in_use d.state) (sym same) ∙ was.in_use)))

  moved_current : (serial : ℕ) (c : Code) → code_at' serial ≡ Some c → is_in_use c.state ≡ true → current_at c.method ≡ Some (Some (id_of c))
  moved_current serial c h used = by (put_cases code_at code_at' new.serial new c serial codes h)
    where
      by : ((serial ≡ new.serial) × (c ≡ new)) ⊎ ((serial ≡ new.serial → ⊥) × (code_at serial ≡ Some c)) → current_at c.method ≡ Some (Some (id_of c))
      by (inl it) = absurd (false≢true (sym unused ∙ (ap (λ (d : Code). is_in_use d.state) (sym it.1) ∙ used)))
      by (inr it) = is.current serial c it.1 used

  pub current_moved : IsCurrent code_at' current_at
  current_moved = record { entered = moved_entered; current = moved_current }
