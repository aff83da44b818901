-- The fields of a table give the same answers as its codes, and each edit preserves this.
use Rattle.std.proofs.Common.{◌≡◌, ℕ, zero, suc, ◌+◌, ◌^◌, ◌<◌, ◌≤◌, ◌∙◌, sym, Bool, true, false, not, ◌&&◌, List, [], ◌∷◌, ◌++◌, length, set, Option, Some, None, refl, ap, subst, cond, arith, inl, inr, ◌⊎◌, length-append, length-set, replicate}
use Rattle.std.specs.Prelude.{find, slice_get, is_some, option_map, nat_lt, nat_le, ◌==◌}
use Rattle.std.specs.Option.{option_or}
use Rattle.std.proofs.lemmas.Bool.{false≢true, eqb-true, eq-eqb, ne_eqb, cases_eq, cases_lt, cases_Bool, lt-ltb, le-ltb, lt-leb, le-leb, ltb-true, leb-true, and_parts, and_from}
use Rattle.std.proofs.lemmas.List.{length-replicate}
use Rattle.std.proofs.lemmas.Option.{none-some, same_Some, cond_some, slice_get_within, slice_get_past}
use Rattle.std.proofs.lemmas.List.Folds.{find-append}
use Rattle.frames.specs.declared.CodeId.{CodeId}
use Rattle.method_table.specs.declared.Code.{Code}
use Rattle.method_table.specs.declared.CodeState.{CodeState}
use Rattle.method_table.specs.declared.CodeState.TheVariants.{InUse, NotEntrant, Zombie, Freed}
use Rattle.method_table.specs.Numbers.{below, last_number}
use Rattle.method_table.specs.Codes.{code_of, unfreed, in_use_for, is_taken, free_slot, next_serial, takes_slot, is_in_use, is_not_entrant, is_zombie, id_of, in_state, with_state, with_code}
use Rattle.method_table.specs.Kept.{Puts, kept_slot, IsNumberedFrom, IsCurrent, IsKept, holds, least_free, with_record}
use Rattle.method_table.specs.declared.table.Entry.TheVariants as entry
use Rattle.method_table.specs.TableView.{TableView, IsTable, entry_of, install_fault}
use Rattle.method_table.specs.declared.table.InstallFault.TheVariants as install
use Rattle.method_table.proofs.Searches.{below_found, IsLeastBelow, find_passes, any_is_found, find_same}
use Rattle.method_table.proofs.Serials.{code_of_serial, not_before, not_past, was_given, listed_is, found_is, missed_is, unfreed_is, is_unfreed, numbered_push, numbered_state, state_keeps_length, code_of-with_state}
use Rattle.method_table.proofs.Newest.{newest_added, newest_stated}
use Rattle.method_table.proofs.Ties.{tied_put, current_added, current_dropped, current_moved}

-- a write to a list stores an item at an index
put_set_here : {X : Type 0} (xs : List X) (i : ℕ) (y : X) → i < length xs → slice_get (set xs i y) i ≡ Some y
put_set_here [] i y l = absurd (omega arith)
put_set_here (x ∷ xs) zero y l = refl
put_set_here (x ∷ xs) (suc i) y l = put_set_here xs i y (omega arith)

put_set_others : {X : Type 0} (xs : List X) (i j : ℕ) (y : X) → (j ≡ i → ⊥) → slice_get (set xs i y) j ≡ slice_get xs j
put_set_others [] i j y ne = refl
put_set_others (x ∷ xs) zero zero y ne = absurd (ne refl)
put_set_others (x ∷ xs) zero (suc j) y ne = refl
put_set_others (x ∷ xs) (suc i) zero y ne = refl
put_set_others (x ∷ xs) (suc i) (suc j) y ne = put_set_others xs i j y (λ e. ne (ap suc e))

pub put_set : {X : Type 0} (xs : List X) (i : ℕ) (y : X) → i < length xs → Puts (slice_get xs) (slice_get (set xs i y)) i (Some y)
put_set xs i y l = record { here = put_set_here xs i y l; others = λ j ne. put_set_others xs i j y ne }

put_push_here : {X : Type 0} (xs : List X) (y : X) → slice_get (xs ++ y ∷ []) (length xs) ≡ Some y
put_push_here [] y = refl
put_push_here (x ∷ xs) y = put_push_here xs y

put_push_others : {X : Type 0} (xs : List X) (j : ℕ) (y : X) → (j ≡ length xs → ⊥) → slice_get (xs ++ y ∷ []) j ≡ slice_get xs j
put_push_others [] zero y ne = absurd (ne refl)
put_push_others [] (suc j) y ne = refl
put_push_others (x ∷ xs) zero y ne = refl
put_push_others (x ∷ xs) (suc j) y ne = put_push_others xs j y (λ e. ne (ap suc e))

pub put_push : {X : Type 0} (xs : List X) (y : X) → Puts (slice_get xs) (slice_get (xs ++ y ∷ [])) (length xs) (Some y)
put_push xs y = record { here = put_push_here xs y; others = λ j ne. put_push_others xs j y ne }

put_record_where : (records : List Code) (code : Code) (b : Bool) → (code.slot == length records) ≡ b → code.slot ≤ length records
    → Puts (slice_get records) (slice_get (cond b (records ++ code ∷ []) (set records code.slot code))) code.slot (Some code)
put_record_where records code true e l =
    let same : code.slot ≡ length records = eqb-true code.slot (length records) e in
    let At : ℕ → Type 0 = λ slot. Puts (slice_get records) (slice_get (records ++ code ∷ [])) slot (Some code) in subst At (sym same) (put_push records code)
put_record_where records code false e l = put_set records code.slot code (grind (arith, Rattle.std.proofs.lemmas.Bool.eqb-false code.slot (length records) e))

pub put_record : (records : List Code) (code : Code) → code.slot ≤ length records → Puts (slice_get records) (slice_get (with_record records code)) code.slot (Some code)
put_record records code l = put_record_where records code (code.slot == length records) refl l

few_where : (records : List Code) (code : Code) (slots : ℕ) (b : Bool) → length records ≤ slots → code.slot < slots → (code.slot == length records) ≡ b → length (cond b (records ++ code ∷ []) (set records code.slot code)) ≤ slots
few_where records code slots true few l e = omega (arith, length-append records (code ∷ []), eqb-true code.slot (length records) e)
few_where records code slots false few l e = omega (arith, length-set records code.slot code)

pub few_records : (records : List Code) (code : Code) (slots : ℕ) → length records ≤ slots → code.slot < slots → length (with_record records code) ≤ slots
few_records records code slots few l = few_where records code slots (code.slot == length records) few l refl

-- a new code gets the next serial
or_none : {X : Type 0} (o : Option X) → option_or o None ≡ o
or_none None = refl
or_none (Some x) = refl

pub put_code : (codes : List Code) (new : Code) → IsNumberedFrom 1 codes → new.serial ≡ length codes + 1 → Puts (code_of codes) (code_of (codes ++ new ∷ [])) new.serial (Some new)
put_code codes new numbered e =
    record {
      here =
          (let head : (new.serial == new.serial) ≡ true = eq-eqb new.serial new.serial refl in
          let none : code_of codes new.serial ≡ None = not_past 1 new.serial codes numbered (omega arith) in
          find-append (λ c. c.serial == new.serial) codes (new ∷ []) ∙ (rw (none, head) refl));
      others = λ serial ne.
          (let head : (new.serial == serial) ≡ false = ne_eqb new.serial serial (λ k. ne (sym k)) in
          find-append (λ c. c.serial == serial) codes (new ∷ []) ∙ (rw head (or_none (code_of codes serial))));
    }

-- a change of state changes the code of its serial
in_state_here : (serial : ℕ) (state : CodeState) (code : Code) (b : Bool) → b ≡ true → cond b (record code { state = state }) code ≡ record code { state = state }
in_state_here serial state code b e = rw e refl

in_state_other : (serial : ℕ) (state : CodeState) (o : Option Code) → ((code : Code) → o ≡ Some code → (code.serial == serial) ≡ false) → option_map (in_state serial state) o ≡ o
in_state_other serial state None h = refl
in_state_other serial state (Some code) h = rw (h code refl) refl

pub put_state : (codes : List Code) (serial : ℕ) (state : CodeState) (code : Code) → code_of codes serial ≡ Some code → Puts (code_of codes) (code_of (with_state codes serial state)) serial (Some (record code { state = state }))
put_state codes serial state code h =
    record {
      here =
          (let head : (code.serial == serial) ≡ true = eq-eqb code.serial serial (code_of_serial codes serial code h) in
          code_of-with_state serial serial state codes ∙ (rw h (ap Some (in_state_here serial state code (code.serial == serial) head))));
      others = λ other ne.
          code_of-with_state serial other state codes ∙ in_state_other serial state (code_of codes other) (λ c e. ne_eqb c.serial serial (λ k. ne (sym (code_of_serial codes other c e) ∙ k)));
    }

-- the reasons to refuse an install
module _ (table : TableView) (method : ℕ) where
  pub no_such_method : table.methods ≤ method → install_fault table method ≡ Some install.NoSuchMethod
  no_such_method l = rw (le-ltb method table.methods l) refl

  module _ (within : method < table.methods) where
    pub table_full : free_slot table.codes table.slots ≡ None → install_fault table method ≡ Some install.TableFull
    table_full f = rw (lt-ltb method table.methods within) (rw f refl)

    module _ (slot : ℕ) (free : free_slot table.codes table.slots ≡ Some slot) where
      pub serials_spent : last_number < next_serial table.codes → install_fault table method ≡ Some install.SerialsSpent
      serials_spent l = rw (lt-ltb method table.methods within) (rw free (rw (lt-leb (next_serial table.codes) last_number l) refl))

      pub no_fault : next_serial table.codes ≤ last_number → install_fault table method ≡ None
      no_fault l = rw (lt-ltb method table.methods within) (rw free (rw (le-leb (next_serial table.codes) last_number l) refl))

-- without such a reason, no test failed
accepted_where : (a b c : Bool) → cond a (cond b (cond c None (Some install.SerialsSpent)) (Some install.TableFull)) (Some install.NoSuchMethod) ≡ None → (a ≡ true) × (b ≡ true) × (c ≡ true)
accepted_where true true true h = (refl, refl, refl)
accepted_where true true false h = cc
accepted_where true false c h = cc
accepted_where false b c h = cc

module _ (table : TableView) (method : ℕ) where
  accepted : install_fault table method ≡ None → (nat_lt method table.methods ≡ true) × (is_some (free_slot table.codes table.slots) ≡ true) × (nat_le (next_serial table.codes) last_number ≡ true)
  accepted h = accepted_where (nat_lt method table.methods) (is_some (free_slot table.codes table.slots)) (nat_le (next_serial table.codes) last_number) h

  accepted_within : install_fault table method ≡ None → method < table.methods
  accepted_within h = ltb-true method table.methods (accepted h).0

  accepted_serial : install_fault table method ≡ None → next_serial table.codes ≤ last_number
  accepted_serial h = leb-true (next_serial table.codes) last_number (accepted h).2

-- an empty table
none_current : (n method : ℕ) (id : CodeId) → slice_get (replicate {A = Option CodeId} n None) method ≡ Some (Some id) → ⊥
none_current zero method id h = none-some (Some id) h
none_current (suc n) zero id h = none-some id (same_Some None (Some id) h)
none_current (suc n) (suc method) id h = none_current n method id h

pub empty_kept : (codes records : List Code) (slots methods : ℕ) (slot_of : ℕ → Option ℕ) (current : List (Option CodeId)) → codes ≡ [] → records ≡ [] → ((serial : ℕ) → slot_of serial ≡ None) → current ≡ replicate methods None → methods < 2 ^ 32 → IsKept codes slots 1 records slot_of current 0
empty_kept codes records slots methods slot_of current c r none u small =
    rw (c, r, u) (record {
      numbered = tt;
      next_is = refl;
      not_spent = omega arith;
      few = omega arith;
      few_methods = omega (arith, length-replicate methods (let no : Option CodeId = None in no));
      tied = record { serials = λ serial code h. absurd (none-some code h); listed = λ slot code h t. absurd (none-some code h); recorded = λ serial code h t. absurd (none-some code h) };
      indexed = none;
      entries = record { entered = λ method id h. absurd (none_current methods method id h); current = λ serial code h t. absurd (none-some code h) };
      full = λ slot l. absurd (omega arith);
      newest = λ serial code h t. absurd (none-some code h);
    })

module _ (codes : List Code) (slots next : ℕ) (records : List Code) (slot_of : ℕ → Option ℕ) (current : List (Option CodeId)) (taken : ℕ) (kept : IsKept codes slots next records slot_of current taken) where
  -- an indexed slot has the record of the serial's unfreed code; without an indexed slot there is no such code
  found_noted_where : (serial slot : ℕ) (o : Option Code) → code_of codes serial ≡ o → kept_slot o ≡ Some slot → (code : Code) × (unfreed codes serial ≡ Some code) × (slice_get records slot ≡ Some code)
  found_noted_where serial slot None e h = (let no : None ≡ Some slot = h in cc)
  found_noted_where serial slot (Some c) e h =
      let parts = cond_some (takes_slot c.state) c.slot slot h in
      (c, unfreed_is 1 serial codes c kept.numbered e parts.0, rw (← parts.1) (kept.tied.recorded serial c e parts.0))

  found_noted : (serial slot : ℕ) → slot_of serial ≡ Some slot → (code : Code) × (unfreed codes serial ≡ Some code) × (slice_get records slot ≡ Some code)
  found_noted serial slot h = found_noted_where serial slot (code_of codes serial) refl (sym (kept.indexed serial) ∙ h)

  pub noted_within : (serial slot : ℕ) → slot_of serial ≡ Some slot → slot < length records
  noted_within serial slot h = (let it = found_noted serial slot h in slice_get_within records slot it.0 it.2)

  pub noted_is : (serial slot : ℕ) (record_at : Code) → slot_of serial ≡ Some slot → slice_get records slot ≡ Some record_at → Some record_at ≡ unfreed codes serial
  noted_is serial slot record_at h e = (let it = found_noted serial slot h in sym e ∙ (it.2 ∙ sym it.1))

  held_within : (slot : ℕ) (o : Option Code) → slice_get records slot ≡ o → holds o ≡ true → slot < length records
  held_within slot None e h = absurd (false≢true h)
  held_within slot (Some c) e h = slice_get_within records slot c e

  -- a slot's record of an unfreed code is the unfreed code of its serial
  pub record_is : (slot : ℕ) (record_at : Code) → slice_get records slot ≡ Some record_at → takes_slot record_at.state ≡ true → Some record_at ≡ unfreed codes record_at.serial
  record_is slot record_at e takes = sym (unfreed_is 1 record_at.serial codes record_at kept.numbered (kept.tied.listed slot record_at e takes).0 takes)

  unnoted_where : (serial : ℕ) (o : Option Code) → unfreed codes serial ≡ o → slot_of serial ≡ None → o ≡ None
  unnoted_where serial None e h = refl
  unnoted_where serial (Some c) e h =
      let was = is_unfreed serial codes c kept.numbered e in
      let there : slot_of serial ≡ Some c.slot = kept.indexed serial ∙ (rw was.0 (rw was.1 refl)) in
      let no : None ≡ Some c.slot = sym h ∙ there in cc

  pub unnoted_is : (serial : ℕ) → slot_of serial ≡ None → unfreed codes serial ≡ None
  unnoted_is serial h = unnoted_where serial (unfreed codes serial) refl h

  -- a method's entry is its code in use
  same_current : (method : ℕ) (entry : Option CodeId) (o : Option Code) → slice_get current method ≡ Some entry → in_use_for codes method ≡ o → entry ≡ option_map id_of o
  same_current method entry (Some c) e f =
      let passes = and_parts (c.method == method) (is_in_use c.state) (find_passes (λ c. (c.method == method) && is_in_use c.state) codes c f) in
      let same : c.method ≡ method = eqb-true c.method method passes.0 in
      let there : slice_get current method ≡ Some (Some (id_of c)) = rw (← same) (kept.entries.current c.serial c (found_is (λ c. (c.method == method) && is_in_use c.state) codes c kept.numbered f) passes.1) in
      same_Some entry (Some (id_of c)) (sym e ∙ there)
  same_current method None None e f = refl
  same_current method (Some id) None e f =
      let was = kept.entries.entered method id e in
      let missed = missed_is (λ c. (c.method == method) && is_in_use c.state) codes was.code.serial was.code f was.listed in
      absurd (false≢true (sym missed ∙ and_from (was.code.method == method) (is_in_use was.code.state) (eq-eqb was.code.method method was.method_is) was.in_use))

  pub current_is : (method : ℕ) (entry : Option CodeId) → slice_get current method ≡ Some entry → entry ≡ option_map id_of (in_use_for codes method)
  current_is method entry e = same_current method entry (in_use_for codes method) e refl

  none_past_where : (method : ℕ) (o : Option Code) → length current ≤ method → in_use_for codes method ≡ o → o ≡ None
  none_past_where method None l f = refl
  none_past_where method (Some c) l f =
      let passes = and_parts (c.method == method) (is_in_use c.state) (find_passes (λ c. (c.method == method) && is_in_use c.state) codes c f) in
      let same : c.method ≡ method = eqb-true c.method method passes.0 in
      let there : slice_get current method ≡ Some (Some (id_of c)) = rw (← same) (kept.entries.current c.serial c (found_is (λ c. (c.method == method) && is_in_use c.state) codes c kept.numbered f) passes.1) in
      let none : slice_get current method ≡ None = slice_get_past current method l in
      let no : None ≡ Some (Some (id_of c)) = sym none ∙ there in cc

  pub none_past : (method : ℕ) → length current ≤ method → in_use_for codes method ≡ None
  none_past method l = none_past_where method (in_use_for codes method) l refl

  -- a slot is taken if its record is of an unfreed code
  taken_where : (slot : ℕ) (o record_at : Option Code) → find (λ c. (c.slot == slot) && takes_slot c.state) codes ≡ o → slice_get records slot ≡ record_at → is_some o ≡ holds record_at
  taken_where slot (Some c) record_at e f =
      let passes = and_parts (c.slot == slot) (takes_slot c.state) (find_passes (λ c. (c.slot == slot) && takes_slot c.state) codes c e) in
      let same : c.slot ≡ slot = eqb-true c.slot slot passes.0 in
      let there : slice_get records slot ≡ Some c = rw (← same) (kept.tied.recorded c.serial c (found_is (λ c. (c.slot == slot) && takes_slot c.state) codes c kept.numbered e) passes.1) in
      rw (sym f ∙ there) (sym passes.1)
  taken_where slot None None e f = refl
  taken_where slot None (Some c) e f = by (takes_slot c.state) refl
    where
      by : (b : Bool) → takes_slot c.state ≡ b → false ≡ takes_slot c.state
      by false t = sym t
      by true t =
          let listed = kept.tied.listed slot c f t in
          let missed = missed_is (λ c. (c.slot == slot) && takes_slot c.state) codes c.serial c e listed.0 in
          absurd (false≢true (sym missed ∙ and_from (c.slot == slot) (takes_slot c.state) (eq-eqb c.slot slot listed.1) t))

  pub taken_is : (slot : ℕ) → is_taken codes slot ≡ holds (slice_get records slot)
  taken_is slot = any_is_found (λ c. (c.slot == slot) && takes_slot c.state) codes ∙ taken_where slot (find (λ c. (c.slot == slot) && takes_slot c.state) codes) (slice_get records slot) refl refl

  pub free_is : least_free records slots ≡ free_slot codes slots
  free_is = find_same (λ slot. not (holds (slice_get records slot))) (λ slot. not (is_taken codes slot)) (below slots) (λ slot. ap not (sym (taken_is slot)))

  -- the state of each serial
  pub never_given : (serial : ℕ) → (serial ≡ 0) ⊎ (next ≤ serial) → code_of codes serial ≡ None
  never_given serial (inl e) = not_before 1 serial codes kept.numbered (omega arith)
  never_given serial (inr l) = not_past 1 serial codes kept.numbered (omega (arith, kept.next_is))

  pub given : (serial : ℕ) → 1 ≤ serial → serial < next → is_some (code_of codes serial) ≡ true
  given serial l m = was_given 1 serial codes kept.numbered l (omega (arith, kept.next_is))

  pub state_found : (serial : ℕ) (code : Code) → unfreed codes serial ≡ Some code → Some code.state ≡ option_map (λ (c : Code). c.state) (code_of codes serial)
  state_found serial code f = rw (is_unfreed serial codes code kept.numbered f).0 refl

  -- a code that was installed and isn't unfreed is freed
  freed_where : (serial : ℕ) (c : Code) (state : CodeState) → c.state ≡ state → unfreed codes serial ≡ None → code_of codes serial ≡ Some c → c.state ≡ Freed
  freed_where serial c Freed e f h = e
  freed_where serial c InUse e f h = let there = unfreed_is 1 serial codes c kept.numbered h (rw e refl) in let no : None ≡ Some c = sym f ∙ there in cc
  freed_where serial c NotEntrant e f h = let there = unfreed_is 1 serial codes c kept.numbered h (rw e refl) in let no : None ≡ Some c = sym f ∙ there in cc
  freed_where serial c Zombie e f h = let there = unfreed_is 1 serial codes c kept.numbered h (rw e refl) in let no : None ≡ Some c = sym f ∙ there in cc

  state_freed_where : (serial : ℕ) (o : Option Code) → code_of codes serial ≡ o → unfreed codes serial ≡ None → is_some o ≡ true → Some Freed ≡ option_map (λ (c : Code). c.state) o
  state_freed_where serial None h f given = absurd (false≢true given)
  state_freed_where serial (Some c) h f given = ap Some (sym (freed_where serial c c.state refl f h))

  pub state_freed : (serial : ℕ) → unfreed codes serial ≡ None → is_some (code_of codes serial) ≡ true → Some Freed ≡ option_map (λ (c : Code). c.state) (code_of codes serial)
  state_freed serial f given = state_freed_where serial (code_of codes serial) refl f given

  -- the result of a call through a code
  entry_current_where : (method serial : ℕ) (id : CodeId) (o : Option Code) → in_use_for codes method ≡ o → Some id ≡ option_map id_of o → id.serial ≡ serial → Some (entry.Enters id) ≡ option_map (entry_of method) (code_of codes serial)
  entry_current_where method serial id None e h same = let no : Some id ≡ None = h in cc
  entry_current_where method serial id (Some c) e h same =
      let passes = and_parts (c.method == method) (is_in_use c.state) (find_passes (λ c. (c.method == method) && is_in_use c.state) codes c e) in
      let id_is : id ≡ id_of c = same_Some id (id_of c) h in
      let serial_is : c.serial ≡ serial = ap (λ (i : CodeId). i.serial) (sym id_is) ∙ same in
      let there : code_of codes serial ≡ Some c = rw (← serial_is) (found_is (λ c. (c.method == method) && is_in_use c.state) codes c kept.numbered e) in
      rw there (rw (passes.1, passes.0) (ap (λ i. Some (entry.Enters i)) id_is))

  pub entry_current : (method serial : ℕ) (id : CodeId) → Some id ≡ option_map id_of (in_use_for codes method) → id.serial ≡ serial → Some (entry.Enters id) ≡ option_map (entry_of method) (code_of codes serial)
  entry_current method serial id h same = entry_current_where method serial id (in_use_for codes method) refl h same

  pub entry_found : (method serial : ℕ) (code : Code) → unfreed codes serial ≡ Some code → Some (entry_of method code) ≡ option_map (entry_of method) (code_of codes serial)
  entry_found method serial code f = rw (is_unfreed serial codes code kept.numbered f).0 refl

  entry_freed_where : (method serial : ℕ) (o : Option Code) → code_of codes serial ≡ o → unfreed codes serial ≡ None → is_some o ≡ true → Some entry.WrongMethod ≡ option_map (entry_of method) o
  entry_freed_where method serial None h f given = absurd (false≢true given)
  entry_freed_where method serial (Some c) h f given = rw (freed_where serial c c.state refl f h) refl

  pub entry_freed : (method serial : ℕ) → unfreed codes serial ≡ None → is_some (code_of codes serial) ≡ true → Some entry.WrongMethod ≡ option_map (entry_of method) (code_of codes serial)
  entry_freed method serial f given = entry_freed_where method serial (code_of codes serial) refl f given

  -- every table meets `IsTable`
  one_in_use_where : (code : Code) (o : Option Code) → in_use_for codes code.method ≡ o → Some (id_of code) ≡ option_map id_of o → code_of codes code.serial ≡ Some code → o ≡ Some code
  one_in_use_where code None e h there = let no : Some (id_of code) ≡ None = h in cc
  one_in_use_where code (Some c) e h there =
      let id_is : id_of code ≡ id_of c = same_Some (id_of code) (id_of c) h in
      let serial_is : c.serial ≡ code.serial = ap (λ (i : CodeId). i.serial) (sym id_is) in
      let its : code_of codes code.serial ≡ Some c = rw (← serial_is) (found_is (λ c. (c.method == code.method) && is_in_use c.state) codes c kept.numbered e) in
      sym its ∙ there

  of_methods_where : (method : ℕ) (c : Code) → in_use_for codes method ≡ Some c → method < length current
  of_methods_where method c e =
      let passes = and_parts (c.method == method) (is_in_use c.state) (find_passes (λ c. (c.method == method) && is_in_use c.state) codes c e) in
      let same : c.method ≡ method = eqb-true c.method method passes.0 in
      let there = kept.entries.current c.serial c (found_is (λ c. (c.method == method) && is_in_use c.state) codes c kept.numbered e) passes.1 in
      rw (← same) (slice_get_within current c.method (Some (id_of c)) there)

  pub table_is : IsTable (record { codes = codes; slots = slots; methods = length current })
  table_is =
      record {
        serials = λ place code h. (let at_place = (listed_is 1 place codes code kept.numbered h).0 in omega arith);
        in_numbers = λ place code h. (let at_place = (listed_is 1 place codes code kept.numbered h).0 in let within = slice_get_within codes place code h in omega (arith, kept.not_spent));
        in_slots = λ serial code h. (let was = is_unfreed serial codes code kept.numbered h in let within = slice_get_within records code.slot code (kept.tied.recorded serial code was.0 was.1) in omega (arith, kept.few));
        own_slots = λ serial other code same h k e.
            (let was = is_unfreed serial codes code kept.numbered h in
            let theirs = is_unfreed other codes same kept.numbered k in
            let here = kept.tied.recorded serial code was.0 was.1 in
            let there = kept.tied.recorded other same theirs.0 theirs.1 in
            let there_too : slice_get records code.slot ≡ Some same = rw e there in same_Some code same (sym here ∙ there_too));
        newest = λ serial code h. (let was = is_unfreed serial codes code kept.numbered h in kept.newest serial code was.0 was.1);
        of_methods = of_methods_where;
        one_in_use = λ serial code h used.
            (let was = is_unfreed serial codes code kept.numbered h in
            let there = kept.entries.current serial code was.0 used in
            one_in_use_where code (in_use_for codes code.method) refl (current_is code.method (Some (id_of code)) there) (let At : ℕ → Type 0 = λ s. code_of codes s ≡ Some code in subst At (sym was.2) was.0));
      }

  -- an install
  module _ (slot : ℕ) (free : least_free records slots ≡ Some slot) where
    pub found_free : IsLeastBelow (λ slot. not (holds (slice_get records slot))) slots slot
    found_free = below_found (λ slot. not (holds (slice_get records slot))) slots slot free

    pub slot_is_free : holds (slice_get records slot) ≡ false
    slot_is_free = Rattle.std.proofs.lemmas.Bool.not-true (holds (slice_get records slot)) found_free.passes

    pub slot_next : slot ≤ length records
    slot_next = by (cases_lt (length records) slot)
      where
        by : (length records < slot) ⊎ (slot ≤ length records) → slot ≤ length records
        by (inr l) = l
        by (inl l) =
            let misses = found_free.least (length records) l in
            let none : slice_get records (length records) ≡ None = slice_get_past records (length records) (omega arith) in
            let no : true ≡ false = rw none at misses in cc

  module _ (method slot : ℕ) (empty : slice_get current method ≡ Some None) (free : least_free records slots ≡ Some slot) where
    abbrev new : Code
    new = record { serial = length codes + 1; slot = slot; method = method; state = InUse }

    no_such : code_of codes (length codes + 1) ≡ None
    no_such = not_past 1 (length codes + 1) codes kept.numbered (omega arith)

    full_where : (k : ℕ) → k < slot + 1 → (k ≡ slot) ⊎ (k ≡ slot → ⊥) → holds (slice_get (with_record records new) k) ≡ true
    full_where k l (inl e) = rw e (rw (put_record records new (slot_next slot free)).here refl)
    full_where k l (inr ne) =
        let less : k < slot = grind arith in
        let was = Rattle.std.proofs.lemmas.Bool.not-false (holds (slice_get records k)) ((found_free slot free).least k less) in
        rw ((put_record records new (slot_next slot free)).others k ne) was

    indexed_where : (slot_of' : ℕ → Option ℕ) → Puts slot_of slot_of' (length codes + 1) (Some slot) → (serial : ℕ) → (serial ≡ length codes + 1) ⊎ (serial ≡ length codes + 1 → ⊥) → slot_of' serial ≡ kept_slot (code_of (with_code codes method slot) serial)
    indexed_where slot_of' noted serial (inl e) = rw e (noted.here ∙ rw (put_code codes new kept.numbered refl).here refl)
    indexed_where slot_of' noted serial (inr ne) = rw ((put_code codes new kept.numbered refl).others serial ne) (noted.others serial ne ∙ kept.indexed serial)

    -- no unfreed code stands in the slot
    none_there : (serial : ℕ) (code : Code) → code_of codes serial ≡ Some code → takes_slot code.state ≡ true → code.slot ≡ slot → ⊥
    none_there serial code h takes e =
        let there : slice_get records slot ≡ Some code = rw (← e) (kept.tied.recorded serial code h takes) in
        let held : holds (slice_get records slot) ≡ true = rw there takes in false≢true (sym (slot_is_free slot free) ∙ held)

    pub installed : (slot_of' : ℕ → Option ℕ) → next ≤ last_number → Puts slot_of slot_of' (length codes + 1) (Some slot) → IsKept (with_code codes method slot) slots (length codes + 1 + 1) (with_record records new) slot_of' (set current method (Some (id_of new))) (slot + 1)
    installed slot_of' below_last noted =
        let codes_put : Puts (code_of codes) (code_of (with_code codes method slot)) new.serial (Some new) = put_code codes new kept.numbered refl in
        let within : method < length current = slice_get_within current method None empty in
        record {
          numbered = numbered_push 1 codes new kept.numbered (omega arith);
          next_is = omega (arith, length-append codes (new ∷ []));
          not_spent = omega (arith, length-append codes (new ∷ []), kept.next_is, below_last);
          few = few_records records new slots kept.few (found_free slot free).within;
          few_methods = omega (arith, kept.few_methods, length-set current method (Some (id_of new)));
          tied = tied_put (code_of codes) (code_of (with_code codes method slot)) (slice_get records) (slice_get (with_record records new)) new kept.tied codes_put (put_record records new (slot_next slot free))
              (λ c e takes. (let held : holds (slice_get records slot) ≡ true = rw e takes in absurd (false≢true (sym (slot_is_free slot free) ∙ held))))
              (λ c e takes. (let no : None ≡ Some c = sym no_such ∙ e in cc));
          indexed = λ serial. indexed_where slot_of' noted serial (cases_eq serial (length codes + 1));
          entries = current_added (code_of codes) (code_of (with_code codes method slot)) (slice_get current) (slice_get (set current method (Some (id_of new)))) new kept.entries codes_put no_such refl (put_set current method (Some (id_of new)) within) empty;
          full = λ k l. full_where k l (cases_eq k slot);
          newest = newest_added codes new kept.newest codes_put none_there;
        }

    pub installed_at : (serial : ℕ) (codes' records' : List Code) (slot_of' : ℕ → Option ℕ) (current' : List (Option CodeId)) → next ≤ last_number → serial ≡ length codes + 1 → codes' ≡ with_code codes method slot
        → records' ≡ with_record records (record { serial = serial; slot = slot; method = method; state = InUse }) → current' ≡ set current method (Some (record { slot = slot; serial = serial }))
        → Puts slot_of slot_of' serial (Some slot) → IsKept codes' slots (serial + 1) records' slot_of' current' (slot + 1)
    installed_at serial codes' records' slot_of' current' below_last s c r u noted = rw (c, r, u) (rw s (installed slot_of' below_last (rw (← s) noted)))

  -- an indexed slot that was removed again, since memory was refused
  pub forgotten : (slot_of' slot_of'' : ℕ → Option ℕ) (records' : List Code) (serial slot : ℕ) → serial ≡ length codes + 1 → records' ≡ records → Puts slot_of slot_of' serial (Some slot) → Puts slot_of' slot_of'' serial None → IsKept codes slots next records' slot_of'' current taken
  forgotten slot_of' slot_of'' records' serial slot e r noted gone =
      rw r (record {
        numbered = kept.numbered;
        next_is = kept.next_is;
        not_spent = kept.not_spent;
        few = kept.few;
        few_methods = kept.few_methods;
        tied = kept.tied;
        entries = kept.entries;
        full = kept.full;
        newest = kept.newest;
        indexed = λ other. forgotten_at other (cases_eq other serial);
      })
    where
      forgotten_at : (other : ℕ) → (other ≡ serial) ⊎ (other ≡ serial → ⊥) → slot_of'' other ≡ kept_slot (code_of codes other)
      forgotten_at other (inl same) = rw same (gone.here ∙ (rw (not_past 1 serial codes kept.numbered (omega arith)) refl))
      forgotten_at other (inr ne) = gone.others other ne ∙ (noted.others other ne ∙ kept.indexed other)

  pub unnoted : (slot_of' : ℕ → Option ℕ) → ((serial : ℕ) → slot_of' serial ≡ slot_of serial) → IsKept codes slots next records slot_of' current taken
  unnoted slot_of' same =
      record {
        numbered = kept.numbered;
        next_is = kept.next_is;
        not_spent = kept.not_spent;
        few = kept.few;
        few_methods = kept.few_methods;
        tied = kept.tied;
        entries = kept.entries;
        full = kept.full;
        newest = kept.newest;
        indexed = λ serial. same serial ∙ kept.indexed serial;
      }

  -- why an install is refused, by the fields
  abbrev table : TableView
  table = record { codes = codes; slots = slots; methods = length current }

  module _ (method : ℕ) (within : method < length current) where
    pub why_full : least_free records slots ≡ None → install_fault table method ≡ Some install.TableFull
    why_full f = table_full table method within (sym free_is ∙ f)

    pub why_spent : (slot : ℕ) → least_free records slots ≡ Some slot → last_number < next → install_fault table method ≡ Some install.SerialsSpent
    why_spent slot f l = serials_spent table method within slot (sym free_is ∙ f) (rw (← kept.next_is) l)

    pub why_not : (slot : ℕ) → least_free records slots ≡ Some slot → next ≤ last_number → install_fault table method ≡ None
    why_not slot f l = no_fault table method within slot (sym free_is ∙ f) (rw (← kept.next_is) l)

  -- a method with an accepted install exists
  pub is_method : (method : ℕ) → install_fault table method ≡ None → method < length current
  is_method method h = accepted_within table method h

  pub below_last : (method : ℕ) → install_fault table method ≡ None → next ≤ last_number
  below_last method h = omega (arith, kept.next_is, accepted_serial table method h)

  -- a change of state of an unfreed code
  module _ (serial : ℕ) (code : Code) (found : unfreed codes serial ≡ Some code) where
    pub listed_there : code_of codes serial ≡ Some code
    listed_there = (is_unfreed serial codes code kept.numbered found).0

    takes : takes_slot code.state ≡ true
    takes = (is_unfreed serial codes code kept.numbered found).1

    serial_is : code.serial ≡ serial
    serial_is = (is_unfreed serial codes code kept.numbered found).2

    pub record_there : slice_get records code.slot ≡ Some code
    record_there = kept.tied.recorded serial code listed_there takes

    pub slot_within : code.slot < length records
    slot_within = slice_get_within records code.slot code record_there

    pub method_within : is_in_use code.state ≡ true → code.method < length current
    method_within used = slice_get_within current code.method (Some (id_of code)) (kept.entries.current serial code listed_there used)

    module _ (state : CodeState) where
      abbrev after : Code
      after = record code { state = state }

      codes_put : Puts (code_of codes) (code_of (with_state codes serial state)) after.serial (Some after)
      codes_put = let At : ℕ → Type 0 = λ s. Puts (code_of codes) (code_of (with_state codes serial state)) s (Some after) in subst At (sym serial_is) (put_state codes serial state code listed_there)

      records_put : Puts (slice_get records) (slice_get (set records code.slot after)) after.slot (Some after)
      records_put = put_set records code.slot after slot_within

      there_by_its : code_of codes code.serial ≡ Some code
      there_by_its = let At : ℕ → Type 0 = λ s. code_of codes s ≡ Some code in subst At (sym serial_is) listed_there

      indexed_where' : (slot_of' : ℕ → Option ℕ) → Puts slot_of slot_of' serial (kept_slot (Some after)) → (other : ℕ) → (other ≡ serial) ⊎ (other ≡ serial → ⊥) → slot_of' other ≡ kept_slot (code_of (with_state codes serial state) other)
      indexed_where' slot_of' put other (inl e) = rw e (put.here ∙ rw (put_state codes serial state code listed_there).here refl)
      indexed_where' slot_of' put other (inr ne) = rw ((put_state codes serial state code listed_there).others other ne) (put.others other ne ∙ kept.indexed other)

      noted_stays : takes_slot state ≡ true → Puts slot_of slot_of serial (kept_slot (Some after))
      noted_stays t = record { here = kept.indexed serial ∙ (rw listed_there (rw (takes, t) refl)); others = λ other ne. refl }

      noted_gone : (slot_of' : ℕ → Option ℕ) → takes_slot state ≡ false → Puts slot_of slot_of' serial None → Puts slot_of slot_of' serial (kept_slot (Some after))
      noted_gone slot_of' t put = rw t put

      kept_with : (slot_of' : ℕ → Option ℕ) (current' : List (Option CodeId)) (taken' : ℕ) → Puts slot_of slot_of' serial (kept_slot (Some after)) → length current' < 2 ^ 32 → IsCurrent (code_of (with_state codes serial state)) (slice_get current')
          → ((k : ℕ) → k < taken' → holds (slice_get (set records code.slot after) k) ≡ true) → IsKept (with_state codes serial state) slots next (set records code.slot after) slot_of' current' taken'
      kept_with slot_of' current' taken' put small entries full =
          record {
            numbered = numbered_state 1 serial state codes kept.numbered;
            next_is = kept.next_is ∙ ap (λ n. n + 1) (sym (state_keeps_length serial state codes));
            not_spent = omega (arith, kept.not_spent, state_keeps_length serial state codes);
            few = omega (arith, kept.few, length-set records code.slot after);
            few_methods = small;
            tied = tied_put (code_of codes) (code_of (with_state codes serial state)) (slice_get records) (slice_get (set records code.slot after)) after kept.tied codes_put records_put
                (λ c e t. ap (λ (d : Code). d.serial) (same_Some c code (sym e ∙ record_there)))
                (λ c e t. ap (λ (d : Code). d.slot) (same_Some c code (sym e ∙ there_by_its)));
            indexed = λ other. indexed_where' slot_of' put other (cases_eq other serial);
            entries = entries;
            full = full;
            newest = newest_stated codes serial state code kept.newest listed_there takes;
          }

      full_where_taken : takes_slot state ≡ true → (k : ℕ) → k < taken → (k ≡ code.slot) ⊎ (k ≡ code.slot → ⊥) → holds (slice_get (set records code.slot after) k) ≡ true
      full_where_taken t k l (inl e) = rw e (rw records_put.here t)
      full_where_taken t k l (inr ne) = rw (records_put.others k ne) (kept.full k l)

      pub dropped : is_in_use code.state ≡ true → is_in_use state ≡ false → takes_slot state ≡ true → IsKept (with_state codes serial state) slots next (set records code.slot after) slot_of (set current code.method None) taken
      dropped used unused t =
          kept_with slot_of (set current code.method None) taken (noted_stays t) (omega (arith, kept.few_methods, length-set current code.method None))
          (current_dropped (code_of codes) (code_of (with_state codes serial state)) (slice_get records) (slice_get current) (slice_get (set current code.method None)) code after kept.entries kept.tied codes_put there_by_its used unused (put_set current code.method None (method_within used)))
          (λ k l. full_where_taken t k l (cases_eq k code.slot))

      entries_stay : is_in_use code.state ≡ false → is_in_use state ≡ false → IsCurrent (code_of (with_state codes serial state)) (slice_get current)
      entries_stay was_unused unused = current_moved (code_of codes) (code_of (with_state codes serial state)) (slice_get current) code after kept.entries codes_put there_by_its was_unused unused

      pub moved : is_in_use code.state ≡ false → is_in_use state ≡ false → takes_slot state ≡ true → IsKept (with_state codes serial state) slots next (set records code.slot after) slot_of current taken
      moved was_unused unused t = kept_with slot_of current taken (noted_stays t) kept.few_methods (entries_stay was_unused unused) (λ k l. full_where_taken t k l (cases_eq k code.slot))

      pub released : (slot_of' : ℕ → Option ℕ) (taken' : ℕ) → Puts slot_of slot_of' serial None → is_in_use code.state ≡ false → is_in_use state ≡ false → takes_slot state ≡ false → taken' ≤ taken → taken' ≤ code.slot → IsKept (with_state codes serial state) slots next (set records code.slot after) slot_of' current taken'
      released slot_of' taken' put was_unused unused t l m = kept_with slot_of' current taken' (noted_gone slot_of' t put) kept.few_methods (entries_stay was_unused unused) (λ k less. rw (records_put.others k (λ e. omega arith)) (kept.full k (omega arith)))

pub unused_not_entrant : (state : CodeState) → is_not_entrant state ≡ true → is_in_use state ≡ false
unused_not_entrant InUse h = absurd (false≢true h)
unused_not_entrant NotEntrant h = refl
unused_not_entrant Zombie h = refl
unused_not_entrant Freed h = refl

pub unused_zombie : (state : CodeState) → is_zombie state ≡ true → is_in_use state ≡ false
unused_zombie InUse h = absurd (false≢true h)
unused_zombie NotEntrant h = refl
unused_zombie Zombie h = refl
unused_zombie Freed h = refl

pub some_of : {A B : Type 0} (f : A → B) (x : B) (o : Option A) → Some x ≡ option_map f o → is_some o ≡ true
some_of f x None h = let no : Some x ≡ None = h in cc
some_of f x (Some y) h = refl
