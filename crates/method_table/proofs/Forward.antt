-- States go forward with each edit.
use Rattle.std.proofs.Common.{◌≡◌, ◌⊎◌, ℕ, suc, ◌+◌, ◌≤◌, ◌∙◌, sym, ap, refl, inl, inr, List, [], ◌∷◌, length, Option, Some, None, arith}
use Rattle.std.specs.Prelude.{slice_get}
use Rattle.std.proofs.lemmas.Bool.{cases_eq}
use Rattle.std.proofs.lemmas.Option.{same_Some}
use Rattle.method_table.specs.declared.Code.{Code}
use Rattle.method_table.specs.declared.CodeState.{CodeState}
use Rattle.method_table.specs.declared.CodeState.TheVariants.{InUse, NotEntrant, Zombie, Freed}
use Rattle.method_table.specs.declared.history.Edit.{Edit}
use Rattle.method_table.specs.declared.history.Edit.TheVariants.{Install, Become}
use Rattle.method_table.specs.Codes.{code_of, unfreed, with_code, with_state}
use Rattle.method_table.specs.Edited.{edited}
use Rattle.method_table.specs.Kept.{Puts, IsNumberedFrom}
use Rattle.method_table.specs.TableView.{TableView, invalidate_fault, retire_fault, free_fault}
use Rattle.method_table.specs.Forward.{rank, IsMade, AreMade, GoForward, StatesGoForward, table_after, table_after_all}
use Rattle.method_table.proofs.Serials.{not_past, is_unfreed, numbered_push, numbered_state}
use Rattle.method_table.proofs.KeptLemmas.{put_code, put_state}

-- the codes of a table are numbered from 1
numbered_from : (first : ℕ) (codes : List Code) → ((place : ℕ) (code : Code) → slice_get codes place ≡ Some code → code.serial ≡ place + first) → IsNumberedFrom first codes
numbered_from first [] h = tt
numbered_from first (c ∷ codes) h = ((let here = h 0 c refl in omega (arith, here)), numbered_from (first + 1) codes (λ place code at. (let its = h (suc place) code at in omega (arith, its))))

-- going forward is transitive
then_forward : (first second third : List Code) → GoForward first second → GoForward second third → GoForward first third
then_forward first second third f g serial code h =
    let once = f serial code h in let twice = g serial (record code { state = once.0 }) once.1 in
    let low = once.2 in let high = twice.2 in
    (twice.0, twice.1, omega (arith, low, high))

-- an install leaves all codes unchanged
install_forward : (codes : List Code) (method slot : ℕ) → IsNumberedFrom 1 codes → GoForward codes (with_code codes method slot)
install_forward codes method slot numbered serial code h = (code.state, (put_code codes (record { serial = length codes + 1; slot = slot; method = method; state = InUse }) numbered refl).others serial other ∙ h, omega arith)
  where
    other : serial ≡ length codes + 1 → ⊥
    other e = let no : None ≡ Some code = sym (not_past 1 serial codes numbered (omega arith)) ∙ h in cc

-- a change of state is to a later one
become_forward : (codes : List Code) (serial : ℕ) (state : CodeState) (old : Code) → IsNumberedFrom 1 codes → unfreed codes serial ≡ Some old → rank old.state ≤ rank state → GoForward codes (with_state codes serial state)
become_forward codes serial state old numbered found later other code h = by (cases_eq other serial)
  where
    there : code_of codes serial ≡ Some old
    there = (is_unfreed serial codes old numbered found).0

    put : Puts (code_of codes) (code_of (with_state codes serial state)) serial (Some (record old { state = state }))
    put = put_state codes serial state old there

    by : (other ≡ serial) ⊎ (other ≡ serial → ⊥) → (next : CodeState) × (code_of (with_state codes serial state) other ≡ Some (record code { state = next })) × (rank code.state ≤ rank next)
    by (inl at_serial) =
        let same : old ≡ code = same_Some old code (sym there ∙ (ap (code_of codes) (sym at_serial) ∙ h)) in
        (state, ap (code_of (with_state codes serial state)) at_serial ∙ (put.here ∙ ap (λ (c : Code). Some (record c { state = state })) same), rw (← same) later)
    by (inr ne) = (code.state, put.others other ne ∙ h, omega arith)

-- a code whose change isn't refused is in an earlier state
invalidate_found : (o : Option Code) → invalidate_fault o ≡ None → (code : Code) × (o ≡ Some code) × (rank code.state ≤ rank NotEntrant)
invalidate_found None h = cc
invalidate_found (Some code) h = (code, refl, by code.state refl)
  where
    by : (s : CodeState) → code.state ≡ s → rank code.state ≤ rank NotEntrant
    by InUse e = rw e (omega arith)
    by NotEntrant e = rw e (omega arith)
    by Zombie e = let no = rw e at h in cc
    by Freed e = let no = rw e at h in cc

retire_found : (o : Option Code) → retire_fault o ≡ None → (code : Code) × (o ≡ Some code) × (rank code.state ≤ rank Zombie)
retire_found None h = cc
retire_found (Some code) h = (code, refl, by code.state refl)
  where
    by : (s : CodeState) → code.state ≡ s → rank code.state ≤ rank Zombie
    by InUse e = rw e (omega arith)
    by NotEntrant e = rw e (omega arith)
    by Zombie e = rw e (omega arith)
    by Freed e = let no = rw e at h in cc

free_found : (o : Option Code) → free_fault o ≡ None → (code : Code) × (o ≡ Some code) × (rank code.state ≤ rank Freed)
free_found None h = cc
free_found (Some code) h = (code, refl, by code.state refl)
  where
    by : (s : CodeState) → code.state ≡ s → rank code.state ≤ rank Freed
    by InUse e = rw e (omega arith)
    by NotEntrant e = rw e (omega arith)
    by Zombie e = rw e (omega arith)
    by Freed e = rw e (omega arith)

-- one edit
edit_forward : (table : TableView) (edit : Edit) → IsNumberedFrom 1 table.codes → IsMade table edit → GoForward table.codes (edited table.codes edit)
edit_forward table (Install method slot) numbered made = install_forward table.codes method slot numbered
edit_forward table (Become serial InUse) numbered made = absurd made
edit_forward table (Become serial NotEntrant) numbered made = let it = invalidate_found (unfreed table.codes serial) made in become_forward table.codes serial NotEntrant it.0 numbered it.1 it.2
edit_forward table (Become serial Zombie) numbered made = let it = retire_found (unfreed table.codes serial) made in become_forward table.codes serial Zombie it.0 numbered it.1 it.2
edit_forward table (Become serial Freed) numbered made = let it = free_found (unfreed table.codes serial) made in become_forward table.codes serial Freed it.0 numbered it.1 it.2

edit_numbered : (codes : List Code) (edit : Edit) → IsNumberedFrom 1 codes → IsNumberedFrom 1 (edited codes edit)
edit_numbered codes (Install method slot) numbered = numbered_push 1 codes (record { serial = length codes + 1; slot = slot; method = method; state = InUse }) numbered (omega arith)
edit_numbered codes (Become serial state) numbered = numbered_state 1 serial state codes numbered

-- all edits
edits_forward : (table : TableView) (edits : List Edit) → IsNumberedFrom 1 table.codes → AreMade table edits → GoForward table.codes (table_after_all table edits).codes
edits_forward table [] numbered made = λ serial code h. (code.state, h, omega arith)
edits_forward table (edit ∷ edits) numbered made =
    then_forward table.codes (edited table.codes edit) (table_after_all (table_after table edit) edits).codes
    (edit_forward table edit numbered made.0)
    (edits_forward (table_after table edit) edits (edit_numbered table.codes edit numbered) made.1)

pub states_go_forward : StatesGoForward
states_go_forward table edits is made = edits_forward table edits (numbered_from 1 table.codes is.serials) made
