-- Serials rise by one, so a code's index follows from its serial.
use Rattle.std.proofs.Common.{◌≡◌, ℕ, zero, suc, ◌+◌, ◌<◌, ◌≤◌, ◌∙◌, sym, Bool, true, false, ◌&&◌, List, [], ◌∷◌, ◌++◌, length, Option, Some, None, refl, ap, cond, arith}
use Rattle.std.specs.Prelude.{find, slice_get, is_some, option_map, ◌==◌}
use Rattle.std.proofs.lemmas.Bool.{false≢true, eqb-true, eq-eqb, ne_eqb, and_left, cases_eq}
use Rattle.std.proofs.lemmas.Bool.Decides.{nat_tests}
use Rattle.method_table.specs.declared.Code.{Code}
use Rattle.method_table.specs.declared.CodeState.{CodeState}
use Rattle.method_table.specs.Codes.{code_of, unfreed, takes_slot, in_state, with_state}
use Rattle.method_table.specs.Kept.{IsNumberedFrom}
use Rattle.method_table.proofs.Searches.{find_passes, find_misses, find_at}

-- the code of a serial has it
pub code_of_serial : (codes : List Code) (serial : ℕ) (code : Code) → code_of codes serial ≡ Some code → code.serial ≡ serial
code_of_serial codes serial code h = eqb-true code.serial serial (find_passes (λ c. c.serial == serial) codes code h)

-- no code has a serial before the first
pub none_before : (first serial : ℕ) (q : Code → Bool) (codes : List Code) → IsNumberedFrom first codes → serial < first → find (λ c. (c.serial == serial) && q c) codes ≡ None
none_before first serial q [] n l = refl
none_before first serial q (c ∷ codes) n l =
    let head : (c.serial == serial) ≡ false = ne_eqb c.serial serial (λ e. omega (arith, n.0)) in
    rw head (none_before (first + 1) serial q codes n.1 (omega arith))

pub not_before : (first serial : ℕ) (codes : List Code) → IsNumberedFrom first codes → serial < first → code_of codes serial ≡ None
not_before first serial [] n l = refl
not_before first serial (c ∷ codes) n l =
    let head : (c.serial == serial) ≡ false = ne_eqb c.serial serial (λ e. omega (arith, n.0)) in
    rw head (not_before (first + 1) serial codes n.1 (omega arith))

-- no code has a serial past the last
pub not_past : (first serial : ℕ) (codes : List Code) → IsNumberedFrom first codes → first + length codes ≤ serial → code_of codes serial ≡ None
not_past first serial [] n l = refl
not_past first serial (c ∷ codes) n l =
    let head : (c.serial == serial) ≡ false = ne_eqb c.serial serial (λ e. omega (arith, n.0)) in
    rw head (not_past (first + 1) serial codes n.1 (omega arith))

-- each serial from the first to the last was given out
given_step : (c : Code) (rest : Option Code) (b : Bool) → (b ≡ false → is_some rest ≡ true) → is_some (cond b (Some c) rest) ≡ true
given_step c rest true h = refl
given_step c rest false h = h refl

pub was_given : (first serial : ℕ) (codes : List Code) → IsNumberedFrom first codes → first ≤ serial → serial < first + length codes → is_some (code_of codes serial) ≡ true
was_given first serial [] n l m = absurd (omega arith)
was_given first serial (c ∷ codes) n l m = given_step c (code_of codes serial) (c.serial == serial) (λ e. was_given (first + 1) serial codes n.1 (grind (arith, nat_tests, n.0)) (omega arith))

-- a listed code is the code of its serial
pub listed_is : (first place : ℕ) (codes : List Code) (code : Code) → IsNumberedFrom first codes → slice_get codes place ≡ Some code → (code.serial ≡ first + place) × (code_of codes code.serial ≡ Some code)
listed_is first place [] code n h = let no : None ≡ Some code = h in cc
listed_is first zero (c ∷ codes) code n h =
    let same : c ≡ code = cc in
    let head : (code.serial == code.serial) ≡ true = eq-eqb code.serial code.serial refl in
    let serial : code.serial ≡ first = rw (← same) n.0 in
    (omega arith, rw (same, head) refl)
listed_is first (suc place) (c ∷ codes) code n h =
    let later = listed_is (first + 1) place codes code n.1 h in
    let head : (c.serial == code.serial) ≡ false = ne_eqb c.serial code.serial (λ e. omega (arith, n.0, later.0)) in
    (omega (arith, later.0), rw head later.1)

-- a found code is the code of its serial
pub found_is : (p : Code → Bool) (codes : List Code) (code : Code) → IsNumberedFrom 1 codes → find p codes ≡ Some code → code_of codes code.serial ≡ Some code
found_is p codes code n h = let where_it_is = find_at p codes code h in (listed_is 1 where_it_is.place codes code n where_it_is.is).1

-- a search that finds nothing misses every code
pub missed_is : (p : Code → Bool) (codes : List Code) (serial : ℕ) (code : Code) → find p codes ≡ None → code_of codes serial ≡ Some code → p code ≡ false
missed_is p codes serial code none h = let where_it_is = find_at (λ c. c.serial == serial) codes code h in find_misses p codes where_it_is.place code none where_it_is.is

-- the code of a serial is its unfreed code unless it is freed
unfreed_step : (first serial : ℕ) (c : Code) (codes : List Code) (code : Code) (b t : Bool) → (c.serial == serial) ≡ b → takes_slot c.state ≡ t → IsNumberedFrom first (c ∷ codes) → cond b (Some c) (code_of codes serial) ≡ Some code → takes_slot code.state ≡ true → (code_of codes serial ≡ Some code → unfreed codes serial ≡ Some code) → cond (b && t) (Some c) (unfreed codes serial) ≡ Some code
unfreed_step first serial c codes code true true e f n h takes more = h
unfreed_step first serial c codes code true false e f n h takes more = let same : c ≡ code = cc in absurd (false≢true (sym f ∙ rw same takes))
unfreed_step first serial c codes code false t e f n h takes more = more h

pub unfreed_is : (first serial : ℕ) (codes : List Code) (code : Code) → IsNumberedFrom first codes → code_of codes serial ≡ Some code → takes_slot code.state ≡ true → unfreed codes serial ≡ Some code
unfreed_is first serial [] code n h takes = let no : None ≡ Some code = h in cc
unfreed_is first serial (c ∷ codes) code n h takes = unfreed_step first serial c codes code (c.serial == serial) (takes_slot c.state) refl refl n h takes (λ k. unfreed_is (first + 1) serial codes code n.1 k takes)

-- an unfreed code is the code of its serial and isn't freed
pub is_unfreed : (serial : ℕ) (codes : List Code) (code : Code) → IsNumberedFrom 1 codes → unfreed codes serial ≡ Some code → (code_of codes serial ≡ Some code) × (takes_slot code.state ≡ true) × (code.serial ≡ serial)
is_unfreed serial codes code n h =
    let passes = Rattle.std.proofs.lemmas.Bool.and_parts (code.serial == serial) (takes_slot code.state) (find_passes (λ c. (c.serial == serial) && takes_slot c.state) codes code h) in
    let same : code.serial ≡ serial = eqb-true code.serial serial passes.0 in
    (rw (← same) (found_is (λ c. (c.serial == serial) && takes_slot c.state) codes code n h), passes.1, same)

-- a new code has the next serial
pub numbered_push : (first : ℕ) (codes : List Code) (code : Code) → IsNumberedFrom first codes → code.serial ≡ first + length codes → IsNumberedFrom first (codes ++ code ∷ [])
numbered_push first [] code n e = (omega (arith, e), tt)
numbered_push first (c ∷ codes) code n e = (n.0, numbered_push (first + 1) codes code n.1 (omega (arith, e)))

-- a change of state keeps the serials
state_keeps_serial : (serial : ℕ) (state : CodeState) (c : Code) (b : Bool) → (cond b (record c { state = state }) c).serial ≡ c.serial
state_keeps_serial serial state c true = refl
state_keeps_serial serial state c false = refl

pub numbered_state : (first serial : ℕ) (state : CodeState) (codes : List Code) → IsNumberedFrom first codes → IsNumberedFrom first (with_state codes serial state)
numbered_state first serial state [] n = tt
numbered_state first serial state (c ∷ codes) n = (state_keeps_serial serial state c (c.serial == serial) ∙ n.0, numbered_state (first + 1) serial state codes n.1)

pub state_keeps_length : (serial : ℕ) (state : CodeState) (codes : List Code) → length (with_state codes serial state) ≡ length codes
state_keeps_length serial state [] = refl
state_keeps_length serial state (c ∷ codes) = ap suc (state_keeps_length serial state codes)

-- the code of a serial after a change of state
state_step : (serial asked : ℕ) (state : CodeState) (c : Code) (rest : Option Code) (b : Bool) → (cond b (Some (in_state serial state c)) (option_map (in_state serial state) rest)) ≡ option_map (in_state serial state) (cond b (Some c) rest)
state_step serial asked state c rest true = refl
state_step serial asked state c rest false = refl

pub code_of-with_state : (serial asked : ℕ) (state : CodeState) (codes : List Code) → code_of (with_state codes serial state) asked ≡ option_map (in_state serial state) (code_of codes asked)
code_of-with_state serial asked state [] = refl
code_of-with_state serial asked state (c ∷ codes) =
    let same : (in_state serial state c).serial ≡ c.serial = state_keeps_serial serial state c (c.serial == serial) in
    rw (same, code_of-with_state serial asked state codes) (state_step serial asked state c (code_of codes asked) (c.serial == asked))
