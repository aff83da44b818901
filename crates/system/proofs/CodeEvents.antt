-- The events of codes: their answers, and the system after them.
use Rattle.std.proofs.Common.{◌≡◌, ◌≢◌, ◌∙◌, ◌+◌, ◌<◌, sym, ap, ap₂, refl, subst, ⊎_elim, ℕ, zero, suc, Bool, true, false, ◌&&◌, cond, List, [], ◌∷◌, ◌++◌, Option, Some, None, length, arith}
use Rattle.std.specs.Prelude.{not, slice_get, slice_set, option_map, is_some, nat_lt, nat_le, sum_by, ◌==◌}
use Rattle.std.proofs.lemmas.Bool.{eqb-true, eqb-false, false≢true, not-true, and_parts, and_cases}
use Rattle.std.proofs.lemmas.List.Sums.{sum_by-cons}
use mathlib.Core.Logic.{dite}
use native.Mathlib.Decide.{ℕ_discrete}
use Rattle.frames.specs.declared.CodeId.{CodeId}
use Rattle.frames.specs.Stack.{act}
use Rattle.activation_index.specs.declared.Entry.{Entry as Cell}
use Rattle.activation_index.specs.Cells.{cell_of, count_at}
use Rattle.method_table.specs.declared.Code.{Code}
use Rattle.method_table.specs.declared.CodeState.{CodeState}
use Rattle.method_table.specs.declared.CodeState.TheVariants.{InUse, NotEntrant, Zombie, Freed}
use Rattle.method_table.specs.declared.table.InstallFault.{InstallFault}
use Rattle.method_table.specs.declared.table.InstallFault.TheVariants as fault
use Rattle.method_table.specs.declared.table.FreeFault.TheVariants as free_faults
use Rattle.method_table.specs.TableView.{TableView, install_fault, free_fault}
use Rattle.method_table.specs.Numbers.{last_number, below}
use Rattle.method_table.specs.Codes.{id_of, is_zombie, takes_slot, is_taken, code_of, unfreed, in_use_for, free_slot, next_serial, with_code, in_state, with_state, without_use}
use Rattle.system.specs.declared.events.Event.{Event}
use Rattle.system.specs.declared.events.Event.TheVariants as event
use Rattle.system.specs.declared.answers.Answer.{Answer}
use Rattle.system.specs.declared.answers.Answer.TheVariants as answer
use Rattle.system.specs.declared.answers.Refusal.{Refusal}
use Rattle.system.specs.declared.answers.Refusal.TheVariants as refusal
use Rattle.system.specs.declared.records.Record.{Record}
use Rattle.system.specs.declared.keeping.Core.{Core}
use Rattle.system.specs.Verdict.{Verdict, refused, accepted, unless◌refuse◌then◌}
use Rattle.system.specs.Threads.{Thread, has_changed, part}
use Rattle.system.specs.Log.{Entry, is_start, is_ask, is_round, is_invalidate, is_look, says_clear, names_given, operations_given, moment}
use Rattle.system.specs.World.{World, thread_at, part_at, walk}
use Rattle.system.specs.Step.{outcome, of_code, install_in, free, count}
use Rattle.system.specs.Facts.{IsGiven, TableIsSound, ThreadsAreSound, IsSound, may_stand}
use Rattle.system.specs.Memory.{Accepts}
use Rattle.system.specs.Runs.{entries, answer_to}
use Rattle.system.specs.Safepoints.{is_accepted}
use Rattle.system.specs.Stands.{Matches, SamePlaces, SameRecord, SameRecords, DoesIn, Does, kept_at, SameCells}
use Rattle.system.proofs.Lists.{found_passes, find_place, find_push, find_push_none, at_low, same_at, any_none_at, below_low, map_length, push_length}
use Rattle.system.proofs.Cells.{count_here}
use Rattle.system.proofs.Seats.{get_set_same, get_set_other}
use Rattle.system.proofs.AfterAct.{length_set}
use Rattle.system.proofs.Outcomes.{coded}
use Rattle.system.proofs.Table.{code_serial, code_with_state, in_state_here, in_state_other, in_state_slot, unfreed_code, unfreed_takes}
use Rattle.system.proofs.Logs.{IsElsewhere, names_next, operations_next, moment_next, left_next, looked_next, moments_next, place_over, opened_over, noted_matches}

-- An equal answer gives the same event.
pub answered_as : (s t : Core) (e : Event) (a b : Answer) → a ≡ b → Does e s a t → Does e s b t
answered_as s t e a b same does = subst (λ x. Does e s x t) same does

pub none_some : {A : Type 0} {x : A} → None ≡ Some x → ⊥
none_some e = cc

pub same_some : {A : Type 0} {x y : A} → Some x ≡ Some y → x ≡ y
same_some e = cc

-- A known outcome decides the answer and the world after it.
pub accepted_in : (s : Core) (w v : World) (e : Event) (a : Answer) → outcome w e ≡ accepted v a → Matches s (record v { log = entries w e a ++ w.log }) → DoesIn e a s w
accepted_in s w v e a h m = record { answer = rw h refl; matches = rw h m }

pub refused_in : (s : Core) (w : World) (e : Event) (r : Refusal) → outcome w e ≡ refused r → Matches s w → DoesIn e (answer.Refused r) s w
refused_in s w e r h m = record { answer = rw h refl; matches = rw h m }

pub refused_does : (s : Core) (e : Event) (r : Refusal) → ((w : World) → Matches s w → outcome w e ≡ refused r) → Does e s (answer.Refused r) s
refused_does s e r h = record { each = λ w sound m. refused_in s w e r (h w m) m; sizes = record { places = refl; slots = refl; methods = refl } }

-- The system after a change of codes: only the table and the records change.
pub record Recodes (s t : Core) (codes : List Code) : Type 0 where
  pub table : t.table ≡ record s.table { codes = codes }
  pub places : t.places ≡ s.places
  pub names : t.names ≡ s.names
  pub moment_is : t.moment ≡ s.moment
  pub requests : t.requests ≡ s.requests

-- A log entry of an event of codes.
pub record IsOfCodes (e : Event) (a : Answer) : Type 0 where
  pub starts_none : is_start e ≡ false
  pub asks_none : is_ask e ≡ false
  pub rounds_none : is_round e ≡ false
  pub elsewhere : (place : ℕ) → IsElsewhere place (record { event = e; answer = a })

pub coded_matches : (s t : Core) (w : World) (codes : List Code) (e : Event) (a : Answer) → Recodes s t codes → IsOfCodes e a → Matches s w → SameRecords t.records.items (coded w codes e a)
    → SameCells t.index (coded w codes e a) → Matches t (coded w codes e a)
coded_matches s t w codes e a k q m records cells =
    let entry : Entry = record { event = e; answer = a } in
    let names : names_given (entry ∷ w.log) ≡ names_given w.log = (let n = names_next entry w.log ∙ ap (λ b. cond b 1 0 + names_given w.log) q.starts_none in omega arith) in
    let numbers : operations_given (entry ∷ w.log) ≡ operations_given w.log = (let n = operations_next entry w.log ∙ ap (λ b. cond b 1 0 + operations_given w.log) q.asks_none in omega arith) in
    let now : moment (entry ∷ w.log) ≡ moment w.log = (let n = moment_next entry w.log ∙ ap (λ b. cond b 1 0 + moment w.log) q.rounds_none in omega arith) in
    let places : SamePlaces s.places.items (coded w codes e a) = record {
      lengths = m.places.lengths;
      each = λ place. place_over w (coded w codes e a) place (kept_at s.places.items place) (thread_at w place)
          (λ kept u there same. record { thread = same.thread; marks = same.marks; moments = moments_next place entry w.log kept.moments (q.elsewhere place) same.moments }) (m.places.each place);
    } in
    record {
      slots = ap (λ (x : TableView). x.slots) k.table ∙ m.slots;
      methods = ap (λ (x : TableView). x.methods) k.table ∙ m.methods;
      codes = ap (λ (x : TableView). x.codes) k.table;
      places = rw k.places places;
      records = records;
      names = k.names ∙ (m.names ∙ sym names);
      moment_is = k.moment_is ∙ (m.moment_is ∙ sym now);
      numbers = rw k.requests (m.numbers ∙ sym numbers);
      waiting = rw k.requests m.waiting;
      opened = rw k.requests (opened_over s.requests.opens w.requests.opened w (coded w codes e a) (omega arith) (λ name lives. lives) m.opened);
      index = cells;
    }

-- A record is unchanged by an entry that is neither an invalidation nor a look of its code.
pub record_next : (r : Record) (w : World) (codes : List Code) (e : Event) (a : Answer) (code : Code) → is_invalidate code.serial e ≡ false → ((place : ℕ) → (is_look code.serial place e && says_clear a) ≡ false)
    → SameRecord r w code → SameRecord r (coded w codes e a) code
record_next r w codes e a code stays unlooked h = record {
  left_is = h.left_is ∙ sym (left_next code.serial (record { event = e; answer = a }) w.log stays);
  looked_is = λ place lt. h.looked_is place lt ∙ sym (looked_next code.serial place (record { event = e; answer = a }) w.log (unlooked place));
}

-- The code of a serial after a change of state: changed if it has the serial, otherwise the same.
pub restated_at : {P : Type 0} (codes : List Code) (s : ℕ) (state : CodeState) (r : ℕ) (code : Code) → code_of (with_state codes s state) r ≡ Some code
    → ((k : Code) → code_of codes r ≡ Some k → k.serial ≡ s → code ≡ record k { state = state } → P) → (code.serial ≢ s → code_of codes r ≡ Some code → P) → P
restated_at {P = P} codes s state r code found here other = by (code_of codes r) refl (sym (code_with_state codes s state r) ∙ found)
  where
    by : (o : Option Code) → code_of codes r ≡ o → option_map (in_state s state) o ≡ Some code → P
    by None is h = cc
    by (Some k) is h = let same : in_state s state k ≡ code = cc in
        dite (ℕ_discrete k.serial s) (λ e. here k is e (sym same ∙ in_state_here s state k e))
        (λ e. (let was : k ≡ code = sym (in_state_other s state k e) ∙ same in other (λ x. e (ap (λ (y : Code). y.serial) was ∙ x)) (is ∙ ap Some was)))

-- A retired or freed code needs no record.
pub restated_records : (records : List Record) (w : World) (s : ℕ) (state : CodeState) (e : Event) (a : Answer) → state ≢ NotEntrant
    → ((r : ℕ) → is_invalidate r e ≡ false) → ((r place : ℕ) → (is_look r place e && says_clear a) ≡ false) → SameRecords records w → SameRecords records (coded w (with_state w.codes s state) e a)
restated_records records w s state e a differs stays unlooked h = record {
  lengths = h.lengths;
  each = λ serial code r found is at_slot. restated_at w.codes s state serial code found
      (λ k was here new. absurd (differs (ap (λ (y : Code). y.state) (sym new) ∙ is)))
      (λ ne was. record_next r w (with_state w.codes s state) e a code (stays code.serial) (unlooked code.serial) (h.each serial code r was is at_slot));
}

-- A code keeps its cell in another state. A freed code must count nothing.
pub restated_cells : (cells : List Cell) (w : World) (s : ℕ) (state : CodeState) (e : Event) (a : Answer) → ((k : Code) → code_of w.codes s ≡ Some k → takes_slot k.state ≡ true)
    → ((k : Code) → code_of w.codes s ≡ Some k → takes_slot state ≡ false → walk w (id_of k) ≡ 0) → SameCells cells w → SameCells cells (coded w (with_state w.codes s state) e a)
restated_cells cells w s state e a taken none h = record {
  lengths = h.lengths;
  here = λ serial code found takes. restated_at w.codes s state serial code found
      (λ k was is new. subst (λ (c : Code). slice_get cells c.slot ≡ Some (cell_of serial (walk w (id_of c)))) (sym new) (h.here serial k was (taken k (ap (code_of w.codes) (sym is ∙ code_serial w.codes serial k was) ∙ was))))
      (λ ne was. h.here serial code was takes);
  own = λ slot cell at_slot some. (let o = h.own slot cell at_slot some in
      (in_state s state o.0, code_with_state w.codes s state cell.serial ∙ ap (option_map (in_state s state)) o.1, stays slot cell at_slot some o.0 o.1 o.2 o.3, in_state_slot s state o.0 ∙ o.3));
  low = λ slot cell at_slot. (let l = h.low slot cell at_slot in let e = map_length (in_state s state) w.codes in omega arith);
}
  where
    stays : (slot : ℕ) (cell : Cell) → slice_get cells slot ≡ Some cell → 0 < cell.count → (k : Code) → code_of w.codes cell.serial ≡ Some k → takes_slot k.state ≡ true → k.slot ≡ slot → takes_slot (in_state s state k).state ≡ true
    stays slot cell at_slot some k found takes is = dite (ℕ_discrete k.serial s)
        (λ same. ap (λ (c : Code). takes_slot c.state) (in_state_here s state k same) ∙ by same (takes_slot state) refl)
        (λ differ. ap (λ (c : Code). takes_slot c.state) (in_state_other s state k differ) ∙ takes)
      where
        by : k.serial ≡ s → (b : Bool) → takes_slot state ≡ b → takes_slot state ≡ true
        by same true e = e
        by same false e =
            let nothing : walk w (id_of k) ≡ 0 = none k (ap (code_of w.codes) (sym same ∙ code_serial w.codes cell.serial k found) ∙ found) e in
            let there : slice_get cells slot ≡ Some (cell_of cell.serial (walk w (id_of k))) = subst (λ n. slice_get cells n ≡ Some (cell_of cell.serial (walk w (id_of k)))) is (h.here cell.serial k found takes) in
            let cell_is : cell ≡ cell_of cell.serial (walk w (id_of k)) = same_at cells slot cell (cell_of cell.serial (walk w (id_of k))) at_slot there in
            let count_is = ap (λ (c : Cell). c.count) cell_is in
            absurd (omega (arith, count_is, nothing, some))

-- No thread has a frame of the next code.
none_of : (w : World) → TableIsSound w.slots w.methods w.codes → (c : CodeId) → c.serial ≡ next_serial w.codes → IsGiven w.codes c → ⊥
none_of w table c is given =
    let place = find_place (λ (x : Code). x.serial == c.serial) w.codes given.0 given.1 in
    let low = at_low w.codes place.0 given.0 place.1 in
    let at_place = table.serial_is place.0 given.0 place.1 in
    let same = code_serial w.codes c.serial given.0 given.1 in omega arith

sum_none : (c : CodeId) (places : List (Option Thread)) → ((p : ℕ) (t : Thread) → slice_get places p ≡ Some (Some t) → part c t ≡ 0) → sum_by (part_at c) places ≡ 0
sum_none c [] h = refl
sum_none c (None ∷ places) h = let a = sum_by-cons (part_at c) None places in let r = sum_none c places (λ p t x. h (suc p) t x) in omega arith
sum_none c (Some t ∷ places) h = let a = sum_by-cons (part_at c) (Some t) places in let b = h 0 t refl in let r = sum_none c places (λ p t x. h (suc p) t x) in omega arith

next_unwalked : (w : World) → TableIsSound w.slots w.methods w.codes → ThreadsAreSound w.places w.codes (names_given w.log) → (c : CodeId) → c.serial ≡ next_serial w.codes → walk w c ≡ 0
next_unwalked w table threads c is = sum_none c w.places (λ p t x. by t (threads.each p t x).stack_given (threads.each p t x).shown_given (has_changed t c))
  where
    zero_where : (n : ℕ) → (0 < n → IsGiven w.codes c) → n ≡ 0
    zero_where zero given = refl
    zero_where (suc n) given = absurd (none_of w table c is (given (omega arith)))

    by : (t : Thread) → ((c : CodeId) → 0 < act c t.stack → IsGiven w.codes c) → ((c : CodeId) → 0 < act c t.shown → IsGiven w.codes c) → (b : Bool) → cond b (act c t.stack) (act c t.shown) ≡ 0
    by t stacked shown true = zero_where (act c t.stack) (stacked c)
    by t stacked shown false = zero_where (act c t.shown) (shown c)

-- a free slot has no unfreed code
free_apart : (w : World) (slot : ℕ) → free_slot w.codes w.slots ≡ Some slot → (serial : ℕ) (k : Code) → code_of w.codes serial ≡ Some k → takes_slot k.state ≡ true → k.slot ≢ slot
free_apart w slot least serial k found takes e =
    let place = find_place (λ (x : Code). x.serial == serial) w.codes k found in
    let free : is_taken w.codes slot ≡ false = not-true (is_taken w.codes slot) (found_passes (λ s. not (is_taken w.codes s)) (below w.slots) slot least) in
    let fails : (k.slot == slot) && takes_slot k.state ≡ false = any_none_at (λ (x : Code). (x.slot == slot) && takes_slot x.state) w.codes place.0 k free place.1 in
    ⊎_elim (λ d. eqb-false k.slot slot d e) (λ d. false≢true (sym d ∙ takes)) (and_cases (k.slot == slot) (takes_slot k.state) fails)

slot_is_low : (w : World) (slot : ℕ) → free_slot w.codes w.slots ≡ Some slot → slot < w.slots
slot_is_low w slot least = let place = find_place (λ s. not (is_taken w.codes s)) (below w.slots) slot least in below_low w.slots place.0 slot place.1

-- the cell of a free slot counts nothing, and its serial is less than the new one
pub free_cell : (cells : List Cell) (w : World) (slot : ℕ) → free_slot w.codes w.slots ≡ Some slot → SameCells cells w → (cell : Cell) → slice_get cells slot ≡ Some cell → (cell.count ≡ 0) × (cell.serial < next_serial w.codes)
free_cell cells w slot least h cell at_slot = (by cell.count refl, h.low slot cell at_slot)
  where
    by : (n : ℕ) → cell.count ≡ n → cell.count ≡ 0
    by zero e = e
    by (suc n) e = (let o = h.own slot cell at_slot (omega (arith, e)) in absurd (free_apart w slot least cell.serial o.0 o.1 o.2 o.3))

pub installed_cells : (cells : List Cell) (w : World) (method slot : ℕ) (a : Answer) → TableIsSound w.slots w.methods w.codes → ThreadsAreSound w.places w.codes (names_given w.log) → free_slot w.codes w.slots ≡ Some slot → SameCells cells w
    → SameCells (slice_set cells slot (cell_of (next_serial w.codes) 0)) (coded w (with_code w.codes method slot) (event.Install method) a)
installed_cells cells w method slot a table threads least h = record {
  lengths = length_set cells slot zero_cell ∙ h.lengths;
  here = λ serial code found takes. here_by serial code (code_of w.codes serial) refl found takes;
  own = λ at cell at_slot some. dite (ℕ_discrete at slot)
      (λ same. (let is : cell ≡ zero_cell = same_at (slice_set cells slot zero_cell) slot cell zero_cell (subst (λ n. slice_get (slice_set cells slot zero_cell) n ≡ Some cell) same at_slot) placed in
      let count_is = ap (λ (c : Cell). c.count) is in absurd (omega (arith, count_is, some))))
      (λ differ. (let o = h.own at cell (sym (get_set_other cells slot at zero_cell differ) ∙ at_slot) some in (o.0, find_push (λ (x : Code). x.serial == cell.serial) w.codes new o.0 o.1, o.2, o.3)));
  low = λ at cell at_slot. dite (ℕ_discrete at slot)
      (λ same. (let is : cell ≡ zero_cell = same_at (slice_set cells slot zero_cell) slot cell zero_cell (subst (λ n. slice_get (slice_set cells slot zero_cell) n ≡ Some cell) same at_slot) placed in
      let serial_is = ap (λ (c : Cell). c.serial) is in let more = push_length w.codes new in omega (arith, serial_is, more)))
      (λ differ. (let l = h.low at cell (sym (get_set_other cells slot at zero_cell differ) ∙ at_slot) in let more = push_length w.codes new in omega (arith, l, more)));
}
  where
    new : Code
    new = record { serial = next_serial w.codes; slot = slot; method = method; state = InUse }

    zero_cell : Cell
    zero_cell = cell_of (next_serial w.codes) 0

    placed : slice_get (slice_set cells slot (cell_of (next_serial w.codes) 0)) slot ≡ Some (cell_of (next_serial w.codes) 0)
    placed = get_set_same cells slot (cell_of (next_serial w.codes) 0) (let low = slot_is_low w slot least in let long = h.lengths in omega arith)

    here_by : (serial : ℕ) (code : Code) (o : Option Code) → code_of w.codes serial ≡ o → code_of (with_code w.codes method slot) serial ≡ Some code → takes_slot code.state ≡ true
        → slice_get (slice_set cells slot (cell_of (next_serial w.codes) 0)) code.slot ≡ Some (cell_of serial (walk w (id_of code)))
    here_by serial code (Some k) was found takes =
        let is : Some k ≡ Some code = sym (find_push (λ (x : Code). x.serial == serial) w.codes new k was) ∙ found in
        let old : code_of w.codes serial ≡ Some code = was ∙ is in
        get_set_other cells slot code.slot (cell_of (next_serial w.codes) 0) (free_apart w slot least serial code old takes) ∙ h.here serial code old takes
    here_by serial code None was found takes = by (next_serial w.codes == serial) refl (sym (find_push_none (λ (x : Code). x.serial == serial) w.codes new was) ∙ found)
      where
        by : (b : Bool) → (next_serial w.codes == serial) ≡ b → cond b (Some (record { serial = next_serial w.codes; slot = slot; method = method; state = InUse })) None ≡ Some code
            → slice_get (slice_set cells slot (cell_of (next_serial w.codes) 0)) code.slot ≡ Some (cell_of serial (walk w (id_of code)))
        by false e is = cc
        by true e is =
            let code_is : record { serial = next_serial w.codes; slot = slot; method = method; state = InUse } ≡ code = cc in
            let serial_is : next_serial w.codes ≡ serial = eqb-true (next_serial w.codes) serial e in
            subst (λ (c : Code). slice_get (slice_set cells slot (cell_of (next_serial w.codes) 0)) c.slot ≡ Some (cell_of serial (walk w (id_of c)))) code_is
            (placed ∙ ap₂ (λ s n. Some (cell_of s n)) serial_is (sym (next_unwalked w table threads (record { slot = slot; serial = next_serial w.codes }) refl)))

pub installed_records : (records : List Record) (w : World) (method slot : ℕ) (a : Answer) → SameRecords records w → SameRecords records (coded w (with_code w.codes method slot) (event.Install method) a)
installed_records records w method slot a h = record {
  lengths = h.lengths;
  each = λ serial code r found is at_slot. record_next r w (with_code w.codes method slot) (event.Install method) a code refl (λ place. refl) (h.each serial code r (was serial code found is) is at_slot);
}
  where
    new : Code
    new = record { serial = next_serial w.codes; slot = slot; method = method; state = InUse }

    two : (code : Code) (b : Bool) → code.state ≡ NotEntrant → cond b (Some (record { serial = next_serial w.codes; slot = slot; method = method; state = InUse })) None ≡ Some code → None ≡ Some code
    two code true is h = cc
    two code false is h = h

    by : (serial : ℕ) (code : Code) (o : Option Code) → code_of w.codes serial ≡ o → code_of (with_code w.codes method slot) serial ≡ Some code → code.state ≡ NotEntrant → o ≡ Some code
    by serial code (Some k) was found is = sym (find_push (λ (x : Code). x.serial == serial) w.codes new k was) ∙ found
    by serial code None was found is = two code (next_serial w.codes == serial) is (sym (find_push_none (λ (x : Code). x.serial == serial) w.codes new was) ∙ found)

    was : (serial : ℕ) (code : Code) → code_of (with_code w.codes method slot) serial ≡ Some code → code.state ≡ NotEntrant → code_of w.codes serial ≡ Some code
    was serial code found is = by serial code (code_of w.codes serial) refl found is

-- The system's table is the world's.
table_over : (t : TableView) (codes : List Code) (slots methods : ℕ) → t.codes ≡ codes → t.slots ≡ slots → t.methods ≡ methods → t ≡ record { codes = codes; slots = slots; methods = methods }
table_over t codes slots methods a b c = rw (← a, ← b, ← c) refl

pub table_is : (s : Core) (w : World) → Matches s w → s.table ≡ record { codes = w.codes; slots = w.slots; methods = w.methods }
table_is s w m = table_over s.table w.codes w.slots w.methods m.codes m.slots m.methods

pub world_slot : (s : Core) (w : World) (slot : ℕ) → Matches s w → free_slot s.table.codes s.table.slots ≡ Some slot → free_slot w.codes w.slots ≡ Some slot
world_slot s w slot m is = ap (λ (x : TableView). free_slot x.codes x.slots) (sym (table_is s w m)) ∙ is

pub free_within : (s : Core) (w : World) (slot : ℕ) → Matches s w → free_slot s.table.codes s.table.slots ≡ Some slot → slot < length s.index
free_within s w slot m is = let low = slot_is_low w slot (world_slot s w slot m is) in let long = m.index.lengths in omega arith

pub free_for : (s : Core) (w : World) (slot serial : ℕ) → Matches s w → free_slot s.table.codes s.table.slots ≡ Some slot → serial ≡ next_serial s.table.codes
    → (cell : Cell) → slice_get s.index slot ≡ Some cell → (cell.count ≡ 0) × (cell.serial < serial)
free_for s w slot serial m is at cell at_slot =
    let f = free_cell s.index w slot (world_slot s w slot m is) m.index cell at_slot in
    let next : serial ≡ next_serial w.codes = at ∙ ap next_serial m.codes in
    (f.0, subst (λ n. cell.serial < n) (sym next) f.1)

-- The refusal for a fault of an install.
abbrev pub install_refusal : InstallFault → Option Refusal
install_refusal fault.NoSuchMethod = Some refusal.NoSuchMethod
install_refusal fault.TableFull = Some refusal.TableFull
install_refusal fault.SerialsSpent = Some refusal.SerialsSpent
install_refusal fault.NoMemory = None

abbrev fault_by : Bool → Option ℕ → Bool → Option InstallFault
fault_by named slot room = cond named (cond (is_some slot) (cond room None (Some fault.SerialsSpent)) (Some fault.TableFull)) (Some fault.NoSuchMethod)

abbrev verdict_by : World → ℕ → Bool → Option ℕ → Verdict World
verdict_by w method named slot = unless named refuse refusal.NoSuchMethod then install_in w method slot

install_refused : (w : World) (method : ℕ) (named : Bool) (slot : Option ℕ) (room : Bool) (f : InstallFault) (r : Refusal) → nat_le (next_serial w.codes) last_number ≡ room
    → fault_by named slot room ≡ Some f → install_refusal f ≡ Some r → verdict_by w method named slot ≡ refused r
install_refused w method false slot room f r e h is = let same : fault.NoSuchMethod ≡ f = cc in let said = ap install_refusal same ∙ is in cc
install_refused w method true None room f r e h is = let same : fault.TableFull ≡ f = cc in let said = ap install_refusal same ∙ is in cc
install_refused w method true (Some slot) false f r e h is = let same : fault.SerialsSpent ≡ f = cc in let said = ap install_refusal same ∙ is in rw e (cc)
install_refused w method true (Some slot) true f r e h is = cc

install_accepted : (w : World) (method at : ℕ) (named : Bool) (slot : Option ℕ) (room : Bool) → nat_le (next_serial w.codes) last_number ≡ room
    → fault_by named slot room ≡ None → slot ≡ Some at → verdict_by w method named slot ≡ accepted (record w { codes = with_code (without_use w.codes (in_use_for w.codes method)) method at }) (answer.Code (next_serial w.codes))
install_accepted w method at false slot room e h is = cc
install_accepted w method at true None room e h is = cc
install_accepted w method at true (Some slot) false e h is = cc
install_accepted w method at true (Some slot) true e h is = let same : slot ≡ at = cc in rw (e, same) refl

pub no_install : (s : Core) (method : ℕ) (f : InstallFault) (r : Refusal) → install_fault s.table method ≡ Some f → install_refusal f ≡ Some r → Does (event.Install method) s (answer.Refused r) s
no_install s method f r h is = refused_does s (event.Install method) r (λ w m.
    install_refused w method (nat_lt method w.methods) (free_slot w.codes w.slots) (nat_le (next_serial w.codes) last_number) f r refl
    (ap (λ t. install_fault t method) (sym (table_is s w m)) ∙ h) is)

-- The outcome of an accepted install.
pub installs : (s : Core) (w : World) (method slot : ℕ) → Matches s w → install_fault s.table method ≡ None → free_slot s.table.codes s.table.slots ≡ Some slot
    → outcome w (event.Install method) ≡ accepted (record w { codes = with_code (without_use w.codes (in_use_for w.codes method)) method slot }) (answer.Code (next_serial w.codes))
installs s w method slot m h is =
    install_accepted w method slot (nat_lt method w.methods) (free_slot w.codes w.slots) (nat_le (next_serial w.codes) last_number) refl (ap (λ t. install_fault t method) (sym (table_is s w m)) ∙ h) (world_slot s w slot m is)

-- A zombie is freed.
free_accepted : (w : World) (serial : ℕ) (o : Option Code) → unfreed w.codes serial ≡ o → free_fault o ≡ None → of_code o (free w) ≡ accepted (record w { codes = with_state w.codes serial Freed }) answer.Done
free_accepted w serial None e h = cc
free_accepted w serial (Some k) e h = by (is_zombie k.state) refl h
  where
    same : k.serial ≡ serial
    same = eqb-true k.serial serial (and_parts (k.serial == serial) (takes_slot k.state) (found_passes (λ (x : Code). (x.serial == serial) && takes_slot x.state) w.codes k e)).0

    by : (b : Bool) → is_zombie k.state ≡ b → free_fault (Some k) ≡ None → free w k ≡ accepted (record w { codes = with_state w.codes serial Freed }) answer.Done
    by true z h = rw (z, same) refl
    by false z h = let no = rw z at h in cc

-- a code whose frames may not stand has no counts
pub unstood : (w : World) → IsSound w → (serial : ℕ) (k : Code) → code_of w.codes serial ≡ Some k → may_stand k.state ≡ false → walk w (id_of k) ≡ 0
unstood w sound serial k found stands = sum_none (id_of k) w.places (λ p t x. by p t x (part (id_of k) t) refl)
  where
    by : (p : ℕ) (t : Thread) → slice_get w.places p ≡ Some (Some t) → (n : ℕ) → part (id_of k) t ≡ n → part (id_of k) t ≡ 0
    by p t x zero e = e
    by p t x (suc n) e =
        let live = sound.frames.counted p t (id_of k) x (omega (arith, e)) in
        let is : Some live.0 ≡ Some k = sym live.1 ∙ (ap (code_of w.codes) (code_serial w.codes serial k found) ∙ found) in
        let same : live.0 ≡ k = cc in
        absurd (false≢true (sym stands ∙ (ap (λ (c : Code). may_stand c.state) (sym same) ∙ live.3)))

zombie_only : (o : Option Code) (k : Code) → o ≡ Some k → free_fault o ≡ None → may_stand k.state ≡ false
zombie_only None k is h = cc
zombie_only (Some z) k is h = (let same : z ≡ k = cc in subst (λ (c : Code). may_stand c.state ≡ false) same (by z.state h))
  where
    by : (state : CodeState) → cond (is_zombie state) None (Some free_faults.NotZombie) ≡ None → may_stand state ≡ false
    by InUse h = cc
    by NotEntrant h = cc
    by Zombie h = refl
    by Freed h = cc

-- a freed code gives its slot free and has no counts
freed_cells : (cells : List Cell) (w : World) (serial : ℕ) → IsSound w → free_fault (unfreed w.codes serial) ≡ None → SameCells cells w → SameCells cells (coded w (with_state w.codes serial Freed) (event.Free serial) answer.Done)
freed_cells cells w serial sound h same = by (unfreed w.codes serial) refl h
  where
    by : (o : Option Code) → unfreed w.codes serial ≡ o → free_fault o ≡ None → SameCells cells (coded w (with_state w.codes serial Freed) (event.Free serial) answer.Done)
    by None e h = cc
    by (Some z) e h = restated_cells cells w serial Freed (event.Free serial) answer.Done
        (λ k found. subst (λ (c : Code). takes_slot c.state ≡ true) (one k found) (unfreed_takes w.codes serial z e))
        (λ k found frees. unstood w sound serial k found (subst (λ (c : Code). may_stand c.state ≡ false) (one k found) (zombie_only (Some z) z refl h))) same
      where
        one : (k : Code) → code_of w.codes serial ≡ Some k → z ≡ k
        one k found = let is : Some z ≡ Some k = sym (unfreed_code w.slots w.methods w.codes sound.table serial z e) ∙ found in cc

pub freed : (s t : Core) (serial : ℕ) → free_fault (unfreed s.table.codes serial) ≡ None → Recodes s t (with_state s.table.codes serial Freed) → t.records ≡ s.records → t.index ≡ s.index → Does (event.Free serial) s answer.Done t
freed s t serial h k records index = record {
  each = λ w sound m. (
      let codes : Recodes s t (with_state w.codes serial Freed) = subst (λ cs. Recodes s t (with_state cs serial Freed)) m.codes k in
      let said : outcome w (event.Free serial) ≡ accepted (record w { codes = with_state w.codes serial Freed }) answer.Done =
      free_accepted w serial (unfreed w.codes serial) refl (ap (λ cs. free_fault (unfreed cs serial)) (sym m.codes) ∙ h) in
      accepted_in t w (record w { codes = with_state w.codes serial Freed }) (event.Free serial) answer.Done said
      (coded_matches s t w (with_state w.codes serial Freed) (event.Free serial) answer.Done codes
      (record { starts_none = refl; asks_none = refl; rounds_none = refl; elsewhere = λ place. record { starts_not = refl; begins_not = refl; ends_not = refl } }) m
      (rw records (restated_records s.records.items w serial Freed (event.Free serial) answer.Done (λ e. cc) (λ r. refl) (λ r place. refl) m.records)) (rw index (freed_cells s.index w serial sound (ap (λ cs. free_fault (unfreed cs serial)) (sym m.codes) ∙ h) m.index))));
  sizes = record { places = ap (λ v. length v.items) k.places; slots = ap (λ (x : TableView). x.slots) k.table; methods = ap (λ (x : TableView). x.methods) k.table };
}

-- A code's count in the index is the world's.
pub counted : (s : Core) (serial n : ℕ) (code : Code) → unfreed s.table.codes serial ≡ Some code → n ≡ count_at s.index code.slot serial → Does (event.Count serial) s (answer.Count n) s
counted s serial n code is count_is = record {
  each = λ w sound m. (
      let found : unfreed w.codes serial ≡ Some code = ap (λ cs. unfreed cs serial) (sym m.codes) ∙ is in
      let walks : n ≡ walk w (id_of code) = count_is ∙ count_here s.index w m.index sound.table serial code found in
      let said : outcome w (event.Count serial) ≡ accepted w (answer.Count (walk w (id_of code))) = ap (λ o. of_code o (count w)) found in
      rw walks (accepted_in s w w (event.Count serial) (answer.Count (walk w (id_of code))) said
      (noted_matches s w (event.Count serial) (answer.Count (walk w (id_of code)))
      (record { starts_none = refl; asks_none = refl; rounds_none = refl; invalidates_none = λ r. refl; looks_none = λ r place. refl }) (λ place. record { starts_not = refl; begins_not = refl; ends_not = refl }) m)));
  sizes = record { places = refl; slots = refl; methods = refl };
}

pub may_install : (s : Core) (method : ℕ) → install_fault s.table method ≡ None → Accepts s (event.Install method)
may_install s method h = λ w sound m. by w m (free_slot w.codes w.slots) refl
  where
    fault : (w : World) → Matches s w → fault_by (nat_lt method w.methods) (free_slot w.codes w.slots) (nat_le (next_serial w.codes) last_number) ≡ None
    fault w m = ap (λ t. install_fault t method) (sym (table_is s w m)) ∙ h

    full : (named room : Bool) → fault_by named None room ≡ None → ⊥
    full false room e = cc
    full true room e = cc

    by : (w : World) → Matches s w → (slot : Option ℕ) → free_slot w.codes w.slots ≡ slot → is_accepted (answer_to w (event.Install method)) ≡ true
    by w m None e = absurd (full (nat_lt method w.methods) (nat_le (next_serial w.codes) last_number) (rw e at (fault w m)))
    by w m (Some at) e =
        let said : outcome w (event.Install method) ≡ accepted (record w { codes = with_code (without_use w.codes (in_use_for w.codes method)) method at }) (answer.Code (next_serial w.codes)) =
        install_accepted w method at (nat_lt method w.methods) (free_slot w.codes w.slots) (nat_le (next_serial w.codes) last_number) refl (fault w m) e in
        rw said refl
