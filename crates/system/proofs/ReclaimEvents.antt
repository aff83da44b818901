-- Invalidate, Look and Weigh, and their records.
use Rattle.std.proofs.Common.{◌≡◌, ◌≢◌, ◌∙◌, ◌<◌, ◌≤◌, sym, ap, refl, subst, ℕ, zero, suc, Bool, true, false, not, ◌&&◌, ◌||◌, cond, List, [], ◌∷◌, Option, Some, None, Result, Ok, Err, length, get_or, ⊎_elim, arith}
use Rattle.std.specs.Prelude.{slice_get, slice_set, slice_index_or, find, nat_lt, ◌==◌}
use Rattle.std.proofs.lemmas.Bool.{false≢true, eqb-true, eq-eqb, ne_eqb, lt-ltb, le-ltb, and_parts, false_from_ne_true, cases_lt}
use Rattle.std.proofs.lemmas.List.{length-set, get_or-set_other, get_or-replicate}
use Rattle.std.proofs.lemmas.Option.{slice_get-get_or, slice_get_within}
use mathlib.Core.Logic.{dite}
use native.Mathlib.Decide.{ℕ_discrete}
use Rattle.activation_index.specs.declared.Entry.{Entry as Cell}
use Rattle.activation_index.specs.Cells.{count_at}
use Rattle.method_table.specs.declared.Code.{Code}
use Rattle.method_table.specs.declared.CodeState.{CodeState}
use Rattle.method_table.specs.declared.CodeState.TheVariants.{InUse, NotEntrant, Zombie, Freed}
use Rattle.method_table.specs.TableView.{TableView, invalidate_fault}
use Rattle.method_table.specs.Numbers.{below}
use Rattle.method_table.specs.Codes.{id_of, is_in_use, is_not_entrant, takes_slot, code_of, unfreed, with_state}
use Rattle.system.specs.declared.events.Event.{Event}
use Rattle.system.specs.declared.events.Event.TheVariants as event
use Rattle.system.specs.declared.answers.Answer.{Answer}
use Rattle.system.specs.declared.answers.Answer.TheVariants as answer
use Rattle.system.specs.declared.answers.Refusal.{Refusal}
use Rattle.system.specs.declared.answers.Refusal.TheVariants as refusal
use Rattle.system.specs.declared.records.Record.{Record}
use Rattle.system.specs.declared.thread.Thread.{Thread as Kept}
use Rattle.system.specs.declared.keeping.Core.{Core}
use Rattle.system.specs.Verdict.{refused, accepted, unless◌refuse◌then◌}
use Rattle.system.specs.Threads.{Thread}
use Rattle.system.specs.Log.{moment, is_looked}
use Rattle.system.specs.Moments.{invalidated, left_at, ended, published_at}
use Rattle.system.specs.World.{World, thread_at, walk, covered}
use Rattle.system.specs.Step.{outcome, of_code, invalidate, look, clear_or_late, unlooked, weigh, weigh_all}
use Rattle.system.specs.Facts.{IsSound}
use Rattle.system.specs.Stands.{Matches, SamePlace, SameRecord, SameRecords, SameCells, Does, held_at}
use Rattle.system.specs.Kept.Records.{new_record, with_look, not_entrant, is_clear}
use Rattle.system.proofs.Lists.{found_passes, find_place, find_push, find_push_none}
use Rattle.system.proofs.Outcomes.{coded, IsCode}
use Rattle.system.proofs.Seats.{get_set_same, get_set_other, there_of}
use Rattle.system.proofs.Table.{code_serial, unfreed_code, unfreed_takes}
use Rattle.system.proofs.Logs.{noted_matches}
use Rattle.system.proofs.CodeEvents.{Recodes, accepted_in, refused_does, coded_matches, record_next, restated_at, restated_records, restated_cells}
use Rattle.system.proofs.Cells.{cells_stay, count_here}

-- The item read at an index is there.
pub at_index : {A : Type 0} (xs : List A) (i : ℕ) (x : A) → i < length xs → x ≡ get_or xs i x → slice_get xs i ≡ Some x
at_index xs i x low e = slice_get-get_or xs i x low ∙ ap Some (sym e)

-- The code of an unfreed serial.
unfreed_serial : (codes : List Code) (serial : ℕ) (k : Code) → unfreed codes serial ≡ Some k → k.serial ≡ serial
unfreed_serial codes serial k h = eqb-true k.serial serial (and_parts (k.serial == serial) (takes_slot k.state) (found_passes (λ (x : Code). (x.serial == serial) && takes_slot x.state) codes k h)).0

not_entrant_is : (o : Option Code) (code : Code) → not_entrant o ≡ Ok code → (o ≡ Some code) × (code.state ≡ NotEntrant)
not_entrant_is None code h = cc
not_entrant_is (Some k) code h = by k.state refl h
  where
    by : (state : CodeState) → k.state ≡ state → ◌≡◌ {A = Result Code Refusal} (cond (is_not_entrant state) (Ok k) (Err refusal.NotNotEntrant)) (Ok code) → (Some k ≡ Some code) × (code.state ≡ NotEntrant)
    by NotEntrant e h = let same : k ≡ code = cc in (ap Some same, ap (λ (x : Code). x.state) (sym same) ∙ e)
    by InUse e h = cc
    by Zombie e h = cc
    by Freed e h = cc

in_use_is : (o : Option Code) (code : Code) → o ≡ Some code → invalidate_fault o ≡ None → code.state ≡ InUse
in_use_is None code e h = cc
in_use_is (Some k) code e h = let same : k ≡ code = cc in ap (λ (x : Code). x.state) (sym same) ∙ by k.state refl h
  where
    by : (state : CodeState) → k.state ≡ state → invalidate_fault (Some (record k { state = state })) ≡ None → k.state ≡ InUse
    by InUse e h = e
    by NotEntrant e h = cc
    by Zombie e h = cc
    by Freed e h = cc

left_code : (s : Core) (w : World) (serial : ℕ) (code : Code) → Matches s w → not_entrant (unfreed s.table.codes serial) ≡ Ok code → IsCode w serial code NotEntrant
left_code s w serial code m h =
    let f = not_entrant_is (unfreed w.codes serial) code (ap (λ cs. not_entrant (unfreed cs serial)) (sym m.codes) ∙ h) in
    record { found = f.0; state_is = f.1; serial_is = unfreed_serial w.codes serial code f.0 }

code_here : (w : World) (serial : ℕ) (code : Code) (state : CodeState) → IsSound w → IsCode w serial code state → code_of w.codes code.serial ≡ Some code
code_here w serial code state sound i = subst (λ n. code_of w.codes n ≡ Some code) (sym i.serial_is) (unfreed_code w.slots w.methods w.codes sound.table serial code i.found)

-- Two unfreed codes in one slot are the same.
one_slot : (w : World) (a b : Code) → IsSound w → code_of w.codes a.serial ≡ Some a → code_of w.codes b.serial ≡ Some b → takes_slot a.state ≡ true → takes_slot b.state ≡ true → a.slot ≡ b.slot → a.serial ≡ b.serial
one_slot w a b sound found_a found_b takes_a takes_b slots =
    let x = find_place (λ (c : Code). c.serial == a.serial) w.codes a found_a in
    let y = find_place (λ (c : Code). c.serial == b.serial) w.codes b found_b in
    let e = sound.table.one_in_slot x.0 y.0 a b x.1 y.1 takes_a takes_b slots in
    let p = sound.table.serial_is x.0 a x.1 in let q = sound.table.serial_is y.0 b y.1 in omega arith

-- The code is unknown, or has another state than not entrant.
pub no_look : (s : Core) (serial place : ℕ) (r : Refusal) → not_entrant (unfreed s.table.codes serial) ≡ Err r → Does (event.Look serial place) s (answer.Refused r) s
no_look s serial place r h = refused_does s (event.Look serial place) r (λ w m. by w (unfreed w.codes serial) (ap (λ cs. not_entrant (unfreed cs serial)) (sym m.codes) ∙ h))
  where
    two : (w : World) (k : Code) (b : Bool) → is_not_entrant k.state ≡ b → ◌≡◌ {A = Result Code Refusal} (cond b (Ok k) (Err refusal.NotNotEntrant)) (Err r) → look w place k ≡ refused r
    two w k true e h = cc
    two w k false e h = rw e (cc)

    by : (w : World) (o : Option Code) → not_entrant o ≡ Err r → of_code o (look w place) ≡ refused r
    by w None h = cc
    by w (Some k) h = two w k (is_not_entrant k.state) refl h

pub no_weigh : (s : Core) (serial : ℕ) (r : Refusal) → not_entrant (unfreed s.table.codes serial) ≡ Err r → Does (event.Weigh serial) s (answer.Refused r) s
no_weigh s serial r h = refused_does s (event.Weigh serial) r (λ w m. by w (unfreed w.codes serial) (ap (λ cs. not_entrant (unfreed cs serial)) (sym m.codes) ∙ h))
  where
    two : (w : World) (k : Code) (b : Bool) → is_not_entrant k.state ≡ b → ◌≡◌ {A = Result Code Refusal} (cond b (Ok k) (Err refusal.NotNotEntrant)) (Err r) → weigh w k ≡ refused r
    two w k true e h = cc
    two w k false e h = rw e (cc)

    by : (w : World) (o : Option Code) → not_entrant o ≡ Err r → of_code o (weigh w) ≡ refused r
    by w None h = cc
    by w (Some k) h = two w k (is_not_entrant k.state) refl h

-- A look at a missing place.
pub no_place : (s : Core) (serial place : ℕ) (code : Code) → not_entrant (unfreed s.table.codes serial) ≡ Ok code → length s.places.items ≤ place → Does (event.Look serial place) s (answer.Refused refusal.NoSuchPlace) s
no_place s serial place code h high = refused_does s (event.Look serial place) refusal.NoSuchPlace (λ w m.
    let i = left_code s w serial code m h in
    let lengths = m.places.lengths in
    let far : nat_lt place (length w.places) ≡ false = le-ltb place (length w.places) (omega arith) in
    ap (λ o. of_code o (look w place)) i.found ∙ beyond w code (ap is_not_entrant i.state_is) far)
  where
    beyond : (w : World) (code : Code) → is_not_entrant code.state ≡ true → nat_lt place (length w.places) ≡ false → look w place code ≡ refused refusal.NoSuchPlace
    beyond w code left far = rw (left, far) refl

look_found : (w : World) (place : ℕ) (code : Code) (clear : Bool) → is_not_entrant code.state ≡ true → nat_lt place (length w.places) ≡ true → covered w place code.serial ≡ clear → look w place code ≡ accepted w (clear_or_late clear)
look_found w place code clear left low is = rw (left, low) (ap (λ b. accepted w (clear_or_late b)) is)

-- The system's test is the comparison of moments.
clear_by : (w : World) (place left : ℕ) (k : Option Kept) (o : Option Thread) → SamePlace w place k o → ((t : Thread) → o ≡ Some t → t.published ≡ true → 0 < ended place w.log)
    → is_clear left k ≡ ((published_at w.log place o == 0) || nat_lt left (published_at w.log place o))
clear_by w place left None None same from = refl
clear_by w place left (Some kept) (Some t) same from = by t.published same.thread.published (from t refl)
  where
    by : (b : Bool) → kept.published ≡ b → (b ≡ true → 0 < ended place w.log) → (not kept.published || nat_lt left kept.moments.stored) ≡ ((cond b (ended place w.log) 0 == 0) || nat_lt left (cond b (ended place w.log) 0))
    by true e from = let some = from refl in let ne : (ended place w.log == 0) ≡ false = ne_eqb (ended place w.log) 0 (omega arith) in rw (e, ne) (ap (nat_lt left) same.moments.stored_is)
    by false e from = rw e refl
clear_by w place left None (Some t) same from = absurd same
clear_by w place left (Some kept) None same from = absurd same

look_is : (s : Core) (w : World) (serial place : ℕ) (code : Code) (r : Record) (k : Option Kept) → IsSound w → Matches s w → IsCode w serial code NotEntrant → slice_get s.records.items code.slot ≡ Some r → slice_get s.places.items place ≡ Some k
    → covered w place code.serial ≡ is_clear r.left k
look_is s w serial place code r k sound m i at_slot at_place =
    let here = code_here w serial code NotEntrant sound i in
    let was : SameRecord r w code = m.records.each code.serial code r here i.state_is at_slot in
    let same : SamePlace w place k (thread_at w place) = subst (λ o. SamePlace w place (held_at o) (thread_at w place)) at_place (m.places.each place) in
    sound.log.covered_is code.serial place code here (ap is_in_use i.state_is)
    ∙ (sym (clear_by w place (left_at code.serial w.log) k (thread_at w place) same (λ t there published. sound.log.published_from place t (there_of w place t there) published))
    ∙ ap (λ left. is_clear left k) (sym was.left_is))

looks : (s : Core) (w : World) (serial place : ℕ) (code : Code) (r : Record) (k : Option Kept) (clear : Bool) → IsSound w → Matches s w → IsCode w serial code NotEntrant → slice_get s.records.items code.slot ≡ Some r
    → slice_get s.places.items place ≡ Some k → is_clear r.left k ≡ clear → outcome w (event.Look serial place) ≡ accepted w (clear_or_late clear)
looks s w serial place code r k clear sound m i at_slot at_place is =
    let low = slice_get_within s.places.items place k at_place in let lengths = m.places.lengths in
    ap (λ o. of_code o (look w place)) i.found
    ∙ look_found w place code clear (ap is_not_entrant i.state_is) (lt-ltb place (length w.places) (omega arith)) (look_is s w serial place code r k sound m i at_slot at_place ∙ is)

and_none : (b : Bool) → (b && false) ≡ false
and_none true = refl
and_none false = refl

pub late : (s : Core) (serial place : ℕ) (code : Code) (r : Record) (k : Option Kept) → not_entrant (unfreed s.table.codes serial) ≡ Ok code → slice_get s.records.items code.slot ≡ Some r
    → slice_get s.places.items place ≡ Some k → is_clear r.left k ≡ false → Does (event.Look serial place) s answer.Late s
late s serial place code r k h at_slot at_place is = record {
  each = λ w sound m. accepted_in s w w (event.Look serial place) answer.Late (looks s w serial place code r k false sound m (left_code s w serial code m h) at_slot at_place is)
      (noted_matches s w (event.Look serial place) answer.Late
      (record { starts_none = refl; asks_none = refl; rounds_none = refl; invalidates_none = λ n. refl; looks_none = λ n p. and_none ((serial == n) && (place == p)) })
      (λ p. record { starts_not = refl; begins_not = refl; ends_not = refl }) m);
  sizes = record { places = refl; slots = refl; methods = refl };
}

set_true : (xs : List Bool) (i : ℕ) → slice_index_or (slice_set xs i true) i true ≡ true
set_true [] i = refl
set_true (x ∷ xs) zero = refl
set_true (x ∷ xs) (suc i) = set_true xs i

looked_now : (w : World) (serial place : ℕ) (code : Code) (r : Record) → code.serial ≡ serial → SameRecord r w code → SameRecord (with_look r place) (coded w w.codes (event.Look serial place) answer.Clear) code
looked_now w serial place code r serial_is was = record {
  left_is = was.left_is;
  looked_is = λ p lt. dite (ℕ_discrete p place)
      (λ e. (let a : (place == p) ≡ true = eq-eqb place p (sym e) in rw (same, a, e) (set_true r.looked place)))
      (λ ne. (let a : (place == p) ≡ false = ne_eqb place p (λ z. ne (sym z)) in rw (same, a) (get_or-set_other r.looked place p true true ne ∙ was.looked_is p lt)));
}
  where
    same : (serial == code.serial) ≡ true
    same = eq-eqb serial code.serial (sym serial_is)

-- A look changes only the record of its code.
looked_records : (records : List Record) (w : World) (serial place : ℕ) (code : Code) (r : Record) → IsSound w → IsCode w serial code NotEntrant → SameRecords records w → slice_get records code.slot ≡ Some r
    → SameRecords (slice_set records code.slot (with_look r place)) (coded w w.codes (event.Look serial place) answer.Clear)
looked_records records w serial place code r sound i h at_slot = record {
  lengths = length-set records code.slot (with_look r place) ∙ h.lengths;
  each = λ n k x found is at_k. (let at_serial : code_of w.codes k.serial ≡ Some k = subst (λ m. code_of w.codes m ≡ Some k) (sym (code_serial w.codes n k found)) found in
      dite (ℕ_discrete k.serial code.serial)
      (λ e. (let both : Some k ≡ Some code = sym at_serial ∙ (ap (code_of w.codes) e ∙ here) in let is_code : k ≡ code = cc in
      let new : Some (with_look r place) ≡ Some x = sym (get_set_same records code.slot (with_look r place) (slice_get_within records code.slot r at_slot)) ∙ subst (λ (y : Code). slice_get (slice_set records code.slot (with_look r place)) y.slot ≡ Some x) is_code at_k in
      let is_new : with_look r place ≡ x = cc in
      subst (λ (y : Code). SameRecord x after y) (sym is_code) (subst (λ (y : Record). SameRecord y after code) is_new (looked_now w serial place code r i.serial_is (h.each code.serial code r here i.state_is at_slot)))))
      (λ ne. (let apart : k.slot ≢ code.slot = (λ z. ne (one_slot w k code sound at_serial here (ap takes_slot is) (ap takes_slot i.state_is) z)) in
      let other : (serial == k.serial) ≡ false = ne_eqb serial k.serial (λ z. ne (sym z ∙ sym i.serial_is)) in
      record_next x w w.codes (event.Look serial place) answer.Clear k refl (λ p. rw other refl) (h.each n k x found is (sym (get_set_other records code.slot k.slot (with_look r place) apart) ∙ at_k)))));
}
  where
    here : code_of w.codes code.serial ≡ Some code
    here = code_here w serial code NotEntrant sound i

    after : World
    after = coded w w.codes (event.Look serial place) answer.Clear

pub clear : (s t : Core) (serial place : ℕ) (code : Code) (r : Record) (k : Option Kept) → not_entrant (unfreed s.table.codes serial) ≡ Ok code → slice_get s.records.items code.slot ≡ Some r
    → slice_get s.places.items place ≡ Some k → is_clear r.left k ≡ true → Recodes s t s.table.codes → t.records.items ≡ slice_set s.records.items code.slot (with_look r place) → t.index ≡ s.index → Does (event.Look serial place) s answer.Clear t
clear s t serial place code r k h at_slot at_place is same records index = record {
  each = λ w sound m. (let i = left_code s w serial code m h in
      accepted_in t w w (event.Look serial place) answer.Clear (looks s w serial place code r k true sound m i at_slot at_place is)
      (coded_matches s t w w.codes (event.Look serial place) answer.Clear (subst (Recodes s t) m.codes same)
      (record { starts_none = refl; asks_none = refl; rounds_none = refl; elsewhere = λ p. record { starts_not = refl; begins_not = refl; ends_not = refl } }) m
      (rw records (looked_records s.records.items w serial place code r sound i m.records at_slot))
      (rw index (cells_stay s.index w (coded w w.codes (event.Look serial place) answer.Clear) refl refl refl m.index))));
  sizes = record { places = ap (λ v. length v.items) same.places; slots = ap (λ (x : TableView). x.slots) same.table; methods = ap (λ (x : TableView). x.methods) same.table };
}

-- A code that still takes a slot keeps its slot's cell.
taken_cells : (cells : List Cell) (w : World) (serial : ℕ) (state : CodeState) (code : Code) (e : Event) (a : Answer) → IsSound w → unfreed w.codes serial ≡ Some code → takes_slot state ≡ true → SameCells cells w
    → SameCells cells (coded w (with_state w.codes serial state) e a)
taken_cells cells w serial state code e a sound found takes same = restated_cells cells w serial state e a
    (λ k is. (let one : Some code ≡ Some k = sym (unfreed_code w.slots w.methods w.codes sound.table serial code found) ∙ is in
    let are : code ≡ k = cc in subst (λ (c : Code). takes_slot c.state ≡ true) are (unfreed_takes w.codes serial code found)))
    (λ k is frees. absurd (false≢true (sym frees ∙ takes))) same

invalidate_accepted : (w : World) (serial : ℕ) (code : Code) → IsCode w serial code InUse → outcome w (event.Invalidate serial) ≡ accepted (record w { codes = with_state w.codes serial NotEntrant }) answer.Done
invalidate_accepted w serial code i = ap (λ o. of_code o (invalidate w)) i.found ∙ by (ap is_in_use i.state_is) i.serial_is
  where
    by : is_in_use code.state ≡ true → code.serial ≡ serial → invalidate w code ≡ accepted (record w { codes = with_state w.codes serial NotEntrant }) answer.Done
    by used same = rw (used, same) refl

-- The record of a code that was just invalidated.
left_now : (w : World) (serial now : ℕ) (k : Code) → IsSound w → now ≡ moment w.log → length w.places ≤ 64 → k.serial ≡ serial → invalidated serial w.log ≡ false
    → SameRecord (new_record now) (coded w (with_state w.codes serial NotEntrant) (event.Invalidate serial) answer.Done) k
left_now w serial now k sound is few serial_is stays = record {
  left_is = is ∙ sym (left_is_now (eq-eqb serial k.serial (sym serial_is)) unleft);
  looked_is = λ p lt. get_or-replicate 64 p false true (omega arith) ∙ sym (false_from_ne_true (is_looked w.log k.serial p) (λ l. false≢true (sym unleft ∙ sound.log.looked_after k.serial p l)));
}
  where
    unleft : invalidated k.serial w.log ≡ false
    unleft = subst (λ n. invalidated n w.log ≡ false) (sym serial_is) stays

    left_is_now : (serial == k.serial) ≡ true → invalidated k.serial w.log ≡ false → left_at k.serial (record { event = event.Invalidate serial; answer = answer.Done } ∷ w.log) ≡ moment w.log
    left_is_now same stays = rw (same, stays) refl

invalidated_records : (records : List Record) (w : World) (serial now : ℕ) (code : Code) → IsSound w → IsCode w serial code InUse → now ≡ moment w.log → length w.places ≤ 64 → SameRecords records w → code.slot < length records
    → SameRecords (slice_set records code.slot (new_record now)) (coded w (with_state w.codes serial NotEntrant) (event.Invalidate serial) answer.Done)
invalidated_records records w serial now code sound i is few h low = record {
  lengths = length-set records code.slot (new_record now) ∙ h.lengths;
  each = λ n k x found left at_k. restated_at w.codes serial NotEntrant n k found
      (λ j was at_serial is_k. (
      let n_is : n ≡ code.serial = sym (code_serial w.codes n j was) ∙ (at_serial ∙ sym i.serial_is) in
      let both : Some j ≡ Some code = sym was ∙ (ap (code_of w.codes) n_is ∙ here) in let same : j ≡ code = cc in
      let slots : k.slot ≡ code.slot = ap (λ (y : Code). y.slot) is_k ∙ ap (λ (y : Code). y.slot) same in
      let serials : k.serial ≡ serial = ap (λ (y : Code). y.serial) is_k ∙ at_serial in
      let new : Some (new_record now) ≡ Some x = sym (get_set_same records code.slot (new_record now) low) ∙ subst (λ slot. slice_get (slice_set records code.slot (new_record now)) slot ≡ Some x) slots at_k in
      let is_new : new_record now ≡ x = cc in
      subst (λ (y : Record). SameRecord y after k) is_new (left_now w serial now k sound is few serials (sound.log.in_use_stays serial code (unfreed_code w.slots w.methods w.codes sound.table serial code i.found) (ap is_in_use i.state_is)))))
      (λ ne was. (
      let at_serial : code_of w.codes k.serial ≡ Some k = subst (λ m. code_of w.codes m ≡ Some k) (sym (code_serial w.codes n k was)) was in
      let apart : k.slot ≢ code.slot = (λ z. ne (one_slot w k code sound at_serial here (ap takes_slot left) (ap takes_slot i.state_is) z ∙ i.serial_is)) in
      record_next x w (with_state w.codes serial NotEntrant) (event.Invalidate serial) answer.Done k (ne_eqb serial k.serial (λ z. ne (sym z))) (λ p. refl)
      (h.each n k x was left (sym (get_set_other records code.slot k.slot (new_record now) apart) ∙ at_k))));
}
  where
    here : code_of w.codes code.serial ≡ Some code
    here = code_here w serial code InUse sound i

    after : World
    after = coded w (with_state w.codes serial NotEntrant) (event.Invalidate serial) answer.Done

pub left : (s t : Core) (serial : ℕ) (code : Code) → unfreed s.table.codes serial ≡ Some code → invalidate_fault (unfreed s.table.codes serial) ≡ None → length s.places.items ≤ 64 → code.slot < length s.records.items
    → Recodes s t (with_state s.table.codes serial NotEntrant) → t.records.items ≡ slice_set s.records.items code.slot (new_record s.moment) → t.index ≡ s.index → Does (event.Invalidate serial) s answer.Done t
left s t serial code found used few low same records index = record {
  each = λ w sound m. (
      let in_world : unfreed w.codes serial ≡ Some code = ap (λ cs. unfreed cs serial) (sym m.codes) ∙ found in
      let i : IsCode w serial code InUse = record { found = in_world; state_is = in_use_is (unfreed s.table.codes serial) code found used; serial_is = unfreed_serial w.codes serial code in_world } in
      let lengths = m.places.lengths in
      let few_places : length w.places ≤ 64 = omega arith in
      accepted_in t w (record w { codes = with_state w.codes serial NotEntrant }) (event.Invalidate serial) answer.Done (invalidate_accepted w serial code i)
      (coded_matches s t w (with_state w.codes serial NotEntrant) (event.Invalidate serial) answer.Done (subst (λ cs. Recodes s t (with_state cs serial NotEntrant)) m.codes same)
      (record { starts_none = refl; asks_none = refl; rounds_none = refl; elsewhere = λ p. record { starts_not = refl; begins_not = refl; ends_not = refl } }) m
      (rw records (invalidated_records s.records.items w serial s.moment code sound i m.moment_is few_places m.records low))
      (rw index (taken_cells s.index w serial NotEntrant code (event.Invalidate serial) answer.Done sound in_world refl m.index))));
  sizes = record { places = ap (λ v. length v.items) same.places; slots = ap (λ (x : TableView). x.slots) same.table; methods = ap (λ (x : TableView). x.methods) same.table };
}

-- Weigh searches for the least number that passes.
none_below : (test : ℕ → Bool) (n : ℕ) → ((q : ℕ) → q < n → test q ≡ false) → find test (below n) ≡ None
none_below test zero h = refl
none_below test (suc n) h = find_push_none test (below n) n (none_below test n (λ q lt. h q (omega arith))) ∙ ap (λ b. cond b (Some n) None) (h n (omega arith))

least_below : (test : ℕ → Bool) (n place : ℕ) → place < n → test place ≡ true → ((q : ℕ) → q < place → test q ≡ false) → find test (below n) ≡ Some place
least_below test zero place low passes h = absurd (omega arith)
least_below test (suc n) place low passes h = ⊎_elim
    (λ lt. find_push test (below n) n place (least_below test n place lt passes h))
    (λ ge. (let same : n ≡ place = omega arith in
    find_push_none test (below n) n (none_below test n (λ q lt. h q (omega arith))) ∙ (ap (λ b. cond b (Some n) None) (ap test same ∙ passes) ∙ ap Some same)))
    (cases_lt place n)

weigh_found : (w : World) (serial : ℕ) (code : Code) (o : Option ℕ) → IsCode w serial code NotEntrant → unlooked w code.serial ≡ o → outcome w (event.Weigh serial) ≡ weigh_all w code o
weigh_found w serial code o i is =
    ap (λ o. of_code o (weigh w)) i.found ∙ (ap (λ b. unless b refuse refusal.NotNotEntrant then weigh_all w code (unlooked w code.serial)) (ap is_not_entrant i.state_is) ∙ ap (weigh_all w code) is)

-- The record has the places with a Clear look.
pub record Unlooked (r : Record) (places place : ℕ) : Type 0 where
  pub low : place < places
  pub is_unlooked : slice_index_or r.looked place true ≡ false
  pub least : (other : ℕ) → other < place → slice_index_or r.looked other true ≡ true

pub not_looked : (s : Core) (serial place : ℕ) (code : Code) (r : Record) → not_entrant (unfreed s.table.codes serial) ≡ Ok code → slice_get s.records.items code.slot ≡ Some r → Unlooked r (length s.places.items) place
    → Does (event.Weigh serial) s (answer.NotLooked place) s
not_looked s serial place code r h at_slot u = record {
  each = λ w sound m. (
      let i = left_code s w serial code m h in
      let was : SameRecord r w code = m.records.each code.serial code r (code_here w serial code NotEntrant sound i) i.state_is at_slot in
      let lengths = m.places.lengths in let low = u.low in
      let low_place : place < length w.places = omega arith in
      let is : unlooked w code.serial ≡ Some place = least_below (λ p. not (is_looked w.log code.serial p)) (length w.places) place low_place (ap not (sym (was.looked_is place low_place) ∙ u.is_unlooked))
      (λ q lt. ap not (sym (was.looked_is q (omega arith)) ∙ u.least q lt)) in
      accepted_in s w w (event.Weigh serial) (answer.NotLooked place) (weigh_found w serial code (Some place) i is)
      (noted_matches s w (event.Weigh serial) (answer.NotLooked place) (record { starts_none = refl; asks_none = refl; rounds_none = refl; invalidates_none = λ n. refl; looks_none = λ n p. refl })
      (λ p. record { starts_not = refl; begins_not = refl; ends_not = refl }) m));
  sizes = record { places = refl; slots = refl; methods = refl };
}

-- All places have a Clear look.
all_looked : (s : Core) (w : World) (serial : ℕ) (code : Code) (r : Record) → IsSound w → Matches s w → IsCode w serial code NotEntrant → slice_get s.records.items code.slot ≡ Some r
    → ((place : ℕ) → place < length s.places.items → slice_index_or r.looked place true ≡ true) → unlooked w code.serial ≡ None
all_looked s w serial code r sound m i at_slot all =
    let was : SameRecord r w code = m.records.each code.serial code r (code_here w serial code NotEntrant sound i) i.state_is at_slot in
    let lengths = m.places.lengths in
    none_below (λ p. not (is_looked w.log code.serial p)) (length w.places) (λ q lt. ap not (sym (was.looked_is q lt) ∙ all q (omega arith)))

counts_walk : (s : Core) (w : World) (serial n : ℕ) (code : Code) → IsSound w → Matches s w → IsCode w serial code NotEntrant → n ≡ count_at s.index code.slot serial → n ≡ walk w (id_of code)
counts_walk s w serial n code sound m i is = is ∙ count_here s.index w m.index sound.table serial code i.found

pub used : (s : Core) (serial n : ℕ) (code : Code) (r : Record) → not_entrant (unfreed s.table.codes serial) ≡ Ok code → slice_get s.records.items code.slot ≡ Some r
    → ((place : ℕ) → place < length s.places.items → slice_index_or r.looked place true ≡ true) → n ≡ count_at s.index code.slot serial → n ≢ 0 → Does (event.Weigh serial) s (answer.Used n) s
used s serial n code r h at_slot all is some = record {
  each = λ w sound m. (
      let i = left_code s w serial code m h in
      let walks = counts_walk s w serial n code sound m i is in
      let said : outcome w (event.Weigh serial) ≡ accepted w (answer.Used (walk w (id_of code))) =
      weigh_found w serial code None i (all_looked s w serial code r sound m i at_slot all) ∙ by w code (ne_eqb (walk w (id_of code)) 0 (λ z. some (walks ∙ z))) in
      rw walks (accepted_in s w w (event.Weigh serial) (answer.Used (walk w (id_of code))) said
      (noted_matches s w (event.Weigh serial) (answer.Used (walk w (id_of code))) (record { starts_none = refl; asks_none = refl; rounds_none = refl; invalidates_none = λ n. refl; looks_none = λ n p. refl })
      (λ p. record { starts_not = refl; begins_not = refl; ends_not = refl }) m)));
  sizes = record { places = refl; slots = refl; methods = refl };
}
  where
    by : (w : World) (code : Code) → (walk w (id_of code) == 0) ≡ false → weigh_all w code None ≡ accepted w (answer.Used (walk w (id_of code)))
    by w code e = rw e refl

pub retired : (s t : Core) (serial n : ℕ) (code : Code) (r : Record) → not_entrant (unfreed s.table.codes serial) ≡ Ok code → slice_get s.records.items code.slot ≡ Some r
    → ((place : ℕ) → place < length s.places.items → slice_index_or r.looked place true ≡ true) → n ≡ count_at s.index code.slot serial → n ≡ 0
    → Recodes s t (with_state s.table.codes serial Zombie) → t.records ≡ s.records → t.index ≡ s.index → Does (event.Weigh serial) s answer.Retired t
retired s t serial n code r h at_slot all is none same records index = record {
  each = λ w sound m. (
      let i = left_code s w serial code m h in
      let walks = counts_walk s w serial n code sound m i is in
      let said : outcome w (event.Weigh serial) ≡ accepted (record w { codes = with_state w.codes serial Zombie }) answer.Retired =
      weigh_found w serial code None i (all_looked s w serial code r sound m i at_slot all) ∙ by w code i.serial_is (eq-eqb (walk w (id_of code)) 0 (sym walks ∙ none)) in
      accepted_in t w (record w { codes = with_state w.codes serial Zombie }) (event.Weigh serial) answer.Retired said
      (coded_matches s t w (with_state w.codes serial Zombie) (event.Weigh serial) answer.Retired (subst (λ cs. Recodes s t (with_state cs serial Zombie)) m.codes same)
      (record { starts_none = refl; asks_none = refl; rounds_none = refl; elsewhere = λ p. record { starts_not = refl; begins_not = refl; ends_not = refl } }) m
      (rw records (restated_records s.records.items w serial Zombie (event.Weigh serial) answer.Retired (λ e. cc) (λ n. refl) (λ n p. refl) m.records))
      (rw index (taken_cells s.index w serial Zombie code (event.Weigh serial) answer.Retired sound i.found refl m.index))));
  sizes = record { places = ap (λ v. length v.items) same.places; slots = ap (λ (x : TableView). x.slots) same.table; methods = ap (λ (x : TableView). x.methods) same.table };
}
  where
    by : (w : World) (code : Code) → code.serial ≡ serial → (walk w (id_of code) == 0) ≡ true → weigh_all w code None ≡ accepted (record w { codes = with_state w.codes serial Zombie }) answer.Retired
    by w code e z = rw z (rw e refl)
