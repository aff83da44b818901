-- A thread starts in the least vacant place.
use Rattle.std.proofs.Common.{◌≡◌, ◌≢◌, ◌∙◌, ◌+◌, ◌<◌, ◌≤◌, sym, ap, refl, subst, ℕ, zero, suc, Bool, true, false, ◌&&◌, ◌||◌, ◌==◌, eqb, List, [], ◌∷◌, Option, Some, None, length, arith}
use Rattle.std.specs.Prelude.{slice_get, slice_set, sum_by, option_map, nat_lt, is_some}
use Rattle.std.specs.List.{list_any}
use Rattle.std.proofs.lemmas.Bool.Decides.{nat_tests}
use Rattle.std.proofs.lemmas.List.Sums.{sum_by-cons}
use Rattle.std.proofs.lemmas.Option.{slice_get_within}
use mathlib.Core.Logic.{dite}
use native.Mathlib.Decide.{ℕ_discrete}
use Rattle.frames.specs.declared.CodeId.{CodeId}
use Rattle.method_table.specs.declared.Code.{Code}
use Rattle.method_table.specs.Numbers.{last_number}
use Rattle.method_table.specs.Codes.{id_of}
use Rattle.operations.specs.Requests.{is_census, is_target}
use Rattle.operations.specs.Names.{among}
use Rattle.system.specs.declared.events.Event.{Event}
use Rattle.system.specs.declared.events.Event.TheVariants as event
use Rattle.system.specs.declared.answers.Answer.{Answer}
use Rattle.system.specs.declared.answers.Answer.TheVariants as answer
use Rattle.system.specs.declared.answers.Refusal.TheVariants.{SafepointOpen, PlacesFull, Spent}
use Rattle.system.specs.declared.requests.Open.{Open}
use Rattle.system.specs.declared.thread.Thread.{Thread as Kept}
use Rattle.system.specs.declared.keeping.Core.{Core}
use Rattle.system.specs.Operations.{Opened, is_marked, is_safepoint}
use Rattle.system.specs.Log.{Entry, names_given, operations_given, moment}
use Rattle.system.specs.Threads.{Thread}
use Rattle.system.specs.World.{World, threads, part_at, thread_at, found, vacant_place, is_live}
use Rattle.system.specs.Step.{new_thread, with_place}
use Rattle.system.specs.Facts.{IsSound}
use Rattle.system.specs.Memory.{Accepts}
use Rattle.system.specs.Kept.Threads.{IsNew}
use Rattle.system.specs.Marking.{SameMarks, SameOpened, SameOpens}
use Rattle.system.specs.Kept.Censuses.{has_census}
use Rattle.system.specs.Stands.{Matches, SamePlace, SameAt, Does, walk_of, kept_at, held_at}
use Rattle.system.proofs.Cells.{cells_over}
use Rattle.system.proofs.Outcomes.{seated}
use Rattle.system.proofs.Logs.{IsElsewhere, names_next, operations_next, moment_next, moments_next}
use Rattle.system.proofs.AfterAct.{places_set, length_set}
use Rattle.system.proofs.Pairs.{any_same, opens_over}
use Rattle.system.proofs.PlainActs.{nowhere, vacant, seat, at_place, accepted_in}

-- the least vacant place is in range and vacant
pub vacant_there : (ks : List (Option Kept)) (p : ℕ) → vacant_place ks ≡ Some p → slice_get ks p ≡ Some None
vacant_there [] p e = cc
vacant_there (None ∷ ks) p e = (let is : 0 ≡ p = cc in subst (λ n. slice_get (None ∷ ks) n ≡ Some None) is refl)
vacant_there (Some k ∷ ks) p e = by (vacant_place ks) refl e (vacant_there ks)
  where
    by : (o : Option ℕ) → vacant_place ks ≡ o → option_map (λ n. 1 + n) o ≡ Some p → ((q : ℕ) → vacant_place ks ≡ Some q → slice_get ks q ≡ Some None) → slice_get (Some k ∷ ks) p ≡ Some None
    by None f h rest = cc
    by (Some q) f h rest = (let is : suc q ≡ p = (let j : 1 + q ≡ p = cc in omega (arith, j)) in subst (λ n. slice_get (Some k ∷ ks) n ≡ Some None) is (rest q f))

pub vacant_low : (ks : List (Option Kept)) (p : ℕ) → vacant_place ks ≡ Some p → p < length ks
vacant_low ks p e = within ks p (vacant_there ks p e)
  where
    within : (xs : List (Option Kept)) (i : ℕ) → slice_get xs i ≡ Some None → i < length xs
    within [] i h = cc
    within (x ∷ xs) zero h = omega arith
    within (x ∷ xs) (suc i) h = let l = within xs i h in omega arith

-- it is the world's least vacant place too
same_vacant : (ks : List (Option Kept)) (ts : List (Option Thread)) → length ks ≡ length ts → ((p : ℕ) → is_some (held_at (slice_get ks p)) ≡ is_some (found (slice_get ts p))) → vacant_place ks ≡ vacant_place ts
same_vacant [] [] len each = refl
same_vacant [] (t ∷ ts) len each = absurd (omega arith)
same_vacant (k ∷ ks) [] len each = absurd (omega arith)
same_vacant (None ∷ ks) (None ∷ ts) len each = refl
same_vacant (Some k ∷ ks) (Some t ∷ ts) len each = ap (option_map (λ n. 1 + n)) (same_vacant ks ts (omega arith) (λ p. each (suc p)))
same_vacant (None ∷ ks) (Some t ∷ ts) len each = (let bad : false ≡ true = each 0 in cc)
same_vacant (Some k ∷ ks) (None ∷ ts) len each = (let bad : true ≡ false = each 0 in cc)

both_some : (w : World) (p : ℕ) (k : Option Kept) (o : Option Thread) → SamePlace w p k o → is_some k ≡ is_some o
both_some w p None None h = refl
both_some w p (Some k) (Some t) h = refl
both_some w p None (Some t) h = absurd h
both_some w p (Some k) None h = absurd h

pub vacant_is : (s : Core) (w : World) → Matches s w → vacant_place s.places.items ≡ vacant_place w.places
vacant_is s w m = same_vacant s.places.items w.places m.places.lengths (λ p. both_some w p (kept_at s.places.items p) (thread_at w p) (m.places.each p))

-- a safepoint is open
pub safepoint_is : (opens : List Open) (opened : List Opened) (w : World) → SameOpens opens opened w → list_any (λ (o : Opened). is_census o.request) opened ≡ has_census opens
safepoint_is opens opened w h = any_same w (λ a. is_census a.request) (λ o. is_census o.request) (λ a o same. ap is_census (sym same.request)) opens opened h

-- the system after a start
pub record Started (s new : Core) (p name : ℕ) (kept : Kept) : Type 0 where
  pub table : new.table ≡ s.table
  pub records : new.records ≡ s.records
  pub index : new.index ≡ s.index
  pub names : new.names ≡ name
  pub moment : new.moment ≡ s.moment
  pub requests : new.requests ≡ s.requests
  pub places : new.places.items ≡ slice_set s.places.items p (Some kept)
  pub new_is : IsNew kept name

abbrev started_entry : ℕ → ℕ → Entry
started_entry name p = record { event = event.Start; answer = answer.Thread name p }

absurd_at : (a b : Bool) → a ≡ true → a ≡ false → ⊥
absurd_at a b h k = (let e : true ≡ false = sym h ∙ k in cc)

-- no operation was ever told to a new name
new_marks : (w : World) (name : ℕ) (kept : Kept) → IsSound w → name ≡ names_given w.log + 1 → IsNew kept name → SameMarks kept.marks w.requests name
new_marks w name kept sound is new = rw new.marks_are (record {
  told_last = λ n told. absurd (never n told);
  told_is = λ some. absurd (omega arith);
  told_all = λ i o at live. absurd (omega (arith, sound.marks.live_given i o name at live, is));
  done_is = λ i o at told. absurd (never o.number told);
  done_old = omega arith;
  cleared_is = λ n told. absurd (never n told);
  cleared_old = omega arith;
})
  where
    never : (n : ℕ) → is_marked w.requests.told n name ≡ true → ⊥
    never n told = omega (arith, sound.marks.told_given n name told, is)

own_test : (p : ℕ) → eqb p p ≡ true
own_test p = grind (arith, nat_tests)

differs : (p q : ℕ) → q ≢ p → eqb p q ≡ false
differs p q h = by (eqb p q) refl
  where
    by : (b : Bool) → eqb p q ≡ b → eqb p q ≡ false
    by true e = absurd (h (grind (arith, nat_tests)))
    by false e = e

new_at : (v w : World) (p name : ℕ) (kept : Kept) → IsSound w → name ≡ names_given w.log + 1 → IsNew kept name → v.requests ≡ w.requests → v.log ≡ started_entry name p ∷ w.log → SameAt v p kept (new_thread name)
new_at v w p name kept sound is new requests log = record {
  thread = record {
    name = new.name_is;
    state = new.state_is;
    held = new.held_is;
    published = new.published_is;
    image = record { frames = new.image_is.0; publishing = new.image_is.1; counted = λ code. new.image_is.2 code };
  };
  marks = rw requests (new_marks w name kept sound is new);
  moments = rw (log, new.moments_are) (record { begun_is = rw (own_test p) refl; stored_is = rw (own_test p) refl });
}

elsewhere : (name p q : ℕ) → q ≢ p → IsElsewhere q (started_entry name p)
elsewhere name p q h = record { starts_not = differs p q h; begins_not = refl; ends_not = refl }

-- the sums over the places are unchanged
walk_new : (places : List (Option Thread)) (p name : ℕ) (code : CodeId) → slice_get places p ≡ Some None → sum_by (part_at code) (slice_set places p (Some (new_thread name))) ≡ sum_by (part_at code) places
walk_new [] p name code e = cc
walk_new (o ∷ os) zero name code e =
    let is : part_at code o ≡ 0 = ap (part_at code) (let k : o ≡ None = cc in k) in
    omega (arith, sum_by-cons (part_at code) (Some (new_thread name)) os, sum_by-cons (part_at code) o os, is)
walk_new (o ∷ os) (suc p) name code e = omega (arith, sum_by-cons (part_at code) o (slice_set os p (Some (new_thread name))), sum_by-cons (part_at code) o os, walk_new os p name code e)

walk_with : (w : World) (p name : ℕ) (e : Event) (a : Answer) (o : Option Code) → slice_get w.places p ≡ Some None → walk_of (seated w p (Some (new_thread name)) e a) o ≡ walk_of w o
walk_with w p name e a None there = refl
walk_with w p name e a (Some code) there = walk_new w.places p name (id_of code) there

-- a thread that lives after a start is the new one or lived before
live_with : (name new : ℕ) (places : List (Option Thread)) (p : ℕ) → slice_get places p ≡ Some None → (new ≡ name → ⊥) → list_any (λ (x : Thread). x.name == name) (threads (slice_set places p (Some (new_thread new)))) ≡ list_any (λ (x : Thread). x.name == name) (threads places)
live_with name new [] p e differ = cc
live_with name new (o ∷ os) zero e differ = (let is : o ≡ None = cc in rw (is, differs new name (λ k. differ (sym k))) refl)
live_with name new (None ∷ os) (suc p) e differ = live_with name new os p e differ
live_with name new (Some x ∷ os) (suc p) e differ = ap (λ b. (x.name == name) || b) (live_with name new os p e differ)

live_over : (w v : World) (p name : ℕ) → slice_get w.places p ≡ Some None → v.places ≡ slice_set w.places p (Some (new_thread name)) → (other : ℕ) → (name ≡ other → ⊥) → is_live v other ≡ is_live w other
live_over w v p name there places other differ = ap (λ ps. list_any (λ (x : Thread). x.name == other) (threads ps)) places ∙ live_with other name w.places p there differ

names_tests : (n k : ℕ) → n < k → Rattle.std.specs.Prelude.nat_le k n ≡ false
names_tests n k h = grind (arith, nat_tests)

-- the new thread is a live target of no open operation
opened_over_start : (w v : World) (p name : ℕ) → IsSound w → name ≡ names_given w.log + 1 → names_given v.log ≡ name → slice_get w.places p ≡ Some None → v.places ≡ slice_set w.places p (Some (new_thread name))
    → (i : ℕ) (open_ : Open) (o : Opened) → slice_get w.requests.opened i ≡ Some o → SameOpened open_ o w → SameOpened open_ o v
opened_over_start w v p name sound is given there places i open_ o at h = record {
  number = h.number;
  request = h.request;
  operated = h.operated;
  names = omega (arith, h.names, is, given);
  live = λ other lives. dite (ℕ_discrete name other) (λ same. subst (λ k. among k o.live ≡ Rattle.std.specs.Prelude.nat_le k open_.names && is_target o.request k) same (none_new (among name o.live) refl))
      (λ differ. h.live other (sym (live_over w v p name there places other differ) ∙ lives));
}
  where
    none_new : (b : Bool) → among name o.live ≡ b → among name o.live ≡ Rattle.std.specs.Prelude.nat_le name open_.names && is_target o.request name
    none_new true e = absurd (omega (arith, is, sound.marks.live_given i o name at e))
    none_new false e = e ∙ sym (rw (names_tests open_.names name (omega (arith, h.names, is))) refl)

started_matches : (s new : Core) (w : World) (p name : ℕ) (kept : Kept) → Matches s w → IsSound w → Started s new p name kept → name ≡ names_given w.log + 1 → slice_get w.places p ≡ Some None → Matches new (seated w p (Some (new_thread name)) event.Start (answer.Thread name p))
started_matches s new w p name kept m sound k is there =
    let entry : Entry = started_entry name p in
    let v : World = seated w p (Some (new_thread name)) event.Start (answer.Thread name p) in
    let given : names_given v.log ≡ name = (let h : names_given (entry ∷ w.log) ≡ 1 + names_given w.log = names_next entry w.log in omega (arith, h, is)) in
    let same_moment : moment (entry ∷ w.log) ≡ moment w.log = (let h : moment (entry ∷ w.log) ≡ 0 + moment w.log = moment_next entry w.log in omega (arith, h)) in
    let same_numbers : operations_given (entry ∷ w.log) ≡ operations_given w.log = (let h : operations_given (entry ∷ w.log) ≡ 0 + operations_given w.log = operations_next entry w.log in omega (arith, h)) in
    record {
      slots = ap (λ tb. tb.slots) k.table ∙ m.slots;
      methods = ap (λ tb. tb.methods) k.table ∙ m.methods;
      codes = ap (λ tb. tb.codes) k.table ∙ m.codes;
      places = places_set s.places.items new.places.items w v p (Some kept) (Some (new_thread name)) m.places k.places refl (slice_get_within w.places p None there)
          (λ q other x differ at same. record { thread = same.thread; marks = same.marks; moments = moments_next q entry w.log other.moments (elsewhere name p q differ) same.moments })
          (new_at v w p name kept sound is k.new_is refl refl);
      records = rw k.records (record {
        lengths = m.records.lengths;
        each = λ serial code r found state at_slot. (let was = m.records.each serial code r found state at_slot in record { left_is = was.left_is; looked_is = λ q lt. was.looked_is q (let e = length_set w.places p (Some (new_thread name)) in omega (arith, lt, e)) });
      });
      names = k.names ∙ sym given;
      moment_is = k.moment ∙ (m.moment_is ∙ sym same_moment);
      numbers = ap (λ r. r.numbers) k.requests ∙ (m.numbers ∙ sym same_numbers);
      waiting = rw k.requests m.waiting;
      opened = rw k.requests (opens_over w v s.requests.opens w.requests.opened (opened_over_start w v p name sound is given there refl) m.opened);
      index = rw k.index (cells_over s.index w v refl refl (λ o. walk_with w p name event.Start (answer.Thread name p) o there) m.index);
    }

-- the system's vacant place is vacant in the world
world_vacant : (s : Core) (w : World) (p : ℕ) → Matches s w → vacant_place s.places.items ≡ Some p → slice_get w.places p ≡ Some None
world_vacant s w p m e = elim (at_place s w p m) [
  | nowhere f x ↦ (let bad : None ≡ Some None = sym f ∙ vacant_there s.places.items p e in cc)
  | vacant f x ↦ x
  | seat kept t f x same ↦ (let bad : Some (Some kept) ≡ Some None = sym f ∙ vacant_there s.places.items p e in cc)
]

pub refused_full : (s : Core) → has_census s.requests.opens ≡ false → vacant_place s.places.items ≡ None → Does event.Start s (answer.Refused PlacesFull) s
refused_full s safe none = record {
  each = λ w sound m. (
      let quiet : is_safepoint w.requests ≡ false = safepoint_is s.requests.opens w.requests.opened w m.opened ∙ safe in
      let full : vacant_place w.places ≡ None = sym (vacant_is s w m) ∙ none in
      record { answer = rw (quiet, full) refl; matches = rw (quiet, full) m });
  sizes = record { places = refl; slots = refl; methods = refl };
}

pub refused_open : (s : Core) → has_census s.requests.opens ≡ true → Does event.Start s (answer.Refused SafepointOpen) s
refused_open s open_ = record {
  each = λ w sound m. (
      let is_open : is_safepoint w.requests ≡ true = safepoint_is s.requests.opens w.requests.opened w m.opened ∙ open_ in
      record { answer = rw is_open refl; matches = rw is_open m });
  sizes = record { places = refl; slots = refl; methods = refl };
}

spent_test : (n : ℕ) → last_number ≤ n → nat_lt n last_number ≡ false
spent_test n h = grind (arith, nat_tests)

room_test : (n : ℕ) → n < last_number → nat_lt n last_number ≡ true
room_test n h = grind (arith, nat_tests)

pub refused_spent : (s : Core) (p : ℕ) → has_census s.requests.opens ≡ false → vacant_place s.places.items ≡ Some p → last_number ≤ s.names → Does event.Start s (answer.Refused Spent) s
refused_spent s p safe some spent = record {
  each = λ w sound m. (
      let quiet : is_safepoint w.requests ≡ false = safepoint_is s.requests.opens w.requests.opened w m.opened ∙ safe in
      let place : vacant_place w.places ≡ Some p = sym (vacant_is s w m) ∙ some in
      let test : nat_lt (names_given w.log) last_number ≡ false = spent_test (names_given w.log) (subst (λ n. last_number ≤ n) m.names spent) in
      record { answer = rw (quiet, place, test) refl; matches = rw (quiet, place, test) m });
  sizes = record { places = refl; slots = refl; methods = refl };
}

pub start_does : (s new : Core) (p name : ℕ) (kept : Kept) → has_census s.requests.opens ≡ false → vacant_place s.places.items ≡ Some p → s.names < last_number → name ≡ s.names + 1 → Started s new p name kept → Does event.Start s (answer.Thread name p) new
start_does s new p name kept safe some room next k = record {
  each = λ w sound m. (
      let quiet : is_safepoint w.requests ≡ false = safepoint_is s.requests.opens w.requests.opened w m.opened ∙ safe in
      let place : vacant_place w.places ≡ Some p = sym (vacant_is s w m) ∙ some in
      let test : nat_lt (names_given w.log) last_number ≡ true = room_test (names_given w.log) (subst (λ n. n < last_number) m.names room) in
      let is : name ≡ names_given w.log + 1 = next ∙ ap (λ n. n + 1) m.names in
      accepted_in new w event.Start (with_place w p (Some (new_thread name))) (answer.Thread name p) (answer.Thread name p) (rw (quiet, place, test, is) refl) refl
      (started_matches s new w p name kept m sound k is (world_vacant s w p m some)));
  sizes = record {
    places = ap length k.places ∙ length_set s.places.items p (Some kept);
    slots = ap (λ tb. tb.slots) k.table;
    methods = ap (λ tb. tb.methods) k.table;
  };
}

pub may_start : (s : Core) (p : ℕ) → has_census s.requests.opens ≡ false → vacant_place s.places.items ≡ Some p → s.names < last_number → Accepts s event.Start
may_start s p safe some room = λ w sound m. (
    let quiet : is_safepoint w.requests ≡ false = safepoint_is s.requests.opens w.requests.opened w m.opened ∙ safe in
    let place : vacant_place w.places ≡ Some p = sym (vacant_is s w m) ∙ some in
    let test : nat_lt (names_given w.log) last_number ≡ true = room_test (names_given w.log) (subst (λ n. n < last_number) m.names room) in
    rw (quiet, place, test) refl)
