-- The log with one more entry.
use Rattle.std.proofs.Common.{◌≡◌, ◌∙◌, ◌+◌, ◌<◌, ◌≤◌, sym, ap, refl, subst, ℕ, true, false, ◌&&◌, cond, List, ◌∷◌, Option, Some, None, length, arith}
use Rattle.method_table.specs.Codes.{code_of}
use Rattle.system.specs.declared.events.Event.{Event}
use Rattle.system.specs.declared.answers.Answer.{Answer}
use Rattle.system.specs.declared.thread.Thread.{Thread as Kept}
use Rattle.system.specs.declared.records.Record.{Record}
use Rattle.system.specs.declared.requests.Open.{Open}
use Rattle.system.specs.declared.keeping.Core.{Core}
use Rattle.system.specs.Operations.{Opened}
use Rattle.system.specs.Threads.{Thread}
use Rattle.system.specs.Log.{Entry, is_start, is_ask, is_round, is_begin, is_end, is_invalidate, is_look, says_clear, names_given, operations_given, moment, is_looked}
use Rattle.system.specs.World.{World, thread_at}
use Rattle.system.specs.Moments.{starts, left_at, begun, ended}
use Rattle.system.specs.Stands.{Matches, SamePlace, SameAt, SameRecord, SameRecords, SameMoments, kept_at}
use Rattle.system.specs.Marking.{SameOpens}
use Rattle.system.proofs.Pairs.{opens_over}
use Rattle.system.proofs.Cells.{cells_stay}
use Rattle.system.proofs.Frames.{count_cons}
use Rattle.system.proofs.Outcomes.{noted}

-- the numbers counted in the log with one more entry
pub names_next : (entry : Entry) (log : List Entry) → names_given (entry ∷ log) ≡ cond (is_start entry.event) 1 0 + names_given log
names_next entry log = count_cons (λ (e : Entry). is_start e.event) entry log

pub operations_next : (entry : Entry) (log : List Entry) → operations_given (entry ∷ log) ≡ cond (is_ask entry.event) 1 0 + operations_given log
operations_next entry log = count_cons (λ (e : Entry). is_ask e.event) entry log

pub moment_next : (entry : Entry) (log : List Entry) → moment (entry ∷ log) ≡ cond (is_round entry.event) 1 0 + moment log
moment_next entry log = omega (arith, count_cons (λ (e : Entry). is_round e.event) entry log)

-- an entry that changes no number, and is no invalidation and no clear look
pub record IsQuiet (entry : Entry) : Type 0 where
  pub starts_none : is_start entry.event ≡ false
  pub asks_none : is_ask entry.event ≡ false
  pub rounds_none : is_round entry.event ≡ false
  pub invalidates_none : (serial : ℕ) → is_invalidate serial entry.event ≡ false
  pub looks_none : (serial place : ℕ) → is_look serial place entry.event && says_clear entry.answer ≡ false

-- an entry that is no Begin or End at the place, and starts no thread there
pub record IsElsewhere (place : ℕ) (entry : Entry) : Type 0 where
  pub starts_not : starts place entry.event entry.answer ≡ false
  pub begins_not : is_begin place entry.event ≡ false
  pub ends_not : is_end place entry.event ≡ false

pub quiet_names : (entry : Entry) (log : List Entry) → IsQuiet entry → names_given (entry ∷ log) ≡ names_given log
quiet_names entry log q = let h : names_given (entry ∷ log) ≡ 0 + names_given log = (names_next entry log ∙ ap (λ b. cond {A = ℕ} b 1 0 + names_given log) q.starts_none) in omega (arith, h)

pub quiet_operations : (entry : Entry) (log : List Entry) → IsQuiet entry → operations_given (entry ∷ log) ≡ operations_given log
quiet_operations entry log q = let h : operations_given (entry ∷ log) ≡ 0 + operations_given log = (operations_next entry log ∙ ap (λ b. cond {A = ℕ} b 1 0 + operations_given log) q.asks_none) in omega (arith, h)

pub quiet_moment : (entry : Entry) (log : List Entry) → IsQuiet entry → moment (entry ∷ log) ≡ moment log
quiet_moment entry log q = let h : moment (entry ∷ log) ≡ 0 + moment log = (moment_next entry log ∙ ap (λ b. cond {A = ℕ} b 1 0 + moment log) q.rounds_none) in omega (arith, h)

pub left_next : (serial : ℕ) (entry : Entry) (log : List Entry) → is_invalidate serial entry.event ≡ false → left_at serial (entry ∷ log) ≡ left_at serial log
left_next serial entry log h = rw h refl

pub looked_next : (serial place : ℕ) (entry : Entry) (log : List Entry) → is_look serial place entry.event && says_clear entry.answer ≡ false → is_looked (entry ∷ log) serial place ≡ is_looked log serial place
looked_next serial place entry log h = rw h refl

pub begun_next : (place : ℕ) (entry : Entry) (log : List Entry) → IsElsewhere place entry → begun place (entry ∷ log) ≡ begun place log
begun_next place entry log h = rw (h.starts_not, h.begins_not) refl

pub ended_next : (place : ℕ) (entry : Entry) (log : List Entry) → IsElsewhere place entry → ended place (entry ∷ log) ≡ ended place log
ended_next place entry log h = rw (h.starts_not, h.ends_not) refl

pub moments_next : (place : ℕ) (entry : Entry) (log : List Entry) (m : Rattle.system.specs.declared.thread.Moments.Moments) → IsElsewhere place entry → SameMoments m log place → SameMoments m (entry ∷ log) place
moments_next place entry log m h same = record { begun_is = same.begun_is ∙ sym (begun_next place entry log h); stored_is = same.stored_is ∙ sym (ended_next place entry log h) }

-- a fact of each place also holds in another world
pub place_over : (v w : World) (place : ℕ) (k : Option Kept) (o : Option Thread) → ((kept : Kept) (t : Thread) → o ≡ Some t → SameAt v place kept t → SameAt w place kept t) → SamePlace v place k o → SamePlace w place k o
place_over v w place None None f h = tt
place_over v w place (Some kept) (Some t) f h = f kept t refl h
place_over v w place None (Some t) f h = absurd h
place_over v w place (Some kept) None f h = absurd h

-- the records of codes are unchanged
pub records_next : (records : List Record) (v w : World) (entry : Entry) → IsQuiet entry → w.codes ≡ v.codes → w.slots ≡ v.slots → w.log ≡ entry ∷ v.log → length w.places ≡ length v.places → SameRecords records v → SameRecords records w
records_next records v w entry q codes slots log places same = record {
  lengths = same.lengths ∙ sym slots;
  each = λ serial code r found state at_slot. (
      let was : SameRecord r v code = same.each serial code r (ap (λ cs. code_of cs serial) (sym codes) ∙ found) state at_slot in
      record {
        left_is = was.left_is ∙ (sym (left_next code.serial entry v.log (q.invalidates_none code.serial)) ∙ ap (left_at code.serial) (sym log));
        looked_is = λ place lt. was.looked_is place (let e = places in subst (λ n. place < n) places lt) ∙ (sym (looked_next code.serial place entry v.log (q.looks_none code.serial place)) ∙ ap (λ l. is_looked l code.serial place) (sym log));
      });
}

-- the open operations are unchanged
pub opened_over : (opens : List Open) (opened : List Opened) (v w : World) → names_given v.log ≤ names_given w.log → ((name : ℕ) → Rattle.system.specs.World.is_live w name ≡ true → Rattle.system.specs.World.is_live v name ≡ true) → SameOpens opens opened v → SameOpens opens opened w
opened_over opens opened v w names live h = opens_over v w opens opened (λ i a o at same. record { number = same.number; request = same.request; operated = same.operated; names = omega (arith, same.names, names); live = λ name lives. same.live name (live name lives) }) h

-- the system still matches after an entry that changes nothing
pub noted_matches : (s : Core) (w : World) (e : Event) (a : Answer) → IsQuiet (record { event = e; answer = a }) → ((place : ℕ) → IsElsewhere place (record { event = e; answer = a })) → Matches s w → Matches s (noted w e a)
noted_matches s w e a q elsewhere m =
    let entry : Entry = record { event = e; answer = a } in
    record {
      slots = m.slots;
      methods = m.methods;
      codes = m.codes;
      places = record {
        lengths = m.places.lengths;
        each = λ place. place_over w (noted w e a) place (kept_at s.places.items place) (thread_at w place)
            (λ kept t there same. record { thread = same.thread; marks = same.marks; moments = moments_next place entry w.log kept.moments (elsewhere place) same.moments }) (m.places.each place);
      };
      records = records_next s.records.items w (noted w e a) entry q refl refl refl refl m.records;
      names = m.names ∙ sym (quiet_names entry w.log q);
      moment_is = m.moment_is ∙ sym (quiet_moment entry w.log q);
      numbers = m.numbers ∙ sym (quiet_operations entry w.log q);
      waiting = m.waiting;
      opened = opened_over s.requests.opens w.requests.opened w (noted w e a) (omega (arith, quiet_names entry w.log q)) (λ name lives. lives) m.opened;
      index = cells_stay s.index w (noted w e a) refl refl refl m.index;
    }
