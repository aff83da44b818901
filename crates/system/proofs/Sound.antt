-- Each event preserves the facts of table, threads, numbers and marks, and the sizes.
use Rattle.std.proofs.Common.{◌≡◌, ℕ, suc, ◌+◌, ◌*◌, ◌≤◌, List, [], ◌∷◌, length, Option, Some, None, refl, ◌∙◌, arith, Bool, true, false, cond}
use Rattle.std.specs.Prelude.{slice_get, sum_by}
use Rattle.std.proofs.lemmas.List.Sums.{sum_by-cons}
use Rattle.std.proofs.lemmas.List.{length-set}
use Rattle.frames.specs.declared.CodeId.{CodeId}
use Rattle.frames.specs.Stack.{act}
use Rattle.system.specs.declared.events.Event.{Event}
use Rattle.system.specs.Threads.{Thread, has_changed, part}
use Rattle.system.specs.World.{World, start_world, part_at}
use Rattle.system.specs.Log.{names_given, operations_given, moment}
use Rattle.system.specs.Runs.{after, world_after}
use Rattle.system.specs.Facts.{TableIsSound, ThreadsAreSound, NumbersAreSound, MarksAreSound, OperatedIsTold, CountsAreSound}
use Rattle.method_table.specs.Codes.{id_of}
use Rattle.system.specs.Places.{popped}
use Rattle.system.specs.Step.{new_thread}
use Rattle.system.proofs.Outcomes.{begun, changed_by, ended, entered, moved, held, released}
use Rattle.system.proofs.EventCases.{Cases}
use Rattle.system.proofs.CaseOfEvent.{Simple, by_cases}
use Rattle.system.proofs.Twice.{in_steps}
use Rattle.system.proofs.Frames.{act_length}
use Rattle.system.proofs.Held.{AreSafe, safe_kept}
use Rattle.system.proofs.Table.{table_kept, table_start}
use Rattle.system.proofs.Threads.{threads_kept, threads_start}
use Rattle.system.proofs.Numbers.{numbers_kept, numbers_start}
use Rattle.system.proofs.SoundMarks.{marks_kept, marks_start}
use Rattle.system.proofs.Operated.{operated_kept, operated_start}
use Rattle.system.proofs.Seats.{each_start}

-- All facts that each event preserves.
pub record IsKept (w : World) : Type 0 where
  pub table : TableIsSound w.slots w.methods w.codes
  pub threads : ThreadsAreSound w.places w.codes (names_given w.log)
  pub numbers : NumbersAreSound w.requests.waiting w.requests.opened (names_given w.log) (operations_given w.log) (moment w.log)
  pub marks : MarksAreSound w.places w.requests (names_given w.log) (operations_given w.log)
  pub operated : OperatedIsTold w.places w.requests
  pub safe : AreSafe w

pub kept_simply : (w : World) (e : Event) → Simple w e → IsKept w → IsKept (after w e)
kept_simply w e simple h = record {
  table = by_cases w (λ e a v. TableIsSound v.slots v.methods v.codes) (table_kept w h.table) e simple;
  threads = by_cases w (λ e a v. ThreadsAreSound v.places v.codes (names_given v.log)) (threads_kept w h.threads) e simple;
  numbers = by_cases w (λ e a v. NumbersAreSound v.requests.waiting v.requests.opened (names_given v.log) (operations_given v.log) (moment v.log)) (numbers_kept w h.numbers) e simple;
  marks = by_cases w (λ e a v. MarksAreSound v.places v.requests (names_given v.log) (operations_given v.log)) (marks_kept w h.threads h.numbers h.marks) e simple;
  operated = by_cases w (λ e a v. OperatedIsTold v.places v.requests) (operated_kept w h.numbers h.marks h.operated) e simple;
  safe = by_cases w (λ e a v. AreSafe v) (safe_kept w h.safe) e simple;
}

pub kept : (w : World) (e : Event) → IsKept w → IsKept (after w e)
kept w e h = in_steps IsKept (λ v k. k.table) kept_simply w e h

pub kept_start : (places slots methods : ℕ) → IsKept (start_world places slots methods)
kept_start places slots methods = record {
  table = table_start slots methods;
  threads = threads_start places;
  numbers = numbers_start;
  marks = marks_start places;
  operated = operated_start places;
  safe = λ p t x. absurd (each_start (λ p t. ⊥) places p t x);
}

pub kept_after : (w : World) (events : List Event) → IsKept w → IsKept (world_after w events)
kept_after w [] h = h
kept_after w (e ∷ events) h = kept_after (after w e) events (kept w e h)

-- The counts.
part_few : (t : Thread) (c : CodeId) → length t.stack ≤ 256 → length t.shown ≤ 256 → part c t ≤ 256
part_few t c x y = by (has_changed t c) (act_length c t.stack) (act_length c t.shown)
  where
    by : (b : Bool) → act c t.stack ≤ length t.stack → act c t.shown ≤ length t.shown → cond b (act c t.stack) (act c t.shown) ≤ 256
    by true h k = omega arith
    by false h k = omega arith

sum_few : (f : Option Thread → ℕ) (places : List (Option Thread)) → ((p : ℕ) (o : Option Thread) → slice_get places p ≡ Some o → f o ≤ 256) → sum_by f places ≤ length places * 256
sum_few f [] h = omega arith
sum_few f (o ∷ places) h = let a = sum_by-cons f o places in let b = h 0 o refl in let r = sum_few f places (λ p x e. h (suc p) x e) in omega arith

pub counts_sound : (w : World) → ThreadsAreSound w.places w.codes (names_given w.log) → CountsAreSound w
counts_sound w h = record {
  part_few = λ p t c x. (let s = h.each p t x in part_few t c s.depth s.depth_shown);
  walk_few = λ c. sum_few (part_at c) w.places (λ p o x. at_most c p o x);
}
  where
    at_most : (c : CodeId) (p : ℕ) (o : Option Thread) → slice_get w.places p ≡ Some o → part_at c o ≤ 256
    at_most c p None x = omega arith
    at_most c p (Some t) x = let s = h.each p t x in part_few t c s.depth s.depth_shown

-- Sizes.
abbrev pub SameSizes : World → World → Type 0
SameSizes w v = (length v.places ≡ length w.places) × (v.slots ≡ w.slots) × (v.methods ≡ w.methods)

sizes_kept : (w : World) → Cases w (λ e a v. SameSizes w v)
sizes_kept w = record {
  refuses = λ e r. (refl, refl, refl);
  begins = λ p t i. (length-set w.places p (Some (begun t)), refl, refl);
  changes = λ p t code i. (length-set w.places p (Some (changed_by t code)), refl, refl);
  rests = λ p t i. (length-set w.places p (Some t), refl, refl);
  ends = λ p t i. (length-set w.places p (Some (ended t)), refl, refl);
  moves = λ p t a state given i. (length-set w.places p (Some (moved t state)), refl, refl);
  interprets = λ p t method i. (length-set w.places p (Some (entered t method None)), refl, refl);
  enters = λ p t method serial code i. (length-set w.places p (Some (entered t method (Some (id_of code)))), refl, refl);
  misses = λ p t method serial code i. (length-set w.places p (Some t), refl, refl);
  leaves = λ p t state i. (length-set w.places p (Some (moved (popped t) state)), refl, refl);
  exits = λ p t i. (length-set w.places p None, refl, refl);
  finishes = λ p t opened i. (refl, refl, refl);
  clears = λ p t opened i. (refl, refl, refl);
  holds = λ p t opened i. (length-set w.places p (Some (held t)), refl, refl);
  releases = λ p t i. (length-set w.places p (Some (released t)), refl, refl);
  shows = λ p t i. (length-set w.places p (Some t), refl, refl);
  starts = λ p i. (length-set w.places p (Some (new_thread (names_given w.log + 1))), refl, refl);
  installs = λ method slot i. (refl, refl, refl);
  invalidates = λ serial code i. (refl, refl, refl);
  goes_round = λ i. (refl, refl, refl);
  looks_clear = λ serial p code i. (refl, refl, refl);
  looks_late = λ serial p code i. (refl, refl, refl);
  finds_unlooked = λ serial code p i. (refl, refl, refl);
  finds_used = λ serial code i. (refl, refl, refl);
  retires = λ serial code i. (refl, refl, refl);
  frees = λ serial code i. (refl, refl, refl);
  asks = λ request i. (refl, refl, refl);
  opens = λ oldest others i. (refl, refl, refl);
  tells = λ name opened i. (refl, refl, refl);
  finds_gone = λ name i. (refl, refl, refl);
  operates = λ opened others i. (refl, refl, refl);
  closes = λ number opened i. (refl, refl, refl);
  counts = λ serial code i. (refl, refl, refl);
  says_state = λ serial code i. (refl, refl, refl);
  resolves = λ method i. (refl, refl, refl);
}

record Sized (u w : World) : Type 0 where
  same : SameSizes u w
  table : TableIsSound w.slots w.methods w.codes

sized_step : (u w : World) (e : Event) → Simple w e → Sized u w → Sized u (after w e)
sized_step u w e simple h = (let a = by_cases w (λ e a v. SameSizes w v) (sizes_kept w) e simple in record {
  same = (a.0 ∙ h.same.0, a.1 ∙ h.same.1, a.2 ∙ h.same.2);
  table = by_cases w (λ e a v. TableIsSound v.slots v.methods v.codes) (table_kept w h.table) e simple;
})

sized_after : (u w : World) (events : List Event) → Sized u w → Sized u (world_after w events)
sized_after u w [] h = h
sized_after u w (e ∷ events) h = sized_after u (after w e) events (in_steps (Sized u) (λ v k. k.table) (sized_step u) w e h)

pub same_sizes : (w : World) (events : List Event) → TableIsSound w.slots w.methods w.codes → SameSizes w (world_after w events)
same_sizes w events table = (sized_after w w events (record { same = (refl, refl, refl); table = table })).same
