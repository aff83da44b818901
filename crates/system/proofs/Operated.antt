-- An open operation that is operated is a census, and was told to each live thread.
use Rattle.std.proofs.Common.{◌≡◌, ◌∙◌, sym, ap, refl, subst, ℕ, ◌+◌, ◌<◌, ◌≤◌, true, ◌==◌, List, Some, None, length, ⊎_elim}
use Rattle.std.specs.Prelude.{slice_set, not, replicate}
use Rattle.std.proofs.lemmas.Bool.{false≢true}
use Rattle.operations.specs.Requests.{is_census}
use Rattle.method_table.specs.Codes.{id_of}
use Rattle.system.specs.Threads.{Thread}
use Rattle.system.specs.Operations.{Requests, Mark, Opened, Waiting, is_marked, with_mark}
use Rattle.system.specs.Log.{names_given, operations_given, moment}
use Rattle.system.specs.World.{World, threads}
use Rattle.system.specs.Places.{popped}
use Rattle.system.specs.Step.{new_thread, operated_if}
use Rattle.system.specs.Facts.{NumbersAreSound, MarksAreSound, OperatedIsTold}
use Rattle.system.proofs.Outcomes.{Stands, Starts, Operates, begun, changed_by, ended, entered, moved, held, released, newly_opened}
use Rattle.system.proofs.EventCases.{Cases}
use Rattle.system.proofs.Seats.{each_some, each_none}
use Rattle.system.proofs.Lists.{map_at, push_at, filter_at, any_none_at, all_at}
use Rattle.system.proofs.Numbers.{operated_number, operated_request}
use Rattle.system.proofs.SoundMarks.{threads_has, only_open, first_open, marked_old}

-- The thread at a place keeps its name.
seated_told : (w : World) (p : ℕ) (t u : Thread) → OperatedIsTold w.places w.requests → Stands w p t → u.name ≡ t.name → OperatedIsTold (slice_set w.places p (Some u)) w.requests
seated_told w p t u h s name = record {
  census = h.census;
  told = λ i o q v e operated x. each_some (λ q v. is_marked w.requests.told o.number v.name ≡ true) w.places p u s.low (λ q v x. h.told i o q v e operated x)
      (subst (λ n. is_marked w.requests.told o.number n ≡ true) (sym name) (h.told i o p t e operated s.there)) q v x;
}

left_told : (w : World) (p : ℕ) → OperatedIsTold w.places w.requests → p < length w.places → OperatedIsTold (slice_set w.places p None) w.requests
left_told w p h low = record {
  census = h.census;
  told = λ i o q v e operated x. each_none (λ q v. is_marked w.requests.told o.number v.name ≡ true) w.places p low (λ q v x. h.told i o q v e operated x) q v x;
}

-- No thread starts while a census is open.
started_told : (w : World) (p : ℕ) (t : Thread) → OperatedIsTold w.places w.requests → Starts w p → OperatedIsTold (slice_set w.places p (Some t)) w.requests
started_told w p t h s = record {
  census = h.census;
  told = λ i o q v e operated x. absurd (false≢true (sym (any_none_at (λ (opened : Opened). is_census opened.request) w.requests.opened i o s.no_safepoint e) ∙ h.census i o e operated));
}

told_told : (w : World) (n name : ℕ) → OperatedIsTold w.places w.requests → OperatedIsTold w.places (record w.requests { told = with_mark w.requests.told n name })
told_told w n name h = record {
  census = h.census;
  told = λ i o q v e operated x. marked_old w.requests.told n name o.number v.name (h.told i o q v e operated x);
}

opened_told : (w : World) (oldest : Waiting) (others : List Waiting) → OperatedIsTold w.places w.requests → OperatedIsTold w.places (Rattle.system.proofs.Outcomes.with_opened w oldest others)
opened_told w oldest others h = record {
  census = λ i o e operated. ⊎_elim (λ old. h.census i o old operated) (λ new. absurd (not_new o new.1 operated)) (push_at w.requests.opened (newly_opened w oldest) i o e);
  told = λ i o q v e operated x. ⊎_elim (λ old. h.told i o q v old operated x) (λ new. absurd (not_new o new.1 operated)) (push_at w.requests.opened (newly_opened w oldest) i o e);
}
  where
    not_new : (o : Opened) → newly_opened w oldest ≡ o → o.operated ≡ true → ⊥
    not_new o is operated = false≢true (ap (λ (y : Opened). y.operated) is ∙ operated)

-- All threads are held when a census is operated, and the census was told to each held thread.
operated_told : (w : World) (g n : ℕ) (opened : Opened) (others : List Opened) → Operates w opened others → length w.requests.opened ≤ 1 → MarksAreSound w.places w.requests g n → OperatedIsTold w.places (Rattle.system.proofs.Outcomes.with_operated w opened)
operated_told w g n opened others i few marks = record {
  census = λ j o e operated. (
      let m = map_at (operated_if opened.number) w.requests.opened j o e in
      let same : m.before ≡ opened = only_open w.requests.opened opened others few i.opened_is j m.before m.at in
      subst (λ r. is_census r ≡ true) (ap (λ (y : Opened). y.request) (sym same) ∙ (sym (operated_request opened.number m.before) ∙ ap (λ (y : Opened). y.request) m.is)) i.census);
  told = λ j o q v e operated x. (
      let m = map_at (operated_if opened.number) w.requests.opened j o e in
      let same : m.before ≡ opened = only_open w.requests.opened opened others few i.opened_is j m.before m.at in
      let r = threads_has w.places q v x in
      let held : v.held ≡ true = all_at (λ (t : Thread). t.held) (threads w.places) r.0 v i.held r.1 in
      let c = marks.held_told q v x held in
      let one : c.0 ≡ opened = only_open w.requests.opened opened others few i.opened_is c.1.opened.0 c.0 c.1.opened.1 in
      let number : c.0.number ≡ o.number = ap (λ (y : Opened). y.number) (one ∙ sym same) ∙ (sym (operated_number opened.number m.before) ∙ ap (λ (y : Opened). y.number) m.is) in
      subst (λ k. is_marked w.requests.told k v.name ≡ true) number c.1.told);
}

closed_told : (w : World) (opened : Opened) → OperatedIsTold w.places w.requests → OperatedIsTold w.places (Rattle.system.proofs.Outcomes.without_opened w opened)
closed_told w opened h = record {
  census = λ j o e operated. (let m = filter_at (λ (o : Opened). not (o.number == opened.number)) w.requests.opened j o e in h.census m.from o m.at operated);
  told = λ j o q v e operated x. (let m = filter_at (λ (o : Opened). not (o.number == opened.number)) w.requests.opened j o e in h.told m.from o q v m.at operated x);
}

over : (w : World) (requests : Requests) → requests.opened ≡ w.requests.opened → requests.told ≡ w.requests.told → OperatedIsTold w.places w.requests → OperatedIsTold w.places requests
over w requests opened told h = record { census = rw opened h.census; told = rw (opened, told) h.told }

pub operated_kept : (w : World) → NumbersAreSound w.requests.waiting w.requests.opened (names_given w.log) (operations_given w.log) (moment w.log) → MarksAreSound w.places w.requests (names_given w.log) (operations_given w.log)
    → OperatedIsTold w.places w.requests → Cases w (λ e a v. OperatedIsTold v.places v.requests)
operated_kept w numbers marks h = record {
  refuses = λ e r. h;
  begins = λ p t i. seated_told w p t (begun t) h i.stands refl;
  changes = λ p t code i. seated_told w p t (changed_by t code) h i.publishes.stands refl;
  rests = λ p t i. seated_told w p t t h i.publishes.stands refl;
  ends = λ p t i. seated_told w p t (ended t) h i.publishes.stands refl;
  moves = λ p t a state given i. seated_told w p t (moved t state) h i.acts.stands refl;
  interprets = λ p t method i. seated_told w p t (entered t method None) h i.acts.stands refl;
  enters = λ p t method serial code i. seated_told w p t (entered t method (Some (id_of code))) h i.calls.acts.stands refl;
  misses = λ p t method serial code i. seated_told w p t t h i.calls.acts.stands refl;
  leaves = λ p t state i. seated_told w p t (moved (popped t) state) h i.acts.stands refl;
  exits = λ p t i. left_told w p h i.acts.stands.low;
  finishes = λ p t opened i. over w (Rattle.system.proofs.Outcomes.with_done w.requests opened t.name) refl refl h;
  clears = λ p t opened i. over w (Rattle.system.proofs.Outcomes.with_cleared w.requests opened t.name) refl refl h;
  holds = λ p t opened i. seated_told w p t (held t) h i.acts.stands refl;
  releases = λ p t i. seated_told w p t (released t) h i.acts.stands refl;
  shows = λ p t i. seated_told w p t t h i refl;
  starts = λ p i. started_told w p (new_thread (names_given w.log + 1)) h i;
  installs = λ method slot i. h;
  invalidates = λ serial code i. h;
  goes_round = λ i. h;
  looks_clear = λ serial p code i. h;
  looks_late = λ serial p code i. h;
  finds_unlooked = λ serial code p i. h;
  finds_used = λ serial code i. h;
  retires = λ serial code i. h;
  frees = λ serial code i. h;
  asks = λ request i. over w (Rattle.system.proofs.Outcomes.with_request w request) refl refl h;
  opens = λ oldest others i. opened_told w oldest others h;
  tells = λ name opened i. told_told w opened.number name h;
  finds_gone = λ name i. h;
  operates = λ opened others i. operated_told w (names_given w.log) (operations_given w.log) opened others i (numbers.census_alone 0 opened (first_open w.requests.opened opened others i.opened_is) i.census) marks;
  closes = λ number opened i. closed_told w opened h;
  counts = λ serial code i. h;
  says_state = λ serial code i. h;
  resolves = λ method i. h;
}

pub operated_start : (places : ℕ) → OperatedIsTold (replicate places None) Rattle.system.specs.Operations.no_requests
operated_start places = record { census = λ i o e operated. cc; told = λ i o q v e operated x. cc }
