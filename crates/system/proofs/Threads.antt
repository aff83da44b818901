-- The threads are sound in every reachable world.
use Rattle.std.proofs.Common.{◌≡◌, ◌≢◌, ◌⊎◌, ℕ, zero, suc, ◌+◌, ◌-◌, ◌<◌, ◌≤◌, Bool, true, false, cond, List, [], ◌∷◌, ◌++◌, length, Option, Some, None, sym, refl, ap, ◌∙◌, inl, inr, subst, arith}
use Rattle.std.specs.Prelude.{not, ◌||◌, ◌==◌, slice_get, slice_set, replicate}
use Rattle.std.proofs.lemmas.Bool.{false≢true, not-true, and_parts, eqb-false}
use mathlib.Core.Logic.{dite}
use native.Mathlib.Decide.{ℕ_discrete}
use Rattle.frames.specs.declared.CodeId.{CodeId}
use Rattle.frames.specs.declared.Frame.{Frame}
use Rattle.thread_state.specs.declared.State.{State}
use Rattle.method_table.specs.declared.Code.{Code}
use Rattle.method_table.specs.declared.CodeState.TheVariants.{NotEntrant, Zombie, Freed}
use Rattle.frames.specs.Stack.{same_code, is_code, act}
use Rattle.method_table.specs.Codes.{id_of, code_of, with_code, with_state}
use Rattle.operations.specs.Names.{is_empty}
use Rattle.system.specs.Threads.{Thread, has_changed, next_change}
use Rattle.system.specs.World.{World}
use Rattle.system.specs.Log.{Entry, is_start, names_given}
use Rattle.system.specs.declared.events.Event.TheVariants as event
use Rattle.system.specs.declared.answers.Answer.TheVariants as answer
use Rattle.system.specs.Places.{popped}
use Rattle.system.specs.Step.{new_thread}
use Rattle.system.specs.Facts.{IsGiven, ThreadIsSound, ThreadsAreSound}
use Rattle.system.proofs.Outcomes.{Stands, begun, changed_by, ended, entered, moved, held, released, Enters}
use Rattle.system.proofs.EventCases.{Cases}
use Rattle.system.proofs.Seats.{get_set_same, get_set_other, each_some, each_none, each_start}
use Rattle.system.proofs.Frames.{same_is, count_cons, act_push, act_take, take_less, next_left}
use Rattle.system.proofs.Lists.{push_length}
use Rattle.system.proofs.Table.{given_state, given_code}

-- A thread after its top frame is popped.
popped_sound : (codes : List Code) (g : ℕ) (t : Thread) → is_empty t.stack ≡ false → ThreadIsSound codes g t → ThreadIsSound codes g (popped t)
popped_sound codes g t some h = record {
  name_from = h.name_from;
  name_to = h.name_to;
  depth = (let d = take_less (length t.stack - 1) t.stack in let e = h.depth in omega arith);
  depth_shown = h.depth_shown;
  stack_given = λ c a. h.stack_given c (let l = act_take c (length t.stack - 1) t.stack in omega arith);
  shown_given = h.shown_given;
  changed_given = h.changed_given;
  empty = λ e. absurd (false≢true (sym some ∙ ap (is_empty {A = Frame}) (h.empty e)));
  empty_shown = h.empty_shown;
}

-- A thread with one more frame.
entered_sound : (codes : List Code) (g : ℕ) (t : Thread) (method : ℕ) (o : Option CodeId) → t.published ≡ true → length t.stack < 256 → ((c : CodeId) → is_code c o ≡ true → IsGiven codes c) → ThreadIsSound codes g t → ThreadIsSound codes g (entered t method o)
entered_sound codes g t method o published room new h = record {
  name_from = h.name_from;
  name_to = h.name_to;
  depth = (let d = push_length t.stack (record { method = method; code = o }) in omega arith);
  depth_shown = h.depth_shown;
  stack_given = λ c a. by c (is_code c o) refl (act_push c t.stack (record { method = method; code = o })) a;
  shown_given = h.shown_given;
  changed_given = h.changed_given;
  empty = λ e. absurd (false≢true (sym e ∙ published));
  empty_shown = λ e. absurd (false≢true (sym e ∙ published));
}
  where
    by : (c : CodeId) (b : Bool) → is_code c o ≡ b → act c (t.stack ++ record { method = method; code = o } ∷ []) ≡ act c t.stack + cond (is_code c o) 1 0 → 0 < act c (t.stack ++ record { method = method; code = o } ∷ []) → IsGiven codes c
    by c true e p a = new c e
    by c false e p a = h.stack_given c (subst (λ n. 0 < n) (p ∙ (rw e (omega arith))) a)

-- A thread after its next change.
changed_sound : (codes : List Code) (g : ℕ) (t : Thread) (code : CodeId) → next_change t ≡ Some code → ThreadIsSound codes g t → ThreadIsSound codes g (changed_by t code)
changed_sound codes g t code next h = record {
  name_from = h.name_from;
  name_to = h.name_to;
  depth = h.depth;
  depth_shown = h.depth_shown;
  stack_given = h.stack_given;
  shown_given = h.shown_given;
  changed_given = λ c e. by c (same_code code c) refl e;
  empty = h.empty;
  empty_shown = h.empty_shown;
}
  where
    differ : act code t.stack ≢ act code t.shown
    differ = eqb-false (act code t.stack) (act code t.shown) (not-true (act code t.stack == act code t.shown) (and_parts (not (has_changed t code)) (not (act code t.stack == act code t.shown)) (next_left t code next)).1)

    some_count : (a b : ℕ) → act code t.stack ≡ a → act code t.shown ≡ b → IsGiven codes code
    some_count zero zero x y = absurd (differ (x ∙ sym y))
    some_count zero (suc b) x y = h.shown_given code (omega arith)
    some_count (suc a) b x y = h.stack_given code (omega arith)

    by : (c : CodeId) (b : Bool) → same_code code c ≡ b → (b || has_changed t c) ≡ true → IsGiven codes c
    by c true e k = subst (IsGiven codes) (same_is code c e) (some_count (act code t.stack) (act code t.shown) refl refl)
    by c false e k = h.changed_given c k

-- A thread after a publication ends.
ended_sound : (codes : List Code) (g : ℕ) (t : Thread) → ThreadIsSound codes g t → ThreadIsSound codes g (ended t)
ended_sound codes g t h = record {
  name_from = h.name_from;
  name_to = h.name_to;
  depth = h.depth;
  depth_shown = h.depth;
  stack_given = h.stack_given;
  shown_given = h.stack_given;
  changed_given = λ c e. absurd (false≢true e);
  empty = λ e. absurd (false≢true (sym e));
  empty_shown = λ e. absurd (false≢true (sym e));
}

begun_sound : (codes : List Code) (g : ℕ) (t : Thread) → ThreadIsSound codes g t → ThreadIsSound codes g (begun t)
begun_sound codes g t h = record {
  name_from = h.name_from;
  name_to = h.name_to;
  depth = h.depth;
  depth_shown = h.depth_shown;
  stack_given = h.stack_given;
  shown_given = h.shown_given;
  changed_given = λ c e. absurd (false≢true e);
  empty = h.empty;
  empty_shown = h.empty_shown;
}

-- A thread with another state, held or released.
same_sound : (codes : List Code) (g : ℕ) (t : Thread) (state : State) (held : Bool) → ThreadIsSound codes g t → ThreadIsSound codes g (record t { state = state; held = held })
same_sound codes g t state held h = record {
  name_from = h.name_from;
  name_to = h.name_to;
  depth = h.depth;
  depth_shown = h.depth_shown;
  stack_given = h.stack_given;
  shown_given = h.shown_given;
  changed_given = h.changed_given;
  empty = h.empty;
  empty_shown = h.empty_shown;
}

-- Another table and more names.
recoded : (codes codes' : List Code) (g g' : ℕ) (t : Thread) → ((c : CodeId) → IsGiven codes c → IsGiven codes' c) → g ≤ g' → ThreadIsSound codes g t → ThreadIsSound codes' g' t
recoded codes codes' g g' t more low h = record {
  name_from = h.name_from;
  name_to = (let n = h.name_to in omega arith);
  depth = h.depth;
  depth_shown = h.depth_shown;
  stack_given = λ c a. more c (h.stack_given c a);
  shown_given = λ c a. more c (h.shown_given c a);
  changed_given = λ c a. more c (h.changed_given c a);
  empty = h.empty;
  empty_shown = h.empty_shown;
}

recoded_all : (places : List (Option Thread)) (codes codes' : List Code) (g : ℕ) → ((c : CodeId) → IsGiven codes c → IsGiven codes' c) → ThreadsAreSound places codes g → ThreadsAreSound places codes' g
recoded_all places codes codes' g more h = record {
  each = λ p t x. recoded codes codes' g g t more (omega arith) (h.each p t x);
  one_name = h.one_name;
}

-- The thread at a place before an act of the thread t at p.
before : (places : List (Option Thread)) (p : ℕ) (t u : Thread) → slice_get places p ≡ Some (Some t) → p < length places → u.name ≡ t.name → (q : ℕ) (v : Thread) → slice_get (slice_set places p (Some u)) q ≡ Some (Some v)
    → (old : Thread) × (slice_get places q ≡ Some (Some old)) × (old.name ≡ v.name)
before places p t u there low same q v x = dite (ℕ_discrete q p)
    (λ e. let is : Some (Some u) ≡ Some (Some v) = sym (get_set_same places p (Some u) low) ∙ subst (λ n. slice_get (slice_set places p (Some u)) n ≡ Some (Some v)) e x in
    let inner : u ≡ v = cc in (t, subst (λ n. slice_get places n ≡ Some (Some t)) (sym e) there, sym same ∙ ap (λ (y : Thread). y.name) inner))
    (λ ne. (v, sym (get_set_other places p q (Some u) ne) ∙ x, refl))

-- An act of the thread at p that keeps its name.
seated_sound : (w : World) (codes : List Code) (g p : ℕ) (t u : Thread) → ThreadsAreSound w.places codes g → Stands w p t → u.name ≡ t.name → (ThreadIsSound codes g t → ThreadIsSound codes g u) → ThreadsAreSound (slice_set w.places p (Some u)) codes g
seated_sound w codes g p t u h s same keeps = record {
  each = each_some (λ q v. ThreadIsSound codes g v) w.places p u s.low h.each (keeps (h.each p t s.there));
  one_name = λ q r a b x y e. (let m = before w.places p t u s.there s.low same q a x in let n = before w.places p t u s.there s.low same r b y in
      h.one_name q r m.0 n.0 m.1 n.1 (m.2 ∙ (e ∙ sym n.2)));
}

-- The place p becomes vacant.
left_sound : (w : World) (codes : List Code) (g p : ℕ) (t : Thread) → ThreadsAreSound w.places codes g → Stands w p t → ThreadsAreSound (slice_set w.places p None) codes g
left_sound w codes g p t h s = record {
  each = each_none (λ q v. ThreadIsSound codes g v) w.places p s.low h.each;
  one_name = λ q r a b x y e. h.one_name q r a b (old q a x) (old r b y) e;
}
  where
    old : (q : ℕ) (v : Thread) → slice_get (slice_set w.places p None) q ≡ Some (Some v) → slice_get w.places q ≡ Some (Some v)
    old = each_none (λ q v. slice_get w.places q ≡ Some (Some v)) w.places p s.low (λ q v x. x)

-- A new thread.
started_sound : (w : World) (codes : List Code) (g p : ℕ) → ThreadsAreSound w.places codes g → p < length w.places → ThreadsAreSound (slice_set w.places p (Some (new_thread (g + 1)))) codes (g + 1)
started_sound w codes g p h low = record {
  each = each_some (λ q v. ThreadIsSound codes (g + 1) v) w.places p (new_thread (g + 1)) low (λ q v x. recoded codes codes g (g + 1) v (λ c a. a) (omega arith) (h.each q v x))
      (record {
        name_from = omega arith;
        name_to = omega arith;
        depth = omega arith;
        depth_shown = omega arith;
        stack_given = λ c a. absurd (omega arith);
        shown_given = λ c a. absurd (omega arith);
        changed_given = λ c e. absurd (false≢true e);
        empty = λ e. refl;
        empty_shown = λ e. refl;
      });
  one_name = λ q r a b x y e. by q r a b x y e (who q a x) (who r b y);
}
  where
    who : (q : ℕ) (v : Thread) → slice_get (slice_set w.places p (Some (new_thread (g + 1)))) q ≡ Some (Some v) → (slice_get w.places q ≡ Some (Some v)) ⊎ ((q ≡ p) × (v.name ≡ g + 1))
    who q v x = dite (ℕ_discrete q p)
        (λ e. let is : Some (Some (new_thread (g + 1))) ≡ Some (Some v) = sym (get_set_same w.places p (Some (new_thread (g + 1))) low) ∙ subst (λ n. slice_get (slice_set w.places p (Some (new_thread (g + 1)))) n ≡ Some (Some v)) e x in
        let inner : new_thread (g + 1) ≡ v = cc in inr (e, ap (λ (y : Thread). y.name) (sym inner)))
        (λ ne. inl (sym (get_set_other w.places p q (Some (new_thread (g + 1))) ne) ∙ x))

    by : (q r : ℕ) (a b : Thread) → slice_get (slice_set w.places p (Some (new_thread (g + 1)))) q ≡ Some (Some a) → slice_get (slice_set w.places p (Some (new_thread (g + 1)))) r ≡ Some (Some b) → a.name ≡ b.name
        → (slice_get w.places q ≡ Some (Some a)) ⊎ ((q ≡ p) × (a.name ≡ g + 1)) → (slice_get w.places r ≡ Some (Some b)) ⊎ ((r ≡ p) × (b.name ≡ g + 1)) → q ≡ r
    by q r a b x y e (inl i) (inl j) = h.one_name q r a b i j e
    by q r a b x y e (inl i) (inr j) = let s = h.each q a i in let n = s.name_to in let m = j.1 in absurd (omega arith)
    by q r a b x y e (inr i) (inl j) = let s = h.each r b j in let n = s.name_to in let m = i.1 in absurd (omega arith)
    by q r a b x y e (inr i) (inr j) = i.0 ∙ sym j.0

-- The entered code was given out.
entered_given : (w : World) (p : ℕ) (t : Thread) (method serial : ℕ) (code : Code) → Enters w p t method serial code → (c : CodeId) → same_code (id_of code) c ≡ true → IsGiven w.codes c
entered_given w p t method serial code i c e =
    let same = same_is (id_of code) c e in (code, subst (λ n. code_of w.codes n ≡ Some code) (sym i.serial_is ∙ ap (λ (y : CodeId). y.serial) same) i.code_is, same)

-- A Start gives out one more name.
pub started_more : (w : World) (p : ℕ) → names_given w.log + 1 ≡ names_given (record { event = event.Start; answer = answer.Thread (names_given w.log + 1) p } ∷ w.log)
started_more w p = let a = count_cons (λ (x : Entry). is_start x.event) (record { event = event.Start; answer = answer.Thread (names_given w.log + 1) p }) w.log in omega arith

-- Each event preserves this.
pub threads_kept : (w : World) → ThreadsAreSound w.places w.codes (names_given w.log) → Cases w (λ e a v. ThreadsAreSound v.places v.codes (names_given v.log))
threads_kept w h = record {
  refuses = λ e r. h;
  begins = λ p t i. seated_sound w w.codes (names_given w.log) p t (begun t) h i.stands refl (begun_sound w.codes (names_given w.log) t);
  changes = λ p t code i. seated_sound w w.codes (names_given w.log) p t (changed_by t code) h i.publishes.stands refl (changed_sound w.codes (names_given w.log) t code i.next);
  rests = λ p t i. seated_sound w w.codes (names_given w.log) p t (t) h i.publishes.stands refl (λ x. x);
  ends = λ p t i. seated_sound w w.codes (names_given w.log) p t (ended t) h i.publishes.stands refl (ended_sound w.codes (names_given w.log) t);
  moves = λ p t a state given i. seated_sound w w.codes (names_given w.log) p t (moved t state) h i.acts.stands refl (same_sound w.codes (names_given w.log) t state t.held);
  interprets = λ p t method i. seated_sound w w.codes (names_given w.log) p t (entered t method None) h i.acts.stands refl (entered_sound w.codes (names_given w.log) t method None i.published i.room (λ c e. absurd (false≢true e)));
  enters = λ p t method serial code i. seated_sound w w.codes (names_given w.log) p t (entered t method (Some (id_of code))) h i.calls.acts.stands refl (entered_sound w.codes (names_given w.log) t method (Some (id_of code)) i.calls.published i.calls.room (entered_given w p t method serial code i));
  misses = λ p t method serial code i. seated_sound w w.codes (names_given w.log) p t (t) h i.calls.acts.stands refl (λ x. x);
  leaves = λ p t state i. seated_sound w w.codes (names_given w.log) p t (moved (popped t) state) h i.acts.stands refl (λ x. same_sound w.codes (names_given w.log) (popped t) state t.held (popped_sound w.codes (names_given w.log) t i.some x));
  exits = λ p t i. left_sound w w.codes (names_given w.log) p t h i.acts.stands;
  finishes = λ p t opened i. h;
  clears = λ p t opened i. h;
  holds = λ p t opened i. seated_sound w w.codes (names_given w.log) p t (held t) h i.acts.stands refl (same_sound w.codes (names_given w.log) t t.state true);
  releases = λ p t i. seated_sound w w.codes (names_given w.log) p t (released t) h i.acts.stands refl (same_sound w.codes (names_given w.log) t t.state false);
  shows = λ p t i. seated_sound w w.codes (names_given w.log) p t (t) h i refl (λ x. x);
  starts = λ p i. subst (λ n. ThreadsAreSound (slice_set w.places p (Some (new_thread (names_given w.log + 1)))) w.codes n) (started_more w p) (started_sound w w.codes (names_given w.log) p h i.low);
  installs = λ method slot i. recoded_all w.places w.codes (with_code w.codes method slot) (names_given w.log) (given_code w.codes method slot) h;
  invalidates = λ serial code i. recoded_all w.places w.codes (with_state w.codes serial NotEntrant) (names_given w.log) (given_state w.codes serial NotEntrant) h;
  goes_round = λ i. h;
  looks_clear = λ serial p code i. h;
  looks_late = λ serial p code i. h;
  finds_unlooked = λ serial code p i. h;
  finds_used = λ serial code i. h;
  retires = λ serial code i. recoded_all w.places w.codes (with_state w.codes serial Zombie) (names_given w.log) (given_state w.codes serial Zombie) h;
  frees = λ serial code i. recoded_all w.places w.codes (with_state w.codes serial Freed) (names_given w.log) (given_state w.codes serial Freed) h;
  asks = λ request i. h;
  opens = λ oldest others i. h;
  tells = λ name opened i. h;
  finds_gone = λ name i. h;
  operates = λ opened others i. h;
  closes = λ number opened i. h;
  counts = λ serial code i. h;
  says_state = λ serial code i. h;
  resolves = λ method i. h;
}

pub threads_start : (places : ℕ) → ThreadsAreSound (replicate places None) [] 0
threads_start places = record {
  each = each_start (λ p t. ThreadIsSound [] 0 t) places;
  one_name = λ p q t u x y e. absurd (each_start (λ p t. ⊥) places p t x);
}
