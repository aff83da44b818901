-- A live name is a live target of what was opened after it started.
use Rattle.std.proofs.Common.{◌≡◌, ◌⊎◌, ◌↔◌, inl, inr, ⊎_elim, ℕ, zero, suc, ◌+◌, ◌<◌, ◌≤◌, Bool, true, false, cond, List, [], ◌∷◌, ◌++◌, length, map, Option, Some, None, sym, refl, ap, ◌∙◌, subst, le_refl, arith}
use Rattle.std.specs.Prelude.{not, ◌||◌, ◌&&◌, ◌==◌, nat_lt, nat_le, find, filter, slice_get, slice_set}
use Rattle.std.specs.List.{list_any}
use Rattle.std.proofs.lemmas.Bool.{false≢true, eqb-true, eqb-false, eq-eqb, ne_eqb, lt-ltb, le-ltb, le-leb, lt-leb, ltb-true, ltb-false, leb-true, or_cases, or_left, or_right, or_parts, and_parts, and_from, and_left, and_right, and_cases, false_from_ne_true, true_from_ne_false, not-true, not-false, not_from_false, cases_lt}
use mathlib.Core.Logic.{dite}
use native.Mathlib.Decide.{ℕ_discrete}
use Rattle.method_table.specs.Codes.{id_of}
use Rattle.operations.specs.declared.Request.{Request}
use Rattle.operations.specs.declared.Request.TheVariants.{Handshake, Census}
use Rattle.operations.specs.Names.{among, is_empty}
use Rattle.operations.specs.Requests.{is_census, is_target, kind_of}
use Rattle.system.specs.declared.events.Event.{Event}
use Rattle.system.specs.declared.events.Event.TheVariants as event
use Rattle.system.specs.declared.answers.Answer.TheVariants as answer
use Rattle.system.specs.declared.answers.Refusal.TheVariants as refusal
use Rattle.system.specs.Verdict.{Verdict, refused, unless◌refuse◌then◌}
use Rattle.system.specs.Threads.{Thread}
use Rattle.system.specs.Operations.{Waiting, Opened, is_marked}
use Rattle.system.specs.Log.{Entry as Logged, names_given}
use Rattle.system.specs.World.{World, found, start_world, threads, live_names, thread_at, is_live as lives, is_live_target}
use Rattle.system.specs.Places.{popped, is_undone, in_found}
use Rattle.system.specs.Step.{new_thread, operated_if, may_tell, tell_in, tell_oldest}
use Rattle.system.specs.Runs.{after, answer_of, answer_to, world_after}
use Rattle.system.proofs.Outcomes.{Stands, begun, changed_by, ended, entered, moved, held, released, newly_opened, with_opened, Opens, seated, asked}
use Rattle.system.proofs.EventCases.{Cases}
use Rattle.system.proofs.CaseOfEvent.{Simple, by_cases}
use Rattle.system.proofs.Twice.{in_steps}
use Rattle.system.proofs.Lists.{any_at, any_here, all_at, at_low, same_at, map_at, push_at, filter_at, find_none_at, find_before}
use Rattle.system.proofs.Seats.{get_set_same, get_set_other, there_of}
use Rattle.system.proofs.SoundMarks.{threads_at, live_has, among_live}
use Rattle.system.proofs.Requesting.{among_names}
use Rattle.system.proofs.Threads.{started_more}
use Rattle.system.proofs.Numbers.{operated_number, operated_live, operated_request}
use Rattle.system.proofs.Sound.{IsKept}
use Rattle.desk.specs.declared.entries.Live.{Live}
use Rattle.desk.specs.declared.entries.Entry.TheVariants.{Finish}
use Rattle.desk.specs.declared.entries.Standing.{Standing}
use Rattle.desk.specs.declared.entries.Standing.TheVariants.{NothingOpen, NotOf, Gone}
use Rattle.desk.specs.Machine.{Current, is_live, place_of, open_of, passes, is_due, is_least, lawful}
use Rattle.desk.specs.Targets.{is_asked, is_target_of, kind_among, standing_at, standing}
use Rattle.method_table.specs.declared.Code.{Code}
use Rattle.method_table.specs.Entries.{newest_in}
use Rattle.tie.specs.BoardOf.{slot_by}
use Rattle.tie.specs.DeskOf.{seat_of, live_by, live_to, name_at_open, due_of, current_of, desk_of, next_of}
use Rattle.tie.specs.DeskTargets.{AgreesWith, DeskAndBoardAreOfOneWorld, IsAsked, TellSays, DesksHaveTheTargets}
use Rattle.tie.proofs.DeskPlaces.{seat_there, live_seat}
use Rattle.tie.proofs.DeskOpened.{among_filter, empty_is, open_is}
use Rattle.tie.proofs.DeskOrder.{IsOrdered, ordered_simply, ordered_start}
use Rattle.tie.proofs.DeskSteps.{lives_here, lives_there, due_parts, told_due, finish_least}

-- 1. Names given out before the Open

pub record LivesByName (w : World) : Type 0 where
  pub each : (i : ℕ) (o : Opened) (name : ℕ) → slice_get w.requests.opened i ≡ Some o → lives w name ≡ true → among name o.live ≡ (nat_lt name (name_at_open o.number w.log) && is_target o.request name)
  pub low : (n : ℕ) → name_at_open n w.log ≤ names_given w.log + 1

-- Nobody new lives, and nothing is opened.
stays : (w v : World) → LivesByName w → ((i : ℕ) (o : Opened) → slice_get v.requests.opened i ≡ Some o → (j : ℕ) × (x : Opened) × (slice_get w.requests.opened j ≡ Some x) × (x.number ≡ o.number) × (x.request ≡ o.request) × (x.live ≡ o.live))
    → ((n : ℕ) → name_at_open n v.log ≡ name_at_open n w.log) → names_given w.log ≡ names_given v.log → ((name : ℕ) → lives v name ≡ true → lives w name ≡ true) → LivesByName v
stays w v h opened log given old = record {
  each = λ i o name at live. (
      let x = opened i o at in let number = x.3 in let request = x.4 in let live_is = x.5 in
      let e = h.each x.0 x.1 name x.2 (old name live) in
      (λ j. among name (sym live_is j)) ∙ (e ∙ (λ j. nat_lt name ((ap (λ n. name_at_open n w.log) number ∙ sym (log o.number)) j) && is_target (request j) name)));
  low = λ n. (let a = h.low n in let b = log n in omega arith);
}

same_opened : (os : List Opened) (i : ℕ) (o : Opened) → slice_get os i ≡ Some o → (j : ℕ) × (x : Opened) × (slice_get os j ≡ Some x) × (x.number ≡ o.number) × (x.request ≡ o.request) × (x.live ≡ o.live)
same_opened os i o at = (i, o, at, refl, refl, refl)

quiet : (w v : World) → LivesByName w → v.requests.opened ≡ w.requests.opened → ((n : ℕ) → name_at_open n v.log ≡ name_at_open n w.log) → names_given w.log ≡ names_given v.log → ((name : ℕ) → lives v name ≡ true → lives w name ≡ true) → LivesByName v
quiet w v h opened = stays w v h (λ i o at. same_opened w.requests.opened i o (subst (λ os. slice_get os i ≡ Some o) opened at))

-- Who lives after a thread became another of its name, or left.
lives_before : (w : World) (p : ℕ) (u : Option Thread) (places : List (Option Thread)) → places ≡ slice_set w.places p u → p < length w.places → ((x : Thread) → u ≡ Some x → lives w x.name ≡ true)
    → (name : ℕ) → list_any (λ (t : Thread). t.name == name) (threads places) ≡ true → lives w name ≡ true
lives_before w p u places is low new name h =
    let a = any_at (λ (t : Thread). t.name == name) (threads places) h in
    let q = threads_at places a.0 a.1 a.2 in
    let at : slice_get (slice_set w.places p u) q.0 ≡ Some (Some a.1) = subst (λ ps. slice_get ps q.0 ≡ Some (Some a.1)) is q.1 in
    let named : a.1.name ≡ name = eqb-true a.1.name name a.3 in
    subst (λ n. lives w n ≡ true) named (dite (ℕ_discrete q.0 p)
    (λ e. (let both : Some u ≡ Some (Some a.1) = sym (get_set_same w.places p u low) ∙ subst (λ n. slice_get (slice_set w.places p u) n ≡ Some (Some a.1)) e at in let inner : u ≡ Some a.1 = cc in new a.1 inner))
    (λ ne. live_has w q.0 a.1 (sym (get_set_other w.places p q.0 u ne) ∙ at)))

renewed : (w v : World) (p : ℕ) (t u : Thread) → LivesByName w → Stands w p t → u.name ≡ t.name → v.places ≡ slice_set w.places p (Some u) → v.requests.opened ≡ w.requests.opened → ((n : ℕ) → name_at_open n v.log ≡ name_at_open n w.log) → names_given w.log ≡ names_given v.log → LivesByName v
renewed w v p t u h s same places opened log given = quiet w v h opened log given
    (lives_before w p (Some u) v.places places s.low (λ x e. (let is : u ≡ x = cc in subst (λ n. lives w n ≡ true) (sym same ∙ ap (λ (y : Thread). y.name) is) (live_has w p t s.there))))

left : (w v : World) (p : ℕ) (t : Thread) → LivesByName w → Stands w p t → v.places ≡ slice_set w.places p None → v.requests.opened ≡ w.requests.opened → ((n : ℕ) → name_at_open n v.log ≡ name_at_open n w.log) → names_given w.log ≡ names_given v.log → LivesByName v
left w v p t h s places opened log given = quiet w v h opened log given (lives_before w p None v.places places s.low (λ x e. cc))

-- A thread starts: it is a target of nothing that is open.
started : (w : World) (p : ℕ) → IsKept w → LivesByName w → p < length w.places → LivesByName (seated w p (Some (new_thread (names_given w.log + 1))) event.Start (answer.Thread (names_given w.log + 1) p))
started w p k h low = record {
  each = λ i o name at live. (let a = any_at (λ (t : Thread). t.name == name) (threads (slice_set w.places p (Some (new_thread (names_given w.log + 1))))) live in
      let q = threads_at (slice_set w.places p (Some (new_thread (names_given w.log + 1)))) a.0 a.1 a.2 in
      let named : a.1.name ≡ name = eqb-true a.1.name name a.3 in
      dite (ℕ_discrete q.0 p)
      (λ e. (let both : Some (Some (new_thread (names_given w.log + 1))) ≡ Some (Some a.1) = sym (get_set_same w.places p (Some (new_thread (names_given w.log + 1))) low) ∙ subst (λ n. slice_get (slice_set w.places p (Some (new_thread (names_given w.log + 1)))) n ≡ Some (Some a.1)) e q.1 in
      let inner : new_thread (names_given w.log + 1) ≡ a.1 = cc in let is : names_given w.log + 1 ≡ name = ap (λ (t : Thread). t.name) inner ∙ named in
      let out : among name o.live ≡ false = false_from_ne_true _ (λ l. (let z = k.marks.live_given i o name at l in absurd (omega arith))) in
      let late : nat_lt name (name_at_open o.number w.log) ≡ false = le-ltb name (name_at_open o.number w.log) (let z = h.low o.number in omega arith) in
      out ∙ sym (and_left (nat_lt name (name_at_open o.number w.log)) (is_target o.request name) late)))
      (λ ne. h.each i o name at (subst (λ n. lives w n ≡ true) named (live_has w q.0 a.1 (sym (get_set_other w.places p q.0 (Some (new_thread (names_given w.log + 1))) ne) ∙ q.1)))));
  low = λ n. (let a = h.low n in let b = started_more w p in omega arith);
}

name_low : (w : World) (name : ℕ) → IsKept w → lives w name ≡ true → (0 < name) × (name ≤ names_given w.log)
name_low w name k h =
    let a = among_live w name (among_names name (threads w.places) ∙ h) in let s = k.threads.each a.0 a.1 a.2 in
    let from = s.name_from in let to = s.name_to in let same = a.3 in (omega arith, omega arith)

-- What is opened has those as live targets that live then.
opened : (w : World) (oldest : Waiting) (others : List Waiting) → IsKept w → LivesByName w → Opens w oldest others → LivesByName (asked w (with_opened w oldest others) event.Open (answer.Opened oldest.number (kind_of oldest.request)))
opened w oldest others k h i = record {
  each = λ n o name at live. by n o name live (push_at w.requests.opened (newly_opened w oldest) n o at);
  low = λ n. low (oldest.number == n) n (h.low n);
}
  where
    low : (b : Bool) (n : ℕ) → name_at_open n w.log ≤ names_given w.log + 1 → cond b (names_given w.log + 1) (name_at_open n w.log) ≤ names_given w.log + 1
    low true n g = le_refl _
    low false n g = g

    by : (n : ℕ) (o : Opened) (name : ℕ) → lives w name ≡ true → (slice_get w.requests.opened n ≡ Some o) ⊎ ((n ≡ length w.requests.opened) × (newly_opened w oldest ≡ o))
        → among name o.live ≡ (nat_lt name (cond (oldest.number == o.number) (names_given w.log + 1) (name_at_open o.number w.log)) && is_target o.request name)
    by n o name live (inl at) =
        let old = k.numbers.opened_is n o at in let small = old.1 in
        let first = k.numbers.waiting_is 0 oldest (subst (λ ws. slice_get ws 0 ≡ Some oldest) (sym i.waiting_is) refl) in
        h.each n o name at live ∙ (λ j. nat_lt name (cond (sym (ne_eqb oldest.number o.number (λ e. absurd (omega arith))) j) (names_given w.log + 1) (name_at_open o.number w.log)) && is_target o.request name)
    by n o name live (inr x) =
        let small = (name_low w name k live).1 in
        let within : nat_lt name (names_given w.log + 1) ≡ true = lt-ltb name (names_given w.log + 1) (omega arith) in
        subst (λ (y : Opened). among name y.live ≡ (nat_lt name (cond (oldest.number == y.number) (names_given w.log + 1) (name_at_open y.number w.log)) && is_target y.request name)) x.1
        (among_filter (is_target oldest.request) name (live_names w)
        ∙ ((λ j. is_target oldest.request name && (among_names name (threads w.places) ∙ live) j)
        ∙ (flat (is_target oldest.request name)
        ∙ (λ j. sym within j && is_target oldest.request name)
        ∙ (λ j. nat_lt name (cond (sym (eq-eqb oldest.number oldest.number refl) j) (names_given w.log + 1) (name_at_open oldest.number w.log)) && is_target oldest.request name))))
      where
        flat : (b : Bool) → b && true ≡ b
        flat true = refl
        flat false = refl

by_name_kept : (w : World) → IsKept w → LivesByName w → Cases w (λ e a v. LivesByName v)
by_name_kept w k h = record {
  refuses = λ e r. h;
  begins = λ p t i. renewed w _ p t (begun t) h i.stands refl refl refl (λ n. refl) refl;
  changes = λ p t code i. renewed w _ p t (changed_by t code) h i.publishes.stands refl refl refl (λ n. refl) refl;
  rests = λ p t i. renewed w _ p t t h i.publishes.stands refl refl refl (λ n. refl) refl;
  ends = λ p t i. renewed w _ p t (ended t) h i.publishes.stands refl refl refl (λ n. refl) refl;
  moves = λ p t a state given i. renewed w _ p t (moved t state) h i.acts.stands refl refl refl (λ n. refl) refl;
  interprets = λ p t method i. renewed w _ p t (entered t method None) h i.acts.stands refl refl refl (λ n. refl) refl;
  enters = λ p t method serial code i. renewed w _ p t (entered t method (Some (id_of code))) h i.calls.acts.stands refl refl refl (λ n. refl) refl;
  misses = λ p t method serial code i. renewed w _ p t t h i.calls.acts.stands refl refl refl (λ n. refl) refl;
  leaves = λ p t state i. renewed w _ p t (moved (popped t) state) h i.acts.stands refl refl refl (λ n. refl) refl;
  exits = λ p t i. left w _ p t h i.acts.stands refl refl (λ n. refl) refl;
  finishes = λ p t opened_ i. quiet w _ h refl (λ n. refl) refl (λ name l. l);
  clears = λ p t opened_ i. quiet w _ h refl (λ n. refl) refl (λ name l. l);
  holds = λ p t opened_ i. renewed w _ p t (held t) h i.acts.stands refl refl refl (λ n. refl) refl;
  releases = λ p t i. renewed w _ p t (released t) h i.acts.stands refl refl refl (λ n. refl) refl;
  shows = λ p t i. renewed w _ p t t h i refl refl refl (λ n. refl) refl;
  starts = λ p i. started w p k h i.low;
  installs = λ method slot i. quiet w _ h refl (λ n. refl) refl (λ name l. l);
  invalidates = λ serial code i. quiet w _ h refl (λ n. refl) refl (λ name l. l);
  goes_round = λ i. quiet w _ h refl (λ n. refl) refl (λ name l. l);
  looks_clear = λ serial p code i. quiet w _ h refl (λ n. refl) refl (λ name l. l);
  looks_late = λ serial p code i. quiet w _ h refl (λ n. refl) refl (λ name l. l);
  finds_unlooked = λ serial code p i. quiet w _ h refl (λ n. refl) refl (λ name l. l);
  finds_used = λ serial code i. quiet w _ h refl (λ n. refl) refl (λ name l. l);
  retires = λ serial code i. quiet w _ h refl (λ n. refl) refl (λ name l. l);
  frees = λ serial code i. quiet w _ h refl (λ n. refl) refl (λ name l. l);
  asks = λ request i. quiet w _ h refl (λ n. refl) refl (λ name l. l);
  opens = λ oldest others i. opened w oldest others k h i;
  tells = λ name opened_ i. quiet w _ h refl (λ n. refl) refl (λ name l. l);
  finds_gone = λ name i. quiet w _ h refl (λ n. refl) refl (λ name l. l);
  operates = λ o others i. stays w _ h
      (λ n x at. (let m = map_at (operated_if o.number) w.requests.opened n x at in let same = m.is in
      (n, m.before, m.at, sym (operated_number o.number m.before) ∙ ap (λ (y : Opened). y.number) same, sym (operated_request o.number m.before) ∙ ap (λ (y : Opened). y.request) same, sym (operated_live o.number m.before) ∙ ap (λ (y : Opened). y.live) same)))
      (λ n. refl) refl (λ name l. l);
  closes = λ number o i. stays w _ h
      (λ n x at. (let f = filter_at (λ (y : Opened). not (y.number == o.number)) w.requests.opened n x at in (f.from, x, f.at, refl, refl, refl)))
      (λ n. refl) refl (λ name l. l);
  counts = λ serial code i. quiet w _ h refl (λ n. refl) refl (λ name l. l);
  says_state = λ serial code i. quiet w _ h refl (λ n. refl) refl (λ name l. l);
  resolves = λ method i. quiet w _ h refl (λ n. refl) refl (λ name l. l);
}

pub record IsNamed (w : World) : Type 0 where
  pub ordered : IsOrdered w
  pub by_name : LivesByName w

named_simply : (w : World) (e : Event) → Simple w e → IsNamed w → IsNamed (after w e)
named_simply w e simple h = record { ordered = ordered_simply w e simple h.ordered; by_name = by_cases w (λ e a v. LivesByName v) (by_name_kept w h.ordered.kept h.by_name) e simple }

named_next : (w : World) (e : Event) → IsNamed w → IsNamed (after w e)
named_next = in_steps IsNamed (λ w h. h.ordered.kept.table) named_simply

pub named_after : (w : World) (events : List Event) → IsNamed w → IsNamed (world_after w events)
named_after w [] h = h
named_after w (e ∷ events) h = named_after (after w e) events (named_next w e h)

pub named_start : (places slots methods : ℕ) → IsNamed (start_world places slots methods)
named_start places slots methods = record { ordered = ordered_start places slots methods; by_name = record { each = λ i o name at live. cc; low = λ n. omega arith } }

-- 2. Targets

asked_is : (w : World) (r : Request) (name : ℕ) → IsKept w → lives w name ≡ true → is_asked (names_given w.log + 1) name r ≡ is_target r name
asked_is w Census name k live = let n = name_low w name k live in and_from (nat_lt 0 name) (nat_lt name (names_given w.log + 1)) (lt-ltb 0 name n.0) (lt-ltb name (names_given w.log + 1) (let z = n.1 in omega arith))
asked_is w (Handshake targets ask) name k live = refl

swapped : (a b : Bool) → (a && b) ≡ (b && a)
swapped true true = refl
swapped true false = refl
swapped false true = refl
swapped false false = refl

flat_ : (b : Bool) → b && true ≡ b
flat_ true = refl
flat_ false = refl

pub target_same : (w : World) (i : ℕ) (o : Opened) (name : ℕ) → IsNamed w → slice_get w.requests.opened i ≡ Some o → lives w name ≡ true → is_target_of (names_given w.log + 1) name (current_of w.requests.done w.log o) ≡ is_live_target w o name
target_same w i o name h at live =
    (λ j. asked_is w o.request name h.ordered.kept live j && nat_lt name (name_at_open o.number w.log))
    ∙ (swapped (is_target o.request name) (nat_lt name (name_at_open o.number w.log))
    ∙ (sym (h.by_name.each i o name at live) ∙ (sym (flat_ (among name o.live)) ∙ (λ j. among name o.live && sym live j))))

-- 3. Tell

any_map_same : {A B : Type 0} (p : B → Bool) (q : A → Bool) (f : A → B) (xs : List A) → ((i : ℕ) (x : A) → slice_get xs i ≡ Some x → p (f x) ≡ q x) → list_any p (map f xs) ≡ list_any q xs
any_map_same p q f [] h = refl
any_map_same p q f (x ∷ xs) h = λ j. h 0 x refl j || any_map_same p q f xs (λ i y e. h (suc i) y e) j

may_tell_same : (w : World) (r : Request) (name : ℕ) → is_asked (names_given w.log + 1) name r ≡ may_tell w r name
may_tell_same w Census name = ap (λ b. nat_lt 0 name && b) (by (nat_le name (names_given w.log)) refl)
  where
    by : (b : Bool) → nat_le name (names_given w.log) ≡ b → nat_lt name (names_given w.log + 1) ≡ nat_le name (names_given w.log)
    by true e = lt-ltb name (names_given w.log + 1) (let z = leb-true name (names_given w.log) e in omega arith) ∙ sym e
    by false e = le-ltb name (names_given w.log + 1) (over e) ∙ sym e
      where
        over : nat_le name (names_given w.log) ≡ false → names_given w.log + 1 ≤ name
        over e = let z = Rattle.std.proofs.lemmas.Bool.leb-false name (names_given w.log) e in omega arith
may_tell_same w (Handshake targets ask) name = refl

none_left : (p : Opened → Bool) (os : List Opened) → filter p os ≡ [] → list_any p os ≡ false
none_left p [] h = refl
none_left p (o ∷ os) h = by (p o) refl h (none_left p os)
  where
    by : (b : Bool) → p o ≡ b → cond b (o ∷ filter p os) (filter p os) ≡ [] → (filter p os ≡ [] → list_any p os ≡ false) → (p o || list_any p os) ≡ false
    by true e k rest = cc
    by false e k rest = (λ j. e j || list_any p os) ∙ rest k

some_left : (p : Opened → Bool) (os : List Opened) (x : Opened) (xs : List Opened) → filter p os ≡ x ∷ xs → list_any p os ≡ true
some_left p os x xs h = let f = filter_at p os 0 x (ap (λ (ys : List Opened). slice_get ys 0) h) in any_here p os f.from x f.at f.passes

-- Where a live name is at the desk.
place_none : (name : ℕ) (ls : List Live) → is_live name ls ≡ false → place_of name ls ≡ None
place_none name [] h = refl
place_none name (l ∷ ls) h = let p = or_parts (l.name == name) (is_live name ls) h in ap (λ b. cond b (Some l.place) (place_of name ls)) p.0 ∙ place_none name ls p.1

place_behind : (name : ℕ) (xs ys : List Live) → place_of name xs ≡ None → place_of name (xs ++ ys) ≡ place_of name ys
place_behind name [] ys h = refl
place_behind name (l ∷ xs) ys h = by (l.name == name) h (place_behind name xs ys)
  where
    by : (b : Bool) → cond b (Some l.place) (place_of name xs) ≡ None → (place_of name xs ≡ None → place_of name (xs ++ ys) ≡ place_of name ys) → cond b (Some l.place) (place_of name (xs ++ ys)) ≡ place_of name ys
    by true k rest = cc
    by false k rest = rest k

place_before : (name p : ℕ) (xs ys : List Live) → place_of name xs ≡ Some p → place_of name (xs ++ ys) ≡ Some p
place_before name p [] ys h = cc
place_before name p (l ∷ xs) ys h = by (l.name == name) h (place_before name p xs ys)
  where
    by : (b : Bool) → cond b (Some l.place) (place_of name xs) ≡ Some p → (place_of name xs ≡ Some p → place_of name (xs ++ ys) ≡ Some p) → cond b (Some l.place) (place_of name (xs ++ ys)) ≡ Some p
    by true k rest = k
    by false k rest = rest k

none_above : (n name : ℕ) (places : List (Option Thread)) → n < name → place_of name (live_to n places) ≡ None
none_above zero name places low = refl
none_above (suc n) name places low = place_behind name (live_to n places) (live_by (suc n) (seat_of (suc n) places)) (none_above n name places (omega arith)) ∙ by (seat_of (suc n) places)
  where
    by : (o : Option ℕ) → place_of name (live_by (suc n) o) ≡ None
    by None = refl
    by (Some p) = ap (λ b. cond b (Some p) None) (ne_eqb (suc n) name (λ e. absurd (omega arith)))

place_there : (n name q : ℕ) (places : List (Option Thread)) → 0 < name → name ≤ n → seat_of name places ≡ Some q → place_of name (live_to n places) ≡ Some q
place_there zero name q places from low h = absurd (omega arith)
place_there (suc n) name q places from low h = dite (ℕ_discrete (suc n) name)
    (λ e. place_behind name (live_to n places) (live_by (suc n) (seat_of (suc n) places)) (none_above n name places (omega arith))
    ∙ (ap (λ o. place_of name (live_by (suc n) o)) (subst (λ k. seat_of k places ≡ Some q) (sym e) h) ∙ ap (λ b. cond b (Some q) None) (eq-eqb (suc n) name e)))
    (λ ne. place_before name q (live_to n places) (live_by (suc n) (seat_of (suc n) places)) (place_there n name q places from (omega arith) h))

test : {A : Type 0} (Q : Verdict A → Type 0) (b : Bool) (r : Rattle.system.specs.declared.answers.Refusal.Refusal) (v : Verdict A) → (b ≡ false → Q (refused r)) → (b ≡ true → Q v) → Q (unless b refuse r then v)
test Q true r v no_ yes_ = yes_ refl
test Q false r v no_ yes_ = no_ refl

tells_say : (w : World) (name : ℕ) → IsNamed w → TellSays w name (answer_to w (event.Tell name))
tells_say w name h = test Q (not (is_empty w.requests.opened)) refusal.NothingOpen _
    (λ e. (λ j. cond ((empties ∙ not-false (is_empty w.requests.opened) e) j) NothingOpen (rest (list_any (λ (c : Current). is_asked (names_given w.log + 1) name c.request) (map (current_of w.requests.done w.log) w.requests.opened)))))
    (λ e. (let some : is_empty (map (current_of w.requests.done w.log) w.requests.opened) ≡ false = empties ∙ not-true (is_empty w.requests.opened) e in
    test Q (list_any (λ o. may_tell w o.request name) w.requests.opened) refusal.NotOf (tell_oldest w name (filter (λ o. is_live_target w o name) w.requests.opened))
    (λ f. down some f)
    (λ f. on (down some f) (filter (λ o. is_live_target w o name) w.requests.opened) refl)))
  where
    Q : Verdict World → Type 0
    Q v = TellSays w name (answer_of v)

    rest : Bool → Standing
    rest b = cond b (standing_at (place_of name (live_to (names_given w.log) w.places)) (list_any (is_target_of (names_given w.log + 1) name) (map (current_of w.requests.done w.log) w.requests.opened)) (kind_among (map (current_of w.requests.done w.log) w.requests.opened))) NotOf

    empties : is_empty (map (current_of w.requests.done w.log) w.requests.opened) ≡ is_empty w.requests.opened
    empties = empty_is (current_of w.requests.done w.log) w.requests.opened

    down : {b : Bool} → is_empty (map (current_of w.requests.done w.log) w.requests.opened) ≡ false → list_any (λ o. may_tell w o.request name) w.requests.opened ≡ b → standing (desk_of w) name ≡ rest b
    down some f = (λ j. cond (some j) NothingOpen (rest (list_any (λ (c : Current). is_asked (names_given w.log + 1) name c.request) (map (current_of w.requests.done w.log) w.requests.opened))))
        ∙ ap rest (any_map_same (λ (c : Current). is_asked (names_given w.log + 1) name c.request) (λ (o : Opened). may_tell w o.request name) (current_of w.requests.done w.log) w.requests.opened (λ i x at. may_tell_same w x.request name) ∙ f)

    has_is : lives w name ≡ true → list_any (is_target_of (names_given w.log + 1) name) (map (current_of w.requests.done w.log) w.requests.opened) ≡ list_any (λ o. is_live_target w o name) w.requests.opened
    has_is live = any_map_same (is_target_of (names_given w.log + 1) name) (λ (o : Opened). is_live_target w o name) (current_of w.requests.done w.log) w.requests.opened (λ i x at. target_same w i x name h at live)

    seat : lives w name ≡ true → (q : ℕ) × (seat_of name w.places ≡ Some q)
    seat live = live_seat name (names_given w.log) w.places (lives_there w name h.ordered.kept live)

    at : (live : lives w name ≡ true) → place_of name (live_to (names_given w.log) w.places) ≡ Some (seat live).0
    at live = let n = name_low w name h.ordered.kept live in place_there (names_given w.log) name (seat live).0 w.places n.0 n.1 (seat live).1

    gone : standing (desk_of w) name ≡ rest true → filter (λ o. is_live_target w o name) w.requests.opened ≡ [] → standing (desk_of w) name ≡ Gone
    gone s e = s ∙ by (lives w name) refl
      where
        by : (b : Bool) → lives w name ≡ b → rest true ≡ Gone
        by true live = (λ j. standing_at (at live j) ((has_is live ∙ none_left (λ o. is_live_target w o name) w.requests.opened e) j) (kind_among (map (current_of w.requests.done w.log) w.requests.opened)))
        by false dead = (λ j. standing_at (place_none name (live_to (names_given w.log) w.places) (false_from_ne_true _ (λ l. false≢true (sym dead ∙ lives_here w name h.ordered.kept l))) j)
            (list_any (is_target_of (names_given w.log + 1) name) (map (current_of w.requests.done w.log) w.requests.opened)) (kind_among (map (current_of w.requests.done w.log) w.requests.opened)))

    asked_ : standing (desk_of w) name ≡ rest true → (x : Opened) (xs : List Opened) → filter (λ o. is_live_target w o name) w.requests.opened ≡ x ∷ xs → IsAsked w name
    asked_ s x xs e =
        let f = filter_at (λ o. is_live_target w o name) w.requests.opened 0 x (ap (λ (ys : List Opened). slice_get ys 0) e) in
        let live : lives w name ≡ true = (and_parts (among name x.live) (lives w name) f.passes).1 in
        record {
          target = record { place = (seat live).0; kind = kind_among (map (current_of w.requests.done w.log) w.requests.opened) };
          standing_is = s ∙ (λ j. standing_at (at live j) ((has_is live ∙ some_left (λ o. is_live_target w o name) w.requests.opened x xs e) j) (kind_among (map (current_of w.requests.done w.log) w.requests.opened)));
          place_is = (seat live).1;
        }

    found_ : standing (desk_of w) name ≡ rest true → (x : Opened) (xs : List Opened) → filter (λ o. is_live_target w o name) w.requests.opened ≡ x ∷ xs → (o : Option Opened) → TellSays w name (answer_of (in_found refusal.AlreadyTold o (tell_in w name)))
    found_ s x xs e None = asked_ s x xs e
    found_ s x xs e (Some o) = asked_ s x xs e

    on : standing (desk_of w) name ≡ rest true → (os : List Opened) → filter (λ o. is_live_target w o name) w.requests.opened ≡ os → TellSays w name (answer_of (tell_oldest w name os))
    on s [] e = gone s e
    on s (x ∷ xs) e = found_ s x xs e (find (λ o. not (is_marked w.requests.told o.number name)) (x ∷ xs))

-- 4. Finish

both_ways : {P Q : Type 0} → (P → Q) → (Q → P) → P ↔ Q
both_ways f g = (f, g)

-- Two are open, so neither is a census.
plain_beside : (w : World) (i j : ℕ) (o x : Opened) → IsKept w → slice_get w.requests.opened i ≡ Some o → slice_get w.requests.opened j ≡ Some x → j < i → is_census x.request ≡ false
plain_beside w i j o x k at there less = false_from_ne_true _ (λ e. (let few = k.numbers.census_alone j x there e in let low = at_low w.requests.opened i o at in absurd (omega arith)))

next_found : (w : World) (name i reply : ℕ) (o : Opened) → IsOrdered w → slice_get w.requests.opened i ≡ Some o → is_marked w.requests.told o.number name ≡ true → lawful (desk_of w) (Finish o.number name reply) ≡ true
    → (f : Option Opened) → find (is_undone w.requests name) w.requests.opened ≡ f → f ≡ Some o
next_found w name i reply o h at told may f is =
    let first = and_parts (passes (is_due name) (open_of o.number (map (current_of w.requests.done w.log) w.requests.opened)) && is_live name (live_to (names_given w.log) w.places)) (is_least o.number name (map (current_of w.requests.done w.log) w.requests.opened)) may in
    let second = and_parts (passes (is_due name) (open_of o.number (map (current_of w.requests.done w.log) w.requests.opened))) (is_live name (live_to (names_given w.log) w.places)) first.0 in
    let here = ap (passes (is_due name)) (open_is (current_of w.requests.done w.log) w.requests.opened i o (λ y. refl) h.kept.numbers.opened_rise at) in
    let due = due_parts w.requests.done name o (sym here ∙ second.0) in
    let undone : is_undone w.requests name o ≡ true = and_from (is_marked w.requests.told o.number name) (not (is_marked w.requests.done o.number name)) told (not_from_false _ due.1) in
    by f is undone first.1
  where
    by : (f : Option Opened) → find (is_undone w.requests name) w.requests.opened ≡ f → is_undone w.requests name o ≡ true → is_least o.number name (map (current_of w.requests.done w.log) w.requests.opened) ≡ true → f ≡ Some o
    by None e undone least = absurd (false≢true (sym (find_none_at (is_undone w.requests name) w.requests.opened i o e at) ∙ undone))
    by (Some x) e undone least =
        let r = find_before (is_undone w.requests name) w.requests.opened x e in
        let passes_ = Rattle.system.proofs.Lists.found_passes (is_undone w.requests name) w.requests.opened x e in
        let parts = and_parts (is_marked w.requests.told x.number name) (not (is_marked w.requests.done x.number name)) passes_ in
        ⊎_elim
        (λ before. (let less = h.kept.numbers.opened_rise r.place i x o before r.at at in
        let plain = plain_beside w i r.place o x h.kept at r.at before in
        let due = told_due w name r.place x h.kept r.at plain parts.0 (not-true _ parts.1) in
        let free = least_at w.requests.opened r.place x least r.at in
        absurd (false≢true (sym (not-true _ free) ∙ and_from (nat_lt x.number o.number) (among name (due_of w.requests.done x)) (lt-ltb x.number o.number less) due))))
        (λ behind. dite (ℕ_discrete i r.place)
        (λ same. ap (λ (y : Opened). Some y) (same_at w.requests.opened i x o (subst (λ n. slice_get w.requests.opened n ≡ Some x) (sym same) r.at) at))
        (λ ne. absurd (false≢true (sym (r.none_before i o (further i r.place behind ne) at) ∙ undone))))
        (cases_lt r.place i)
      where
        further : (a b : ℕ) → a ≤ b → (a ≡ b → ⊥) → a < b
        further a b low ne = omega (arith, ne)

        least_at : (os : List Opened) (n : ℕ) (x : Opened) → is_least o.number name (map (current_of w.requests.done w.log) os) ≡ true → slice_get os n ≡ Some x → not (nat_lt x.number o.number && is_due name (current_of w.requests.done w.log x)) ≡ true
        least_at os n x l there = all_at (λ (c : Current). not (nat_lt c.number o.number && is_due name c)) (map (current_of w.requests.done w.log) os) n (current_of w.requests.done w.log x) l (mapped os n there)
          where
            mapped : (os : List Opened) (n : ℕ) → slice_get os n ≡ Some x → slice_get (map (current_of w.requests.done w.log) os) n ≡ Some (current_of w.requests.done w.log x)
            mapped [] n e = cc
            mapped (y ∷ os) zero e = let z : y ≡ x = cc in ap (λ (v : Opened). Some (current_of w.requests.done w.log v)) z
            mapped (y ∷ os) (suc n) e = mapped os n e

finishes_same : (w : World) (p i reply : ℕ) (t : Thread) (o : Opened) → IsOrdered w → thread_at w p ≡ Some t → slice_get w.requests.opened i ≡ Some o → is_census o.request ≡ false → is_marked w.requests.told o.number t.name ≡ true
    → (lawful (desk_of w) (Finish o.number t.name reply) ≡ true) ↔ (next_of w.requests t ≡ Some o)
finishes_same w p i reply t o h there at plain told = both_ways
    (λ may. next_found w t.name i reply o h at told may (next_of w.requests t) refl)
    (λ next. (let k = h.kept in
    let both = and_parts (is_marked w.requests.told o.number t.name) (not (is_marked w.requests.done o.number t.name)) (Rattle.system.proofs.Lists.found_passes (is_undone w.requests t.name) w.requests.opened o next) in
    let a : passes (is_due t.name) (open_of o.number (map (current_of w.requests.done w.log) w.requests.opened)) ≡ true = ap (passes (is_due t.name)) (open_is (current_of w.requests.done w.log) w.requests.opened i o (λ x. refl) k.numbers.opened_rise at) ∙ told_due w t.name i o k at plain told (not-true _ both.1) in
    and_from _ _ (and_from _ _ a (lives_there w t.name k (live_has w p t (there_of w p t there)))) (finish_least w t.name o h told next)))

-- 5. All

pub desks_have_the_targets : DesksHaveTheTargets
desks_have_the_targets places slots methods events =
    let w : World = world_after (start_world places slots methods) events in
    let h : IsNamed w = named_after (start_world places slots methods) events (named_start places slots methods) in record {
      targets = λ i o name at live. target_same w i o name h at live;
      tells = λ name. tells_say w name h;
      finishes = λ p i reply t o there at plain told. finishes_same w p i reply t o h.ordered there at plain told;
    }

-- 6. One world

agrees : (log : List Logged) (o : Option Code) → AgreesWith o (slot_by log o)
agrees log None = (refl, refl)
agrees log (Some code) = (refl, refl)

stands_at : (w : World) (name place : ℕ) → IsKept w → place_of name (live_to (names_given w.log) w.places) ≡ Some place → (t : Thread) × (thread_at w place ≡ Some t) × (t.name ≡ name)
stands_at w name place k h = by (is_live name (live_to (names_given w.log) w.places)) refl
  where
    by : (b : Bool) → is_live name (live_to (names_given w.log) w.places) ≡ b → (t : Thread) × (thread_at w place ≡ Some t) × (t.name ≡ name)
    by false e = let both : None ≡ Some place = sym (place_none name (live_to (names_given w.log) w.places) e) ∙ h in cc
    by true e =
        let n = name_low w name k (lives_here w name k e) in
        let q = live_seat name (names_given w.log) w.places e in
        let both : Some q.0 ≡ Some place = sym (place_there (names_given w.log) name q.0 w.places n.0 n.1 q.1) ∙ h in
        let same : q.0 ≡ place = cc in
        let t = seat_there name w.places q.0 q.1 in
        (t.0, ap found (subst (λ m. slice_get w.places m ≡ Some (Some t.0)) same t.1), t.2)

pub one_world : DeskAndBoardAreOfOneWorld
one_world places slots methods events =
    let w : World = world_after (start_world places slots methods) events in
    let h : IsNamed w = named_after (start_world places slots methods) events (named_start places slots methods) in record {
      codes = λ slot. agrees w.log (newest_in w.codes slot);
      threads = λ name place e. stands_at w name place h.ordered.kept e;
    }
