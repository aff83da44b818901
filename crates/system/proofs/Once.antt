-- Each operation runs at most once.
use Rattle.std.proofs.Common.{◌≡◌, ℕ, suc, ◌+◌, ◌<◌, Bool, true, false, cond, List, [], ◌∷◌, ◌++◌, length, Some, None, sym, refl, ap, ap₂, ◌∙◌, ⊎_elim, subst, arith}
use Rattle.std.specs.Prelude.{not, ◌||◌, ◌&&◌, ◌==◌, map, filter, slice_get, slice_set}
use Rattle.std.proofs.lemmas.Bool.{false≢true, eq-eqb, ne_eqb, ltb-true, ltb-false}
use Rattle.std.proofs.lemmas.List.Folds.{list_any-append}
use Rattle.std.specs.Prelude.{nat_lt}
use Rattle.system.specs.declared.events.Act.TheVariants as act
use Rattle.system.specs.declared.events.Event.{Event}
use Rattle.system.specs.declared.events.Event.TheVariants as event
use Rattle.system.specs.declared.answers.Answer.{Answer}
use Rattle.system.specs.Threads.{Thread}
use Rattle.system.specs.Operations.{Requests, Waiting, Opened, Mark, is_marked, marks_of}
use Rattle.system.specs.World.{World, start_world, live_names}
use Rattle.system.specs.Log.{names_given, operations_given, moment}
use Rattle.system.specs.Places.{popped}
use Rattle.system.specs.Step.{new_thread, operated_if}
use Rattle.method_table.specs.Codes.{id_of}
use Rattle.system.specs.Runs.{after, world_after}
use Rattle.system.specs.Facts.{WasOpened, NumbersAreSound}
use Rattle.system.specs.Safepoints.{is_accepted, IsNext}
use Rattle.system.specs.Ran.{open_in, name_in, OperationsRunAtMostOnce}
use Rattle.system.proofs.Outcomes.{Stands, begun, changed_by, ended, entered, moved, held, released, newly_opened, Opens, Operates, Closes}
use Rattle.system.proofs.EventCases.{Cases}
use Rattle.system.proofs.CaseOfEvent.{by_cases}
use Rattle.system.proofs.Twice.{in_steps}
use Rattle.system.proofs.Seats.{Each, each_some, each_none, each_other, each_start, there_of}
use Rattle.system.proofs.Lists.{map_at, push_at, push_length, filter_at}
use Rattle.system.proofs.Numbers.{operated_number, asked_more}
use Rattle.system.proofs.SoundMarks.{marked_old, marked_new, only_open, first_open}
use Rattle.system.proofs.Safely.{handshakes_run}
use Rattle.system.proofs.Sound.{IsKept, kept, kept_start, kept_after}

-- A done operation stays done.
abbrev DoneStays : Requests → Requests → Type 0
DoneStays old new = (n name : ℕ) → is_marked old.done n name ≡ true → is_marked new.done n name ≡ true

or_later : (x y : Bool) → y ≡ true → (x || y) ≡ true
or_later true y h = refl
or_later false y h = h

done_stays : (w : World) → Cases w (λ e a v. DoneStays w.requests v.requests)
done_stays w = record {
  refuses = λ e r. λ n name h. h;
  begins = λ p t i. λ n name h. h;
  changes = λ p t code i. λ n name h. h;
  rests = λ p t i. λ n name h. h;
  ends = λ p t i. λ n name h. h;
  moves = λ p t a state given i. λ n name h. h;
  interprets = λ p t method i. λ n name h. h;
  enters = λ p t method serial code i. λ n name h. h;
  misses = λ p t method serial code i. λ n name h. h;
  leaves = λ p t state i. λ n name h. h;
  exits = λ p t i. λ n name h. h;
  finishes = λ p t opened i. λ n name h. marked_old w.requests.done opened.number t.name n name h;
  clears = λ p t opened i. λ n name h. h;
  holds = λ p t opened i. λ n name h. h;
  releases = λ p t i. λ n name h. h;
  shows = λ p t i. λ n name h. h;
  starts = λ p i. λ n name h. h;
  installs = λ method slot i. λ n name h. h;
  invalidates = λ serial code i. λ n name h. h;
  goes_round = λ i. λ n name h. h;
  looks_clear = λ serial p code i. λ n name h. h;
  looks_late = λ serial p code i. λ n name h. h;
  finds_unlooked = λ serial code p i. λ n name h. h;
  finds_used = λ serial code i. λ n name h. h;
  retires = λ serial code i. λ n name h. h;
  frees = λ serial code i. λ n name h. h;
  asks = λ request i. λ n name h. h;
  opens = λ oldest others i. λ n name h. h;
  tells = λ name opened i. λ n name h. h;
  finds_gone = λ name i. λ n name h. h;
  operates = λ opened others i. λ n name h. list_any-append (λ (mark : Mark). (mark.operation == n) && (mark.name == name)) (marks_of opened.number (live_names w)) w.requests.done ∙ or_later (is_marked (marks_of opened.number (live_names w)) n name) (is_marked w.requests.done n name) h;
  closes = λ number opened i. λ n name h. h;
  counts = λ serial code i. λ n name h. h;
  says_state = λ serial code i. λ n name h. h;
  resolves = λ method i. λ n name h. h;
}

record DoneIn (n name : ℕ) (w : World) : Type 0 where
  done : is_marked w.requests.done n name ≡ true
  kept_is : IsKept w

done_after : (w : World) (events : List Event) (n name : ℕ) → IsKept w → is_marked w.requests.done n name ≡ true → is_marked (world_after w events).requests.done n name ≡ true
done_after w [] n name k h = h
done_after w (e ∷ events) n name k h =
    let r = in_steps (DoneIn n name) (λ v d. d.kept_is.table) (λ v d simple a. record { done = by_cases v (λ e a u. DoneStays v.requests u.requests) (done_stays v) d simple n name a.done; kept_is = kept v d a.kept_is }) w e (record { done = h; kept_is = k }) in
    done_after (after w e) events n name r.kept_is r.done

-- The operation was operated, if it is open, and doesn't open again.
record Past (n : ℕ) (requests : Requests) (numbered : ℕ) : Type 0 where
  operated : (i : ℕ) (o : Opened) → slice_get requests.opened i ≡ Some o → o.number ≡ n → o.operated ≡ true
  was : WasOpened requests.waiting numbered n

operated_still : (n : ℕ) (o : Opened) → o.operated ≡ true → (operated_if n o).operated ≡ true
operated_still n o h = by (o.number == n)
  where
    by : (b : Bool) → (cond b (record o { operated = true }) o).operated ≡ true
    by true = refl
    by false = h

past_opened : (n : ℕ) (w : World) (oldest : Waiting) (others : List Waiting) (g m : ℕ) → Opens w oldest others → NumbersAreSound w.requests.waiting w.requests.opened g (operations_given w.log) m → Past n w.requests (operations_given w.log)
    → Past n (Rattle.system.proofs.Outcomes.with_opened w oldest others) (operations_given w.log)
past_opened n w oldest others g m i numbers h = record {
  operated = λ j o x e. ⊎_elim (λ old. h.operated j o old e) (λ new. (let same : oldest.number ≡ o.number = ap (λ (y : Opened). y.number) new.1 in let a = h.was in let low = a.1 in
      let first = numbers.waiting_is 0 oldest (subst (λ ws. slice_get ws 0 ≡ Some oldest) (sym i.waiting_is) refl) in absurd (omega arith))) (push_at w.requests.opened (newly_opened w oldest) j o x);
  was = (let a = h.was in let low = a.1 in let longer : length w.requests.waiting ≡ suc (length others) = ap (λ (ws : List Waiting). length ws) i.waiting_is in (a.0, omega arith));
}

past_asked : (n : ℕ) (w : World) (request : _) → Past n w.requests (operations_given w.log) → Past n (Rattle.system.proofs.Outcomes.with_request w request) (operations_given w.log + 1)
past_asked n w request h = record {
  operated = h.operated;
  was = (let a = h.was in let low = a.1 in let e = push_length w.requests.waiting (record { number = operations_given w.log + 1; request = request }) in (a.0, omega arith));
}

past_kept : (n : ℕ) (w : World) → IsKept w → Past n w.requests (operations_given w.log) → Cases w (λ e a v. Past n v.requests (operations_given v.log))
past_kept n w k h = record {
  refuses = λ e r. h;
  begins = λ p t i. h;
  changes = λ p t code i. h;
  rests = λ p t i. h;
  ends = λ p t i. h;
  moves = λ p t a state given i. h;
  interprets = λ p t method i. h;
  enters = λ p t method serial code i. h;
  misses = λ p t method serial code i. h;
  leaves = λ p t state i. h;
  exits = λ p t i. h;
  finishes = λ p t opened i. record { operated = h.operated; was = h.was };
  clears = λ p t opened i. record { operated = h.operated; was = h.was };
  holds = λ p t opened i. h;
  releases = λ p t i. h;
  shows = λ p t i. h;
  starts = λ p i. h;
  installs = λ method slot i. h;
  invalidates = λ serial code i. h;
  goes_round = λ i. h;
  looks_clear = λ serial p code i. h;
  looks_late = λ serial p code i. h;
  finds_unlooked = λ serial code p i. h;
  finds_used = λ serial code i. h;
  retires = λ serial code i. h;
  frees = λ serial code i. h;
  asks = λ request i. subst (λ m. Past n (Rattle.system.proofs.Outcomes.with_request w request) m) (asked_more w request) (past_asked n w request h);
  opens = λ oldest others i. past_opened n w oldest others (names_given w.log) (moment w.log) i k.numbers h;
  tells = λ name opened i. record { operated = h.operated; was = h.was };
  finds_gone = λ name i. h;
  operates = λ opened others i. record { operated = λ j o x e. (let m = map_at (operated_if opened.number) w.requests.opened j o x in subst (λ (y : Opened). y.operated ≡ true) m.is (operated_still opened.number m.before (h.operated j m.before m.at (sym (operated_number opened.number m.before) ∙ (ap (λ (y : Opened). y.number) m.is ∙ e))))); was = h.was };
  closes = λ number opened i. record { operated = λ j o x e. (let m = filter_at (λ (o : Opened). not (o.number == opened.number)) w.requests.opened j o x in h.operated m.from o m.at e); was = h.was };
  counts = λ serial code i. h;
  says_state = λ serial code i. h;
  resolves = λ method i. h;
}

record PastIn (n : ℕ) (w : World) : Type 0 where
  past : Past n w.requests (operations_given w.log)
  kept_is : IsKept w

past_after : (n : ℕ) (w : World) (events : List Event) → IsKept w → Past n w.requests (operations_given w.log) → Past n (world_after w events).requests (operations_given (world_after w events).log)
past_after n w [] k h = h
past_after n w (e ∷ events) k h =
    let r = in_steps (PastIn n) (λ v d. d.kept_is.table) (λ v d simple a. record { past = by_cases v (λ e a u. Past n u.requests (operations_given u.log)) (past_kept n v a.kept_is a.past) d simple; kept_is = kept v d a.kept_is }) w e (record { past = h; kept_is = k }) in
    past_after n (after w e) events r.kept_is r.past

-- An accepted Operate is of the only open operation.
abbrev Operating : World → Event → Answer → World → Type 0
Operating w event.Operate a v = is_accepted a ≡ true → (opened : Opened) × (others : List Opened) × (w.requests.opened ≡ opened ∷ others) × (opened.operated ≡ false) × Past opened.number v.requests (operations_given v.log)
Operating w e a v = Unit {0}

refused_case : (w : World) (e : Event) (r : _) → Operating w e (Rattle.system.specs.declared.answers.Answer.TheVariants.Refused r) w
refused_case w event.Operate r = λ z. absurd (false≢true z)
refused_case w e r = tt

operated_past : (w : World) (opened : Opened) (others : List Opened) → IsKept w → Operates w opened others → Past opened.number (Rattle.system.proofs.Outcomes.with_operated w opened) (operations_given w.log)
operated_past w opened others k i = record {
  operated = λ j o x e. (let a = map_at (operated_if opened.number) w.requests.opened j o x in
      let few = k.numbers.census_alone 0 opened (first_open w.requests.opened opened others i.opened_is) i.census in
      let same : a.before ≡ opened = only_open w.requests.opened opened others few i.opened_is j a.before a.at in
      ap (λ (y : Opened). y.operated) (sym a.is) ∙ (ap (λ (y : Opened). (operated_if opened.number y).operated) same ∙ now_operated));
  was = k.numbers.opened_is 0 opened (first_open w.requests.opened opened others i.opened_is);
}
  where
    now_operated : (operated_if opened.number opened).operated ≡ true
    now_operated = let a = eq-eqb opened.number opened.number refl in rw a refl

operating : (w : World) → IsKept w → Cases w (λ e a v. Operating w e a v)
operating w k = record {
  refuses = λ e r. refused_case w e r;
  begins = λ p t i. tt;
  changes = λ p t code i. tt;
  rests = λ p t i. tt;
  ends = λ p t i. tt;
  moves = λ p t a state given i. tt;
  interprets = λ p t method i. tt;
  enters = λ p t method serial code i. tt;
  misses = λ p t method serial code i. tt;
  leaves = λ p t state i. tt;
  exits = λ p t i. tt;
  finishes = λ p t opened i. tt;
  clears = λ p t opened i. tt;
  holds = λ p t opened i. tt;
  releases = λ p t i. tt;
  shows = λ p t i. tt;
  starts = λ p i. tt;
  installs = λ method slot i. tt;
  invalidates = λ serial code i. tt;
  goes_round = λ i. tt;
  looks_clear = λ serial p code i. tt;
  looks_late = λ serial p code i. tt;
  finds_unlooked = λ serial code p i. tt;
  finds_used = λ serial code i. tt;
  retires = λ serial code i. tt;
  frees = λ serial code i. tt;
  asks = λ request i. tt;
  opens = λ oldest others i. tt;
  tells = λ name opened i. tt;
  finds_gone = λ name i. tt;
  operates = λ opened others i. λ z. (opened, others, i.opened_is, i.not_operated, operated_past w opened others k i);
  closes = λ number opened i. tt;
  counts = λ serial code i. tt;
  says_state = λ serial code i. tt;
  resolves = λ method i. tt;
}

-- The worlds of a list of events that is cut in two.
world_cut : (w : World) (before rest : List Event) → world_after w (before ++ rest) ≡ world_after (world_after w before) rest
world_cut w [] rest = refl
world_cut w (e ∷ before) rest = world_cut (after w e) before rest

-- Only one operation is next.
one_next : (requests : Requests) (name : ℕ) (a b : Opened) → IsNext requests name a → IsNext requests name b → a.number ≡ b.number
one_next requests name a b x y = by (nat_lt a.number b.number) refl (nat_lt b.number a.number) refl
  where
    by : (s : Bool) → nat_lt a.number b.number ≡ s → (t : Bool) → nat_lt b.number a.number ≡ t → a.number ≡ b.number
    by true e t f = absurd (false≢true (sym x.not_done ∙ y.least x.position a x.is_open x.told (ltb-true a.number b.number e)))
    by false e true f = absurd (false≢true (sym y.not_done ∙ x.least y.position b y.is_open y.told (ltb-true b.number a.number f)))
    by false e false f = let p = ltb-false a.number b.number e in let q = ltb-false b.number a.number f in omega arith

-- The log determines the thread at each place.
abbrev Named : World → Type 0
Named w = Each (λ p t. name_in p w.log ≡ t.name) w.places

seated_named : (w : World) (p : ℕ) (t u : Thread) → Named w → Stands w p t → u.name ≡ t.name → Each (λ p t. name_in p w.log ≡ t.name) (slice_set w.places p (Some u))
seated_named w p t u h s same = each_some (λ q v. name_in q w.log ≡ v.name) w.places p u s.low h (h p t s.there ∙ sym same)

started_named : (w : World) (p g : ℕ) → Named w → p < length w.places → Each (λ q v. cond (p == q) g (name_in q w.log) ≡ v.name) (slice_set w.places p (Some (new_thread g)))
started_named w p g h low = each_other (λ q v. cond (p == q) g (name_in q w.log) ≡ v.name) w.places p (Some (new_thread g)) low
    (λ q v ne x. (let a = ne_eqb p q (λ z. ne (sym z)) in rw a (h q v x)))
    (λ v x. (let same : new_thread g ≡ v = cc in let a = eq-eqb p p refl in rw a (ap (λ (y : Thread). y.name) same)))

named_kept : (w : World) → Named w → Cases w (λ e a v. Named v)
named_kept w h = record {
  refuses = λ e r. h;
  begins = λ p t i. seated_named w p t (begun t) h i.stands refl;
  changes = λ p t code i. seated_named w p t (changed_by t code) h i.publishes.stands refl;
  rests = λ p t i. seated_named w p t t h i.publishes.stands refl;
  ends = λ p t i. seated_named w p t (ended t) h i.publishes.stands refl;
  moves = λ p t a state given i. seated_named w p t (moved t state) h i.acts.stands refl;
  interprets = λ p t method i. seated_named w p t (entered t method None) h i.acts.stands refl;
  enters = λ p t method serial code i. seated_named w p t (entered t method (Some (id_of code))) h i.calls.acts.stands refl;
  misses = λ p t method serial code i. seated_named w p t t h i.calls.acts.stands refl;
  leaves = λ p t state i. seated_named w p t (moved (popped t) state) h i.acts.stands refl;
  exits = λ p t i. each_none (λ q v. name_in q w.log ≡ v.name) w.places p i.acts.stands.low h;
  finishes = λ p t opened i. h;
  clears = λ p t opened i. h;
  holds = λ p t opened i. seated_named w p t (held t) h i.acts.stands refl;
  releases = λ p t i. seated_named w p t (released t) h i.acts.stands refl;
  shows = λ p t i. seated_named w p t t h i refl;
  starts = λ p i. started_named w p (names_given w.log + 1) h i.low;
  installs = λ method slot i. h;
  invalidates = λ serial code i. h;
  goes_round = λ i. h;
  looks_clear = λ serial p code i. h;
  looks_late = λ serial p code i. h;
  finds_unlooked = λ serial code p i. h;
  finds_used = λ serial code i. h;
  retires = λ serial code i. h;
  frees = λ serial code i. h;
  asks = λ request i. h;
  opens = λ oldest others i. h;
  tells = λ name opened i. h;
  finds_gone = λ name i. h;
  operates = λ opened others i. h;
  closes = λ number opened i. h;
  counts = λ serial code i. h;
  says_state = λ serial code i. h;
  resolves = λ method i. h;
}

record NamedIn (w : World) : Type 0 where
  named : Named w
  kept_is : IsKept w

named_after : (w : World) (events : List Event) → IsKept w → Named w → Named (world_after w events)
named_after w [] k h = h
named_after w (e ∷ events) k h =
    let r = in_steps NamedIn (λ v d. d.kept_is.table) (λ v d simple a. record { named = by_cases v (λ e a u. Named u) (named_kept v a.named) d simple; kept_is = kept v d a.kept_is }) w e (record { named = h; kept_is = k }) in
    named_after (after w e) events r.kept_is r.named

-- The log determines which operations are open.
abbrev LogOpen : World → Type 0
LogOpen w = open_in w.log ≡ map (λ (o : Opened). o.number) w.requests.opened

numbers_push : (os : List Opened) (o : Opened) → map (λ (x : Opened). x.number) (os ++ o ∷ []) ≡ map (λ (x : Opened). x.number) os ++ o.number ∷ []
numbers_push [] o = refl
numbers_push (x ∷ os) o = ap (λ ns. x.number ∷ ns) (numbers_push os o)

numbers_operated : (n : ℕ) (os : List Opened) → map (λ (x : Opened). x.number) (map (operated_if n) os) ≡ map (λ (x : Opened). x.number) os
numbers_operated n [] = refl
numbers_operated n (x ∷ os) = ap₂ (λ m ns. m ∷ ns) (operated_number n x) (numbers_operated n os)

numbers_left : (n : ℕ) (os : List Opened) → filter (λ m. not (m == n)) (map (λ (x : Opened). x.number) os) ≡ map (λ (x : Opened). x.number) (filter (λ x. not (x.number == n)) os)
numbers_left n [] = refl
numbers_left n (x ∷ os) = by (x.number == n) (numbers_left n os)
  where
    by : (b : Bool) → filter (λ m. not (m == n)) (map (λ (y : Opened). y.number) os) ≡ map (λ (y : Opened). y.number) (filter (λ y. not (y.number == n)) os)
        → cond (not b) (x.number ∷ filter (λ m. not (m == n)) (map (λ (y : Opened). y.number) os)) (filter (λ m. not (m == n)) (map (λ (y : Opened). y.number) os))
        ≡ map (λ (y : Opened). y.number) (cond (not b) (x ∷ filter (λ y. not (y.number == n)) os) (filter (λ y. not (y.number == n)) os))
    by true r = r
    by false r = ap (λ ns. x.number ∷ ns) r

log_kept : (w : World) → LogOpen w → Cases w (λ e a v. LogOpen v)
log_kept w h = record {
  refuses = λ e r. h;
  begins = λ p t i. h;
  changes = λ p t code i. h;
  rests = λ p t i. h;
  ends = λ p t i. h;
  moves = λ p t a state given i. h;
  interprets = λ p t method i. h;
  enters = λ p t method serial code i. h;
  misses = λ p t method serial code i. h;
  leaves = λ p t state i. h;
  exits = λ p t i. h;
  finishes = λ p t opened i. h;
  clears = λ p t opened i. h;
  holds = λ p t opened i. h;
  releases = λ p t i. h;
  shows = λ p t i. h;
  starts = λ p i. h;
  installs = λ method slot i. h;
  invalidates = λ serial code i. h;
  goes_round = λ i. h;
  looks_clear = λ serial p code i. h;
  looks_late = λ serial p code i. h;
  finds_unlooked = λ serial code p i. h;
  finds_used = λ serial code i. h;
  retires = λ serial code i. h;
  frees = λ serial code i. h;
  asks = λ request i. h;
  opens = λ oldest others i. ap (λ ns. ns ++ oldest.number ∷ []) h ∙ sym (numbers_push w.requests.opened (newly_opened w oldest));
  tells = λ name opened i. h;
  finds_gone = λ name i. h;
  operates = λ opened others i. h ∙ sym (numbers_operated opened.number w.requests.opened);
  closes = λ number opened i. ap (filter (λ m. not (m == opened.number))) h ∙ numbers_left opened.number w.requests.opened;
  counts = λ serial code i. h;
  says_state = λ serial code i. h;
  resolves = λ method i. h;
}

record LogIn (w : World) : Type 0 where
  open_is : LogOpen w
  kept_is : IsKept w

log_after : (w : World) (events : List Event) → IsKept w → LogOpen w → LogOpen (world_after w events)
log_after w [] k h = h
log_after w (e ∷ events) k h =
    let r = in_steps LogIn (λ v d. d.kept_is.table) (λ v d simple a. record { open_is = by_cases v (λ e a u. LogOpen u) (log_kept v a.open_is) d simple; kept_is = kept v d a.kept_is }) w e (record { open_is = h; kept_is = k }) in
    log_after (after w e) events r.kept_is r.open_is

pub run_at_most_once : OperationsRunAtMostOnce
run_at_most_once places slots methods events = record {
  finished = λ before between rest p q operation name is first second. (
      let w = world_after (start_world places slots methods) before in
      let safe = handshakes_run places slots methods (before ++ event.At p act.Finish ∷ []) before [] p refl first.accepted in
      let who : safe.thread ≡ first.thread = (let e : Some safe.thread ≡ Some first.thread = sym safe.there ∙ first.there in cc) in
      let same_name : safe.thread.name ≡ name = ap (λ (t : Thread). t.name) who ∙ first.named in
      let number : safe.opened.number ≡ operation = one_next w.requests name safe.opened first.opened (subst (λ k. IsNext w.requests k safe.opened) same_name safe.next) first.next ∙ first.number in
      let marked : is_marked (after w (event.At p act.Finish)).requests.done safe.opened.number safe.thread.name ≡ true =
      subst (λ (r : Requests). is_marked r.done safe.opened.number safe.thread.name ≡ true) (sym safe.done) (marked_new w.requests.done safe.opened.number safe.thread.name) in
      let marked_so : is_marked (after w (event.At p act.Finish)).requests.done operation name ≡ true =
      subst (λ k. is_marked (after w (event.At p act.Finish)).requests.done k name ≡ true) number
      (subst (λ k. is_marked (after w (event.At p act.Finish)).requests.done safe.opened.number k ≡ true) same_name marked) in
      let later = done_after (after w (event.At p act.Finish)) between operation name (kept w (event.At p act.Finish) (kept_after (start_world places slots methods) before (kept_start places slots methods))) marked_so in
      let there : is_marked (world_after (start_world places slots methods) (before ++ event.At p act.Finish ∷ between)).requests.done operation name ≡ true =
      subst (λ (v : World). is_marked v.requests.done operation name ≡ true) (sym (world_cut (start_world places slots methods) before (event.At p act.Finish ∷ between))) later in
      false≢true (sym second.next.not_done ∙ subst (λ k. is_marked (world_after (start_world places slots methods) (before ++ event.At p act.Finish ∷ between)).requests.done k name ≡ true) (sym second.number) there));
  operated = λ before between rest operation is first second. (
      let w = world_after (start_world places slots methods) before in
      let k = kept_after (start_world places slots methods) before (kept_start places slots methods) in
      let a = by_cases w (λ e a v. Operating w e a v) (operating w k) event.Operate tt first.accepted in
      let one : a.0 ≡ first.opened = (let e : a.0 ∷ a.1 ≡ first.opened ∷ [] = sym a.2 ∙ first.opened_is in cc) in
      let number : a.0.number ≡ operation = ap (λ (o : Opened). o.number) one ∙ first.number in
      let past = past_after a.0.number (after w event.Operate) between (kept w event.Operate k) a.4 in
      let v = world_after (start_world places slots methods) (before ++ event.Operate ∷ between) in
      let there : Past a.0.number v.requests (operations_given v.log) = subst (λ (u : World). Past a.0.number u.requests (operations_given u.log)) (sym (world_cut (start_world places slots methods) before (event.Operate ∷ between))) past in
      let kv = kept_after (start_world places slots methods) (before ++ event.Operate ∷ between) (kept_start places slots methods) in
      let b = by_cases v (λ e a u. Operating v e a u) (operating v kv) event.Operate tt second.accepted in
      let two : b.0 ≡ second.opened = (let e : b.0 ∷ b.1 ≡ second.opened ∷ [] = sym b.2 ∙ second.opened_is in cc) in
      let still : second.opened.operated ≡ true = there.operated 0 second.opened (subst (λ (os : List Opened). slice_get os 0 ≡ Some second.opened) (sym second.opened_is) refl) (second.number ∙ sym number) in
      false≢true (sym b.3 ∙ (ap (λ (o : Opened). o.operated) two ∙ still)));
  open_is = log_after (start_world places slots methods) events (kept_start places slots methods) refl;
  name_is = λ place t x. (let w = world_after (start_world places slots methods) events in
      named_after (start_world places slots methods) events (kept_start places slots methods) (each_start (λ p t. 0 ≡ t.name) places) place t (there_of w place t x));
}
