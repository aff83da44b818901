-- Operations run on the published stacks of threads at safe points.
use Rattle.std.proofs.Common.{◌≡◌, ℕ, zero, suc, ◌+◌, ◌<◌, ◌≤◌, Bool, true, false, List, [], ◌∷◌, length, Option, Some, None, sym, refl, ap, subst, arith}
use Rattle.std.specs.Prelude.{not, ◌&&◌, nat_lt, slice_get, sum_by}
use Rattle.std.proofs.lemmas.Bool.{false≢true, or_cases, ltb-true, ltb-false}
use mathlib.Core.Logic.{dite}
use native.Mathlib.Decide.{ℕ_discrete}
use Rattle.operations.specs.Names.{among}
use Rattle.system.specs.Places.{is_undone}
use Rattle.std.proofs.lemmas.List.Sums.{sum_by-cons}
use Rattle.frames.specs.declared.CodeId.{CodeId}
use Rattle.operations.specs.declared.Ask.{Ask}
use Rattle.operations.specs.declared.Request.{Request}
use Rattle.operations.specs.declared.Request.TheVariants.{Handshake, Census}
use Rattle.system.specs.declared.events.Act.{Act}
use Rattle.system.specs.declared.events.Act.TheVariants as act
use Rattle.system.specs.declared.events.Event.{Event}
use Rattle.system.specs.declared.events.Event.TheVariants as event
use Rattle.system.specs.declared.answers.Answer.{Answer}
use Rattle.system.specs.declared.answers.Answer.TheVariants as answer
use Rattle.thread_state.specs.States.{is_serving}
use Rattle.frames.specs.Stack as stack
use Rattle.operations.specs.Requests.{is_census, is_target, lists, reply_to}
use Rattle.system.specs.Threads.{Thread, is_settled}
use Rattle.system.specs.Operations.{Opened, is_marked}
use Rattle.system.specs.World.{World, start_world, found, threads, part_at, census}
use Rattle.system.specs.Runs.{world_after}
use Rattle.system.specs.Safepoints.{is_accepted, IsSettled, IsNext, FinishesSafely, OperatesSafely, HandshakesRunAtSafePoints, CensusesRunAtSafepoints}
use Rattle.system.proofs.Outcomes.{asked, seated, moved, with_done, Finishes, Operates, is_move}
use Rattle.system.proofs.EventCases.{Cases}
use Rattle.system.proofs.CaseOfEvent.{by_cases}
use Rattle.system.proofs.Lists.{all_at, any_at, IsFirst, find_before, same_at, at_low}
use Rattle.system.proofs.Frames.{settled_quiet, settled_is, part_settled}
use Rattle.system.proofs.SoundMarks.{threads_has, first_open}
use Rattle.system.proofs.Seats.{there_of}
use Rattle.system.proofs.Sound.{IsKept, kept_start, kept_after}

pub settled : (t : Thread) → is_settled t ≡ true → IsSettled t
settled t h = record { quiet = settled_quiet t h; counts = λ code. settled_is t code h }

-- A Finish and an Operate are safe.
abbrev IsSafeFinish : World → Event → Answer → World → Type 0
IsSafeFinish w (event.At p act.Finish) said later = FinishesSafely w p said later
IsSafeFinish w e said later = Unit {0}

abbrev IsSafeOperate : World → Event → Answer → Type 0
IsSafeOperate w event.Operate said = OperatesSafely w said
IsSafeOperate w e said = Unit {0}

-- A request that isn't a census is a handshake.
asked_of : (r : Request) (name : ℕ) → (is_census r ≡ true → ⊥) → is_target r name ≡ true → (targets : List ℕ) × (ask : Ask) × (r ≡ Handshake targets ask) × (among name targets ≡ true)
asked_of Census name h k = absurd (h refl)
asked_of (Handshake targets ask) name h k = (targets, ask, refl, k)

census_lists : (r : Request) (name : ℕ) → is_census r ≡ true → lists r name ≡ true → ⊥
census_lists Census name h k = false≢true k
census_lists (Handshake targets ask) name h k = false≢true h

-- Only one operation is open.
alone : (os : List Opened) (o : Opened) (others : List Opened) → length os ≤ 1 → os ≡ o ∷ others → os ≡ o ∷ []
alone os o [] few is = is
alone os o (x ∷ xs) few is = let n : length os ≡ suc (suc (length xs)) = ap (λ (ys : List Opened). length ys) is in absurd (omega arith)

-- The least operation that is told and not done.
next_is : (w : World) (p : ℕ) (t : Thread) (opened : Opened) → IsKept w → Finishes w p t opened → IsNext w.requests t.name opened
next_is w p t opened k i = record {
  position = found.place;
  is_open = found.at;
  told = i.told;
  not_done = i.not_done;
  least = λ j o x told less. by j o x told less (nat_lt j found.place) refl;
}
  where
    found : IsFirst (is_undone w.requests t.name) w.requests.opened opened
    found = find_before (is_undone w.requests t.name) w.requests.opened opened i.least

    done_of : (a b : Bool) → (a && not b) ≡ false → a ≡ true → b ≡ true
    done_of a true e h = refl
    done_of true false e h = absurd (false≢true (sym e))
    done_of false false e h = absurd (false≢true h)

    by : (j : ℕ) (o : Opened) → slice_get w.requests.opened j ≡ Some o → is_marked w.requests.told o.number t.name ≡ true → o.number < opened.number → (b : Bool) → nat_lt j found.place ≡ b
        → is_marked w.requests.done o.number t.name ≡ true
    by j o x told less true e = done_of (is_marked w.requests.told o.number t.name) (is_marked w.requests.done o.number t.name) (found.none_before j o (ltb-true j found.place e) x) told
    by j o x told less false e = dite (ℕ_discrete j found.place)
        (λ same. (let is : o ≡ opened = same_at w.requests.opened found.place o opened (subst (λ n. slice_get w.requests.opened n ≡ Some o) same x) found.at in
        let number = ap (λ (y : Opened). y.number) is in absurd (omega arith)))
        (λ ne. (let above = after_of j found.place (ltb-false j found.place e) ne in let r = k.numbers.opened_rise found.place j opened o above found.at x in absurd (omega arith)))
      where
        after_of : (a b : ℕ) → b ≤ a → (a ≡ b → ⊥) → b < a
        after_of a b le ne = omega (arith, ne)

finish_safe : (w : World) (p : ℕ) (t : Thread) (opened : Opened) → IsKept w → Finishes w p t opened
    → FinishesSafely w p (answer.Reply (reply_to opened.request t.stack)) (asked w (with_done w.requests opened t.name) (event.At p act.Finish) (answer.Reply (reply_to opened.request t.stack)))
finish_safe w p t opened k i =
    let live = k.marks.told_live i.open_is.position opened t.name i.open_is.here i.told in
    let request = asked_of opened.request t.name not_census (k.marks.live_target i.open_is.position opened t.name i.open_is.here live) in record {
      thread = t;
      there = ap found i.acts.stands.there;
      settled = settled t i.settled;
      safe_point = or_cases t.held (is_serving t.state) i.acts.lawful;
      held_safe = k.safe p t i.acts.stands.there;
      opened = opened;
      next = next_is w p t opened k i;
      targets = request.0;
      ask = request.1;
      handshake = request.2;
      listed = request.3;
      reply = ap (λ r. answer.Reply (reply_to r t.stack)) request.2;
      done = refl;
    }
  where
    not_census : is_census opened.request ≡ true → ⊥
    not_census census =
        let a = any_at (λ (o : Opened). lists o.request t.name) w.requests.opened i.listed in
        let few = k.numbers.census_alone i.open_is.position opened i.open_is.here census in
        let low = at_low w.requests.opened a.0 a.1 a.2 in let here = at_low w.requests.opened i.open_is.position opened i.open_is.here in
        let place : a.0 ≡ i.open_is.position = omega arith in
        let is : a.1 ≡ opened = same_at w.requests.opened i.open_is.position a.1 opened (subst (λ n. slice_get w.requests.opened n ≡ Some a.1) place a.2) i.open_is.here in
        census_lists opened.request t.name census (subst (λ (o : Opened). lists o.request t.name ≡ true) is a.3)

move_free : (w : World) (p : ℕ) (a : Act) (said : Answer) (v : World) → is_move a ≡ true → IsSafeFinish w (event.At p a) said v
move_free w p act.Wake said v h = tt
move_free w p act.Cross said v h = tt
move_free w p act.Edge said v h = tt
move_free w p act.ToVm said v h = tt
move_free w p act.FromVm said v h = tt
move_free w p act.ToNative said v h = tt
move_free w p act.Block said v h = tt
move_free w p act.Take said v h = tt
move_free w p a said v h = absurd (false≢true h)

finish_cases : (w : World) → IsKept w → Cases w (λ e a v. is_accepted a ≡ true → IsSafeFinish w e a v)
finish_cases w k = record {
  refuses = λ e r z. absurd (false≢true z);
  begins = λ p t i. λ z. tt;
  changes = λ p t code i. λ z. tt;
  rests = λ p t i. λ z. tt;
  ends = λ p t i. λ z. tt;
  moves = λ p t a state given i. λ z. move_free w p a given (seated w p (Some (moved t state)) (event.At p a) given) i.is;
  interprets = λ p t method i. λ z. tt;
  enters = λ p t method serial code i. λ z. tt;
  misses = λ p t method serial code i. λ z. tt;
  leaves = λ p t state i. λ z. tt;
  exits = λ p t i. λ z. tt;
  finishes = λ p t opened i. λ z. finish_safe w p t opened k i;
  clears = λ p t opened i. λ z. tt;
  holds = λ p t opened i. λ z. tt;
  releases = λ p t i. λ z. tt;
  shows = λ p t i. λ z. tt;
  starts = λ p i. λ z. tt;
  installs = λ method slot i. λ z. tt;
  invalidates = λ serial code i. λ z. tt;
  goes_round = λ i. λ z. tt;
  looks_clear = λ serial p code i. λ z. tt;
  looks_late = λ serial p code i. λ z. tt;
  finds_unlooked = λ serial code p i. λ z. tt;
  finds_used = λ serial code i. λ z. tt;
  retires = λ serial code i. λ z. tt;
  frees = λ serial code i. λ z. tt;
  asks = λ request i. λ z. tt;
  opens = λ oldest others i. λ z. tt;
  tells = λ name opened i. λ z. tt;
  finds_gone = λ name i. λ z. tt;
  operates = λ opened others i. λ z. tt;
  closes = λ number opened i. λ z. tt;
  counts = λ serial code i. λ z. tt;
  says_state = λ serial code i. λ z. tt;
  resolves = λ method i. λ z. tt;
}

pub handshakes_run : HandshakesRunAtSafePoints
handshakes_run places slots methods events before rest p is accepted =
    let w = world_after (start_world places slots methods) before in
    by_cases w (λ e a v. is_accepted a ≡ true → IsSafeFinish w e a v) (finish_cases w (kept_after (start_world places slots methods) before (kept_start places slots methods))) (event.At p act.Finish) tt accepted

-- The index counts the stacks if all threads are settled.
pub index_is : (c : CodeId) (places : List (Option Thread)) → ((p : ℕ) (t : Thread) → slice_get places p ≡ Some (Some t) → is_settled t ≡ true) → sum_by (part_at c) places ≡ sum_by (λ (t : Thread). stack.act c t.stack) (threads places)
index_is c [] h = refl
index_is c (None ∷ places) h = let a = sum_by-cons (part_at c) None places in let r = index_is c places (λ p t x. h (suc p) t x) in omega arith
index_is c (Some t ∷ places) h =
    let a = sum_by-cons (part_at c) (Some t) places in let b = sum_by-cons (λ (u : Thread). stack.act c u.stack) t (threads places) in
    let same = part_settled c t (h 0 t refl) in let r = index_is c places (λ p u x. h (suc p) u x) in omega arith

-- A code with a frame has a frame on some stack.
frame_at : (c : CodeId) (places : List (Option Thread)) → 0 < sum_by (λ (t : Thread). stack.act c t.stack) (threads places) → (p : ℕ) × (t : Thread) × (slice_get places p ≡ Some (Some t)) × (0 < stack.act c t.stack)
frame_at c [] h = absurd (omega arith)
frame_at c (None ∷ places) h = let r = frame_at c places h in (suc r.0, r.1, r.2, r.3)
frame_at c (Some t ∷ places) h = by (stack.act c t.stack) refl (sum_by-cons (λ (u : Thread). stack.act c u.stack) t (threads places)) (frame_at c places)
  where
    by : (n : ℕ) → stack.act c t.stack ≡ n → sum_by (λ (u : Thread). stack.act c u.stack) (t ∷ threads places) ≡ stack.act c t.stack + sum_by (λ (u : Thread). stack.act c u.stack) (threads places)
        → (0 < sum_by (λ (t : Thread). stack.act c t.stack) (threads places) → (p : ℕ) × (t : Thread) × (slice_get places p ≡ Some (Some t)) × (0 < stack.act c t.stack))
        → (p : ℕ) × (u : Thread) × (slice_get (Some t ∷ places) p ≡ Some (Some u)) × (0 < stack.act c u.stack)
    by zero e step rest = let r = rest (omega arith) in (suc r.0, r.1, r.2, r.3)
    by (suc n) e step rest = (0, t, refl, omega arith)

operate_safe : (w : World) (opened : Opened) (others : List Opened) → IsKept w → Operates w opened others → OperatesSafely w (answer.Census (census w))
operate_safe w opened others k i = record {
  opened = opened;
  opened_is = alone w.requests.opened opened others (k.numbers.census_alone 0 opened (first_open w.requests.opened opened others i.opened_is) i.census) i.opened_is;
  is_a_census = i.census;
  each = λ p t x. (let there = there_of w p t x in record { settled = settled t (settled_at p t there); held = held_at p t there; safe = k.safe p t there (held_at p t there) });
  index = λ c. index_is c w.places settled_at;
  complete = λ c some. (let r = frame_at c w.places some in let s = k.threads.each r.0 r.1 r.2 in s.stack_given c r.3);
  answer_is = refl;
}
  where
    settled_at : (p : ℕ) (t : Thread) → slice_get w.places p ≡ Some (Some t) → is_settled t ≡ true
    settled_at p t x = let r = threads_has w.places p t x in all_at is_settled (threads w.places) r.0 t i.settled r.1

    held_at : (p : ℕ) (t : Thread) → slice_get w.places p ≡ Some (Some t) → t.held ≡ true
    held_at p t x = let r = threads_has w.places p t x in all_at (λ (u : Thread). u.held) (threads w.places) r.0 t i.held r.1

operate_cases : (w : World) → IsKept w → Cases w (λ e a v. is_accepted a ≡ true → IsSafeOperate w e a)
operate_cases w k = record {
  refuses = λ e r z. absurd (false≢true z);
  begins = λ p t i. λ z. tt;
  changes = λ p t code i. λ z. tt;
  rests = λ p t i. λ z. tt;
  ends = λ p t i. λ z. tt;
  moves = λ p t a state given i. λ z. tt;
  interprets = λ p t method i. λ z. tt;
  enters = λ p t method serial code i. λ z. tt;
  misses = λ p t method serial code i. λ z. tt;
  leaves = λ p t state i. λ z. tt;
  exits = λ p t i. λ z. tt;
  finishes = λ p t opened i. λ z. tt;
  clears = λ p t opened i. λ z. tt;
  holds = λ p t opened i. λ z. tt;
  releases = λ p t i. λ z. tt;
  shows = λ p t i. λ z. tt;
  starts = λ p i. λ z. tt;
  installs = λ method slot i. λ z. tt;
  invalidates = λ serial code i. λ z. tt;
  goes_round = λ i. λ z. tt;
  looks_clear = λ serial p code i. λ z. tt;
  looks_late = λ serial p code i. λ z. tt;
  finds_unlooked = λ serial code p i. λ z. tt;
  finds_used = λ serial code i. λ z. tt;
  retires = λ serial code i. λ z. tt;
  frees = λ serial code i. λ z. tt;
  asks = λ request i. λ z. tt;
  opens = λ oldest others i. λ z. tt;
  tells = λ name opened i. λ z. tt;
  finds_gone = λ name i. λ z. tt;
  operates = λ opened others i. λ z. operate_safe w opened others k i;
  closes = λ number opened i. λ z. tt;
  counts = λ serial code i. λ z. tt;
  says_state = λ serial code i. λ z. tt;
  resolves = λ method i. λ z. tt;
}

pub censuses_run : CensusesRunAtSafepoints
censuses_run places slots methods events before rest is accepted =
    let w = world_after (start_world places slots methods) before in
    by_cases w (λ e a v. is_accepted a ≡ true → IsSafeOperate w e a) (operate_cases w (kept_after (start_world places slots methods) before (kept_start places slots methods))) event.Operate tt accepted
