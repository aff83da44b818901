-- The numbers of names, operations and moments are sound in every reachable world.
use Rattle.std.proofs.Common.{◌≡◌, ◌⊎◌, ℕ, suc, ◌+◌, ◌<◌, ◌≤◌, Bool, true, false, cond, List, [], ◌∷◌, ◌++◌, length, map, Some, sym, refl, ap, ◌∙◌, inl, inr, ⊎_elim, subst, arith}
use Rattle.std.specs.Prelude.{not, ◌==◌, nat_lt, slice_get, filter}
use Rattle.std.proofs.lemmas.Bool.{false≢true, ltb-true, ltb-false}
use mathlib.Core.Logic.{dite}
use native.Mathlib.Decide.{ℕ_discrete}
use Rattle.operations.specs.declared.Request.{Request}
use Rattle.operations.specs.Requests.{is_census}
use Rattle.method_table.specs.Numbers.{last_number}
use Rattle.system.specs.declared.events.Event.TheVariants as event
use Rattle.system.specs.declared.answers.Answer.TheVariants as answer
use Rattle.system.specs.Operations.{Waiting, Opened}
use Rattle.system.specs.World.{World}
use Rattle.system.specs.Log.{Entry, is_ask, is_round, names_given, operations_given, moment}
use Rattle.system.specs.Step.{operated_if}
use Rattle.system.specs.Facts.{WasOpened, NumbersAreSound}
use Rattle.system.proofs.Outcomes.{newly_opened, Opens}
use Rattle.system.proofs.EventCases.{Cases}
use Rattle.system.proofs.Lists.{map_at, map_length, push_at, push_length, filter_at, filter_less, filter_pair, at_low, any_none_at, same_at}
use Rattle.system.proofs.Frames.{count_cons}
use Rattle.system.proofs.Threads.{started_more}

pub operated_number : (n : ℕ) (o : Opened) → (operated_if n o).number ≡ o.number
operated_number n o = by (o.number == n)
  where
    by : (b : Bool) → (cond b (record o { operated = true }) o).number ≡ o.number
    by true = refl
    by false = refl

pub operated_live : (n : ℕ) (o : Opened) → (operated_if n o).live ≡ o.live
operated_live n o = by (o.number == n)
  where
    by : (b : Bool) → (cond b (record o { operated = true }) o).live ≡ o.live
    by true = refl
    by false = refl

pub operated_request : (n : ℕ) (o : Opened) → (operated_if n o).request ≡ o.request
operated_request n o = by (o.number == n)
  where
    by : (b : Bool) → (cond b (record o { operated = true }) o).request ≡ o.request
    by true = refl
    by false = refl

-- Two open operations with the same number are the same.
pub only_number : {ws : List Waiting} {os : List Opened} {g n m : ℕ} → NumbersAreSound ws os g n m → (i j : ℕ) (a b : Opened) → slice_get os i ≡ Some a → slice_get os j ≡ Some b → a.number ≡ b.number → a ≡ b
only_number {ws} {os} h i j a b x y same = dite (ℕ_discrete i j)
    (λ e. same_at os j a b (subst (λ k. slice_get os k ≡ Some a) e x) y)
    (λ ne. by (nat_lt i j) refl ne)
  where
    by : (t : Bool) → nat_lt i j ≡ t → (i ≡ j → ⊥) → a ≡ b
    by true e ne = let less = h.opened_rise i j a b (ltb-true i j e) x y in absurd (omega arith)
    by false e ne = let k : j ≤ i = ltb-false i j e in let less : j < i = above k ne in let r = h.opened_rise j i b a less y x in absurd (omega arith)
      where
        above : j ≤ i → (i ≡ j → ⊥) → j < i
        above k ne = omega (arith, ne)

pub asked_more : (w : World) (request : Request) → operations_given w.log + 1 ≡ operations_given (record { event = event.Ask request; answer = answer.Asked (operations_given w.log + 1) } ∷ w.log)
asked_more w request = let a = count_cons (λ (x : Entry). is_ask x.event) (record { event = event.Ask request; answer = answer.Asked (operations_given w.log + 1) }) w.log in omega arith

pub round_more : (w : World) → moment w.log + 1 ≡ moment (record { event = event.Round; answer = answer.Done } ∷ w.log)
round_more w = let a = count_cons (λ (x : Entry). is_round x.event) (record { event = event.Round; answer = answer.Done }) w.log in omega arith

asked_sound : (ws : List Waiting) (os : List Opened) (g n m : ℕ) (request : Request) → n < last_number → length ws < 64 → NumbersAreSound ws os g n m → NumbersAreSound (ws ++ record { number = n + 1; request = request } ∷ []) os g (n + 1) m
asked_sound ws os g n m request room queue h = record {
  names_few = h.names_few;
  operations_few = omega arith;
  moment_few = h.moment_few;
  queue_few = (let e = push_length ws new in omega arith);
  waiting_asked = (let e = push_length ws new in let a = h.waiting_asked in omega arith);
  waiting_is = λ i x y. (let e = push_length ws new in ⊎_elim (λ old. (let a = h.waiting_is i x old in omega arith)) (λ last. (let a = last.0 in let b : n + 1 ≡ x.number = ap (λ (z : Waiting). z.number) last.1 in omega arith)) (push_at ws new i x y));
  few_open = h.few_open;
  census_alone = h.census_alone;
  opened_rise = h.opened_rise;
  opened_is = λ i o y. (let e = push_length ws new in let a = h.opened_is i o y in let low = a.1 in (a.0, omega arith));
}
  where
    new : Waiting
    new = record { number = n + 1; request = request }

opened_sound : (w : World) (oldest : Waiting) (others : List Waiting) (g n m : ℕ) → Opens w oldest others → NumbersAreSound w.requests.waiting w.requests.opened g n m → NumbersAreSound others (w.requests.opened ++ newly_opened w oldest ∷ []) g n m
opened_sound w oldest others g n m i h = record {
  names_few = h.names_few;
  operations_few = h.operations_few;
  moment_few = h.moment_few;
  queue_few = (let a = h.queue_few in let b = longer in omega arith);
  waiting_asked = (let a = h.waiting_asked in let b = longer in omega arith);
  waiting_is = λ j x y. (let a = h.waiting_is (suc j) x (subst (λ ws. slice_get ws (suc j) ≡ Some x) (sym i.waiting_is) y) in let b = longer in omega arith);
  few_open = (let a = push_length w.requests.opened (newly_opened w oldest) in let b = i.few in omega arith);
  census_alone = λ j o y census. alone j o census (push_at w.requests.opened (newly_opened w oldest) j o y);
  opened_rise = λ j k a b less x y. rise j k a b less (push_at w.requests.opened (newly_opened w oldest) j a x) (push_at w.requests.opened (newly_opened w oldest) k b y);
  opened_is = λ j o y. by j o (push_at w.requests.opened (newly_opened w oldest) j o y);
}
  where
    longer : length w.requests.waiting ≡ suc (length others)
    longer = ap (λ (ws : List Waiting). length ws) i.waiting_is

    by : (j : ℕ) (o : Opened) → (slice_get w.requests.opened j ≡ Some o) ⊎ ((j ≡ length w.requests.opened) × (newly_opened w oldest ≡ o)) → WasOpened others n o.number
    by j o (inl a) = let b = h.opened_is j o a in let c = b.1 in let d = longer in (b.0, omega arith)
    by j o (inr a) =
        let first = h.waiting_is 0 oldest (subst (λ ws. slice_get ws 0 ≡ Some oldest) (sym i.waiting_is) refl) in let d = longer in let few = h.waiting_asked in
        let same : oldest.number ≡ o.number = ap (λ (x : Opened). x.number) a.1 in (omega arith, omega arith)

    alone : (j : ℕ) (o : Opened) → is_census o.request ≡ true → (slice_get w.requests.opened j ≡ Some o) ⊎ ((j ≡ length w.requests.opened) × (newly_opened w oldest ≡ o)) → length (w.requests.opened ++ newly_opened w oldest ∷ []) ≤ 1
    alone j o census (inl a) = absurd (false≢true (sym (any_none_at (λ (x : Opened). is_census x.request) w.requests.opened j o i.no_safepoint a) ∙ census))
    alone j o census (inr a) =
        let none : w.requests.opened ≡ [] = i.alone (ap (λ (x : Opened). is_census x.request) a.1 ∙ census) in
        let e = push_length w.requests.opened (newly_opened w oldest) in let zero_ : length w.requests.opened ≡ 0 = ap (λ (os : List Opened). length os) none in omega arith

    rise : (j k : ℕ) (a b : Opened) → j < k → (slice_get w.requests.opened j ≡ Some a) ⊎ ((j ≡ length w.requests.opened) × (newly_opened w oldest ≡ a))
        → (slice_get w.requests.opened k ≡ Some b) ⊎ ((k ≡ length w.requests.opened) × (newly_opened w oldest ≡ b)) → a.number < b.number
    rise j k a b less (inl x) (inl y) = h.opened_rise j k a b less x y
    rise j k a b less (inl x) (inr y) =
        let old = h.opened_is j a x in let low = old.1 in
        let first = h.waiting_is 0 oldest (subst (λ ws. slice_get ws 0 ≡ Some oldest) (sym i.waiting_is) refl) in
        let same : oldest.number ≡ b.number = ap (λ (o : Opened). o.number) y.1 in omega arith
    rise j k a b less (inr x) (inl y) = let low = at_low w.requests.opened k b y in let is = x.0 in absurd (omega arith)
    rise j k a b less (inr x) (inr y) = let p = x.0 in let q = y.0 in absurd (omega arith)

-- Each event preserves this.
pub numbers_kept : (w : World) → NumbersAreSound w.requests.waiting w.requests.opened (names_given w.log) (operations_given w.log) (moment w.log)
    → Cases w (λ e a v. NumbersAreSound v.requests.waiting v.requests.opened (names_given v.log) (operations_given v.log) (moment v.log))
numbers_kept w h = record {
  refuses = λ e r. h;
  begins = λ p t i. h;
  changes = λ p t code i. h;
  rests = λ p t i. h;
  ends = λ p t i. h;
  moves = λ p t a state given i. h;
  interprets = λ p t method i. h;
  enters = λ p t method serial code i. h;
  misses = λ p t method serial code i. h;
  leaves = λ p t state i. h;
  exits = λ p t i. h;
  finishes = λ p t opened i. h;
  clears = λ p t opened i. h;
  holds = λ p t opened i. h;
  releases = λ p t i. h;
  shows = λ p t i. h;
  starts = λ p i. subst (λ n. NumbersAreSound w.requests.waiting w.requests.opened n (operations_given w.log) (moment w.log)) (started_more w p) (named_sound i.room);
  installs = λ method slot i. h;
  invalidates = λ serial code i. h;
  goes_round = λ i. subst (λ n. NumbersAreSound w.requests.waiting w.requests.opened (names_given w.log) (operations_given w.log) n) (round_more w) (rounded_sound i);
  looks_clear = λ serial p code i. h;
  looks_late = λ serial p code i. h;
  finds_unlooked = λ serial code p i. h;
  finds_used = λ serial code i. h;
  retires = λ serial code i. h;
  frees = λ serial code i. h;
  asks = λ request i. subst (λ n. NumbersAreSound (w.requests.waiting ++ record { number = operations_given w.log + 1; request = request } ∷ []) w.requests.opened (names_given w.log) n (moment w.log)) (asked_more w request) (asked_sound w.requests.waiting w.requests.opened (names_given w.log) (operations_given w.log) (moment w.log) request i.room i.queue_room h);
  opens = λ oldest others i. opened_sound w oldest others (names_given w.log) (operations_given w.log) (moment w.log) i h;
  tells = λ name opened i. h;
  finds_gone = λ name i. h;
  operates = λ opened others i. operated_sound opened.number;
  closes = λ number opened i. closed_sound opened.number;
  counts = λ serial code i. h;
  says_state = λ serial code i. h;
  resolves = λ method i. h;
}
  where
    named_sound : names_given w.log < last_number → NumbersAreSound w.requests.waiting w.requests.opened (names_given w.log + 1) (operations_given w.log) (moment w.log)
    named_sound room = record { names_few = omega arith; operations_few = h.operations_few; moment_few = h.moment_few; queue_few = h.queue_few; waiting_asked = h.waiting_asked; waiting_is = h.waiting_is; few_open = h.few_open; census_alone = h.census_alone; opened_rise = h.opened_rise; opened_is = h.opened_is }

    rounded_sound : moment w.log < last_number → NumbersAreSound w.requests.waiting w.requests.opened (names_given w.log) (operations_given w.log) (moment w.log + 1)
    rounded_sound room = record { names_few = h.names_few; operations_few = h.operations_few; moment_few = omega arith; queue_few = h.queue_few; waiting_asked = h.waiting_asked; waiting_is = h.waiting_is; few_open = h.few_open; census_alone = h.census_alone; opened_rise = h.opened_rise; opened_is = h.opened_is }

    operated_sound : (n : ℕ) → NumbersAreSound w.requests.waiting (map (operated_if n) w.requests.opened) (names_given w.log) (operations_given w.log) (moment w.log)
    operated_sound n = record {
      names_few = h.names_few;
      operations_few = h.operations_few;
      moment_few = h.moment_few;
      queue_few = h.queue_few;
      waiting_asked = h.waiting_asked;
      waiting_is = h.waiting_is;
      few_open = (let a = map_length (operated_if n) w.requests.opened in let b = h.few_open in omega arith);
      census_alone = λ i o x census. (let m = map_at (operated_if n) w.requests.opened i o x in let a = map_length (operated_if n) w.requests.opened in
          let b = h.census_alone i m.before m.at (ap is_census (sym (operated_request n m.before) ∙ ap (λ (y : Opened). y.request) m.is) ∙ census) in omega arith);
      opened_rise = λ i j a b less x y. (let m = map_at (operated_if n) w.requests.opened i a x in let k = map_at (operated_if n) w.requests.opened j b y in
          let r = h.opened_rise i j m.before k.before less m.at k.at in let p : m.before.number ≡ a.number = sym (operated_number n m.before) ∙ ap (λ (y : Opened). y.number) m.is in
          let q : k.before.number ≡ b.number = sym (operated_number n k.before) ∙ ap (λ (y : Opened). y.number) k.is in omega arith);
      opened_is = λ i o x. (let m = map_at (operated_if n) w.requests.opened i o x in
          subst (WasOpened w.requests.waiting (operations_given w.log)) (sym (operated_number n m.before) ∙ ap (λ (y : Opened). y.number) m.is) (h.opened_is i m.before m.at));
    }

    closed_sound : (n : ℕ) → NumbersAreSound w.requests.waiting (filter (λ o. not (o.number == n)) w.requests.opened) (names_given w.log) (operations_given w.log) (moment w.log)
    closed_sound n = record {
      names_few = h.names_few;
      operations_few = h.operations_few;
      moment_few = h.moment_few;
      queue_few = h.queue_few;
      waiting_asked = h.waiting_asked;
      waiting_is = h.waiting_is;
      few_open = (let a = filter_less (λ (o : Opened). not (o.number == n)) w.requests.opened in let b = h.few_open in omega arith);
      census_alone = λ i o x census. (let m = filter_at (λ (o : Opened). not (o.number == n)) w.requests.opened i o x in
          let a = filter_less (λ (o : Opened). not (o.number == n)) w.requests.opened in let b = h.census_alone m.from o m.at census in omega arith);
      opened_rise = λ i j a b less x y. (let m = filter_pair (λ (o : Opened). not (o.number == n)) w.requests.opened i j a b less x y in h.opened_rise m.first m.second a b m.in_order m.at_first m.at_second);
      opened_is = λ i o x. (let m = filter_at (λ (o : Opened). not (o.number == n)) w.requests.opened i o x in h.opened_is m.from o m.at);
    }

pub numbers_start : NumbersAreSound [] [] 0 0 1
numbers_start = record { names_few = omega arith; operations_few = omega arith; moment_few = omega arith; queue_few = omega arith; waiting_asked = omega arith; waiting_is = λ i x y. cc; few_open = omega arith; census_alone = λ i o y census. cc; opened_rise = λ i j a b less x y. cc; opened_is = λ i o y. cc }
