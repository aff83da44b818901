-- Operations are told to a thread in their order: none is left out that has it as a live target.
use Rattle.std.proofs.Common.{◌≡◌, ◌⊎◌, inl, inr, ⊎_elim, ℕ, ◌<◌, Bool, true, false, List, [], ◌∷◌, length, Some, sym, refl, ap, ◌∙◌, subst, arith}
use Rattle.std.specs.Prelude.{not, ◌&&◌, ◌==◌, slice_get}
use Rattle.std.proofs.lemmas.Bool.{false≢true, and_parts, and_from, and_cases, cases_lt, false_from_ne_true}
use Rattle.operations.specs.Names.{among}
use Rattle.system.specs.declared.events.Event.{Event}
use Rattle.system.specs.Operations.{Requests, Waiting, Opened, is_marked}
use Rattle.system.specs.World.{World, start_world, is_live, is_live_target}
use Rattle.system.specs.Runs.{after, world_after}
use Rattle.system.proofs.Outcomes.{newly_opened, with_opened, with_operated, with_told, Opens, Tells}
use Rattle.system.proofs.EventCases.{Cases}
use Rattle.system.proofs.CaseOfEvent.{Simple, by_cases}
use Rattle.system.proofs.Twice.{in_steps}
use Rattle.system.proofs.Lists.{at_low, push_at, map_length, filter_pair, find_before, find_filter}
use Rattle.system.proofs.SoundMarks.{marked_more, marked_old, first_open}
use Rattle.system.proofs.Sound.{IsKept, kept_simply, kept_start}

pub record ToldInOrder (requests : Requests) : Type 0 where
  pub each : (i j : ℕ) (a b : Opened) (name : ℕ) → i < j → slice_get requests.opened i ≡ Some a → slice_get requests.opened j ≡ Some b → is_marked requests.told b.number name ≡ true → among name a.live ≡ true → is_marked requests.told a.number name ≡ true

-- A number that waits is told to nobody.
pub untold_waiting : (w : World) (oldest : Waiting) (others : List Waiting) (name : ℕ) → IsKept w → w.requests.waiting ≡ oldest ∷ others → is_marked w.requests.told oldest.number name ≡ false
untold_waiting w oldest others name k is = false_from_ne_true _ (λ told. (
    let old = k.marks.told_opened oldest.number name told in let low = old.1 in
    let first = k.numbers.waiting_is 0 oldest (subst (λ ws. slice_get ws 0 ≡ Some oldest) (sym is) refl) in omega arith))

opened_order : (w : World) (oldest : Waiting) (others : List Waiting) → IsKept w → ToldInOrder w.requests → Opens w oldest others → ToldInOrder (with_opened w oldest others)
opened_order w oldest others k h i = record {
  each = λ m n a b name less x y told live. by m n a b name less told live (push_at w.requests.opened (newly_opened w oldest) m a x) (push_at w.requests.opened (newly_opened w oldest) n b y);
}
  where
    by : (m n : ℕ) (a b : Opened) (name : ℕ) → m < n → is_marked w.requests.told b.number name ≡ true → among name a.live ≡ true
        → (slice_get w.requests.opened m ≡ Some a) ⊎ ((m ≡ length w.requests.opened) × (newly_opened w oldest ≡ a))
        → (slice_get w.requests.opened n ≡ Some b) ⊎ ((n ≡ length w.requests.opened) × (newly_opened w oldest ≡ b)) → is_marked w.requests.told a.number name ≡ true
    by m n a b name less told live (inl x) (inl y) = h.each m n a b name less x y told live
    by m n a b name less told live (inr x) (inl y) = let p = x.0 in let q = at_low w.requests.opened n b y in absurd (omega arith)
    by m n a b name less told live x (inr y) =
        let same : oldest.number ≡ b.number = ap (λ (o : Opened). o.number) y.1 in
        absurd (false≢true (sym (untold_waiting w oldest others name k i.waiting_is) ∙ subst (λ c. is_marked w.requests.told c name ≡ true) (sym same) told))

told_order : (w : World) (name : ℕ) (opened : Opened) → IsKept w → ToldInOrder w.requests → Tells w name opened → ToldInOrder (with_told w.requests opened name)
told_order w name opened k h i = record {
  each = λ m n a b other less x y told live. ⊎_elim
      (λ new. subst (λ c. is_marked (with_told w.requests opened name).told a.number c ≡ true) new.1 (marked_old w.requests.told opened.number name a.number name (here m n a b less x y new.0 (subst (λ c. among c a.live ≡ true) (sym new.1) live))))
      (λ old. marked_old w.requests.told opened.number name a.number other (h.each m n a b other less x y old live))
      (marked_more w.requests.told opened.number name b.number other told);
}
  where
    lives : is_live w name ≡ true
    lives = (and_parts (among name opened.live) (is_live w name) i.live).1

    here : (m n : ℕ) (a b : Opened) → m < n → slice_get w.requests.opened m ≡ Some a → slice_get w.requests.opened n ≡ Some b → opened.number ≡ b.number → among name a.live ≡ true → is_marked w.requests.told a.number name ≡ true
    here m n a b less x y same live =
        let found = find_before (λ (o : Opened). not (is_marked w.requests.told o.number name) && is_live_target w o name) w.requests.opened opened
        (sym (find_filter (λ (o : Opened). not (is_marked w.requests.told o.number name)) (λ o. is_live_target w o name) w.requests.opened) ∙ i.least) in
        ⊎_elim
        (λ before. ⊎_elim (λ e. yes (is_marked w.requests.told a.number name) e) (λ e. absurd (false≢true (sym e ∙ and_from (among name a.live) (is_live w name) live lives)))
        (and_cases (not (is_marked w.requests.told a.number name)) (is_live_target w a name) (found.none_before m a before x)))
        (λ behind. (let low : found.place < n = omega arith in let r = k.numbers.opened_rise found.place n opened b low found.at y in absurd (omega arith)))
        (cases_lt m found.place)
      where
        yes : (t : Bool) → not t ≡ false → t ≡ true
        yes true e = refl
        yes false e = absurd (false≢true (sym e))

order_kept : (w : World) → IsKept w → ToldInOrder w.requests → Cases w (λ e a v. ToldInOrder v.requests)
order_kept w k h = record {
  refuses = λ e r. h;
  begins = λ p t i. h;
  changes = λ p t code i. h;
  rests = λ p t i. h;
  ends = λ p t i. h;
  moves = λ p t a state given i. h;
  interprets = λ p t method i. h;
  enters = λ p t method serial code i. h;
  misses = λ p t method serial code i. h;
  leaves = λ p t state i. h;
  exits = λ p t i. h;
  finishes = λ p t opened i. record { each = h.each };
  clears = λ p t opened i. record { each = h.each };
  holds = λ p t opened i. h;
  releases = λ p t i. h;
  shows = λ p t i. h;
  starts = λ p i. h;
  installs = λ method slot i. h;
  invalidates = λ serial code i. h;
  goes_round = λ i. h;
  looks_clear = λ serial p code i. h;
  looks_late = λ serial p code i. h;
  finds_unlooked = λ serial code p i. h;
  finds_used = λ serial code i. h;
  retires = λ serial code i. h;
  frees = λ serial code i. h;
  asks = λ request i. record { each = h.each };
  opens = λ oldest others i. opened_order w oldest others k h i;
  tells = λ name opened i. told_order w name opened k h i;
  finds_gone = λ name i. h;
  operates = λ opened others i. record {
    each = λ m n a b name less x y told live. (let few = k.numbers.census_alone 0 opened (first_open w.requests.opened opened others i.opened_is) i.census in
        let long = map_length (Rattle.system.specs.Step.operated_if opened.number) w.requests.opened in
        let low = at_low (with_operated w opened).opened n b y in absurd (omega arith));
  };
  closes = λ number opened i. record {
    each = λ m n a b name less x y told live. (let r = filter_pair (λ (o : Opened). not (o.number == opened.number)) w.requests.opened m n a b less x y in h.each r.first r.second a b name r.in_order r.at_first r.at_second told live);
  };
  counts = λ serial code i. h;
  says_state = λ serial code i. h;
  resolves = λ method i. h;
}

-- All that is used of a world here.
pub record IsOrdered (w : World) : Type 0 where
  pub kept : IsKept w
  pub order : ToldInOrder w.requests

pub ordered_simply : (w : World) (e : Event) → Simple w e → IsOrdered w → IsOrdered (after w e)
ordered_simply w e simple h = record { kept = kept_simply w e simple h.kept; order = by_cases w (λ e a v. ToldInOrder v.requests) (order_kept w h.kept h.order) e simple }

pub ordered_next : (w : World) (e : Event) → IsOrdered w → IsOrdered (after w e)
ordered_next = in_steps IsOrdered (λ w h. h.kept.table) ordered_simply

pub ordered_after : (w : World) (events : List Event) → IsOrdered w → IsOrdered (world_after w events)
ordered_after w [] h = h
ordered_after w (e ∷ events) h = ordered_after (after w e) events (ordered_next w e h)

pub ordered_start : (places slots methods : ℕ) → IsOrdered (start_world places slots methods)
ordered_start places slots methods = record { kept = kept_start places slots methods; order = record { each = λ i j a b name less x y told live. absurd (false≢true told) } }
