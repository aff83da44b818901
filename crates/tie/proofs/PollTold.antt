-- What a Tell and a Clear find, and what they leave.
use Rattle.std.proofs.Common.{◌≡◌, ◌≢◌, ℕ, ◌<◌, ◌≤◌, Bool, true, false, cond, List, [], ◌∷◌, length, Option, Some, None, sym, refl, ap, ◌∙◌, inl, inr, subst, arith}
use Rattle.std.specs.Prelude.{not, ◌==◌, nat_lt, slice_get, filter}
use Rattle.std.proofs.lemmas.Bool.{false≢true, and_parts, and_from, eqb-true, eqb-false, eq-eqb, ne_eqb, ltb-true, ltb-false}
use Rattle.operations.specs.Names.{among, is_empty}
use Rattle.system.specs.declared.events.Act.TheVariants as act
use Rattle.system.specs.declared.events.Event.TheVariants as event
use Rattle.system.specs.declared.answers.Answer.TheVariants as answer
use Rattle.system.specs.Threads.{Thread}
use Rattle.system.specs.Operations.{Opened, Mark, is_marked, with_mark, pending}
use Rattle.system.specs.Log.{Entry}
use Rattle.system.specs.World.{World, start_world, thread_at, found, is_live, is_live_target}
use Rattle.system.specs.Runs.{world_after}
use Rattle.system.specs.declared.events.Event.{Event}
use Rattle.system.proofs.Once.{run_at_most_once}
use Rattle.system.specs.Facts.{IsSound}
use Rattle.system.specs.Ran.{name_in}
use Rattle.system.specs.Places.{is_uncleared}
use Rattle.system.proofs.Outcomes.{Tells, Clears, with_told, with_cleared}
use Rattle.system.proofs.Lists.{find_before, filter_has, filter_pair, same_at}
use Rattle.system.proofs.SoundMarks.{marked_old, marked_new}
use Rattle.tie.specs.PollRow.{tells, clears, armed_at, uncleared_at, cleared_at, place_of}
use Rattle.tie.proofs.PollMarks.{or_later, among_left, waits_has, waits_only, waits_told, waits_told_other, waits_cleared, waits_cleared_other, StandsThere, stands_there}
use Rattle.tie.proofs.PollLog.{IsElsewhere}
use Rattle.tie.proofs.PollKept.{pending_at, IsRow, IsLast, none_later}

-- The log tells who stands at a place.
abbrev pub LogTells : World → Type 0
LogTells w = (place : ℕ) (t : Thread) → thread_at w place ≡ Some t → name_in place w.log ≡ t.name

pub log_tells : (places slots methods : ℕ) (events : List Event) → LogTells (world_after (start_world places slots methods) events)
log_tells places slots methods events = (run_at_most_once places slots methods events).name_is

abbrev pub told_entry : ℕ → Entry
told_entry name = record { event = event.Tell name; answer = answer.Told }

abbrev pub clear_entry : ℕ → Entry
clear_entry p = record { event = event.At p act.Clear; answer = answer.Done }

-- No other place has a thread of this name.
others_named : (w : World) → IsSound w → (p q name : ℕ) (t : Thread) → slice_get w.places p ≡ Some (Some t) → t.name ≡ name → q ≢ p → (u : Thread) → slice_get w.places q ≡ Some (Some u) → name ≢ u.name
others_named w sound p q name t there named ne u x same = ne (sound.threads.one_name q p u t x there (sym (named ∙ same)))

-- A Tell that is told.
pub record Told (w : World) (name p : ℕ) (opened : Opened) : Type 0 where
  pub stands : StandsThere w.places name p
  pub here : tells p (event.Tell name) answer.Told w.log ≡ true
  pub others : (q : ℕ) → q ≢ p → IsElsewhere q (told_entry name) w.log w.requests (with_told w.requests opened name)
  pub not_cleared : is_marked w.requests.cleared opened.number name ≡ false
  pub before : armed_at p w.requests.told w.log < opened.number

pub told_is : (w : World) (name : ℕ) (opened : Opened) → IsSound w → LogTells w → IsRow w.places w.requests w.log → Tells w name opened → Told w name (place_of w.places name) opened
told_is w name opened sound ran row i = record {
  stands = stands;
  here = eq-eqb (name_in p w.log) name named;
  others = λ q ne. record { tells_not = ne_eqb (name_in q w.log) name (λ same. ne (sym (row.apart p q (some (name_in p w.log) named) (named ∙ sym same)))); clears_not = refl; told_is = refl; cleared_is = refl };
  not_cleared = uncleared (is_marked w.requests.cleared opened.number name) refl;
  before = row.ahead p stands.thread stands.there i.open_is.position opened i.open_is.here (subst (λ m. among m opened.live ≡ true) (sym stands.named) live.0)
      (subst (λ m. is_marked w.requests.told opened.number m ≡ false) (sym stands.named) i.not_told);
}
  where
    p : ℕ
    p = place_of w.places name

    live : (among name opened.live ≡ true) × (is_live w name ≡ true)
    live = and_parts (among name opened.live) (is_live w name) i.live

    stands : StandsThere w.places name (place_of w.places name)
    stands = stands_there w.places name live.1

    named : name_in (place_of w.places name) w.log ≡ name
    named = ran (place_of w.places name) stands.thread (ap found stands.there) ∙ stands.named

    some : (n : ℕ) → n ≡ name → 0 < n
    some n is = let from = (sound.threads.each (place_of w.places name) stands.thread stands.there).name_from in let same = stands.named in omega arith

    uncleared : (b : Bool) → is_marked w.requests.cleared opened.number name ≡ b → b ≡ false
    uncleared false e = refl
    uncleared true e = absurd (false≢true (sym i.not_told ∙ sound.marks.done_told opened.number name (sound.marks.cleared_done opened.number name e)))

-- A live target to which another one is still new is told this one first.
pub told_after : (w : World) (name : ℕ) (opened : Opened) → IsSound w → Tells w name opened → is_live w name ≡ true → (j : ℕ) (o : Opened) → slice_get w.requests.opened j ≡ Some o → among name o.live ≡ true
    → is_marked (with_mark w.requests.told opened.number name) o.number name ≡ false → opened.number < o.number
told_after w name opened sound i lives j o at live new =
    let here = filter_has (λ x. is_live_target w x name) w.requests.opened j o at (and_from (among name o.live) (is_live w name) live lives) in
    let least = find_before (λ x. not (is_marked w.requests.told x.number name)) (filter (λ x. is_live_target w x name) w.requests.opened) opened i.least in
    by here.0 here.1 least.place least.at least.none_before (nat_lt here.0 least.place) refl (nat_lt least.place here.0) refl
  where
    told_if : (b : Bool) → not b ≡ false → b ≡ true
    told_if true e = refl
    told_if false e = absurd (false≢true (sym e))

    by : (a : ℕ) → slice_get (filter (λ x. is_live_target w x name) w.requests.opened) a ≡ Some o → (k : ℕ) → slice_get (filter (λ x. is_live_target w x name) w.requests.opened) k ≡ Some opened
        → ((l : ℕ) (y : Opened) → l < k → slice_get (filter (λ x. is_live_target w x name) w.requests.opened) l ≡ Some y → not (is_marked w.requests.told y.number name) ≡ false)
        → (b : Bool) → nat_lt a k ≡ b → (c : Bool) → nat_lt k a ≡ c → opened.number < o.number
    by a there k first before true e c f = absurd (false≢true (sym new ∙ marked_old w.requests.told opened.number name o.number name (told_if (is_marked w.requests.told o.number name) (before a o (ltb-true a k e) there))))
    by a there k first before false e true f = let r = filter_pair (λ x. is_live_target w x name) w.requests.opened k a opened o (ltb-true k a f) first there in sound.numbers.opened_rise r.first r.second opened o r.in_order r.at_first r.at_second
    by a there k first before false e false f =
        let is : opened ≡ o = same_at (filter (λ x. is_live_target w x name) w.requests.opened) a opened o (subst (λ n. slice_get (filter (λ x. is_live_target w x name) w.requests.opened) n ≡ Some opened) (let x = ltb-false a k e in let y = ltb-false k a f in omega (arith, x, y)) first) there in
        absurd (false≢true (sym new ∙ subst (λ (z : Opened). is_marked (with_mark w.requests.told opened.number name) z.number name ≡ true) is (marked_new w.requests.told opened.number name)))

-- What was told last, and what is uncleared, after it.
abbrev pub told_marks : World → ℕ → Opened → List Mark
told_marks w name opened = with_mark w.requests.told opened.number name

pub told_armed : (w : World) (name p : ℕ) (opened : Opened) → Told w name p opened → armed_at p (told_marks w name opened) (told_entry name ∷ w.log) ≡ opened.number
told_armed w name p opened h = rw h.here refl

pub told_uncleared : (w : World) (name p : ℕ) (opened : Opened) → Told w name p opened
    → uncleared_at p (told_marks w name opened) w.requests.cleared (told_entry name ∷ w.log) ≡ opened.number ∷ uncleared_at p w.requests.told w.requests.cleared w.log
told_uncleared w name p opened h = rw h.here refl

pub told_cleared : (w : World) (name p : ℕ) (opened : Opened) → Told w name p opened → cleared_at p (told_marks w name opened) w.requests.cleared (told_entry name ∷ w.log) ≡ cleared_at p w.requests.told w.requests.cleared w.log
told_cleared w name p opened h = ap (λ us. cond (is_empty us) (armed_at p (told_marks w name opened) (told_entry name ∷ w.log)) (cleared_at p w.requests.told w.requests.cleared w.log)) (told_uncleared w name p opened h)

-- The number is above all that were told there.
told_less : (w : World) (name p : ℕ) (opened : Opened) → IsRow w.places w.requests w.log → Told w name p opened → cleared_at p w.requests.told w.requests.cleared w.log < opened.number
told_less w name p opened row h = by (row.last p)
  where
    by : IsLast (uncleared_at p w.requests.told w.requests.cleared w.log) (armed_at p w.requests.told w.log) (cleared_at p w.requests.told w.requests.cleared w.log) → cleared_at p w.requests.told w.requests.cleared w.log < opened.number
    by (inl a) = let same = a.1 in let less = h.before in omega arith
    by (inr a) = let low = a.3 in let less = h.before in omega arith

pub told_last : (w : World) (name p : ℕ) (opened : Opened) → IsRow w.places w.requests w.log → Told w name p opened
    → IsLast (opened.number ∷ uncleared_at p w.requests.told w.requests.cleared w.log) opened.number (cleared_at p w.requests.told w.requests.cleared w.log)
told_last w name p opened row h = inr (uncleared_at p w.requests.told w.requests.cleared w.log, refl, (λ m is. let low = none_later (row.last p) m is in let less = h.before in omega (arith, low, less)), told_less w name p opened row h)

pub told_waits : (w : World) (name p : ℕ) (opened : Opened) → Told w name p opened → pending_at (with_told w.requests opened name) (thread_at w p) ≡ opened.number ∷ pending_at w.requests (thread_at w p)
told_waits w name p opened h = ap (λ o. pending_at (with_told w.requests opened name) (found o)) h.stands.there ∙ (ap (λ n. pending (with_told w.requests opened name) n) h.stands.named
    ∙ (waits_told w.requests.cleared opened.number name w.requests.told h.not_cleared
    ∙ ap (λ ns. opened.number ∷ ns) (sym (ap (λ o. pending_at w.requests (found o)) h.stands.there ∙ ap (λ n. pending w.requests n) h.stands.named))))

pub told_waits_other : (w : World) (name p : ℕ) (opened : Opened) → IsSound w → Told w name p opened → (q : ℕ) → q ≢ p → pending_at (with_told w.requests opened name) (thread_at w q) ≡ pending_at w.requests (thread_at w q)
told_waits_other w name p opened sound h q ne = by (slice_get w.places q) refl
  where
    by : (o : Option (Option Thread)) → slice_get w.places q ≡ o → pending_at (with_told w.requests opened name) (found o) ≡ pending_at w.requests (found o)
    by None e = refl
    by (Some None) e = refl
    by (Some (Some u)) e = waits_told_other w.requests.cleared opened.number name u.name w.requests.told (others_named w sound p q name h.stands.thread h.stands.there h.stands.named ne u e)

-- A Clear: of what is uncleared at the place it clears the least.
pub record Cleared (w : World) (p : ℕ) (t : Thread) (opened : Opened) : Type 0 where
  pub there : slice_get w.places p ≡ Some (Some t)
  pub low : p < length w.places
  pub here : clears p (event.At p act.Clear) ≡ true
  pub others : (q : ℕ) → q ≢ p → IsElsewhere q (clear_entry p) w.log w.requests (with_cleared w.requests opened t.name)
  pub rest : List ℕ
  pub uncleared_is : uncleared_at p w.requests.told w.requests.cleared w.log ≡ armed_at p w.requests.told w.log ∷ rest
  pub below : (m : ℕ) → among m rest ≡ true → m < armed_at p w.requests.told w.log
  pub less : cleared_at p w.requests.told w.requests.cleared w.log < armed_at p w.requests.told w.log
  pub least : (m : ℕ) → among m (uncleared_at p w.requests.told w.requests.cleared w.log) ≡ true → opened.number ≤ m

-- An operation that was told and isn't cleared is not before the one that a Clear finds.
pub least_cleared : (w : World) (p : ℕ) (t : Thread) (opened : Opened) → IsSound w → Clears w p t opened → (m : ℕ) → is_marked w.requests.told m t.name ≡ true → is_marked w.requests.cleared m t.name ≡ false → opened.number ≤ m
least_cleared w p t opened sound i m told uncleared =
    let o = sound.marks.uncleared_open p t m i.acts.stands.there told uncleared in
    let least = find_before (is_uncleared w.requests t.name) w.requests.opened opened i.least in
    by o.0 o.1 o.2 o.3 least.place least.at least.none_before (nat_lt o.0 least.place) refl (nat_lt least.place o.0) refl
  where
    passes : (x : Opened) → x.number ≡ m → is_uncleared w.requests t.name x ≡ true
    passes x e = let a : is_marked w.requests.told x.number t.name ≡ true = ap (λ n. is_marked w.requests.told n t.name) e ∙ told in
        let b : is_marked w.requests.cleared x.number t.name ≡ false = ap (λ n. is_marked w.requests.cleared n t.name) e ∙ uncleared in rw (a, b) refl

    by : (j : ℕ) (x : Opened) → slice_get w.requests.opened j ≡ Some x → x.number ≡ m → (k : ℕ) → slice_get w.requests.opened k ≡ Some opened
        → ((l : ℕ) (y : Opened) → l < k → slice_get w.requests.opened l ≡ Some y → is_uncleared w.requests t.name y ≡ false) → (b : Bool) → nat_lt j k ≡ b → (c : Bool) → nat_lt k j ≡ c → opened.number ≤ m
    by j x at e k here before true f c g = absurd (false≢true (sym (before j x (ltb-true j k f) at) ∙ passes x e))
    by j x at e k here before false f true g = let rise = sound.numbers.opened_rise k j opened x (ltb-true k j g) here at in omega (arith, rise, e)
    by j x at e k here before false f false g =
        let is : opened ≡ x = same_at w.requests.opened j opened x (subst (λ n. slice_get w.requests.opened n ≡ Some opened) (let a = ltb-false j k f in let b = ltb-false k j g in omega (arith, a, b)) here) at in
        let same : opened.number ≡ m = ap (λ (y : Opened). y.number) is ∙ e in omega (arith, same)

pub cleared_is : (w : World) (p : ℕ) (t : Thread) (opened : Opened) → IsSound w → IsRow w.places w.requests w.log → Clears w p t opened → Cleared w p t opened
cleared_is w p t opened sound row i = by (row.last p)
  where
    pends : pending w.requests t.name ≡ uncleared_at p w.requests.told w.requests.cleared w.log
    pends = sym (ap (λ o. pending_at w.requests (found o)) i.acts.stands.there) ∙ row.waiting p

    waiting : among opened.number (uncleared_at p w.requests.told w.requests.cleared w.log) ≡ true
    waiting = subst (λ ns. among opened.number ns ≡ true) pends (waits_has w.requests.cleared opened.number t.name w.requests.told i.told i.not_cleared)

    by : IsLast (uncleared_at p w.requests.told w.requests.cleared w.log) (armed_at p w.requests.told w.log) (cleared_at p w.requests.told w.requests.cleared w.log) → Cleared w p t opened
    by (inl a) = absurd (false≢true (subst (λ ns. among opened.number ns ≡ true) a.0 waiting))
    by (inr a) = record {
      there = i.acts.stands.there;
      low = i.acts.stands.low;
      here = eq-eqb p p refl;
      others = λ q ne. record { tells_not = refl; clears_not = ne_eqb p q (λ same. ne (sym same)); told_is = refl; cleared_is = refl };
      rest = a.0;
      uncleared_is = a.1;
      below = a.2;
      less = a.3;
      least = λ m is. (let only = waits_only w.requests.cleared m t.name w.requests.told (subst (λ ns. among m ns ≡ true) (sym pends) is) in least_cleared w p t opened sound i m only.0 only.1);
    }

abbrev pub cleared_marks : World → Thread → Opened → List Mark
cleared_marks w t opened = with_mark w.requests.cleared opened.number t.name

pub cleared_uncleared : (w : World) (p : ℕ) (t : Thread) (opened : Opened) → Cleared w p t opened
    → uncleared_at p w.requests.told (cleared_marks w t opened) (clear_entry p ∷ w.log) ≡ filter (λ n. not (n == opened.number)) (uncleared_at p w.requests.told w.requests.cleared w.log)
cleared_uncleared w p t opened h = rw h.here refl

-- The number is the one told last, and nothing is uncleared after it; or it is before that one, which stays.
pub data Way (w : World) (p : ℕ) (t : Thread) (opened : Opened) : Type 0 where
  clears_last : opened.number ≡ armed_at p w.requests.told w.log → uncleared_at p w.requests.told (cleared_marks w t opened) (clear_entry p ∷ w.log) ≡ [] → Way w p t opened
  clears_before : (rest : List ℕ) → opened.number < armed_at p w.requests.told w.log → uncleared_at p w.requests.told (cleared_marks w t opened) (clear_entry p ∷ w.log) ≡ armed_at p w.requests.told w.log ∷ rest
      → ((m : ℕ) → among m rest ≡ true → m < armed_at p w.requests.told w.log) → Way w p t opened

pub cleared_way : (w : World) (p : ℕ) (t : Thread) (opened : Opened) → Cleared w p t opened → Way w p t opened
cleared_way w p t opened h = by (armed_at p w.requests.told w.log == opened.number) refl
  where
    has : (m : ℕ) → among m (armed_at p w.requests.told w.log ∷ h.rest) ≡ true → opened.number ≤ m
    has m is = h.least m (subst (λ ns. among m ns ≡ true) (sym h.uncleared_is) is)

    first : opened.number ≤ armed_at p w.requests.told w.log
    first = has (armed_at p w.requests.told w.log) (let own = eq-eqb (armed_at p w.requests.told w.log) (armed_at p w.requests.told w.log) refl in rw own refl)

    none : (rest : List ℕ) → ((m : ℕ) → among m rest ≡ true → m < opened.number) → ((m : ℕ) → among m rest ≡ true → opened.number ≤ m) → rest ≡ []
    none [] below least = refl
    none (m ∷ rest) below least =
        let own : among m (m ∷ rest) ≡ true = (let e = eq-eqb m m refl in rw e refl) in
        let a = below m own in let b = least m own in absurd (omega (arith, a, b))

    filtered : filter (λ n. not (n == opened.number)) (uncleared_at p w.requests.told w.requests.cleared w.log) ≡ filter (λ n. not (n == opened.number)) (armed_at p w.requests.told w.log ∷ h.rest)
    filtered = ap (filter (λ n. not (n == opened.number))) h.uncleared_is

    by : (b : Bool) → (armed_at p w.requests.told w.log == opened.number) ≡ b → Way w p t opened
    by true e =
        let is : armed_at p w.requests.told w.log ≡ opened.number = eqb-true (armed_at p w.requests.told w.log) opened.number e in
        let empty : h.rest ≡ [] = none h.rest (λ m at. (let low = h.below m at in omega (arith, low, is))) (λ m at. has m (or_later (armed_at p w.requests.told w.log == m) (among m h.rest) at)) in
        clears_last (sym is) (cleared_uncleared w p t opened h ∙ (filtered ∙ (rw e (ap (filter (λ n. not (n == opened.number))) empty))))
    by false e =
        clears_before (filter (λ n. not (n == opened.number)) h.rest) (let ne = eqb-false (armed_at p w.requests.told w.log) opened.number e in let low = first in above low ne)
        (cleared_uncleared w p t opened h ∙ (filtered ∙ (rw e refl)))
        (λ m at. h.below m (among_left (λ n. not (n == opened.number)) m h.rest at))
      where
        above : opened.number ≤ armed_at p w.requests.told w.log → armed_at p w.requests.told w.log ≢ opened.number → opened.number < armed_at p w.requests.told w.log
        above low ne = omega (arith, low, ne)

pub cleared_last : (w : World) (p : ℕ) (t : Thread) (opened : Opened) → uncleared_at p w.requests.told (cleared_marks w t opened) (clear_entry p ∷ w.log) ≡ []
    → cleared_at p w.requests.told (cleared_marks w t opened) (clear_entry p ∷ w.log) ≡ armed_at p w.requests.told w.log
cleared_last w p t opened none = ap (λ us. cond (is_empty us) (armed_at p w.requests.told w.log) (cleared_at p w.requests.told w.requests.cleared w.log)) none

pub cleared_stays : (w : World) (p n : ℕ) (rest : List ℕ) (t : Thread) (opened : Opened) → uncleared_at p w.requests.told (cleared_marks w t opened) (clear_entry p ∷ w.log) ≡ n ∷ rest
    → cleared_at p w.requests.told (cleared_marks w t opened) (clear_entry p ∷ w.log) ≡ cleared_at p w.requests.told w.requests.cleared w.log
cleared_stays w p n rest t opened some = ap (λ us. cond (is_empty us) (armed_at p w.requests.told w.log) (cleared_at p w.requests.told w.requests.cleared w.log)) some

pub cleared_waits : (w : World) (p : ℕ) (t : Thread) (opened : Opened) → IsRow w.places w.requests w.log → Cleared w p t opened
    → pending_at (with_cleared w.requests opened t.name) (thread_at w p) ≡ uncleared_at p w.requests.told (cleared_marks w t opened) (clear_entry p ∷ w.log)
cleared_waits w p t opened row h = ap (λ o. pending_at (with_cleared w.requests opened t.name) (found o)) h.there ∙ (waits_cleared w.requests.cleared opened.number t.name w.requests.told
    ∙ (ap (λ ns. filter (λ m. not (m == opened.number)) ns) (sym (ap (λ o. pending_at w.requests (found o)) h.there) ∙ row.waiting p)
    ∙ sym (cleared_uncleared w p t opened h)))

pub cleared_waits_other : (w : World) (p : ℕ) (t : Thread) (opened : Opened) → IsSound w → Cleared w p t opened → (q : ℕ) → q ≢ p → pending_at (with_cleared w.requests opened t.name) (thread_at w q) ≡ pending_at w.requests (thread_at w q)
cleared_waits_other w p t opened sound h q ne = by (slice_get w.places q) refl
  where
    by : (o : Option (Option Thread)) → slice_get w.places q ≡ o → pending_at (with_cleared w.requests opened t.name) (found o) ≡ pending_at w.requests (found o)
    by None e = refl
    by (Some None) e = refl
    by (Some (Some u)) e = waits_cleared_other w.requests.cleared opened.number t.name u.name w.requests.told (others_named w sound p q t.name t h.there refl ne u e)
