-- Close: its answers, and the system after it.
use Rattle.std.proofs.Common.{◌≡◌, ◌∙◌, ◌<◌, ◌≤◌, sym, ap, refl, subst, ℕ, zero, suc, Bool, true, false, not, ◌&&◌, ◌||◌, ◌==◌, eqb, List, [], ◌∷◌, Option, Some, None, map, arith}
use Rattle.std.specs.Prelude.{slice_get, get_or, find, filter, remove, nat_le, nat_lt}
use Rattle.std.specs.List.{list_any, list_all}
use Rattle.std.proofs.lemmas.Bool.{false≢true, eqb-true, and_parts, leb-false, ltb-true, ltb-false}
use Rattle.std.proofs.lemmas.Bool.Decides.{nat_tests}
use Rattle.operations.specs.Names.{among, is_empty}
use Rattle.operations.specs.Requests.{is_census, is_target}
use Rattle.system.specs.declared.events.Event.{Event}
use Rattle.system.specs.declared.events.Event.TheVariants as event
use Rattle.system.specs.declared.answers.Answer.{Answer}
use Rattle.system.specs.declared.answers.Answer.TheVariants as answer
use Rattle.system.specs.declared.answers.Refusal.TheVariants as refusal
use Rattle.system.specs.declared.requests.Open.{Open}
use Rattle.system.specs.declared.thread.Marks.{Marks}
use Rattle.system.specs.declared.thread.Thread.{Thread as Kept}
use Rattle.system.specs.declared.keeping.Core.{Core}
use Rattle.system.specs.Verdict.{Verdict, refused, accepted, unless◌refuse◌then◌}
use Rattle.system.specs.Operations.{Requests, Opened, is_marked}
use Rattle.system.specs.Log.{Entry, names_given}
use Rattle.system.specs.Threads.{Thread}
use Rattle.system.specs.World.{World, threads, is_live, is_live_target}
use Rattle.system.specs.Step.{outcome, all_threads, is_over, close, close_of}
use Rattle.system.specs.Places.{in_open, in_found}
use Rattle.system.specs.Facts.{IsSound}
use Rattle.system.specs.Kept.Threads.{is_live_for}
use Rattle.system.specs.Marking.{SameMarks, SameOpened, SameOpens}
use Rattle.system.specs.Stands.{Matches, SameAt, DoesIn, Does}
use Rattle.system.specs.Kept.Tells.{is_held_for, is_clear_at, is_over_at}
use Rattle.system.specs.Kept.Opening.{place_of}
use Rattle.system.proofs.Lists.{any_at, any_none_at, all_at, remove_one, find_place, position_found, position_none, filter_at, same_at}
use Rattle.system.proofs.Outcomes.{asked, without_opened}
use Rattle.system.proofs.CaseOfEvent.{empty_of}
use Rattle.system.proofs.Numbers.{only_number}
use Rattle.system.proofs.Logs.{operations_next, opened_over}
use Rattle.system.proofs.CodeEvents.{accepted_in, refused_in, none_some}
use Rattle.system.proofs.SoundMarks.{threads_at, threads_has, live_has, among_live}
use Rattle.system.proofs.PlainActs.{nowhere, vacant, seat, at_place}
use Rattle.system.proofs.ThreeNumbers.{fewer_own}
use Rattle.system.proofs.Pairs.{BothFound, pairs_of, find_pairs, pair_at, empty_same, opens_remove}
use Rattle.system.proofs.Requesting.{Rerequests, IsOfRequests, asked_matches, sizes_stay, among_names, names_stay}

-- A place with its thread in the system and in the world.
pub record Both (s : Core) (w : World) (p : ℕ) (kept : Kept) (t : Thread) : Type 0 where
  pub kept_there : slice_get s.places.items p ≡ Some (Some kept)
  pub there : slice_get w.places p ≡ Some (Some t)
  pub same : SameAt w p kept t

pub both_kept : (s : Core) (w : World) (p : ℕ) (kept : Kept) → Matches s w → slice_get s.places.items p ≡ Some (Some kept) → (t : Thread) × Both s w p kept t
both_kept s w p kept m e = elim (at_place s w p m) [
  | nowhere x y ↦ cc
  | vacant x y ↦ cc
  | seat k t x y same ↦ (let is : k ≡ kept = cc in (t, record { kept_there = e; there = y; same = subst (λ (z : Kept). SameAt w p z t) is same }))
]

pub both_there : (s : Core) (w : World) (p : ℕ) (t : Thread) → Matches s w → slice_get w.places p ≡ Some (Some t) → (kept : Kept) × Both s w p kept t
both_there s w p t m e = elim (at_place s w p m) [
  | nowhere x y ↦ cc
  | vacant x y ↦ cc
  | seat k u x y same ↦ (let is : u ≡ t = cc in (k, record { kept_there = x; there = e; same = subst (λ (z : Thread). SameAt w p k z) is same }))
]

all_here : {A : Type 0} (test : A → Bool) (xs : List A) → ((i : ℕ) (x : A) → slice_get xs i ≡ Some x → test x ≡ true) → list_all test xs ≡ true
all_here test [] h = refl
all_here test (x ∷ xs) h = rw (h 0 x refl) (all_here test xs (λ i y e. h (suc i) y e))

-- Whether a target is held.
held_kept : (open_ : Open) (o : Option Kept) → is_held_for open_ o ≡ true → (kept : Kept) × (o ≡ Some kept) × (kept.held && is_target open_.request kept.name ≡ true)
held_kept open_ None h = absurd (false≢true h)
held_kept open_ (Some kept) h = (kept, refl, h)

false_where : (b : Bool) → (b ≡ true → ⊥) → b ≡ false
false_where true f = absurd (f refl)
false_where false f = refl

not_both : (b : Bool) → b ≡ true → not b ≡ true → ⊥
not_both true e h = false≢true h
not_both false e h = false≢true e

held_is : (w : World) (open_ : Open) (o : Opened) (p : ℕ) (kept : Kept) (t : Thread) → SameOpened open_ o w → SameAt w p kept t → t.held && is_target o.request t.name ≡ kept.held && is_target open_.request kept.name
held_is w open_ o p kept t same at = rw (same.request, at.thread.held, at.thread.name) refl

some_held : (s : Core) (w : World) (open_ : Open) (o : Opened) → Matches s w → SameOpened open_ o w → list_any (is_held_for open_) s.places.items ≡ true → all_threads (λ t. not (t.held && is_target o.request t.name)) w ≡ false
some_held s w open_ o m same h =
    let a = any_at (is_held_for open_) s.places.items h in
    let k = held_kept open_ a.1 a.3 in
    let b = both_kept s w a.0 k.0 m (a.2 ∙ ap (λ (x : Option Kept). Some x) k.1) in
    let r = threads_has w.places a.0 b.0 b.1.there in
    false_where (all_threads (λ t. not (t.held && is_target o.request t.name)) w) (λ all. not_both (b.0.held && is_target o.request b.0.name) (held_is w open_ o a.0 k.0 b.0 same b.1.same ∙ k.2)
    (all_at (λ (t : Thread). not (t.held && is_target o.request t.name)) (threads w.places) r.0 b.0 all r.1))

none_held : (s : Core) (w : World) (open_ : Open) (o : Opened) → Matches s w → SameOpened open_ o w → list_any (is_held_for open_) s.places.items ≡ false → all_threads (λ t. not (t.held && is_target o.request t.name)) w ≡ true
none_held s w open_ o m same h = all_here (λ (t : Thread). not (t.held && is_target o.request t.name)) (threads w.places) (λ i t e. (
    let p = threads_at w.places i t e in
    let b = both_there s w p.0 t m p.1 in
    let free : b.0.held && is_target open_.request b.0.name ≡ false = any_none_at (is_held_for open_) s.places.items p.0 (Some b.0) h b.1.kept_there in
    ap not (held_is w open_ o p.0 b.0 t same b.1.same ∙ free)))

-- Whether all places are clear, or a live target isn't cleared.
pub live_is : (w : World) (open_ : Open) (o : Opened) (p : ℕ) (kept : Kept) (t : Thread) → SameOpened open_ o w → slice_get w.places p ≡ Some (Some t) → SameAt w p kept t → is_live_target w o t.name ≡ is_live_for open_ kept
live_is w open_ o p kept t same there at =
    let lives : is_live w t.name ≡ true = live_has w p t there in
    let listed = same.live t.name lives in
    rw (listed, lives, same.request, at.thread.name) (and_true (nat_le t.name open_.names && is_target o.request t.name))
  where
    and_true : (b : Bool) → b && true ≡ b
    and_true true = refl
    and_true false = refl

abbrev pub clear_of : World → Opened → ℕ → Bool
clear_of w o name = not (is_live_target w o name) || is_marked w.requests.cleared o.number name

-- For a live target the number decides.
cleared_is : (w : World) (i : ℕ) (o : Opened) (m : Marks) (name : ℕ) → IsSound w → slice_get w.requests.opened i ≡ Some o → SameMarks m w.requests name → among name o.live ≡ true → is_marked w.requests.cleared o.number name ≡ nat_le o.number m.cleared
cleared_is w i o m name sound at marks live = by (is_marked w.requests.told o.number name) refl
  where
    by : (b : Bool) → is_marked w.requests.told o.number name ≡ b → is_marked w.requests.cleared o.number name ≡ nat_le o.number m.cleared
    by true e = marks.cleared_is o.number e
    by false e =
        let late : nat_le o.number m.told ≡ false = sym (marks.told_all i o at live) ∙ e in
        let above : m.told < o.number = leb-false o.number m.told late in
        let old = marks.cleared_old in
        let uncleared : nat_le o.number m.cleared ≡ false = grind (arith, nat_tests) in
        false_where (is_marked w.requests.cleared o.number name) (λ c. false≢true (sym e ∙ sound.marks.done_told o.number name (sound.marks.cleared_done o.number name c))) ∙ sym uncleared

clear_is : (w : World) (i : ℕ) (open_ : Open) (o : Opened) (p : ℕ) (kept : Kept) (t : Thread) → IsSound w → slice_get w.requests.opened i ≡ Some o → SameOpened open_ o w → slice_get w.places p ≡ Some (Some t) → SameAt w p kept t → clear_of w o t.name ≡ is_clear_at open_ (Some kept)
clear_is w i open_ o p kept t sound at same there mine = by (is_live_for open_ kept) refl
  where
    live_same : is_live_target w o t.name ≡ is_live_for open_ kept
    live_same = live_is w open_ o p kept t same there mine

    or_true : (b : Bool) → true ≡ b || true
    or_true true = refl
    or_true false = refl

    or_false : (b : Bool) → b ≡ b || false
    or_false true = refl
    or_false false = refl

    by : (b : Bool) → is_live_for open_ kept ≡ b → clear_of w o t.name ≡ is_clear_at open_ (Some kept)
    by false e = (let dead : is_live_target w o t.name ≡ false = live_same ∙ e in rw (dead, e) (or_true (nat_le open_.number kept.marks.cleared)))
    by true e =
        let lives : is_live_target w o t.name ≡ true = live_same ∙ e in
        let listed = (and_parts (among t.name o.live) (is_live w t.name) lives).0 in
        rw (lives, e, cleared_is w i o kept.marks t.name sound at mine.marks listed, ← same.number) (or_false (nat_le open_.number kept.marks.cleared))

-- A vacant place is clear.
clear_where : (s : Core) (w : World) (i : ℕ) (open_ : Open) (o : Opened) → Matches s w → IsSound w → slice_get w.requests.opened i ≡ Some o → SameOpened open_ o w → list_all (clear_of w o) o.live ≡ true → list_all (is_clear_at open_) s.places.items ≡ true
clear_where s w i open_ o m sound at same all = all_here (is_clear_at open_) s.places.items (λ p k e. by p k e)
  where
    at_name : (name : ℕ) → clear_of w o name ≡ true
    at_name name = by_listed (among name o.live) refl
      where
        by_listed : (b : Bool) → among name o.live ≡ b → clear_of w o name ≡ true
        by_listed true e =
            let a = any_at (λ other. other == name) o.live e in
            subst (λ n. clear_of w o n ≡ true) (eqb-true a.1 name a.3) (all_at (clear_of w o) o.live a.0 a.1 all a.2)
        by_listed false e = rw e refl

    by : (p : ℕ) (k : Option Kept) → slice_get s.places.items p ≡ Some k → is_clear_at open_ k ≡ true
    by p None e = refl
    by p (Some kept) e =
        let b = both_kept s w p kept m e in
        sym (clear_is w i open_ o p kept b.0 sound at same b.1.there b.1.same) ∙ at_name b.0.name

clear_of_places : (s : Core) (w : World) (i : ℕ) (open_ : Open) (o : Opened) → Matches s w → IsSound w → slice_get w.requests.opened i ≡ Some o → SameOpened open_ o w → list_all (is_clear_at open_) s.places.items ≡ true → list_all (clear_of w o) o.live ≡ true
clear_of_places s w i open_ o m sound at same all = all_here (clear_of w o) o.live (λ j name e. by name (is_live w name) refl)
  where
    by : (name : ℕ) (b : Bool) → is_live w name ≡ b → clear_of w o name ≡ true
    by name false e = (let gone : is_live_target w o name ≡ false = and_no (among name o.live) (is_live w name) e in rw gone refl)
      where
        and_no : (a b : Bool) → b ≡ false → a && b ≡ false
        and_no true b f = f
        and_no false b f = refl
    by name true e =
        let a = among_live w name (among_names name (threads w.places) ∙ e) in
        let b = both_there s w a.0 a.1 m a.2 in
        subst (λ n. clear_of w o n ≡ true) a.3 (clear_is w i open_ o a.0 b.0 a.1 sound at same b.1.there b.1.same ∙ all_at (is_clear_at open_) s.places.items a.0 (Some b.0) all b.1.kept_there)

both_ways : (a b : Bool) → (a ≡ true → b ≡ true) → (b ≡ true → a ≡ true) → a ≡ b
both_ways true true f g = refl
both_ways false false f g = refl
both_ways true false f g = sym (f refl)
both_ways false true f g = g refl

over_is : (s : Core) (w : World) (i : ℕ) (open_ : Open) (o : Opened) → Matches s w → IsSound w → slice_get w.requests.opened i ≡ Some o → SameOpened open_ o w → is_over w o ≡ is_over_at open_ s.places.items
over_is s w i open_ o m sound at same =
    let all : list_all (clear_of w o) o.live ≡ list_all (is_clear_at open_) s.places.items =
    both_ways (list_all (clear_of w o) o.live) (list_all (is_clear_at open_) s.places.items) (clear_where s w i open_ o m sound at same) (clear_of_places s w i open_ o m sound at same) in
    ap (λ r. (not (is_census r) || o.operated) && list_all (clear_of w o) o.live) (sym same.request)
    ∙ (ap (λ b. (not (is_census open_.request) || b) && list_all (clear_of w o) o.live) (sym same.operated) ∙ ap (λ b. (not (is_census open_.request) || open_.operated) && b) all)

-- A refusal that needs a sound world.
pub refused_does : (s : Core) (e : Event) (r : Rattle.system.specs.declared.answers.Refusal.Refusal) → ((w : World) → IsSound w → Matches s w → outcome w e ≡ refused r) → Does e s (answer.Refused r) s
refused_does s e r h = record { each = λ w sound m. refused_in s w e r (h w sound m) m; sizes = record { places = refl; slots = refl; methods = refl } }

pub close_nothing : (s : Core) (number : Option ℕ) → is_empty s.requests.opens ≡ true → Does (event.Close number) s (answer.Refused refusal.NothingOpen) s
close_nothing s number none = refused_does s (event.Close number) refusal.NothingOpen (λ w sound m. by w number (empty_same w s.requests.opens w.requests.opened m.opened ∙ none))
  where
    by : (w : World) (n : Option ℕ) → is_empty w.requests.opened ≡ true → outcome w (event.Close n) ≡ refused refusal.NothingOpen
    by w None e = (let none_is : w.requests.opened ≡ [] = empty_of w.requests.opened e in rw none_is refl)
    by w (Some n) e = rw e refl

-- A search by number finds no operation in either list, or the same one in both.
by_number : (n : ℕ) (s : Core) (w : World) → Matches s w → BothFound (λ a o. SameOpened a o w) (find (λ (a : Open). a.number == n) s.requests.opens) (find (λ (o : Opened). o.number == n) w.requests.opened)
by_number n s w m = find_pairs (λ a o. SameOpened a o w) (λ (a : Open). a.number == n) (λ (o : Opened). o.number == n) (λ a o same. ap (λ k. k == n) (sym same.number)) s.requests.opens w.requests.opened
    (pairs_of (λ a o. SameOpened a o w) w s.requests.opens w.requests.opened m.opened (λ i a o at both. both))

none_found : (R : Open → Opened → Type 0) (x : Option Open) (y : Option Opened) → BothFound R x y → x ≡ None → y ≡ None
none_found R None None h e = refl
none_found R None (Some o) h e = absurd h
none_found R (Some a) y h e = cc

one_found : (R : Open → Opened → Type 0) (x : Option Open) (y : Option Opened) (a : Open) → BothFound R x y → x ≡ Some a → (o : Opened) × (y ≡ Some o) × R a o
one_found R None y a h e = cc
one_found R (Some b) None a h e = absurd h
one_found R (Some b) (Some o) a h e = let same : b ≡ a = cc in (o, refl, subst (λ z. R z o) same h)

-- A Close by number, while an operation is open.
of_number : (w : World) (n : ℕ) → is_empty w.requests.opened ≡ false → close_of w (Some n) ≡ in_found refusal.NotOf (find (λ (o : Opened). o.number == n) w.requests.opened) (close w)
of_number w n some = on (is_empty w.requests.opened) (in_found refusal.NotOf (find (λ (o : Opened). o.number == n) w.requests.opened) (close w)) some
  where
    on : (b : Bool) (v : Verdict World) → b ≡ false → (unless not b refuse refusal.NothingOpen then v) ≡ v
    on false v e = refl
    on true v e = absurd (false≢true (sym e))

pub close_not_of : (s : Core) (number : Option ℕ) → is_empty s.requests.opens ≡ false → place_of number s.requests.opens ≡ None → Does (event.Close number) s (answer.Refused refusal.NotOf) s
close_not_of s None some none = absurd (none_some (sym none))
close_not_of s (Some n) some none = refused_does s (event.Close (Some n)) refusal.NotOf (λ w sound m. (
    let some_is : is_empty w.requests.opened ≡ false = empty_same w s.requests.opens w.requests.opened m.opened ∙ some in
    let none_is : find (λ (o : Opened). o.number == n) w.requests.opened ≡ None = none_found (λ a o. SameOpened a o w) (find (λ (a : Open). a.number == n) s.requests.opens) (find (λ (o : Opened). o.number == n) w.requests.opened)
    (by_number n s w m) (position_none (λ (a : Open). a.number == n) s.requests.opens none) in
    of_number w n some_is ∙ ap (λ o. in_found refusal.NotOf o (close w)) none_is))

-- The item read at an index is there.
read_at : {A : Type 0} (xs : List A) (i : ℕ) (x a : A) → slice_get xs i ≡ Some x → a ≡ get_or xs i a → slice_get xs i ≡ Some a
read_at [] i x a h e = cc
read_at (y ∷ ys) zero x a h e = ap Some (sym e)
read_at (y ∷ ys) (suc i) x a h e = read_at ys i x a h e

pub found_there : (number : Option ℕ) (opens : List Open) (at : ℕ) (a : Open) → is_empty opens ≡ false → place_of number opens ≡ Some at → a ≡ get_or opens at a → slice_get opens at ≡ Some a
found_there None [] at a some place e = absurd (false≢true (sym some))
found_there None (b ∷ opens) at a some place e = let zero_ : 0 ≡ at = cc in subst (λ n. slice_get (b ∷ opens) n ≡ Some a) zero_ (ap Some (sym (e ∙ ap (λ n. get_or (b ∷ opens) n a) (sym zero_))))
found_there (Some n) opens at a some place e = let f = position_found (λ (o : Open). o.number == n) opens at place in read_at opens at f.0 a f.1 e

-- The operation of a Close has the same index in both lists.
record IsClosed (s : Core) (w : World) (number : Option ℕ) (at : ℕ) (open_ : Open) : Type 0 where
  o : Opened
  here : slice_get w.requests.opened at ≡ Some o
  same : SameOpened open_ o w
  closes : close_of w number ≡ close w o

first_open : {A : Type 0} (os : List Opened) (o : Opened) (work : Opened → Verdict A) → slice_get os 0 ≡ Some o → in_open os work ≡ work o
first_open [] o work h = cc
first_open (x ∷ os) o work h = let same : x ≡ o = cc in ap work same

closed_is : (s : Core) (w : World) (number : Option ℕ) (at : ℕ) (open_ : Open) → IsSound w → Matches s w → is_empty s.requests.opens ≡ false → place_of number s.requests.opens ≡ Some at → slice_get s.requests.opens at ≡ Some open_ → IsClosed s w number at open_
closed_is s w None at open_ sound m some place there =
    let k = pair_at s.requests.opens w.requests.opened w at open_ m.opened there in
    let zero_ : 0 ≡ at = cc in
    record { o = k.0; here = k.1; same = k.2; closes = first_open w.requests.opened k.0 (close w) (subst (λ n. slice_get w.requests.opened n ≡ Some k.0) (sym zero_) k.1) }
closed_is s w (Some n) at open_ sound m some place there =
    let k = pair_at s.requests.opens w.requests.opened w at open_ m.opened there in
    let f = position_found (λ (a : Open). a.number == n) s.requests.opens at place in
    let is : f.0 ≡ open_ = same_at s.requests.opens at f.0 open_ f.1 there in
    let g = one_found (λ a o. SameOpened a o w) (find (λ (a : Open). a.number == n) s.requests.opens) (find (λ (o : Opened). o.number == n) w.requests.opened) open_ (by_number n s w m) (f.2 ∙ ap (λ (a : Open). Some a) is) in
    let p = find_place (λ (o : Opened). o.number == n) w.requests.opened g.0 g.1 in
    let one : g.0 ≡ k.0 = only_number sound.numbers p.0 at g.0 k.0 p.1 k.1 (sym g.2.number ∙ k.2.number) in
    let some_is : is_empty w.requests.opened ≡ false = empty_same w s.requests.opens w.requests.opened m.opened ∙ some in
    let found_is : find (λ (o : Opened). o.number == n) w.requests.opened ≡ Some k.0 = g.1 ∙ ap (λ (o : Opened). Some o) one in
    record { o = k.0; here = k.1; same = k.2; closes = of_number w n some_is ∙ ap (λ o. in_found refusal.NotOf o (close w)) found_is }

pub close_held : (s : Core) (number : Option ℕ) (at : ℕ) (open_ : Open) → is_empty s.requests.opens ≡ false → place_of number s.requests.opens ≡ Some at → slice_get s.requests.opens at ≡ Some open_
    → list_any (is_held_for open_) s.places.items ≡ true → Does (event.Close number) s (answer.Refused refusal.Held) s
close_held s number at open_ some place there held = refused_does s (event.Close number) refusal.Held (λ w sound m. (
    let k = closed_is s w number at open_ sound m some place there in
    k.closes ∙ rw (some_held s w open_ k.o m k.same held) refl))

pub close_early : (s : Core) (number : Option ℕ) (at : ℕ) (open_ : Open) → is_empty s.requests.opens ≡ false → place_of number s.requests.opens ≡ Some at → slice_get s.requests.opens at ≡ Some open_
    → list_any (is_held_for open_) s.places.items ≡ false → is_over_at open_ s.places.items ≡ false → Does (event.Close number) s (answer.Refused refusal.NotDone) s
close_early s number at open_ some place there free over = refused_does s (event.Close number) refusal.NotDone (λ w sound m. (
    let k = closed_is s w number at open_ sound m some place there in
    let early : is_over w k.o ≡ false = over_is s w at open_ k.o m sound k.here k.same ∙ over in
    k.closes ∙ rw (none_held s w open_ k.o m k.same free, early) refl))

of_close : (number : Option ℕ) (a : Answer) → IsOfRequests (event.Close number) a
of_close number a = record { starts_none = refl; rounds_none = refl; invalidates_none = λ r. refl; looks_none = λ r place. refl; elsewhere = λ place. record { starts_not = refl; begins_not = refl; ends_not = refl } }

-- The other operations have other numbers.
without_one : (w : World) (at : ℕ) (o : Opened) → IsSound w → slice_get w.requests.opened at ≡ Some o → remove w.requests.opened at ≡ filter (λ (x : Opened). not (x.number == o.number)) w.requests.opened
without_one w at o sound here = remove_one (λ (x : Opened). not (x.number == o.number)) w.requests.opened at o here own differ
  where
    own : not (o.number == o.number) ≡ false
    own = (let self : eqb o.number o.number ≡ true = grind (arith, nat_tests) in ap not self)

    differ : (j : ℕ) (x : Opened) → slice_get w.requests.opened j ≡ Some x → (j ≡ at → ⊥) → not (x.number == o.number) ≡ true
    differ j x there ne = by (nat_lt j at) refl (nat_lt at j) refl
      where
        by : (b : Bool) → nat_lt j at ≡ b → (c : Bool) → nat_lt at j ≡ c → not (x.number == o.number) ≡ true
        by true e c f =
            let rise = sound.numbers.opened_rise j at x o (ltb-true j at e) there here in
            let other : eqb x.number o.number ≡ false = grind (arith, nat_tests) in ap not other
        by false e true f =
            let rise = sound.numbers.opened_rise at j o x (ltb-true at j f) here there in
            let other : eqb x.number o.number ≡ false = grind (arith, nat_tests) in ap not other
        by false e false f = absurd (ne (let a = ltb-false j at e in let b = ltb-false at j f in omega (arith, a, b)))

pub closed_does : (s t : Core) (number : Option ℕ) (at : ℕ) (open_ : Open) → is_empty s.requests.opens ≡ false → place_of number s.requests.opens ≡ Some at → slice_get s.requests.opens at ≡ Some open_
    → list_any (is_held_for open_) s.places.items ≡ false → is_over_at open_ s.places.items ≡ true → Rerequests s t
    → t.requests.numbers ≡ s.requests.numbers → t.requests.waiting ≡ s.requests.waiting → t.requests.opens ≡ remove s.requests.opens at → Does (event.Close number) s (answer.Closed open_.number) t
closed_does s t number at open_ some place there free over rest numbers waiting opens_are = record {
  each = λ w sound m. (
      let k = closed_is s w number at open_ sound m some place there in
      let a : Answer = answer.Closed k.o.number in
      let entry : Entry = record { event = event.Close number; answer = a } in
      let requests : Requests = without_opened w k.o in
      let v : World = asked w requests (event.Close number) a in
      let late : is_over w k.o ≡ true = over_is s w at open_ k.o m sound k.here k.same ∙ over in
      let said : outcome w (event.Close number) ≡ accepted (record w { requests = requests }) a = k.closes ∙ rw (none_held s w open_ k.o m k.same free, late) refl in
      let low : names_given w.log ≤ names_given v.log = (let n = names_stay w (event.Close number) a (of_close number a) in omega (arith, n)) in
      let kept : SameOpens (remove s.requests.opens at) requests.opened v = subst (λ os. SameOpens (remove s.requests.opens at) os v) (without_one w at k.o sound k.here)
      (opened_over (remove s.requests.opens at) (remove w.requests.opened at) w v low (λ name lives. lives) (opens_remove w s.requests.opens w.requests.opened at m.opened)) in
      rw k.same.number (accepted_in t w (record w { requests = requests }) (event.Close number) a said
      (asked_matches s t w requests (event.Close number) a m (record {
        rest = rest;
        entry = of_close number a;
        numbers = numbers ∙ (let n = operations_next entry w.log in let same = m.numbers in omega (arith, n, same));
        waiting = ap (map Rattle.system.specs.Stands.waiting_of) waiting ∙ m.waiting;
        opened = rw opens_are kept;
        marks = λ x name h. fewer_own w.requests w.requests.waiting requests.opened name x (λ i o here. (let f = filter_at (λ (y : Opened). not (y.number == k.o.number)) w.requests.opened i o here in (f.from, f.at))) h;
      }))));
  sizes = sizes_stay s t rest;
}
