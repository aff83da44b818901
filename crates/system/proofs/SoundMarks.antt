-- The sets told, done and cleared are sound in every reachable world.
use Rattle.std.proofs.Common.{◌≡◌, ◌⊎◌, ℕ, zero, suc, ◌+◌, ◌<◌, ◌≤◌, Bool, true, false, List, [], ◌∷◌, length, map, Option, Some, None, sym, refl, ap, ◌∙◌, inl, inr, ⊎_elim, subst, arith}
use Rattle.std.specs.Prelude.{not, ◌||◌, ◌&&◌, ◌==◌, slice_get, slice_set, filter, replicate, option_map}
use Rattle.std.specs.List.{list_all}
use Rattle.std.proofs.lemmas.Bool.{false≢true, not-true, and_parts, and_from, or_cases, or_parts, eqb-true, eq-eqb}
use Rattle.std.proofs.lemmas.List.Folds.{list_any-append}
use Rattle.std.proofs.lemmas.Option.{slice_get-map}
use mathlib.Core.Logic.{dite}
use native.Mathlib.Decide.{ℕ_discrete}
use Rattle.operations.specs.declared.Request.{Request}
use Rattle.operations.specs.Names.{among}
use Rattle.operations.specs.Requests.{is_census, is_target}
use Rattle.system.specs.Threads.{Thread}
use Rattle.system.specs.Operations.{Waiting, Opened, Mark, is_marked, with_mark, marks_of, no_requests}
use Rattle.system.specs.World.{World, threads, live_names, is_live, is_live_target}
use Rattle.system.specs.Log.{names_given, operations_given, moment}
use Rattle.system.specs.Places.{popped}
use Rattle.system.specs.Step.{new_thread, operated_if}
use Rattle.method_table.specs.Codes.{id_of}
use Rattle.system.specs.Facts.{WasOpened, ThreadsAreSound, NumbersAreSound, IsToldOpen, MarksAreSound}
use Rattle.system.proofs.Outcomes.{Stands, begun, changed_by, ended, entered, moved, held, released, with_done, with_cleared, with_told, with_request, newly_opened, with_opened, with_operated, without_opened, Tells, Opens, Operates, Closes}
use Rattle.system.proofs.EventCases.{Cases}
use Rattle.system.proofs.Seats.{get_set_same, get_set_other, each_none, each_start}
use Rattle.system.proofs.Lists.{map_at, push_at, push_low, push_length, any_at, any_here, all_at, filter_at, filter_has, same_at, at_low}
use Rattle.system.proofs.Numbers.{operated_number, operated_live, operated_request, only_number, asked_more}
use Rattle.system.proofs.Threads.{started_more}

-- The live threads are those at the places.
pub threads_at : (places : List (Option Thread)) (i : ℕ) (t : Thread) → slice_get (threads places) i ≡ Some t → (p : ℕ) × (slice_get places p ≡ Some (Some t))
threads_at [] i t h = cc
threads_at (None ∷ places) i t h = let r = threads_at places i t h in (suc r.0, r.1)
threads_at (Some u ∷ places) zero t h = let same : u ≡ t = cc in (0, ap (λ (x : Thread). Some (Some x)) same)
threads_at (Some u ∷ places) (suc i) t h = let r = threads_at places i t h in (suc r.0, r.1)

pub threads_has : (places : List (Option Thread)) (p : ℕ) (t : Thread) → slice_get places p ≡ Some (Some t) → (i : ℕ) × (slice_get (threads places) i ≡ Some t)
threads_has [] p t h = cc
threads_has (None ∷ places) zero t h = cc
threads_has (None ∷ places) (suc p) t h = threads_has places p t h
threads_has (Some u ∷ places) zero t h = let same : u ≡ t = cc in (0, ap (λ (x : Thread). Some x) same)
threads_has (Some u ∷ places) (suc p) t h = let r = threads_has places p t h in (suc r.0, r.1)

-- A live name is the name of a thread at a place.
pub name_at : (places : List (Option Thread)) (i : ℕ) (name : ℕ) → slice_get (map (λ (t : Thread). t.name) (threads places)) i ≡ Some name → (p : ℕ) × (t : Thread) × (slice_get places p ≡ Some (Some t)) × (t.name ≡ name)
name_at places i name h = let m = map_at (λ (t : Thread). t.name) (threads places) i name h in let r = threads_at places i m.before m.at in (r.0, m.before, r.1, m.is)

pub among_live : (w : World) (name : ℕ) → among name (live_names w) ≡ true → (p : ℕ) × (t : Thread) × (slice_get w.places p ≡ Some (Some t)) × (t.name ≡ name)
among_live w name h = let a = any_at (λ other. other == name) (live_names w) h in name_at w.places a.0 name (a.2 ∙ ap (λ n. Some n) (eqb-true a.1 name a.3))

pub live_has : (w : World) (p : ℕ) (t : Thread) → slice_get w.places p ≡ Some (Some t) → is_live w t.name ≡ true
live_has w p t h = let r = threads_has w.places p t h in any_here (λ (u : Thread). u.name == t.name) (threads w.places) r.0 t r.1 (eq-eqb t.name t.name refl)

-- Marks.
pub marked_more : (marks : List Mark) (n name m other : ℕ) → is_marked (with_mark marks n name) m other ≡ true → ((n ≡ m) × (name ≡ other)) ⊎ (is_marked marks m other ≡ true)
marked_more marks n name m other h = ⊎_elim (λ a. inl (let x = and_parts (n == m) (name == other) a in (eqb-true n m x.0, eqb-true name other x.1))) (λ b. inr b) (or_cases ((n == m) && (name == other)) (is_marked marks m other) h)

pub marked_old : (marks : List Mark) (n name m other : ℕ) → is_marked marks m other ≡ true → is_marked (with_mark marks n name) m other ≡ true
marked_old marks n name m other h = by ((n == m) && (name == other))
  where
    by : (b : Bool) → (b || is_marked marks m other) ≡ true
    by true = refl
    by false = h

pub marked_new : (marks : List Mark) (n name : ℕ) → is_marked (with_mark marks n name) n name ≡ true
marked_new marks n name = let a = eq-eqb n n refl in let b = eq-eqb name name refl in rw (a, b) refl

pub unmarked_less : (marks : List Mark) (n name m other : ℕ) → is_marked (with_mark marks n name) m other ≡ false → is_marked marks m other ≡ false
unmarked_less marks n name m other h = (or_parts ((n == m) && (name == other)) (is_marked marks m other) h).1

marks_only : (n : ℕ) (names : List ℕ) (m name : ℕ) → is_marked (marks_of n names) m name ≡ true → (n ≡ m) × (among name names ≡ true)
marks_only n [] m name h = absurd (false≢true h)
marks_only n (x ∷ xs) m name h = ⊎_elim (λ a. (let y = and_parts (n == m) (x == name) a in (eqb-true n m y.0, left (x == name) y.1))) (λ b. (let r = marks_only n xs m name b in (r.0, right (x == name) r.1)))
    (or_cases ((n == m) && (x == name)) (is_marked (marks_of n xs) m name) h)
  where
    left : (b : Bool) → b ≡ true → (b || among name xs) ≡ true
    left true e = refl
    left false e = absurd (false≢true e)

    right : (b : Bool) → among name xs ≡ true → (b || among name xs) ≡ true
    right true e = refl
    right false e = e

or_later : (x y : Bool) → y ≡ true → (x || y) ≡ true
or_later true y h = refl
or_later false y h = h

-- The open operation is the only one.
pub only_open : (os : List Opened) (o : Opened) (others : List Opened) → length os ≤ 1 → os ≡ o ∷ others → (i : ℕ) (x : Opened) → slice_get os i ≡ Some x → x ≡ o
only_open os o others few is i x h =
    let n : length os ≡ suc (length others) = ap (λ (ys : List Opened). length ys) is in
    let low : i < length os = at_low os i x h in
    let first : i ≡ 0 = omega arith in
    same_at os 0 x o (subst (λ j. slice_get os j ≡ Some x) first h) (subst (λ (ys : List Opened). slice_get ys 0 ≡ Some o) (sym is) refl)

pub first_open : (os : List Opened) (o : Opened) (others : List Opened) → os ≡ o ∷ others → slice_get os 0 ≡ Some o
first_open os o others is = subst (λ (ys : List Opened). slice_get ys 0 ≡ Some o) (sym is) refl

-- The thread at a place is the former one or the new one.
seat_cases : (places : List (Option Thread)) (p : ℕ) (u : Thread) → p < length places → (q : ℕ) (v : Thread) → slice_get (slice_set places p (Some u)) q ≡ Some (Some v) → ((q ≡ p) × (u ≡ v)) ⊎ (slice_get places q ≡ Some (Some v))
seat_cases places p u low q v x = dite (ℕ_discrete q p)
    (λ e. let is : Some (Some u) ≡ Some (Some v) = sym (get_set_same places p (Some u) low) ∙ subst (λ n. slice_get (slice_set places p (Some u)) n ≡ Some (Some v)) e x in let inner : u ≡ v = cc in inl (e, inner))
    (λ ne. inr (sym (get_set_other places p q (Some u) ne) ∙ x))

-- An act of the thread at p that keeps its name.
marks_seated : (w : World) (g n p : ℕ) (t u : Thread) → MarksAreSound w.places w.requests g n → Stands w p t → u.name ≡ t.name → (u.held ≡ true → (o : Opened) × IsToldOpen w.requests o t.name) → MarksAreSound (slice_set w.places p (Some u)) w.requests g n
marks_seated w g n p t u h s same new = record {
  live_given = h.live_given;
  told_given = h.told_given;
  live_target = h.live_target;
  told_opened = h.told_opened;
  done_told = h.done_told;
  cleared_done = h.cleared_done;
  told_live = h.told_live;
  uncleared_open = λ q v m x told clear. ⊎_elim
      (λ here. (let name : v.name ≡ t.name = ap (λ (y : Thread). y.name) (sym here.1) ∙ same in
      h.uncleared_open p t m s.there (subst (λ k. is_marked w.requests.told m k ≡ true) name told) (subst (λ k. is_marked w.requests.cleared m k ≡ false) name clear)))
      (λ other. h.uncleared_open q v m other told clear) (seat_cases w.places p u s.low q v x);
  held_told = λ q v x e. ⊎_elim
      (λ here. (let name : t.name ≡ v.name = sym same ∙ ap (λ (y : Thread). y.name) here.1 in
      subst (λ k. (o : Opened) × IsToldOpen w.requests o k) name (new (ap (λ (y : Thread). y.held) here.1 ∙ e))))
      (λ other. h.held_told q v other e) (seat_cases w.places p u s.low q v x);
}

marks_left : (w : World) (g n p : ℕ) → MarksAreSound w.places w.requests g n → p < length w.places → MarksAreSound (slice_set w.places p None) w.requests g n
marks_left w g n p h low = record {
  live_given = h.live_given;
  told_given = h.told_given;
  live_target = h.live_target;
  told_opened = h.told_opened;
  done_told = h.done_told;
  cleared_done = h.cleared_done;
  told_live = h.told_live;
  uncleared_open = λ q v m x told clear. h.uncleared_open q v m (old q v x) told clear;
  held_told = λ q v x e. h.held_told q v (old q v x) e;
}
  where
    old : (q : ℕ) (v : Thread) → slice_get (slice_set w.places p None) q ≡ Some (Some v) → slice_get w.places q ≡ Some (Some v)
    old = each_none (λ q v. slice_get w.places q ≡ Some (Some v)) w.places p low (λ q v x. x)

marks_started : (w : World) (g n p : ℕ) → MarksAreSound w.places w.requests g n → p < length w.places → MarksAreSound (slice_set w.places p (Some (new_thread (g + 1)))) w.requests (g + 1) n
marks_started w g n p h low = record {
  live_given = λ i o name x a. (let b = h.live_given i o name x a in omega arith);
  told_given = λ m name a. (let b = h.told_given m name a in omega arith);
  live_target = h.live_target;
  told_opened = h.told_opened;
  done_told = h.done_told;
  cleared_done = h.cleared_done;
  told_live = h.told_live;
  uncleared_open = λ q v m x told clear. ⊎_elim
      (λ here. (let b = h.told_given m v.name told in let name : g + 1 ≡ v.name = ap (λ (y : Thread). y.name) here.1 in absurd (omega arith)))
      (λ other. h.uncleared_open q v m other told clear) (seat_cases w.places p (new_thread (g + 1)) low q v x);
  held_told = λ q v x e. ⊎_elim (λ here. absurd (false≢true (ap (λ (y : Thread). y.held) here.1 ∙ e))) (λ other. h.held_told q v other e) (seat_cases w.places p (new_thread (g + 1)) low q v x);
}

-- Finish and Clear.
marks_done : (w : World) (g n : ℕ) (opened : Opened) (name : ℕ) → is_marked w.requests.told opened.number name ≡ true → MarksAreSound w.places w.requests g n → MarksAreSound w.places (with_done w.requests opened name) g n
marks_done w g n opened name told h = record {
  live_given = h.live_given;
  told_given = h.told_given;
  live_target = h.live_target;
  told_opened = h.told_opened;
  done_told = λ m other d. ⊎_elim (λ new. subst (λ k. is_marked w.requests.told k other ≡ true) new.0 (subst (λ k. is_marked w.requests.told opened.number k ≡ true) new.1 told)) (λ old. h.done_told m other old)
      (marked_more w.requests.done opened.number name m other d);
  cleared_done = λ m other c. marked_old w.requests.done opened.number name m other (h.cleared_done m other c);
  told_live = h.told_live;
  uncleared_open = h.uncleared_open;
  held_told = λ p t x e. (let r = h.held_told p t x e in (r.0, record { opened = r.1.opened; told = r.1.told }));
}

marks_cleared : (w : World) (g n : ℕ) (opened : Opened) (name : ℕ) → is_marked w.requests.done opened.number name ≡ true → MarksAreSound w.places w.requests g n → MarksAreSound w.places (with_cleared w.requests opened name) g n
marks_cleared w g n opened name done h = record {
  live_given = h.live_given;
  told_given = h.told_given;
  live_target = h.live_target;
  told_opened = h.told_opened;
  done_told = h.done_told;
  cleared_done = λ m other c. ⊎_elim (λ new. subst (λ k. is_marked w.requests.done k other ≡ true) new.0 (subst (λ k. is_marked w.requests.done opened.number k ≡ true) new.1 done)) (λ old. h.cleared_done m other old)
      (marked_more w.requests.cleared opened.number name m other c);
  told_live = h.told_live;
  uncleared_open = λ p t m x told clear. h.uncleared_open p t m x told (unmarked_less w.requests.cleared opened.number name m t.name clear);
  held_told = λ p t x e. (let r = h.held_told p t x e in (r.0, record { opened = r.1.opened; told = r.1.told }));
}

-- Tell.
marks_told : (w : World) (g n m name : ℕ) (opened : Opened) → Tells w name opened → NumbersAreSound w.requests.waiting w.requests.opened g n m → MarksAreSound w.places w.requests g n
    → MarksAreSound w.places (with_told w.requests opened name) g n
marks_told w g n m name opened i numbers h = record {
  live_given = h.live_given;
  told_given = λ m other t. ⊎_elim (λ new. subst (λ k. k ≤ g) new.1 (h.live_given i.open_is.position opened name i.open_is.here listed)) (λ old. h.told_given m other old) (marked_more w.requests.told opened.number name m other t);
  live_target = h.live_target;
  told_opened = λ m other t. ⊎_elim (λ new. subst (WasOpened w.requests.waiting n) new.0 (numbers.opened_is i.open_is.position opened i.open_is.here)) (λ old. h.told_opened m other old) (marked_more w.requests.told opened.number name m other t);
  done_told = λ m other d. marked_old w.requests.told opened.number name m other (h.done_told m other d);
  cleared_done = h.cleared_done;
  told_live = λ j o other x t. ⊎_elim
      (λ new. (let same : opened ≡ o = only_number numbers i.open_is.position j opened o i.open_is.here x new.0 in
      subst (λ (y : Opened). among other y.live ≡ true) same (subst (λ k. among k opened.live ≡ true) new.1 listed)))
      (λ old. h.told_live j o other x old) (marked_more w.requests.told opened.number name o.number other t);
  uncleared_open = λ p t m x told clear. ⊎_elim (λ new. (i.open_is.position, opened, i.open_is.here, new.0)) (λ old. h.uncleared_open p t m x old clear) (marked_more w.requests.told opened.number name m t.name told);
  held_told = λ p t x e. (let r = h.held_told p t x e in (r.0, record { opened = r.1.opened; told = marked_old w.requests.told opened.number name r.0.number t.name r.1.told }));
}
  where
    listed : among name opened.live ≡ true
    listed = (and_parts (among name opened.live) (is_live w name) i.live).0

-- Ask and Open.
marks_asked : (w : World) (g : ℕ) (request : Request) → MarksAreSound w.places w.requests g (operations_given w.log) → MarksAreSound w.places (with_request w request) g (operations_given w.log + 1)
marks_asked w g request h = record {
  live_given = h.live_given;
  told_given = h.told_given;
  live_target = h.live_target;
  told_opened = λ m name t. (let a = h.told_opened m name t in let low = a.1 in let e = push_length w.requests.waiting (record { number = operations_given w.log + 1; request = request }) in (a.0, omega arith));
  done_told = h.done_told;
  cleared_done = h.cleared_done;
  told_live = h.told_live;
  uncleared_open = h.uncleared_open;
  held_told = λ p t x e. (let r = h.held_told p t x e in (r.0, record { opened = r.1.opened; told = r.1.told }));
}

marks_opened : (w : World) (g n m : ℕ) (oldest : Waiting) (others : List Waiting) → Opens w oldest others → ThreadsAreSound w.places w.codes g → NumbersAreSound w.requests.waiting w.requests.opened g n m → MarksAreSound w.places w.requests g n
    → MarksAreSound w.places (with_opened w oldest others) g n
marks_opened w g n m oldest others i threads numbers h = record {
  live_given = λ j o name x a. ⊎_elim (λ old. h.live_given j o name old a) (λ new. given name (subst (λ (y : Opened). among name y.live ≡ true) (sym new.1) a)) (push_at w.requests.opened (newly_opened w oldest) j o x);
  told_given = h.told_given;
  live_target = λ j o name x a. ⊎_elim (λ old. h.live_target j o name old a)
      (λ new. subst (λ (y : Opened). is_target y.request name ≡ true) new.1 (target name (subst (λ (y : Opened). among name y.live ≡ true) (sym new.1) a))) (push_at w.requests.opened (newly_opened w oldest) j o x);
  told_opened = λ k name t. (let a = h.told_opened k name t in let low = a.1 in let e = longer in (a.0, omega arith));
  done_told = h.done_told;
  cleared_done = h.cleared_done;
  told_live = λ j o name x t. ⊎_elim (λ old. h.told_live j o name old t) (λ new. absurd (fresh name (subst (λ (y : Opened). is_marked w.requests.told y.number name ≡ true) (sym new.1) t))) (push_at w.requests.opened (newly_opened w oldest) j o x);
  uncleared_open = λ p t k x told clear. (let r = h.uncleared_open p t k x told clear in (r.0, r.1, push_low w.requests.opened (newly_opened w oldest) r.0 r.1 r.2, r.3));
  held_told = λ p t x e. (let r = h.held_told p t x e in (r.0, record { opened = (r.1.opened.0, push_low w.requests.opened (newly_opened w oldest) r.1.opened.0 r.0 r.1.opened.1); told = r.1.told }));
}
  where
    longer : length w.requests.waiting ≡ suc (length others)
    longer = ap (λ (ws : List Waiting). length ws) i.waiting_is

    given : (name : ℕ) → among name (filter (is_target oldest.request) (live_names w)) ≡ true → name ≤ g
    given name a =
        let b = any_at (λ other. other == name) (filter (is_target oldest.request) (live_names w)) a in
        let c = filter_at (is_target oldest.request) (live_names w) b.0 b.1 b.2 in
        let d = name_at w.places c.from b.1 c.at in
        let s = threads.each d.0 d.1 d.2 in let low = s.name_to in let same = d.3 in let is : b.1 ≡ name = eqb-true b.1 name b.3 in omega arith

    target : (name : ℕ) → among name (filter (is_target oldest.request) (live_names w)) ≡ true → is_target oldest.request name ≡ true
    target name a =
        let b = any_at (λ other. other == name) (filter (is_target oldest.request) (live_names w)) a in
        let c = filter_at (is_target oldest.request) (live_names w) b.0 b.1 b.2 in
        subst (λ m. is_target oldest.request m ≡ true) (eqb-true b.1 name b.3) c.passes

    fresh : (name : ℕ) → is_marked w.requests.told oldest.number name ≡ true → ⊥
    fresh name t =
        let a = h.told_opened oldest.number name t in let low = a.1 in
        let first = numbers.waiting_is 0 oldest (subst (λ ws. slice_get ws 0 ≡ Some oldest) (sym i.waiting_is) refl) in absurd (omega arith)

-- Operate and Close.
marks_operated : (w : World) (g n : ℕ) (opened : Opened) (others : List Opened) → Operates w opened others → length w.requests.opened ≤ 1 → MarksAreSound w.places w.requests g n → MarksAreSound w.places (with_operated w opened) g n
marks_operated w g n opened others i few h = record {
  live_given = λ j o name x a. (let m = map_at (operated_if opened.number) w.requests.opened j o x in
      h.live_given j m.before name m.at (subst (λ ns. among name ns ≡ true) (ap (λ (y : Opened). y.live) (sym m.is) ∙ operated_live opened.number m.before) a));
  told_given = h.told_given;
  live_target = λ j o name x a. (let m = map_at (operated_if opened.number) w.requests.opened j o x in
      let live : m.before.live ≡ o.live = sym (operated_live opened.number m.before) ∙ ap (λ (y : Opened). y.live) m.is in
      let asked : m.before.request ≡ o.request = sym (operated_request opened.number m.before) ∙ ap (λ (y : Opened). y.request) m.is in
      subst (λ r. is_target r name ≡ true) asked (h.live_target j m.before name m.at (subst (λ ns. among name ns ≡ true) (sym live) a)));
  told_opened = h.told_opened;
  done_told = λ k name d. ⊎_elim (λ new. told_all k name (marks_only opened.number (live_names w) k name new)) (λ old. h.done_told k name old)
      (or_cases (is_marked (marks_of opened.number (live_names w)) k name) (is_marked w.requests.done k name)
      (sym (list_any-append (λ (mark : Mark). (mark.operation == k) && (mark.name == name)) (marks_of opened.number (live_names w)) w.requests.done) ∙ d));
  cleared_done = λ k name c. list_any-append (λ (mark : Mark). (mark.operation == k) && (mark.name == name)) (marks_of opened.number (live_names w)) w.requests.done
      ∙ or_later (is_marked (marks_of opened.number (live_names w)) k name) (is_marked w.requests.done k name) (h.cleared_done k name c);
  told_live = λ j o name x t. (let m = map_at (operated_if opened.number) w.requests.opened j o x in
      let number : o.number ≡ m.before.number = ap (λ (y : Opened). y.number) (sym m.is) ∙ operated_number opened.number m.before in
      let live : m.before.live ≡ o.live = sym (operated_live opened.number m.before) ∙ ap (λ (y : Opened). y.live) m.is in
      subst (λ ns. among name ns ≡ true) live (h.told_live j m.before name m.at (subst (λ k. is_marked w.requests.told k name ≡ true) number t)));
  uncleared_open = λ p t k x told clear. (let r = h.uncleared_open p t k x told clear in (r.0, operated_if opened.number r.1, map_has r.0 r.1 r.2, operated_number opened.number r.1 ∙ r.3));
  held_told = λ p t x e. (let r = h.held_told p t x e in (
    operated_if opened.number r.0,
    record { opened = (r.1.opened.0, map_has r.1.opened.0 r.0 r.1.opened.1); told = subst (λ k. is_marked w.requests.told k t.name ≡ true) (sym (operated_number opened.number r.0)) r.1.told },
  ));
}
  where
    map_has : (j : ℕ) (o : Opened) → slice_get w.requests.opened j ≡ Some o → slice_get (map (operated_if opened.number) w.requests.opened) j ≡ Some (operated_if opened.number o)
    map_has j o x = slice_get-map (operated_if opened.number) w.requests.opened j ∙ ap (option_map (operated_if opened.number)) x

    told_all : (k name : ℕ) → (opened.number ≡ k) × (among name (live_names w) ≡ true) → is_marked w.requests.told k name ≡ true
    told_all k name a =
        let b = among_live w name a.1 in
        let r = threads_has w.places b.0 b.1 b.2 in
        let held : b.1.held ≡ true = all_at (λ (t : Thread). t.held) (threads w.places) r.0 b.1 i.held r.1 in
        let c = h.held_told b.0 b.1 b.2 held in
        let same : c.0 ≡ opened = only_open w.requests.opened opened others few i.opened_is c.1.opened.0 c.0 c.1.opened.1 in
        subst (λ m. is_marked w.requests.told k m ≡ true) b.3 (subst (λ m. is_marked w.requests.told m b.1.name ≡ true) (ap (λ (y : Opened). y.number) same ∙ a.0) c.1.told)

marks_closed : (w : World) (g n m : ℕ) (opened : Opened) → Closes w opened → NumbersAreSound w.requests.waiting w.requests.opened g n m → MarksAreSound w.places w.requests g n → MarksAreSound w.places (without_opened w opened) g n
marks_closed w g n m opened i numbers h = record {
  live_given = λ j o name x a. (let m = filter_at (λ (o : Opened). not (o.number == opened.number)) w.requests.opened j o x in h.live_given m.from o name m.at a);
  told_given = h.told_given;
  live_target = λ j o name x a. (let m = filter_at (λ (o : Opened). not (o.number == opened.number)) w.requests.opened j o x in h.live_target m.from o name m.at a);
  told_opened = h.told_opened;
  done_told = h.done_told;
  cleared_done = h.cleared_done;
  told_live = λ j o name x t. (let m = filter_at (λ (o : Opened). not (o.number == opened.number)) w.requests.opened j o x in h.told_live m.from o name m.at t);
  uncleared_open = λ p t k x told clear. (let r = h.uncleared_open p t k x told clear in
      let s = stays r.0 r.1 r.2 (r.1.number == opened.number) refl (λ same. (let number : opened.number ≡ k = sym same ∙ r.3 in
      false≢true (sym clear ∙ cleared_all p t k x number told))) in (s.0, r.1, s.1, r.3));
  held_told = λ p t x e. (let r = h.held_told p t x e in
      let s = stays r.1.opened.0 r.0 r.1.opened.1 (r.0.number == opened.number) refl (λ same. not_held p t x e (subst (λ k. is_marked w.requests.told k t.name ≡ true) same r.1.told)) in
      (r.0, record { opened = s; told = r.1.told }));
}
  where
    implied : (a b : Bool) → (not a || b) ≡ true → a ≡ true → b ≡ true
    implied true b e k = e
    implied false b e k = absurd (false≢true k)

    stays : (j : ℕ) (o : Opened) → slice_get w.requests.opened j ≡ Some o → (b : Bool) → (o.number == opened.number) ≡ b → (o.number ≡ opened.number → ⊥) → (k : ℕ) × (slice_get (filter (λ (o : Opened). not (o.number == opened.number)) w.requests.opened) k ≡ Some o)
    stays j o x true e differ = absurd (differ (eqb-true o.number opened.number e))
    stays j o x false e differ = filter_has (λ (o : Opened). not (o.number == opened.number)) w.requests.opened j o x (rw e refl)

    listed : (t : Thread) → is_marked w.requests.told opened.number t.name ≡ true → among t.name opened.live ≡ true
    listed t told = h.told_live i.open_is.position opened t.name i.open_is.here told

    not_held : (p : ℕ) (t : Thread) → slice_get w.places p ≡ Some (Some t) → t.held ≡ true → is_marked w.requests.told opened.number t.name ≡ true → ⊥
    not_held p t x e told =
        let r = threads_has w.places p t x in
        let target = h.live_target i.open_is.position opened t.name i.open_is.here (listed t told) in
        let out = all_at (λ (u : Thread). not (u.held && is_target opened.request u.name)) (threads w.places) r.0 t i.none_held r.1 in
        false≢true (sym (not-true (t.held && is_target opened.request t.name) out) ∙ and_from t.held (is_target opened.request t.name) e target)

    cleared_all : (p : ℕ) (t : Thread) (k : ℕ) → slice_get w.places p ≡ Some (Some t) → opened.number ≡ k → is_marked w.requests.told k t.name ≡ true → is_marked w.requests.cleared k t.name ≡ true
    cleared_all p t k x number told =
        let on_list : among t.name opened.live ≡ true = listed t (subst (λ m. is_marked w.requests.told m t.name ≡ true) (sym number) told) in
        let place = any_at (λ other. other == t.name) opened.live on_list in
        let each = (and_parts (not (is_census opened.request) || opened.operated) (list_all (λ name. not (is_live_target w opened name) || is_marked w.requests.cleared opened.number name) opened.live) i.over).1 in
        let one : (not (is_live_target w opened t.name) || is_marked w.requests.cleared opened.number t.name) ≡ true =
        subst (λ m. (not (is_live_target w opened m) || is_marked w.requests.cleared opened.number m) ≡ true) (eqb-true place.1 t.name place.3)
        (all_at (λ name. not (is_live_target w opened name) || is_marked w.requests.cleared opened.number name) opened.live place.0 place.1 each place.2) in
        subst (λ m. is_marked w.requests.cleared m t.name ≡ true) number
        (implied (is_live_target w opened t.name) (is_marked w.requests.cleared opened.number t.name) one (and_from (among t.name opened.live) (is_live w t.name) on_list (live_has w p t x)))

-- Each event preserves this, in a world with sound threads and numbers.
pub marks_kept : (w : World) → ThreadsAreSound w.places w.codes (names_given w.log) → NumbersAreSound w.requests.waiting w.requests.opened (names_given w.log) (operations_given w.log) (moment w.log)
    → MarksAreSound w.places w.requests (names_given w.log) (operations_given w.log) → Cases w (λ e a v. MarksAreSound v.places v.requests (names_given v.log) (operations_given v.log))
marks_kept w threads numbers h = record {
  refuses = λ e r. h;
  begins = λ p t i. marks_seated w (names_given w.log) (operations_given w.log) p t (begun t) h i.stands refl (h.held_told p t i.stands.there);
  changes = λ p t code i. marks_seated w (names_given w.log) (operations_given w.log) p t (changed_by t code) h i.publishes.stands refl (h.held_told p t i.publishes.stands.there);
  rests = λ p t i. marks_seated w (names_given w.log) (operations_given w.log) p t t h i.publishes.stands refl (h.held_told p t i.publishes.stands.there);
  ends = λ p t i. marks_seated w (names_given w.log) (operations_given w.log) p t (ended t) h i.publishes.stands refl (h.held_told p t i.publishes.stands.there);
  moves = λ p t a state given i. marks_seated w (names_given w.log) (operations_given w.log) p t (moved t state) h i.acts.stands refl (h.held_told p t i.acts.stands.there);
  interprets = λ p t method i. marks_seated w (names_given w.log) (operations_given w.log) p t (entered t method None) h i.acts.stands refl (h.held_told p t i.acts.stands.there);
  enters = λ p t method serial code i. marks_seated w (names_given w.log) (operations_given w.log) p t (entered t method (Some (id_of code))) h i.calls.acts.stands refl (h.held_told p t i.calls.acts.stands.there);
  misses = λ p t method serial code i. marks_seated w (names_given w.log) (operations_given w.log) p t t h i.calls.acts.stands refl (h.held_told p t i.calls.acts.stands.there);
  leaves = λ p t state i. marks_seated w (names_given w.log) (operations_given w.log) p t (moved (popped t) state) h i.acts.stands refl (h.held_told p t i.acts.stands.there);
  exits = λ p t i. marks_left w (names_given w.log) (operations_given w.log) p h i.acts.stands.low;
  finishes = λ p t opened i. marks_done w (names_given w.log) (operations_given w.log) opened t.name i.told h;
  clears = λ p t opened i. marks_cleared w (names_given w.log) (operations_given w.log) opened t.name i.done h;
  holds = λ p t opened i. marks_seated w (names_given w.log) (operations_given w.log) p t (held t) h i.acts.stands refl (λ e. (opened, record { opened = (i.open_is.position, i.open_is.here); told = i.told }));
  releases = λ p t i. marks_seated w (names_given w.log) (operations_given w.log) p t (released t) h i.acts.stands refl (λ e. absurd (false≢true e));
  shows = λ p t i. marks_seated w (names_given w.log) (operations_given w.log) p t t h i refl (h.held_told p t i.there);
  starts = λ p i. subst (λ n. MarksAreSound (slice_set w.places p (Some (new_thread (names_given w.log + 1)))) w.requests n (operations_given w.log)) (started_more w p) (marks_started w (names_given w.log) (operations_given w.log) p h i.low);
  installs = λ method slot i. h;
  invalidates = λ serial code i. h;
  goes_round = λ i. h;
  looks_clear = λ serial p code i. h;
  looks_late = λ serial p code i. h;
  finds_unlooked = λ serial code p i. h;
  finds_used = λ serial code i. h;
  retires = λ serial code i. h;
  frees = λ serial code i. h;
  asks = λ request i. subst (λ n. MarksAreSound w.places (with_request w request) (names_given w.log) n) (asked_more w request) (marks_asked w (names_given w.log) request h);
  opens = λ oldest others i. marks_opened w (names_given w.log) (operations_given w.log) (moment w.log) oldest others i threads numbers h;
  tells = λ name opened i. marks_told w (names_given w.log) (operations_given w.log) (moment w.log) name opened i numbers h;
  finds_gone = λ name i. h;
  operates = λ opened others i. marks_operated w (names_given w.log) (operations_given w.log) opened others i (numbers.census_alone 0 opened (first_open w.requests.opened opened others i.opened_is) i.census) h;
  closes = λ number opened i. marks_closed w (names_given w.log) (operations_given w.log) (moment w.log) opened i numbers h;
  counts = λ serial code i. h;
  says_state = λ serial code i. h;
  resolves = λ method i. h;
}

pub marks_start : (places : ℕ) → MarksAreSound (replicate places None) no_requests 0 0
marks_start places = record {
  live_given = λ i o name x a. cc;
  told_given = λ n name a. absurd (false≢true a);
  live_target = λ i o name x a. cc;
  told_opened = λ n name a. absurd (false≢true a);
  done_told = λ n name a. absurd (false≢true a);
  cleared_done = λ n name a. absurd (false≢true a);
  told_live = λ i o name x a. absurd (false≢true a);
  uncleared_open = λ p t n x a b. absurd (false≢true a);
  held_told = λ p t x e. absurd (each_start (λ p t. ⊥) places p t x);
}
