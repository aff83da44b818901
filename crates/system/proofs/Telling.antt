-- Tell: its answers, and the system after it.
use Rattle.std.proofs.Common.{◌≡◌, ◌<◌, ◌≤◌, ◌∙◌, sym, ap, refl, subst, ℕ, Bool, true, false, not, ◌&&◌, ◌||◌, eqb, cond, List, [], ◌∷◌, Option, Some, None, length, arith}
use Rattle.std.specs.Prelude.{slice_get, slice_set, nat_le, nat_lt, find, filter}
use Rattle.std.specs.List.{list_any}
use Rattle.std.proofs.lemmas.Bool.{false≢true, and_parts, and_from, or_parts, not-true}
use Rattle.std.proofs.lemmas.Bool.Decides.{nat_tests}
use Rattle.operations.specs.declared.Request.{Request}
use Rattle.operations.specs.declared.Request.TheVariants.{Handshake, Census}
use Rattle.operations.specs.Names.{is_empty}
use Rattle.operations.specs.Requests.{is_target}
use Rattle.system.specs.declared.events.Event.{Event}
use Rattle.system.specs.declared.events.Event.TheVariants as event
use Rattle.system.specs.declared.answers.Answer.{Answer}
use Rattle.system.specs.declared.answers.Answer.TheVariants as answer
use Rattle.system.specs.declared.answers.Refusal.TheVariants as refusal
use Rattle.system.specs.declared.requests.Open.{Open}
use Rattle.system.specs.declared.thread.Thread.{Thread as Kept}
use Rattle.system.specs.declared.keeping.Core.{Core}
use Rattle.system.specs.Verdict.{accepted}
use Rattle.system.specs.Operations.{Requests, Opened, is_marked, with_mark}
use Rattle.system.specs.Log.{names_given}
use Rattle.system.specs.Threads.{Thread}
use Rattle.system.specs.World.{World, threads, is_live, is_live_target}
use Rattle.system.specs.Places.{in_found}
use Rattle.system.specs.Step.{outcome, may_tell, tell_in, tell_oldest}
use Rattle.system.specs.Facts.{IsSound}
use Rattle.system.specs.Kept.Threads.{SameOpen, is_live_for, was_told, live_by, untold_by, marks_told, kept_told}
use Rattle.system.specs.Marking.{SameMarks, SameOpened}
use Rattle.system.specs.Stands.{Matches, DoesIn, Does}
use Rattle.system.specs.Kept.Tells.{is_named_at, may_tell_of, may_tell_any, answer_of_told, answer_told}
use Rattle.system.proofs.Outcomes.{Tells}
use Rattle.system.proofs.Lists.{any_at, any_here, any_none_at, find_filter, find_place, found_passes}
use Rattle.system.proofs.Found.{put_back}
use Rattle.system.proofs.Logs.{IsQuiet, IsElsewhere, moments_next, noted_matches}
use Rattle.system.proofs.AfterAct.{SameRest, length_set}
use Rattle.system.proofs.ByAct as acted
use Rattle.system.proofs.FinishAndClear.{added_matches}
use Rattle.system.proofs.AddedMarks.{told_other}
use Rattle.system.proofs.ThreeNumbers.{same_open, told_own}
use Rattle.system.proofs.CodeEvents.{accepted_in}
use Rattle.system.proofs.SoundMarks.{among_live, live_has}
use Rattle.system.proofs.Pairs.{Pairs, BothFound, pairs_of, any_pairs, find_pairs, any_same, empty_same}
use Rattle.system.proofs.Requesting.{among_names}
use Rattle.system.proofs.Closing.{Both, both_kept, both_there, live_is, refused_does}

false_where : (b : Bool) → (b ≡ true → ⊥) → b ≡ false
false_where true f = absurd (f refl)
false_where false f = refl

and_false : (a : Bool) → a && false ≡ false
and_false true = refl
and_false false = refl

-- The threads to which an operation may be told.
may_is : (w : World) (request : Request) (name : ℕ) → may_tell w request name ≡ may_tell_of (names_given w.log) request name
may_is w (Handshake targets ask) name = refl
may_is w Census name = refl

may_any : (s : Core) (w : World) (name : ℕ) → Matches s w → list_any (λ o. may_tell w o.request name) w.requests.opened ≡ may_tell_any s.names s.requests.opens name
may_any s w name m = any_same w (λ a. may_tell_of s.names a.request name) (λ o. may_tell w o.request name)
    (λ a o same. may_is w o.request name ∙ (ap (λ n. may_tell_of n o.request name) (sym m.names) ∙ ap (λ r. may_tell_of s.names r name) (sym same.request))) s.requests.opens w.requests.opened m.opened

some_open : (s : Core) (w : World) (b : Bool) → Matches s w → is_empty s.requests.opens ≡ b → is_empty w.requests.opened ≡ b
some_open s w b m h = empty_same w s.requests.opens w.requests.opened m.opened ∙ h

pub tell_nothing : (s : Core) (name : ℕ) → is_empty s.requests.opens ≡ true → Does (event.Tell name) s (answer.Refused refusal.NothingOpen) s
tell_nothing s name none = refused_does s (event.Tell name) refusal.NothingOpen (λ w sound m. rw (some_open s w true m none) refl)

pub tell_not_of : (s : Core) (name : ℕ) → is_empty s.requests.opens ≡ false → may_tell_any s.names s.requests.opens name ≡ false → Does (event.Tell name) s (answer.Refused refusal.NotOf) s
tell_not_of s name some may = refused_does s (event.Tell name) refusal.NotOf (λ w sound m. rw (some_open s w false m some, may_any s w name m, may) refl)

-- If one may be told, the operations with the thread as a live target decide.
abbrev live_targets : World → ℕ → List Opened
live_targets w name = filter (λ o. is_live_target w o name) w.requests.opened

told_of : (s : Core) (w : World) (name : ℕ) → Matches s w → is_empty s.requests.opens ≡ false → may_tell_any s.names s.requests.opens name ≡ true → outcome w (event.Tell name) ≡ tell_oldest w name (live_targets w name)
told_of s w name m some may = rw (some_open s w false m some, may_any s w name m, may) refl

no_pass : {A : Type 0} (test : A → Bool) (xs : List A) → list_any test xs ≡ false → filter test xs ≡ []
no_pass test [] h = refl
no_pass {A} test (x ∷ xs) h = by (test x) h (no_pass test xs)
  where
    by : (b : Bool) → b || list_any test xs ≡ false → (list_any test xs ≡ false → filter test xs ≡ []) → cond b (x ∷ filter test xs) (filter test xs) ≡ []
    by true k rest = absurd (false≢true (sym k))
    by false k rest = rest k

some_pass : {A : Type 0} (test : A → Bool) (xs : List A) → list_any test xs ≡ true → is_empty (filter test xs) ≡ false
some_pass test [] h = absurd (false≢true h)
some_pass {A} test (x ∷ xs) h = by (test x) h (some_pass test xs)
  where
    by : (b : Bool) → b || list_any test xs ≡ true → (list_any test xs ≡ true → is_empty (filter test xs) ≡ false) → is_empty (cond b (x ∷ filter test xs) (filter test xs)) ≡ false
    by true k rest = refl
    by false k rest = rest k

oldest_told : (w : World) (name : ℕ) (os : List Opened) → is_empty os ≡ false → tell_oldest w name os ≡ in_found refusal.AlreadyTold (find (λ o. not (is_marked w.requests.told o.number name)) os) (tell_in w name)
oldest_told w name [] h = absurd (false≢true (sym h))
oldest_told w name (o ∷ os) h = refl

-- The answer Gone.
quiet : (name : ℕ) (a : Answer) → IsQuiet (record { event = event.Tell name; answer = a })
quiet name a = record { starts_none = refl; asks_none = refl; rounds_none = refl; invalidates_none = λ r. refl; looks_none = λ r place. refl }

elsewhere : (name : ℕ) (a : Answer) (place : ℕ) → IsElsewhere place (record { event = event.Tell name; answer = a })
elsewhere name a place = record { starts_not = refl; begins_not = refl; ends_not = refl }

gone_in : (s : Core) (w : World) (name : ℕ) → Matches s w → is_empty s.requests.opens ≡ false → may_tell_any s.names s.requests.opens name ≡ true → list_any (λ o. is_live_target w o name) w.requests.opened ≡ false → DoesIn (event.Tell name) answer.Gone s w
gone_in s w name m some may gone =
    let said : outcome w (event.Tell name) ≡ accepted w answer.Gone = told_of s w name m some may ∙ ap (tell_oldest w name) (no_pass (λ o. is_live_target w o name) w.requests.opened gone) in
    accepted_in s w w (event.Tell name) answer.Gone said (noted_matches s w (event.Tell name) answer.Gone (quiet name answer.Gone) (elsewhere name answer.Gone) m)

pub gone_nobody : (s : Core) (name : ℕ) → is_empty s.requests.opens ≡ false → may_tell_any s.names s.requests.opens name ≡ true → list_any (is_named_at name) s.places.items ≡ false → Does (event.Tell name) s answer.Gone s
gone_nobody s name some may none = record {
  each = λ w sound m. gone_in s w name m some may (false_where (list_any (λ o. is_live_target w o name) w.requests.opened) (λ h. (
      let a = any_at (λ o. is_live_target w o name) w.requests.opened h in
      nobody w m (and_parts (among_name w a.1) (is_live w name) a.3).1)));
  sizes = record { places = refl; slots = refl; methods = refl };
}
  where
    among_name : World → Opened → Bool
    among_name w o = Rattle.operations.specs.Names.among name o.live

    nobody : (w : World) → Matches s w → is_live w name ≡ true → ⊥
    nobody w m lives =
        let a = among_live w name (among_names name (threads w.places) ∙ lives) in
        let b = both_there s w a.0 a.1 m a.2 in
        let other : eqb b.0.name name ≡ false = any_none_at (is_named_at name) s.places.items a.0 (Some b.0) none b.1.kept_there in
        let same : b.0.name ≡ name = b.1.same.thread.name ∙ a.3 in
        let bad : ⊥ = grind (arith, nat_tests) in bad

-- The system's state of an operation decides whether the operation is untold.
record IsPair (w : World) (kept : Kept) (name : ℕ) (a : Open) (o : Opened) : Type 0 where
  number : a.number ≡ o.number
  live : is_live_target w o name ≡ live_by kept a
  untold : (not (is_marked w.requests.told o.number name) && is_live_target w o name) ≡ untold_by kept a

not_le : (n m : ℕ) → not (nat_le n m) ≡ nat_lt m n
not_le n m = grind (arith, nat_tests)

pair_of : (s : Core) (w : World) (p : ℕ) (kept : Kept) (t : Thread) → IsSound w → Both s w p kept t → (i : ℕ) (a : Open) (o : Opened) → slice_get w.requests.opened i ≡ Some o → SameOpened a o w → IsPair w kept t.name a o
pair_of s w p kept t sound b i a o at same = record {
  number = same.number;
  live = live;
  untold = by (is_live_for a kept) refl;
}
  where
    live : is_live_target w o t.name ≡ is_live_for a kept
    live = live_is w a o p kept t same b.there b.same

    marks : SameMarks kept.marks w.requests kept.name
    marks = subst (λ n. SameMarks kept.marks w.requests n) (sym b.same.thread.name) b.same.marks

    both : SameOpen a kept w.requests o
    both = same_open a o kept w i sound.marks at (sound.numbers.opened_is i o at).0 same marks (subst (λ n. is_live w n ≡ true) (sym b.same.thread.name) (live_has w p t b.there))

    told : is_marked w.requests.told o.number t.name ≡ was_told a kept
    told = subst (λ n. is_marked w.requests.told o.number n ≡ was_told a kept) b.same.thread.name both.told

    or_true : (x : Bool) → x || true ≡ true
    or_true true = refl
    or_true false = refl

    and_true : (x : Bool) → x && true ≡ x
    and_true true = refl
    and_true false = refl

    by : (l : Bool) → is_live_for a kept ≡ l → (not (is_marked w.requests.told o.number t.name) && is_live_target w o t.name) ≡ untold_by kept a
    by true e = rw (live, told, e, or_true (eqb a.number kept.marks.told), and_true (nat_le a.number kept.marks.told), not_le a.number kept.marks.told) refl
    by false e = rw (live, e) (and_false (not (is_marked w.requests.told o.number t.name)) ∙ sym (and_false (nat_lt kept.marks.told a.number)))

-- The operation found is told.
told_in : (s new : Core) (w : World) (p : ℕ) (kept : Kept) (t : Thread) (a : Open) (o : Opened) → Matches s w → IsSound w → Both s w p kept t → SameRest s new → new.places.items ≡ slice_set s.places.items p (Some (marks_told kept (Some a))) → a.number ≡ o.number
    → find (λ x. not (is_marked w.requests.told x.number t.name)) (live_targets w t.name) ≡ Some o → outcome w (event.Tell t.name) ≡ tell_in w t.name o → DoesIn (event.Tell t.name) answer.Told new w
told_in s new w p kept t a o m sound b rest places number least said =
    let requests : Requests = record w.requests { told = with_mark w.requests.told o.number t.name } in
    let e : Event = event.Tell t.name in
    let found : find (λ x. not (is_marked w.requests.told x.number t.name) && is_live_target w x t.name) w.requests.opened ≡ Some o = sym (find_filter (λ x. not (is_marked w.requests.told x.number t.name)) (λ x. is_live_target w x t.name) w.requests.opened) ∙ least in
    let at = find_place (λ x. not (is_marked w.requests.told x.number t.name) && is_live_target w x t.name) w.requests.opened o found in
    let passes = and_parts (not (is_marked w.requests.told o.number t.name)) (is_live_target w o t.name) (found_passes (λ x. not (is_marked w.requests.told x.number t.name) && is_live_target w x t.name) w.requests.opened o found) in
    let tells : Tells w t.name o = record { least = least; open_is = record { position = at.0; here = at.1 }; live = passes.1; not_told = not-true (is_marked w.requests.told o.number t.name) passes.0 } in
    accepted_in new w (record w { requests = requests }) e answer.Told said (added_matches s new w p kept (marks_told kept (Some a)) t requests e answer.Told m sound (record {
      rest = rest;
      places = places;
      there = b.there;
      thread = record { name = b.same.thread.name; state = b.same.thread.state; held = b.same.thread.held; published = b.same.thread.published; image = b.same.thread.image };
      waiting = refl;
      opened = refl;
      own = subst (λ n. SameMarks (record kept.marks { told = n }) requests t.name) (sym number) (told_own w t.name p t o kept.marks sound b.there refl tells b.same.marks);
      others = λ other name differ h. told_other other w.requests o.number t.name name differ h;
      moments = moments_next p (record { event = e; answer = answer.Told }) w.log kept.moments (elsewhere t.name answer.Told p) b.same.moments;
      quiet = quiet t.name answer.Told;
      elsewhere = λ q differ. elsewhere t.name answer.Told q;
    }))

-- An operation without the thread as a live target isn't untold.
none_untold : (kept : Kept) (opens : List Open) → list_any (live_by kept) opens ≡ false → find (untold_by kept) opens ≡ None
none_untold kept [] none = refl
none_untold kept (a ∷ opens) none =
    let dead = (or_parts (live_by kept a) (list_any (live_by kept) opens) none).0 in
    let rest = none_untold kept opens (or_parts (live_by kept a) (list_any (live_by kept) opens) none).1 in
    rw (dead, and_false (nat_lt kept.marks.told a.number)) rest

module _ (s new : Core) (p : ℕ) (kept : Kept) (rest : SameRest s new) (at_s : slice_get s.places.items p ≡ Some (Some kept)) where
  -- If the thread is unchanged, so is the system.
  back : (after : Kept) → after ≡ kept → new.places.items ≡ slice_set s.places.items p (Some after) → new.places.items ≡ s.places.items
  back after is places = places ∙ (ap (λ k. slice_set s.places.items p (Some k)) is ∙ put_back s.places.items p (Some kept) at_s)

  by_found : (w : World) (t : Thread) (x : Option Open) (y : Option Opened) → Matches s w → IsSound w → Both s w p kept t → BothFound (λ a o. IsPair w kept t.name a o) x y → find (λ o. not (is_marked w.requests.told o.number t.name)) (live_targets w t.name) ≡ y
      → outcome w (event.Tell t.name) ≡ in_found refusal.AlreadyTold y (tell_in w t.name) → new.places.items ≡ slice_set s.places.items p (Some (marks_told kept x)) → DoesIn (event.Tell t.name) (answer_of_told x true true) new w
  by_found w t None None m sound b both least said places = acted.refused_in s new w (event.Tell t.name) refusal.AlreadyTold (answer.Refused refusal.AlreadyTold) rest (back kept refl places) m said refl
  by_found w t (Some a) (Some o) m sound b both least said places = told_in s new w p kept t a o m sound b rest places both.number least said
  by_found w t None (Some o) m sound b both least said places = absurd both
  by_found w t (Some a) None m sound b both least said places = absurd both

  by_live : (w : World) (t : Thread) → Matches s w → IsSound w → Both s w p kept t → is_empty s.requests.opens ≡ false → may_tell_any s.names s.requests.opens t.name ≡ true → (c : Bool) → list_any (live_by kept) s.requests.opens ≡ c
      → new.places.items ≡ slice_set s.places.items p (Some (marks_told kept (find (untold_by kept) s.requests.opens))) → DoesIn (event.Tell t.name) (answer_of_told (find (untold_by kept) s.requests.opens) true c) new w
  by_live w t m sound b some may false none places =
      let pairs : Pairs (λ a o. IsPair w kept t.name a o) s.requests.opens w.requests.opened = pairs_of (λ a o. IsPair w kept t.name a o) w s.requests.opens w.requests.opened m.opened (pair_of s w p kept t sound b) in
      let gone = any_pairs (λ a o. IsPair w kept t.name a o) (live_by kept) (λ o. is_live_target w o t.name) (λ a o pair. pair.live) s.requests.opens w.requests.opened pairs ∙ none in
      let did = gone_in s w t.name m some may gone in
      let nothing = none_untold kept s.requests.opens none in
      record { answer = ap (λ x. answer_of_told x true false) nothing ∙ did.answer; matches = acted.same_matches s new _ rest (back (marks_told kept (find (untold_by kept) s.requests.opens)) (ap (marks_told kept) nothing) places) did.matches }
  by_live w t m sound b some may true lives places =
      let pairs : Pairs (λ a o. IsPair w kept t.name a o) s.requests.opens w.requests.opened = pairs_of (λ a o. IsPair w kept t.name a o) w s.requests.opens w.requests.opened m.opened (pair_of s w p kept t sound b) in
      let living = any_pairs (λ a o. IsPair w kept t.name a o) (live_by kept) (λ o. is_live_target w o t.name) (λ a o pair. pair.live) s.requests.opens w.requests.opened pairs ∙ lives in
      let both = find_pairs (λ a o. IsPair w kept t.name a o) (untold_by kept) (λ o. not (is_marked w.requests.told o.number t.name) && is_live_target w o t.name) (λ a o pair. pair.untold) s.requests.opens w.requests.opened pairs in
      let same = find_filter (λ o. not (is_marked w.requests.told o.number t.name)) (λ o. is_live_target w o t.name) w.requests.opened in
      let said = told_of s w t.name m some may ∙ (oldest_told w t.name (live_targets w t.name) (some_pass (λ o. is_live_target w o t.name) w.requests.opened living) ∙ ap (λ y. in_found refusal.AlreadyTold y (tell_in w t.name)) same) in
      by_found w t (find (untold_by kept) s.requests.opens) (find (λ o. not (is_marked w.requests.told o.number t.name) && is_live_target w o t.name) w.requests.opened) m sound b both same said places

  -- An untold operation may be told to its thread.
  may_found : (w : World) (t : Thread) → Matches s w → IsSound w → Both s w p kept t → (a : Open) → find (untold_by kept) s.requests.opens ≡ Some a → may_tell_any s.names s.requests.opens t.name ≡ true
  may_found w t m sound b a found =
      let at = find_place (untold_by kept) s.requests.opens a found in
      let live = (and_parts (nat_lt kept.marks.told a.number) (is_live_for a kept) (found_passes (untold_by kept) s.requests.opens a found)).1 in
      let target : is_target a.request t.name ≡ true = ap (is_target a.request) (sym b.same.thread.name) ∙ (and_parts (nat_le kept.name a.names) (is_target a.request kept.name) live).1 in
      let known = sound.threads.each p t b.there in
      any_here (λ o. may_tell_of s.names o.request t.name) s.requests.opens at.0 a at.1 (by a.request target known.name_from (omega (arith, known.name_to, m.names)))
    where
      by : (request : Request) → is_target request t.name ≡ true → 0 < t.name → t.name ≤ s.names → may_tell_of s.names request t.name ≡ true
      by (Handshake targets ask) target from to = target
      by Census target from to = and_from (nat_lt 0 t.name) (nat_le t.name s.names) (grind (arith, nat_tests, from)) (grind (arith, nat_tests, to))

  not_of : (w : World) (t : Thread) → Matches s w → IsSound w → Both s w p kept t → is_empty s.requests.opens ≡ false → may_tell_any s.names s.requests.opens t.name ≡ false
      → (x : Option Open) → find (untold_by kept) s.requests.opens ≡ x → new.places.items ≡ slice_set s.places.items p (Some (marks_told kept x)) → (c : Bool) → DoesIn (event.Tell t.name) (answer_of_told x false c) new w
  not_of w t m sound b some may None e places c = acted.refused_in s new w (event.Tell t.name) refusal.NotOf (answer.Refused refusal.NotOf) rest (back kept refl places) m (rw (some_open s w false m some, may_any s w t.name m, may) refl) refl
  not_of w t m sound b some may (Some a) e places c = absurd (false≢true (sym may ∙ may_found w t m sound b a e))

  by_may : (w : World) (t : Thread) → Matches s w → IsSound w → Both s w p kept t → is_empty s.requests.opens ≡ false → (g : Bool) → may_tell_any s.names s.requests.opens t.name ≡ g
      → new.places.items ≡ slice_set s.places.items p (Some (marks_told kept (find (untold_by kept) s.requests.opens))) → DoesIn (event.Tell t.name) (answer_of_told (find (untold_by kept) s.requests.opens) g (list_any (live_by kept) s.requests.opens)) new w
  by_may w t m sound b some true may places = by_live w t m sound b some may (list_any (live_by kept) s.requests.opens) refl places
  by_may w t m sound b some false may places = not_of w t m sound b some may (find (untold_by kept) s.requests.opens) refl places (list_any (live_by kept) s.requests.opens)

pub tell_does : (s new : Core) (name p : ℕ) (kept : Kept) → is_empty s.requests.opens ≡ false → slice_get s.places.items p ≡ Some (Some kept) → kept.name ≡ name → SameRest s new
    → new.places.items ≡ slice_set s.places.items p (Some (kept_told s.requests.opens kept)) → Does (event.Tell name) s (answer_told s.names s.requests.opens kept) new
tell_does s new name p kept some there named rest places = record {
  each = λ w sound m. (
      let b = both_kept s w p kept m there in
      let name_is : b.0.name ≡ name = sym b.1.same.thread.name ∙ named in
      let here : DoesIn (event.Tell b.0.name) (answer_of_told (find (untold_by kept) s.requests.opens) (may_tell_any s.names s.requests.opens b.0.name) (list_any (live_by kept) s.requests.opens)) new w
      = by_may s new p kept rest there w b.0 m sound b.1 some (may_tell_any s.names s.requests.opens b.0.name) refl places in
      let told : DoesIn (event.Tell b.0.name) (answer_told s.names s.requests.opens kept) new w
      = subst (λ n. DoesIn (event.Tell b.0.name) (answer_of_told (find (untold_by kept) s.requests.opens) (may_tell_any s.names s.requests.opens n) (list_any (live_by kept) s.requests.opens)) new w) (sym b.1.same.thread.name) here in
      subst (λ n. DoesIn (event.Tell n) (answer_told s.names s.requests.opens kept) new w) name_is told);
  sizes = record { places = ap length places ∙ length_set s.places.items p (Some (kept_told s.requests.opens kept)); slots = ap (λ tb. tb.slots) rest.table; methods = ap (λ tb. tb.methods) rest.table };
}
