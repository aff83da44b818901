-- A Finish and a Clear at a place.
use Rattle.std.proofs.Common.{◌≡◌, ◌≢◌, ◌∙◌, ◌<◌, sym, ap, refl, subst, ℕ, zero, suc, Bool, true, false, not, List, [], ◌∷◌, Option, Some, None, length, arith}
use Rattle.std.specs.Prelude.{slice_get, slice_set, find}
use Rattle.std.specs.List.{list_any}
use Rattle.std.proofs.lemmas.Bool.{false≢true}
use Rattle.std.proofs.lemmas.Option.{slice_get_within}
use Rattle.operations.specs.declared.Request.{Request}
use Rattle.operations.specs.declared.Request.TheVariants.{Handshake, Census}
use Rattle.operations.specs.Names.{is_empty}
use Rattle.operations.specs.Requests.{is_census, is_target, lists}
use Rattle.system.specs.declared.events.Act.TheVariants.{Finish, Clear}
use Rattle.system.specs.declared.events.Event.{Event}
use Rattle.system.specs.declared.events.Event.TheVariants as event
use Rattle.system.specs.declared.answers.Answer.{Answer}
use Rattle.system.specs.declared.answers.Refusal.{Refusal}
use Rattle.system.specs.declared.answers.Refusal.TheVariants.{NothingOpen, NotOf, NotTold, AlreadyDone}
use Rattle.system.specs.declared.requests.Open.{Open}
use Rattle.system.specs.declared.thread.Thread.{Thread as Kept}
use Rattle.system.specs.declared.thread.Marks.{Marks}
use Rattle.system.specs.declared.keeping.Core.{Core}
use Rattle.system.specs.Verdict.{Verdict, accepted}
use Rattle.system.specs.Operations.{Requests, Opened, with_mark}
use Rattle.system.specs.Log.{Entry}
use Rattle.system.specs.Threads.{Thread}
use Rattle.system.specs.World.{World}
use Rattle.system.specs.Places.{Effect, marks, was_told, is_undone, is_uncleared, in_found, finish_in, finish, clear_in, clear}
use Rattle.system.specs.Facts.{IsSound}
use Rattle.system.specs.Marking.{SameThread}
use Rattle.system.specs.Kept.Threads.{IsHere, undone_by, uncleared_by}
use Rattle.system.specs.Kept.Acts.{finishes, clears, CameAbout, Becomes, marked_by, timed_by, number_of, serves}
use Rattle.system.specs.Marking.{SameMarks, SameOpens}
use Rattle.system.specs.Stands as stands
use Rattle.system.specs.Stands.{Matches, SamePlace, SamePlaces, SameAt, kept_at, held_at}
use Rattle.system.proofs.Cells.{cells_stay}
use Rattle.system.proofs.Outcomes.{asked}
use Rattle.system.proofs.Seats.{there_of}
use Rattle.system.proofs.Logs.{IsQuiet, moments_next, records_next, opened_over, quiet_names, quiet_moment, quiet_operations, place_over}
use Rattle.system.proofs.AfterAct.{SameRest, places_set}
use Rattle.system.proofs.ByAct.{act_quiet, act_elsewhere, timed}
use Rattle.system.proofs.AddedMarks.{done_other, cleared_other, unless_yes}
use Rattle.system.proofs.ThreeNumbers.{done_own, cleared_own}
use Rattle.system.proofs.Lists.{any_at, at_low, same_at, find_place}
use Rattle.system.proofs.AskedOfThread.{SameFound, find_by, undone_is, uncleared_is}
use Rattle.system.proofs.KeptOfThread.{is_here}

-- the system after marks are added for the thread at a place
pub record Marks_added (s new : Core) (w : World) (p : ℕ) (kept after : Kept) (t : Thread) (requests : Requests) (e : Event) (a : Answer) : Type 0 where
  pub rest : SameRest s new
  pub places : new.places.items ≡ slice_set s.places.items p (Some after)
  pub there : slice_get w.places p ≡ Some (Some t)
  pub thread : SameThread after t
  pub waiting : requests.waiting ≡ w.requests.waiting
  pub opened : requests.opened ≡ w.requests.opened
  pub own : SameMarks after.marks requests t.name
  pub others : (m : Marks) (name : ℕ) → (t.name ≡ name → ⊥) → SameMarks m w.requests name → SameMarks m requests name
  pub moments : stands.SameMoments after.moments (record { event = e; answer = a } ∷ w.log) p
  pub quiet : IsQuiet (record { event = e; answer = a })
  pub elsewhere : (q : ℕ) → q ≢ p → Rattle.system.proofs.Logs.IsElsewhere q (record { event = e; answer = a })

set_same : {A : Type 0} (xs : List A) (i : ℕ) (x : A) → slice_get xs i ≡ Some x → xs ≡ slice_set xs i x
set_same [] i x h = refl
set_same (y ∷ ys) zero x h = (let is : y ≡ x = cc in ap (λ z. z ∷ ys) is)
set_same (y ∷ ys) (suc i) x h = ap (λ zs. y ∷ zs) (set_same ys i x h)

pub added_matches : (s new : Core) (w : World) (p : ℕ) (kept after : Kept) (t : Thread) (requests : Requests) (e : Event) (a : Answer) → Matches s w → IsSound w → Marks_added s new w p kept after t requests e a → Matches new (asked w requests e a)
added_matches s new w p kept after t requests e a m sound k =
    let entry : Entry = record { event = e; answer = a } in
    let v : World = asked w requests e a in
    let low : p < length w.places = slice_get_within w.places p (Some t) k.there in
    record {
      slots = ap (λ tb. tb.slots) k.rest.table ∙ m.slots;
      methods = ap (λ tb. tb.methods) k.rest.table ∙ m.methods;
      codes = ap (λ tb. tb.codes) k.rest.table ∙ m.codes;
      places = places_set s.places.items new.places.items w v p (Some after) (Some t) m.places k.places (set_same w.places p (Some t) k.there) low
          (λ q other x differ there same. record { thread = same.thread; marks = k.others other.marks x.name (λ name. differ (sound.threads.one_name q p x t (there_of w q x there) k.there (sym name))) same.marks; moments = moments_next q entry w.log other.moments (k.elsewhere q differ) same.moments })
          (record { thread = k.thread; marks = k.own; moments = k.moments });
      records = rw k.rest.records (records_next s.records.items w v entry k.quiet refl refl refl refl m.records);
      names = k.rest.names ∙ (m.names ∙ sym (quiet_names entry w.log k.quiet));
      moment_is = k.rest.moment ∙ (m.moment_is ∙ sym (quiet_moment entry w.log k.quiet));
      numbers = ap (λ r. r.numbers) k.rest.requests ∙ (m.numbers ∙ sym (quiet_operations entry w.log k.quiet));
      waiting = rw k.rest.requests (m.waiting ∙ sym k.waiting);
      opened = rw k.rest.requests (subst (λ os. SameOpens s.requests.opens os v) (sym k.opened) (opened_over s.requests.opens w.requests.opened w v (omega (arith, quiet_names entry w.log k.quiet)) (λ name lives. lives) m.opened));
      index = rw k.rest.index (cells_stay s.index w v refl refl refl m.index);
    }

-- The operation that an accepted Finish or Clear found.
record Found (test : Opened → Bool) (opened : List Opened) (work : Opened → Verdict Effect) (e : Effect) (a : Answer) : Type 0 where
  o : Opened
  is : find test opened ≡ Some o
  done : work o ≡ accepted e a

found_in : (test : Opened → Bool) (opened : List Opened) (work : Opened → Verdict Effect) (r : Refusal) (e : Effect) (a : Answer) → in_found r (find test opened) work ≡ accepted e a → Found test opened work e a
found_in test opened work r e a h = by (find test opened) refl h
  where
    by : (x : Option Opened) → find test opened ≡ x → in_found r x work ≡ accepted e a → Found test opened work e a
    by None is k = cc
    by (Some o) is k = record { o = o; is = is; done = k }

-- An accepted Finish is of a handshake, since a census is open alone.
handshake_of : (w : World) (name : ℕ) (o : Opened) → IsSound w → list_any (λ (x : Opened). lists x.request name) w.requests.opened ≡ true → find (is_undone w.requests name) w.requests.opened ≡ Some o → is_census o.request ≡ false
handshake_of w name o sound listed next = by (is_census o.request) refl
  where
    census_lists : (r : Request) → is_census r ≡ true → lists r name ≡ true → ⊥
    census_lists Census h k = false≢true k
    census_lists (Handshake targets ask) h k = false≢true h

    by : (b : Bool) → is_census o.request ≡ b → is_census o.request ≡ false
    by false e = e
    by true e =
        let a = any_at (λ (x : Opened). lists x.request name) w.requests.opened listed in
        let p = find_place (is_undone w.requests name) w.requests.opened o next in
        let few = sound.numbers.census_alone p.0 o p.1 e in
        let x = at_low w.requests.opened a.0 a.1 a.2 in let y = at_low w.requests.opened p.0 o p.1 in
        let place : a.0 ≡ p.0 = omega (arith, few, x, y) in
        let is : a.1 ≡ o = same_at w.requests.opened p.0 a.1 o (subst (λ n. slice_get w.requests.opened n ≡ Some a.1) place a.2) p.1 in
        absurd (census_lists o.request e (subst (λ (z : Opened). lists z.request name ≡ true) is a.3))

finish_met : (w : World) (t : Thread) (e : Effect) (a : Answer) → IsSound w → finish w.requests t ≡ accepted e a → (f : Found (is_undone w.requests t.name) w.requests.opened (finish_in w.requests t) e a) × (is_census f.o.request ≡ false)
finish_met w t e a sound h =
    let one = unless_yes (not (is_empty w.requests.opened)) NothingOpen _ e a h in
    let two = unless_yes (list_any (λ (o : Opened). lists o.request t.name) w.requests.opened) NotOf _ e a one.1 in
    let three = unless_yes (list_any (was_told w.requests t.name) w.requests.opened) NotTold _ e a two.1 in
    let f = found_in (is_undone w.requests t.name) w.requests.opened (finish_in w.requests t) AlreadyDone e a three.1 in
    (f, handshake_of w t.name f.o sound two.0 f.is)

clear_met : (w : World) (t : Thread) (e : Effect) (a : Answer) → clear w.requests t ≡ accepted e a → Found (is_uncleared w.requests t.name) w.requests.opened (clear_in w.requests t) e a
clear_met w t e a h =
    let one = unless_yes (not (is_empty w.requests.opened)) NothingOpen _ e a h in
    let two = unless_yes (list_any (λ (o : Opened). is_target o.request t.name) w.requests.opened) NotOf _ e a one.1 in
    let three = unless_yes (list_any (was_told w.requests t.name) w.requests.opened) NotTold _ e a two.1 in
    found_in (is_uncleared w.requests t.name) w.requests.opened (clear_in w.requests t) AlreadyDone e a three.1

-- The number that the system found is the operation's.
number_found : (kept : Kept) (requests : Requests) (x : Option Open) (y : Option Opened) (o : Opened) → SameFound kept requests x y → y ≡ Some o → number_of x ≡ o.number
number_found kept requests None None o same is = cc
number_found kept requests (Some b) None o same is = absurd same
number_found kept requests None (Some p) o same is = absurd same
number_found kept requests (Some b) (Some p) o same is = same.number ∙ ap (λ (z : Opened). z.number) (let e : p ≡ o = cc in e)

-- an accepted Finish
pub finished : (s new : Core) (w : World) (p : ℕ) (kept after : Kept) (t : Thread) (r : Requests) (a : Answer) → Matches s w → IsSound w → SameRest s new → new.places.items ≡ slice_set s.places.items p (Some after) → slice_get w.places p ≡ Some (Some t) → SameAt w p kept t
    → finish w.requests t ≡ accepted (marks r) a → CameAbout (finishes (serves Finish s.requests.opens kept) w.requests) (marks r) after t → Becomes (marked_by Finish (serves Finish s.requests.opens kept) kept.marks) (timed_by Finish s.moment kept.moments) kept after
    → Matches new (asked w r (event.At p Finish) a)
finished s new w p kept after t r a m sound rest places there same done lands_ becomes_ =
    let met = finish_met w t (marks r) a sound done in
    let n : ℕ = serves Finish s.requests.opens kept in
    added_matches s new w p kept after t r (event.At p Finish) a m sound (record {
      rest = rest;
      places = places;
      there = there;
      thread = lands_.1;
      waiting = ap (λ (x : Requests). x.waiting) lands_.0;
      opened = ap (λ (x : Requests). x.opened) lands_.0;
      own = rw (becomes_.marks_are, lands_.0) (subst (λ k. SameMarks (record kept.marks { done = k }) (record w.requests { done = with_mark w.requests.done k t.name }) t.name) (sym (number met.0.o met.0.is)) (done_own w t.name met.0.o kept.marks sound.numbers met.0.is met.1 same.marks));
      others = λ m' name differ h. rw lands_.0 (done_other m' w.requests n t.name name differ h);
      moments = rw becomes_.moments_are (timed p s.moment Finish a kept.moments w.log m.moment_is same.moments);
      quiet = act_quiet p Finish a;
      elsewhere = λ q differ. act_elsewhere p q Finish a differ;
    })
  where
    number : (o : Opened) → find (is_undone w.requests t.name) w.requests.opened ≡ Some o → serves Finish s.requests.opens kept ≡ o.number
    number o is =
        let here : IsHere s.requests.opens kept w.requests t = is_here s w p kept t m sound there same in
        number_found kept w.requests (find (undone_by kept) s.requests.opens) (find (is_undone w.requests kept.name) w.requests.opened) o
        (find_by (undone_by kept) (is_undone w.requests kept.name) kept w.requests (undone_is kept w.requests) s.requests.opens w.requests.opened here.opened)
        (subst (λ name. find (is_undone w.requests name) w.requests.opened ≡ Some o) (sym same.thread.name) is)

-- an accepted Clear
pub cleared : (s new : Core) (w : World) (p : ℕ) (kept after : Kept) (t : Thread) (r : Requests) (a : Answer) → Matches s w → IsSound w → SameRest s new → new.places.items ≡ slice_set s.places.items p (Some after) → slice_get w.places p ≡ Some (Some t) → SameAt w p kept t
    → clear w.requests t ≡ accepted (marks r) a → CameAbout (clears (serves Clear s.requests.opens kept) w.requests) (marks r) after t → Becomes (marked_by Clear (serves Clear s.requests.opens kept) kept.marks) (timed_by Clear s.moment kept.moments) kept after
    → Matches new (asked w r (event.At p Clear) a)
cleared s new w p kept after t r a m sound rest places there same done lands_ becomes_ =
    let met = clear_met w t (marks r) a done in
    let n : ℕ = serves Clear s.requests.opens kept in
    added_matches s new w p kept after t r (event.At p Clear) a m sound (record {
      rest = rest;
      places = places;
      there = there;
      thread = lands_.1;
      waiting = ap (λ (x : Requests). x.waiting) lands_.0;
      opened = ap (λ (x : Requests). x.opened) lands_.0;
      own = rw (becomes_.marks_are, lands_.0) (subst (λ k. SameMarks (record kept.marks { cleared = k }) (record w.requests { cleared = with_mark w.requests.cleared k t.name }) t.name) (sym (number met.o met.is)) (cleared_own w p t met.o kept.marks sound.numbers sound.marks there met.is same.marks));
      others = λ m' name differ h. rw lands_.0 (cleared_other m' w.requests n t.name name differ h);
      moments = rw becomes_.moments_are (timed p s.moment Clear a kept.moments w.log m.moment_is same.moments);
      quiet = act_quiet p Clear a;
      elsewhere = λ q differ. act_elsewhere p q Clear a differ;
    })
  where
    number : (o : Opened) → find (is_uncleared w.requests t.name) w.requests.opened ≡ Some o → serves Clear s.requests.opens kept ≡ o.number
    number o is =
        let here : IsHere s.requests.opens kept w.requests t = is_here s w p kept t m sound there same in
        number_found kept w.requests (find (uncleared_by kept) s.requests.opens) (find (is_uncleared w.requests kept.name) w.requests.opened) o
        (find_by (uncleared_by kept) (is_uncleared w.requests kept.name) kept w.requests (uncleared_is kept w.requests) s.requests.opens w.requests.opened here.opened)
        (subst (λ name. find (is_uncleared w.requests name) w.requests.opened ≡ Some o) (sym same.thread.name) is)
