-- Each event takes the desk of the world before it to that of the world after it by its entries.
use Rattle.std.proofs.Common.{◌≡◌, ◌≢◌, ⊎_elim, ℕ, suc, ◌+◌, ◌-◌, ◌<◌, ◌≤◌, Bool, true, false, cond, List, [], ◌∷◌, ◌++◌, length, map, Option, Some, None, sym, refl, ap, ◌∙◌, subst, arith}
use Rattle.std.specs.Prelude.{not, ◌||◌, ◌&&◌, ◌==◌, nat_lt, nat_le, is_none, find, filter, slice_get, slice_set}
use Rattle.std.specs.List.{list_all}
use Rattle.std.proofs.lemmas.List.{map-append}
use Rattle.std.proofs.lemmas.Bool.{false≢true, eqb-true, eq-eqb, ne_eqb, lt-ltb, le-leb, ltb-true, or_cases, or_left, or_right, and_parts, and_from, false_from_ne_true, not-true, not_from_false, cases_lt}
use mathlib.Core.Logic.{dite}
use native.Mathlib.Decide.{ℕ_discrete}
use Rattle.method_table.specs.declared.Code.{Code}
use Rattle.method_table.specs.declared.CodeState.TheVariants.{InUse, NotEntrant, Zombie, Freed}
use Rattle.method_table.specs.Numbers.{last_number}
use Rattle.method_table.specs.Codes.{id_of, in_use_for, free_slot, next_serial, with_code, with_state}
use Rattle.method_table.specs.TableView.{install_fault}
use Rattle.operations.specs.declared.Request.{Request}
use Rattle.operations.specs.declared.Request.TheVariants.{Handshake, Census}
use Rattle.operations.specs.Names.{among, is_empty}
use Rattle.operations.specs.Requests.{is_census, is_target, lists, kind_of, reply_to}
use Rattle.system.specs.declared.events.Act.{Act}
use Rattle.system.specs.declared.events.Act.TheVariants as act
use Rattle.system.specs.declared.events.Event.{Event}
use Rattle.system.specs.declared.events.Event.TheVariants as event
use Rattle.system.specs.declared.answers.Answer.{Answer}
use Rattle.system.specs.declared.answers.Refusal.{Refusal}
use Rattle.system.specs.declared.answers.Answer.TheVariants as answer
use Rattle.system.specs.Threads.{Thread}
use Rattle.system.specs.Operations.{Waiting, Opened, Mark, is_marked, with_mark, marks_of}
use Rattle.system.specs.Log.{Entry as Logged, names_given, operations_given}
use Rattle.system.specs.World.{World, found, threads, live_names, is_live as lives, is_live_target, census}
use Rattle.system.specs.Places.{popped, is_undone}
use Rattle.system.specs.Step.{new_thread, operated_if}
use Rattle.system.proofs.Outcomes.{seated, coded, asked, begun, changed_by, ended, entered, moved, held, released, with_done, with_request, newly_opened, with_opened, with_operated, without_opened, is_move, Stands, Exits, Finishes, Starts, Installs, IsCode, Opens, Operates, Closes}
use Rattle.system.proofs.EventCases.{Cases}
use Rattle.system.proofs.Lists.{map_length, any_at, at_low, same_at, find_before}
use Rattle.system.proofs.Seats.{get_set_same, get_set_other}
use Rattle.system.proofs.SoundMarks.{threads_at, live_has, first_open}
use Rattle.system.proofs.Requesting.{among_names}
use Rattle.system.proofs.Threads.{started_more}
use Rattle.system.proofs.Numbers.{asked_more}
use Rattle.system.proofs.Sound.{IsKept}
use Rattle.desk.specs.declared.entries.Live.{Live}
use Rattle.desk.specs.declared.entries.Entry.{Entry}
use Rattle.desk.specs.declared.entries.Entry.TheVariants.{Start, Exit, Ask, Open, Finish, Operate, Close, Install, Invalidate, Retire, Free}
use Rattle.desk.specs.Machine.{State, Current, targets_of, steps_of, is_live, is_taken, without, live_of, none_live, has_census, may_open_more, is_first, rest_of, open_next, opened_of, open_of, passes, is_due, is_least, may_operate, may_close, at_number, as_operated, without_number, is_free_slot, lawful, step, legal_from, after_from}
use Rattle.tie.specs.DeskOf.{live_to, asked_of, name_at_open, times_done, left_of, due_of, current_of, desk_of, for_found, finish_entries, oldest_of, install_entries, entries_of}
use Rattle.tie.proofs.DeskPlaces.{NobodyHas, seat_there, seat_has, live_renewed, live_started, live_left, live_seat, seat_live, vacant_free}
use Rattle.tie.proofs.DeskOpened.{Rises, map_same, filter_same, among_filter, census_is, empty_is, open_is, at_is, without_is, times_none, other_current, finished_current}
use Rattle.tie.proofs.DeskOrder.{IsOrdered, untold_waiting}

-- The entries are lawful one after the other, and lead from the desk of one world to that of the other.
pub record IsEntered (w : World) (entries : List Entry) (v : World) : Type 0 where
  pub legal : legal_from (desk_of w) entries ≡ true
  pub state : after_from (desk_of w) entries ≡ desk_of v

one : (w v : World) (e : Entry) → lawful (desk_of w) e ≡ true → step (desk_of w) e ≡ desk_of v → IsEntered w (e ∷ []) v
one w v e legal state = record { legal = and_from (lawful (desk_of w) e) true legal refl; state = state }

silent : (w v : World) → desk_of w ≡ desk_of v → IsEntered w [] v
silent w v h = record { legal = refl; state = h }

said : (w v : World) (es fs : List Entry) → es ≡ fs → IsEntered w fs v → IsEntered w es v
said w v es fs same h = subst (λ x. IsEntered w x v) (sym same) h

-- 1. Threads

abbrev with_live : World → List Live → State
with_live w live = record {
  next_name = names_given w.log + 1;
  live = live;
  next_number = operations_given w.log + 1;
  waiting = map asked_of w.requests.waiting;
  opened = map (current_of w.requests.done w.log) w.requests.opened;
  table = record { codes = w.codes; slots = w.slots; methods = w.methods };
}

-- The thread at a place becomes another of its name.
renewed : (w : World) (p : ℕ) (t u : Thread) → Stands w p t → u.name ≡ t.name → desk_of w ≡ with_live w (live_to (names_given w.log) (slice_set w.places p (Some u)))
renewed w p t u s same = ap (with_live w) (sym (live_renewed (names_given w.log) w.places p t u s.there same))

move_none : (w : World) (p : ℕ) (a : Act) (given : Answer) → is_move a ≡ true → entries_of w (event.At p a) given ≡ []
move_none w p act.Wake given is = refl
move_none w p act.Cross given is = refl
move_none w p act.Edge given is = refl
move_none w p act.ToVm given is = refl
move_none w p act.FromVm given is = refl
move_none w p act.ToNative given is = refl
move_none w p act.Block given is = refl
move_none w p act.Take given is = refl
move_none w p a given is = absurd (false≢true is)

started : (w : World) (p : ℕ) → IsKept w → Starts w p
    → IsEntered w (Start (names_given w.log + 1) p ∷ []) (seated w p (Some (new_thread (names_given w.log + 1))) event.Start (answer.Thread (names_given w.log + 1) p))
started w p k i = one w _ _
    (let a : (names_given w.log + 1 == names_given w.log + 1) ≡ true = eq-eqb (names_given w.log + 1) (names_given w.log + 1) refl in
    let b : is_taken p (live_to (names_given w.log) w.places) ≡ false = vacant_free (names_given w.log) p w.places i.vacant in
    let c : has_census (map (current_of w.requests.done w.log) w.requests.opened) ≡ false = census_is (current_of w.requests.done w.log) w.requests.opened (λ o. refl) ∙ i.no_safepoint in
    λ j. a j && (not (b j) && not (c j)))
    (let e = started_more w p in
    let live = live_started (names_given w.log) (names_given w.log + 1) w.places p (new_thread (names_given w.log + 1)) (omega arith) refl i.vacant (λ q t x. (k.threads.each q t x).name_to)
    ∙ ap (λ m. live_to m (slice_set w.places p (Some (new_thread (names_given w.log + 1))))) e in
    λ j. record {
      next_name = e j + 1;
      live = live j;
      next_number = operations_given w.log + 1;
      waiting = map asked_of w.requests.waiting;
      opened = map (current_of w.requests.done w.log) w.requests.opened;
      table = record { codes = w.codes; slots = w.slots; methods = w.methods };
    })

-- Who lives at the desk lives in the world.
pub lives_here : (w : World) (name : ℕ) → IsKept w → is_live name (live_to (names_given w.log) w.places) ≡ true → lives w name ≡ true
lives_here w name k h =
    let s = live_seat name (names_given w.log) w.places h in let t = seat_there name w.places s.0 s.1 in
    subst (λ n. lives w n ≡ true) t.2 (live_has w s.0 t.0 t.1)

pub lives_there : (w : World) (name : ℕ) → IsKept w → lives w name ≡ true → is_live name (live_to (names_given w.log) w.places) ≡ true
lives_there w name k h =
    let a = any_at (λ (t : Thread). t.name == name) (threads w.places) h in let p = threads_at w.places a.0 a.1 a.2 in
    let same : a.1.name ≡ name = eqb-true a.1.name name a.3 in let t = k.threads.each p.0 a.1 p.1 in
    let q = seat_has name w.places p.0 a.1 p.1 same in let from = t.name_from in let to = t.name_to in
    seat_live name (names_given w.log) q.0 w.places (omega arith) (omega arith) q.1

lives_same : (w : World) (name : ℕ) → IsKept w → is_live name (live_to (names_given w.log) w.places) ≡ lives w name
lives_same w name k = by (lives w name) refl
  where
    by : (b : Bool) → lives w name ≡ b → is_live name (live_to (names_given w.log) w.places) ≡ lives w name
    by true e = lives_there w name k e ∙ sym e
    by false e = false_from_ne_true _ (λ h. false≢true (sym e ∙ lives_here w name k h)) ∙ sym e

pub stands_live : (w : World) (p : ℕ) (t : Thread) → IsKept w → Stands w p t → is_live t.name (live_to (names_given w.log) w.places) ≡ true
stands_live w p t k s = lives_there w t.name k (live_has w p t s.there)

nobody_then : (w : World) (p : ℕ) (t : Thread) → IsKept w → Stands w p t → NobodyHas t.name (slice_set w.places p None)
nobody_then w p t k s q u x same = dite (ℕ_discrete q p)
    (λ e. let is : Some None ≡ Some (Some u) = sym (get_set_same w.places p None s.low) ∙ subst (λ n. slice_get (slice_set w.places p None) n ≡ Some (Some u)) e x in cc)
    (λ ne. ne (k.threads.one_name q p u t (sym (get_set_other w.places p q None ne) ∙ x) s.there same))

exited : (w : World) (p : ℕ) (t : Thread) → IsKept w → Exits w p t → IsEntered w (Exit t.name ∷ []) (seated w p None (event.At p act.Exit) (answer.Exited t.name))
exited w p t k i = one w _ _ (stands_live w p t k i.acts.stands) (ap (with_live w) (live_left (names_given w.log) w.places p t i.acts.stands.there (nobody_then w p t k i.acts.stands)))

-- 2. Requests

rises : (w : World) → IsKept w → Rises w.requests.opened
rises w k = k.numbers.opened_rise

current_number : (w : World) (o : Opened) → (current_of w.requests.done w.log o).number ≡ o.number
current_number w o = refl

entered_request : (w : World) (request : Request) → IsEntered w (Ask (operations_given w.log + 1) request ∷ []) (asked w (with_request w request) (event.Ask request) (answer.Asked (operations_given w.log + 1)))
entered_request w request = one w _ _ (eq-eqb (operations_given w.log + 1) (operations_given w.log + 1) refl)
    (let e = asked_more w request in let waits = map-append asked_of w.requests.waiting (record { number = operations_given w.log + 1; request = request } ∷ []) in
    λ j. record {
      next_name = names_given w.log + 1;
      live = live_to (names_given w.log) w.places;
      next_number = e j + 1;
      waiting = sym waits j;
      opened = map (current_of w.requests.done w.log) w.requests.opened;
      table = record { codes = w.codes; slots = w.slots; methods = w.methods };
    })

-- Opening.
alone_is : (b : Bool) (os : List Opened) → (b ≡ true → os ≡ []) → not (b && not (is_empty os)) ≡ true
alone_is false os h = refl
alone_is true os h = ap (λ (xs : List Opened). not (not (is_empty xs))) (h refl)

new_left : (done : List Mark) (o : Opened) → o.operated ≡ false → times_done o.number done ≡ 0 → left_of done o ≡ steps_of o.request
new_left done o fresh none = (λ i. cond (is_census o.request) (cond (fresh i) 0 1) (steps_of o.request - none i)) ∙ by o.request
  where
    by : (r : Request) → cond (is_census r) 1 (steps_of r - 0) ≡ steps_of r
    by Census = refl
    by (Handshake targets ask) = omega arith

target_among : (r : Request) (name : ℕ) → among name (targets_of r) ≡ true → is_target r name ≡ true
target_among Census name h = refl
target_among (Handshake targets ask) name h = h

new_due : (w : World) (oldest : Waiting) (others : List Waiting) → IsKept w → w.requests.waiting ≡ oldest ∷ others
    → live_of (live_to (names_given w.log) w.places) (targets_of oldest.request) ≡ due_of w.requests.done (newly_opened w oldest)
new_due w oldest others k is = filter_same (λ t. is_live t (live_to (names_given w.log) w.places)) (λ t. among t (newly_opened w oldest).live && not (is_marked w.requests.done oldest.number t)) (targets_of oldest.request)
    (λ t listed. (let fresh : is_marked w.requests.done oldest.number t ≡ false = false_from_ne_true _ (λ e. false≢true (sym (untold_waiting w oldest others t k is) ∙ k.marks.done_told oldest.number t e)) in
    let here : among t (newly_opened w oldest).live ≡ lives w t = among_filter (is_target oldest.request) t (live_names w) ∙ (λ i. target_among oldest.request t listed i && among_names t (threads w.places) i) in
    lives_same w t k ∙ (sym here ∙ sym ((λ i. among t (newly_opened w oldest).live && not (fresh i)) ∙ flat (among t (newly_opened w oldest).live)))))
  where
    flat : (b : Bool) → b && true ≡ b
    flat true = refl
    flat false = refl

old_current : (w : World) (oldest : Waiting) (o : Opened) (entry : Logged) → entry ≡ record { event = event.Open; answer = answer.Opened oldest.number (kind_of oldest.request) } → oldest.number ≢ o.number
    → current_of w.requests.done w.log o ≡ current_of w.requests.done (entry ∷ w.log) o
old_current w oldest o entry is ne = subst (λ (e : Logged). current_of w.requests.done w.log o ≡ current_of w.requests.done (e ∷ w.log) o) (sym is)
    (λ j. record { number = o.number; request = o.request; before = cond (sym (ne_eqb oldest.number o.number ne) j) (names_given w.log + 1) (name_at_open o.number w.log); left = left_of w.requests.done o; due = due_of w.requests.done o; operated = o.operated })

new_current : (w : World) (oldest : Waiting) (others : List Waiting) → IsKept w → w.requests.waiting ≡ oldest ∷ others
    → opened_of (names_given w.log + 1) (live_to (names_given w.log) w.places) (asked_of oldest) ≡ current_of w.requests.done (record { event = event.Open; answer = answer.Opened oldest.number (kind_of oldest.request) } ∷ w.log) (newly_opened w oldest)
new_current w oldest others k is =
    let none : times_done oldest.number w.requests.done ≡ 0 = times_none oldest.number w.requests.done (λ name. false_from_ne_true _ (λ e. false≢true (sym (untold_waiting w oldest others name k is) ∙ k.marks.done_told oldest.number name e))) in
    λ j. record {
      number = oldest.number;
      request = oldest.request;
      before = cond (sym (eq-eqb oldest.number oldest.number refl) j) (names_given w.log + 1) (name_at_open oldest.number w.log);
      left = sym (new_left w.requests.done (newly_opened w oldest) refl none) j;
      due = new_due w oldest others k is j;
      operated = false;
    }

opened_next : (w : World) (oldest : Waiting) (others : List Waiting) → IsKept w → Opens w oldest others
    → IsEntered w (Open oldest.number ∷ []) (asked w (with_opened w oldest others) event.Open (answer.Opened oldest.number (kind_of oldest.request)))
opened_next w oldest others k i = one w _ _
    ((λ j. may_open_more (map asked_of (i.waiting_is j)) (map (current_of w.requests.done w.log) w.requests.opened) && is_first oldest.number (map asked_of (i.waiting_is j)))
    ∙ (let a : nat_lt (length (map (current_of w.requests.done w.log) w.requests.opened)) 4 ≡ true = ap (λ n. nat_lt n 4) (map_length (current_of w.requests.done w.log) w.requests.opened) ∙ lt-ltb (length w.requests.opened) 4 i.few in
    let b : has_census (map (current_of w.requests.done w.log) w.requests.opened) ≡ false = census_is (current_of w.requests.done w.log) w.requests.opened (λ o. refl) ∙ i.no_safepoint in
    let c : not (is_census oldest.request && not (is_empty (map (current_of w.requests.done w.log) w.requests.opened))) ≡ true = ap (λ e. not (is_census oldest.request && not e)) (empty_is (current_of w.requests.done w.log) w.requests.opened) ∙ alone_is (is_census oldest.request) w.requests.opened i.alone in
    let d : (oldest.number == oldest.number) ≡ true = eq-eqb oldest.number oldest.number refl in
    λ j. (a j && (not (b j) && c j)) && d j))
    ((λ j. record {
      next_name = names_given w.log + 1;
      live = live_to (names_given w.log) w.places;
      next_number = operations_given w.log + 1;
      waiting = rest_of (map asked_of (i.waiting_is j));
      opened = open_next (names_given w.log + 1) (live_to (names_given w.log) w.places) (map asked_of (i.waiting_is j)) (map (current_of w.requests.done w.log) w.requests.opened);
      table = record { codes = w.codes; slots = w.slots; methods = w.methods };
    })
    ∙ (λ j. record {
      next_name = names_given w.log + 1;
      live = live_to (names_given w.log) w.places;
      next_number = operations_given w.log + 1;
      waiting = map asked_of others;
      opened = opens j;
      table = record { codes = w.codes; slots = w.slots; methods = w.methods };
    }))
  where
    entry : Logged
    entry = record { event = event.Open; answer = answer.Opened oldest.number (kind_of oldest.request) }

    differs : (n : ℕ) (o : Opened) → slice_get w.requests.opened n ≡ Some o → oldest.number ≢ o.number
    differs n o at same =
        let old = k.numbers.opened_is n o at in let low = old.1 in
        let first = k.numbers.waiting_is 0 oldest (subst (λ ws. slice_get ws 0 ≡ Some oldest) (sym i.waiting_is) refl) in absurd (omega arith)

    opens : map (current_of w.requests.done w.log) w.requests.opened ++ opened_of (names_given w.log + 1) (live_to (names_given w.log) w.places) (asked_of oldest) ∷ []
        ≡ map (current_of w.requests.done (record { event = event.Open; answer = answer.Opened oldest.number (kind_of oldest.request) } ∷ w.log)) (w.requests.opened ++ newly_opened w oldest ∷ [])
    opens = (λ j. map_same (current_of w.requests.done w.log) (current_of w.requests.done (record { event = event.Open; answer = answer.Opened oldest.number (kind_of oldest.request) } ∷ w.log)) w.requests.opened
        (λ n o at. old_current w oldest o (record { event = event.Open; answer = answer.Opened oldest.number (kind_of oldest.request) }) refl (differs n o at)) j
        ++ new_current w oldest others k i.waiting_is j ∷ [])
        ∙ sym (map-append (current_of w.requests.done (record { event = event.Open; answer = answer.Opened oldest.number (kind_of oldest.request) } ∷ w.log)) w.requests.opened (newly_opened w oldest ∷ []))

-- Finishing.
census_lists_not : (r : Request) (name : ℕ) → lists r name ≡ true → is_census r ≡ false
census_lists_not Census name h = absurd (false≢true h)
census_lists_not (Handshake targets ask) name h = refl

pub target_listed : (r : Request) (name : ℕ) → is_census r ≡ false → is_target r name ≡ true → among name (targets_of r) ≡ true
target_listed Census name plain h = absurd (false≢true (sym plain))
target_listed (Handshake targets ask) name plain h = h

finish_plain : (w : World) (p : ℕ) (t : Thread) (o : Opened) → IsKept w → Finishes w p t o → is_census o.request ≡ false
finish_plain w p t o k i = by (is_census o.request) refl
  where
    by : (b : Bool) → is_census o.request ≡ b → is_census o.request ≡ false
    by false e = e
    by true e =
        let few = k.numbers.census_alone i.open_is.position o i.open_is.here e in
        let a = any_at (λ (x : Opened). lists x.request t.name) w.requests.opened i.listed in
        let low = at_low w.requests.opened i.open_is.position o i.open_is.here in let low2 = at_low w.requests.opened a.0 a.1 a.2 in
        let same : a.1 ≡ o = same_at w.requests.opened i.open_is.position a.1 o (subst (λ n. slice_get w.requests.opened n ≡ Some a.1) (let z : a.0 ≡ i.open_is.position = omega arith in z) a.2) i.open_is.here in
        census_lists_not o.request t.name (subst (λ (x : Opened). lists x.request t.name ≡ true) same a.3)

all_map : {A B : Type 0} (test : B → Bool) (f : A → B) (xs : List A) → ((i : ℕ) (x : A) → slice_get xs i ≡ Some x → test (f x) ≡ true) → list_all test (map f xs) ≡ true
all_map test f [] h = refl
all_map test f (x ∷ xs) h = and_from (test (f x)) (list_all test (map f xs)) (h 0 x refl) (all_map test f xs (λ i y e. h (suc i) y e))

pub due_parts : (done : List Mark) (name : ℕ) (o : Opened) → among name (due_of done o) ≡ true → (among name o.live ≡ true) × (is_marked done o.number name ≡ false)
due_parts done name o h =
    let a = and_parts (among name o.live && not (is_marked done o.number name)) (among name (targets_of o.request)) (sym (among_filter (λ t. among t o.live && not (is_marked done o.number t)) name (targets_of o.request)) ∙ h) in
    let b = and_parts (among name o.live) (not (is_marked done o.number name)) a.0 in (b.0, not-true (is_marked done o.number name) b.1)

pub finish_least : (w : World) (name : ℕ) (o : Opened) → IsOrdered w → is_marked w.requests.told o.number name ≡ true → find (is_undone w.requests name) w.requests.opened ≡ Some o → is_least o.number name (map (current_of w.requests.done w.log) w.requests.opened) ≡ true
finish_least w name o h told_ least = all_map (λ (c : Current). not (nat_lt c.number o.number && is_due name c)) (current_of w.requests.done w.log) w.requests.opened
    (λ n x at. not_from_false _ (false_from_ne_true _ (λ both. (
    let parts = and_parts (nat_lt x.number o.number) (among name (due_of w.requests.done x)) both in
    let less : x.number < o.number = ltb-true x.number o.number parts.0 in
    let due = due_parts w.requests.done name x parts.1 in
    let r = find_before (is_undone w.requests name) w.requests.opened o least in
    ⊎_elim
    (λ before. (let told = h.order.each n r.place x o name before at r.at told_ due.0 in
    false≢true (sym (r.none_before n x before at) ∙ and_from (is_marked w.requests.told x.number name) (not (is_marked w.requests.done x.number name)) told (not_from_false _ due.1))))
    (λ behind. dite (ℕ_discrete r.place n)
    (λ e. (let same : o ≡ x = same_at w.requests.opened n o x (subst (λ m. slice_get w.requests.opened m ≡ Some o) e r.at) at in let z : o.number ≡ x.number = ap (λ (y : Opened). y.number) same in absurd (omega arith)))
    (λ ne. (let more : r.place < n = further r.place n behind ne in let z = h.kept.numbers.opened_rise r.place n o x more r.at at in absurd (omega arith))))
    (cases_lt n r.place)))))
  where
    further : (a b : ℕ) → a ≤ b → (a ≡ b → ⊥) → a < b
    further a b low ne = omega (arith, ne)

pub told_due : (w : World) (name i : ℕ) (o : Opened) → IsKept w → slice_get w.requests.opened i ≡ Some o → is_census o.request ≡ false → is_marked w.requests.told o.number name ≡ true → is_marked w.requests.done o.number name ≡ false → among name (due_of w.requests.done o) ≡ true
told_due w name i o k at plain told fresh =
    let live = k.marks.told_live i o name at told in
    among_filter (λ n. among n o.live && not (is_marked w.requests.done o.number n)) name (targets_of o.request)
    ∙ and_from _ _ (and_from (among name o.live) (not (is_marked w.requests.done o.number name)) live (not_from_false _ fresh))
    (target_listed o.request name plain (k.marks.live_target i o name at live))

finish_said : (w : World) (p : ℕ) (t : Thread) (o : Opened) (reply : ℕ) → Finishes w p t o → entries_of w (event.At p act.Finish) (answer.Reply reply) ≡ Finish o.number t.name reply ∷ []
finish_said w p t o reply i = ap (λ x. for_found (found x) (finish_entries w.requests reply)) i.acts.stands.there ∙ ap (λ x. for_found x (λ (o : Opened). Finish o.number t.name reply ∷ [])) i.least

finished_here : (w : World) (p : ℕ) (t : Thread) (o : Opened) (reply : ℕ) → IsOrdered w → Finishes w p t o
    → IsEntered w (Finish o.number t.name reply ∷ []) (asked w (with_done w.requests o t.name) (event.At p act.Finish) (answer.Reply reply))
finished_here w p t o reply h i = one w _ _
    (let k = h.kept in
    let a : passes (is_due t.name) (open_of o.number (map (current_of w.requests.done w.log) w.requests.opened)) ≡ true = ap (passes (is_due t.name)) (open_is (current_of w.requests.done w.log) w.requests.opened i.open_is.position o (λ x. refl) (rises w k) i.open_is.here) ∙ told_due w t.name i.open_is.position o k i.open_is.here (finish_plain w p t o k i) i.told i.not_done in
    and_from _ _ (and_from _ _ a (stands_live w p t k i.acts.stands)) (finish_least w t.name o h i.told i.least))
    (let e = at_is (current_of w.requests.done w.log) (current_of (with_mark w.requests.done o.number t.name) w.log) (Rattle.desk.specs.Machine.finished t.name) w.requests.opened i.open_is.position o (λ x. refl) (rises w h.kept) i.open_is.here
    (finished_current w.requests.done w.log t.name o (finish_plain w p t o h.kept i)) (λ x ne. other_current w.requests.done w.log o.number t.name x ne) in
    λ j. record {
      next_name = names_given w.log + 1;
      live = live_to (names_given w.log) w.places;
      next_number = operations_given w.log + 1;
      waiting = map asked_of w.requests.waiting;
      opened = e j;
      table = record { codes = w.codes; slots = w.slots; methods = w.methods };
    })

-- Operating.
targets_none : (r : Request) → is_census r ≡ true → targets_of r ≡ []
targets_none Census h = refl
targets_none (Handshake targets ask) h = absurd (false≢true h)

operate_alone : (w : World) (o : Opened) (others : List Opened) → IsKept w → Operates w o others → w.requests.opened ≡ o ∷ []
operate_alone w o others k i =
    let few = k.numbers.census_alone 0 o (first_open w.requests.opened o others i.opened_is) i.census in
    let long : length w.requests.opened ≡ suc (length others) = ap (λ (os : List Opened). length os) i.opened_is in
    i.opened_is ∙ ap (λ (os : List Opened). o ∷ os) (none others (omega arith))
  where
    none : (os : List Opened) → length os ≡ 0 → os ≡ []
    none [] e = refl
    none (x ∷ xs) e = absurd (omega arith)

operated_current : (done more : List Mark) (log : List Logged) (o : Opened) → is_census o.request ≡ true → o.operated ≡ false → as_operated (current_of done log o) ≡ current_of more log (record o { operated = true })
operated_current done more log o plain fresh =
    let a : left_of done o ≡ 1 = (λ j. cond (plain j) (cond (fresh j) 0 1) (steps_of o.request - times_done o.number done)) in
    let b : left_of more (record o { operated = true }) ≡ 0 = (λ j. cond (plain j) 0 (steps_of o.request - times_done o.number more)) in
    let left : left_of done o - 1 ≡ left_of more (record o { operated = true }) = omega arith in
    let none = targets_none o.request plain in
    let due : due_of done o ≡ due_of more (record o { operated = true }) = (λ j. filter (λ name. among name o.live && not (is_marked done o.number name)) (none j)) ∙ sym (λ j. filter (λ name. among name o.live && not (is_marked more o.number name)) (none j)) in
    λ j. record { number = o.number; request = o.request; before = name_at_open o.number log; left = left j; due = due j; operated = true }

operated_here : (w : World) (o : Opened) (others : List Opened) (given : Answer) → IsKept w → Operates w o others → IsEntered w (Operate o.number ∷ []) (asked w (with_operated w o) event.Operate given)
operated_here w o others given k i = one w _ _
    ((λ j. passes may_operate (open_of o.number (map (current_of w.requests.done w.log) (alone j))))
    ∙ (λ j. passes may_operate (cond (own j) (Some (current_of w.requests.done w.log o)) None))
    ∙ (λ j. i.census j && not (i.not_operated j)))
    ((λ j. record {
      next_name = names_given w.log + 1;
      live = live_to (names_given w.log) w.places;
      next_number = operations_given w.log + 1;
      waiting = map asked_of w.requests.waiting;
      opened = opens j;
      table = record { codes = w.codes; slots = w.slots; methods = w.methods };
    }))
  where
    alone : w.requests.opened ≡ o ∷ []
    alone = operate_alone w o others k i

    own : (o.number == o.number) ≡ true
    own = eq-eqb o.number o.number refl

    opens : at_number as_operated o.number (map (current_of w.requests.done w.log) w.requests.opened) ≡ map (current_of (marks_of o.number (live_names w) ++ w.requests.done) w.log) (map (operated_if o.number) w.requests.opened)
    opens = (λ j. at_number as_operated o.number (map (current_of w.requests.done w.log) (alone j)))
        ∙ (λ j. cond (own j) (as_operated (current_of w.requests.done w.log o) ∷ []) (current_of w.requests.done w.log o ∷ []))
        ∙ (λ j. operated_current w.requests.done (marks_of o.number (live_names w) ++ w.requests.done) w.log o i.census i.not_operated j ∷ [])
        ∙ sym (λ j. current_of (marks_of o.number (live_names w) ++ w.requests.done) w.log (cond (own j) (record o { operated = true }) o) ∷ [])
        ∙ sym (λ j. map (current_of (marks_of o.number (live_names w) ++ w.requests.done) w.log) (map (operated_if o.number) (alone j)))

-- Closing.
all_among : (test : ℕ → Bool) (ns : List ℕ) → ((n : ℕ) → among n ns ≡ true → test n ≡ true) → list_all test ns ≡ true
all_among test [] h = refl
all_among test (n ∷ ns) h = and_from (test n) (list_all test ns) (h n (or_left (n == n) (among n ns) (eq-eqb n n refl))) (all_among test ns (λ m e. h m (or_right (n == m) (among m ns) e)))

among_all : (test : ℕ → Bool) (ns : List ℕ) (n : ℕ) → list_all test ns ≡ true → among n ns ≡ true → test n ≡ true
among_all test [] n h e = absurd (false≢true e)
among_all test (m ∷ ns) n h e =
    let a = and_parts (test m) (list_all test ns) h in
    ⊎_elim (λ here. subst (λ k. test k ≡ true) (eqb-true m n here) a.0) (λ later. among_all test ns n a.1 later) (or_cases (m == n) (among n ns) e)

pub close_may : (w : World) (o : Opened) → IsKept w → Closes w o → may_close (live_to (names_given w.log) w.places) (current_of w.requests.done w.log o) ≡ true
close_may w o k i = by (is_census o.request) refl
  where
    parts : (not (is_census o.request) || o.operated ≡ true) × (list_all (λ name. not (is_live_target w o name) || is_marked w.requests.cleared o.number name) o.live ≡ true)
    parts = and_parts (not (is_census o.request) || o.operated) (list_all (λ name. not (is_live_target w o name) || is_marked w.requests.cleared o.number name) o.live) i.over

    gone : (t : ℕ) → among t (due_of w.requests.done o) ≡ true → not (is_live t (live_to (names_given w.log) w.places)) ≡ true
    gone t listed = not_from_false _ (false_from_ne_true _ (λ live. (
        let due = due_parts w.requests.done t o listed in
        let here = lives_here w t k live in
        let at = among_all (λ name. not (is_live_target w o name) || is_marked w.requests.cleared o.number name) o.live t parts.1 due.0 in
        let cleared : is_marked w.requests.cleared o.number t ≡ true = sym (λ j. not (and_from (among t o.live) (lives w t) due.0 here j) || is_marked w.requests.cleared o.number t) ∙ at in
        false≢true (sym due.1 ∙ k.marks.cleared_done o.number t cleared))))

    by : (b : Bool) → is_census o.request ≡ b → may_close (live_to (names_given w.log) w.places) (current_of w.requests.done w.log o) ≡ true
    by true e = (λ j. cond (e j) o.operated (none_live (live_to (names_given w.log) w.places) (due_of w.requests.done o))) ∙ (sym (λ j. not (e j) || o.operated) ∙ parts.0)
    by false e = (λ j. cond (e j) o.operated (none_live (live_to (names_given w.log) w.places) (due_of w.requests.done o))) ∙ all_among (λ t. not (is_live t (live_to (names_given w.log) w.places))) (due_of w.requests.done o) gone

closed_here : (w : World) (number : Option ℕ) (o : Opened) → IsKept w → Closes w o → IsEntered w (Close o.number ∷ []) (asked w (without_opened w o) (event.Close number) (answer.Closed o.number))
closed_here w number o k i = one w _ _
    (ap (passes (may_close (live_to (names_given w.log) w.places))) (open_is (current_of w.requests.done w.log) w.requests.opened i.open_is.position o (λ x. refl) (rises w k) i.open_is.here) ∙ close_may w o k i)
    (let e = without_is (current_of w.requests.done w.log) w.requests.opened i.open_is.position o (λ x. refl) (rises w k) i.open_is.here in
    λ j. record {
      next_name = names_given w.log + 1;
      live = live_to (names_given w.log) w.places;
      next_number = operations_given w.log + 1;
      waiting = map asked_of w.requests.waiting;
      opened = e j;
      table = record { codes = w.codes; slots = w.slots; methods = w.methods };
    })

-- 3. Codes

install_said : (w : World) (method slot : ℕ) → Installs w method slot → install_entries w method (next_serial w.codes) ≡ Install (record { slot = slot; serial = next_serial w.codes }) method ∷ []
install_said w method slot i = λ j. for_found (i.none_in_use j) (λ (old : Code). Invalidate old.serial ∷ []) ++ for_found (i.least j) (λ (s : ℕ). Install (record { slot = s; serial = next_serial w.codes }) method ∷ [])

installed_here : (w : World) (method slot : ℕ) → Installs w method slot
    → IsEntered w (Install (record { slot = slot; serial = next_serial w.codes }) method ∷ []) (coded w (with_code w.codes method slot) (event.Install method) (answer.Code (next_serial w.codes)))
installed_here w method slot i = one w _ _
    (let a : (next_serial w.codes == next_serial w.codes) ≡ true = eq-eqb (next_serial w.codes) (next_serial w.codes) refl in
    let b : is_free_slot slot (free_slot w.codes w.slots) ≡ true = ap (is_free_slot slot) i.least ∙ eq-eqb slot slot refl in
    let c : is_none (in_use_for w.codes method) ≡ true = ap is_none i.none_in_use in
    let low : nat_lt method w.methods ≡ true = lt-ltb method w.methods i.low_method in
    let room : nat_le (next_serial w.codes) last_number ≡ true = le-leb (next_serial w.codes) last_number i.room in
    let d : is_none (install_fault (record { codes = w.codes; slots = w.slots; methods = w.methods }) method) ≡ true = (let least = i.least in rw (low, least, room) refl) in
    and_from _ _ a (and_from _ _ b (and_from _ _ c d)))
    refl

invalidated_here : (w : World) (serial : ℕ) (code : Code) → IsCode w serial code InUse → IsEntered w (Invalidate serial ∷ []) (coded w (with_state w.codes serial NotEntrant) (event.Invalidate serial) answer.Done)
invalidated_here w serial code i = one w _ _ (let found = i.found in let state = i.state_is in rw (found, state) refl) refl

retired_here : (w : World) (serial : ℕ) (code : Code) → IsCode w serial code NotEntrant → IsEntered w (Retire serial ∷ []) (coded w (with_state w.codes serial Zombie) (event.Weigh serial) answer.Retired)
retired_here w serial code i = one w _ _ (let found = i.found in let state = i.state_is in rw (found, state) refl) refl

freed_here : (w : World) (serial : ℕ) (code : Code) → IsCode w serial code Zombie → IsEntered w (Free serial ∷ []) (coded w (with_state w.codes serial Freed) (event.Free serial) answer.Done)
freed_here w serial code i = one w _ _ (let found = i.found in let state = i.state_is in rw (found, state) refl) refl

-- 4. All events

-- A refused event is none.
refused_at : (w : World) (p : ℕ) (a : Act) (r : Refusal) → entries_of w (event.At p a) (answer.Refused r) ≡ []
refused_at w p act.Begin r = refl
refused_at w p act.Exit r = refl
refused_at w p act.Finish r = refl
refused_at w p act.Change r = refl
refused_at w p act.End r = refl
refused_at w p act.Wake r = refl
refused_at w p act.Cross r = refl
refused_at w p (act.Enter m s) r = refl
refused_at w p act.Leave r = refl
refused_at w p act.Edge r = refl
refused_at w p act.ToVm r = refl
refused_at w p act.FromVm r = refl
refused_at w p act.ToNative r = refl
refused_at w p act.Block r = refl
refused_at w p act.Take r = refl
refused_at w p act.Clear r = refl
refused_at w p act.Hold r = refl
refused_at w p act.Release r = refl
refused_at w p act.Stack r = refl

pub refused_none : (w : World) (e : Event) (r : Refusal) → entries_of w e (answer.Refused r) ≡ []
refused_none w (event.At p a) r = refused_at w p a r
refused_none w event.Start r = refl
refused_none w (event.Install m) r = refl
refused_none w (event.Invalidate s) r = refl
refused_none w event.Round r = refl
refused_none w (event.Look s p) r = refl
refused_none w (event.Weigh s) r = refl
refused_none w (event.Free s) r = refl
refused_none w (event.Ask q) r = refl
refused_none w event.Open r = refl
refused_none w (event.Tell n) r = refl
refused_none w event.Operate r = refl
refused_none w (event.Close n) r = refl
refused_none w (event.Count s) r = refl
refused_none w (event.CodeState s) r = refl
refused_none w (event.Resolve m) r = refl

pub all_entries : (w : World) → IsOrdered w → Cases w (λ e a v. IsEntered w (entries_of w e a) v)
all_entries w h = record {
  refuses = λ e r. said w w (entries_of w e (answer.Refused r)) [] (refused_none w e r) (silent w w refl);
  begins = λ p t i. silent w _ (renewed w p t (begun t) i.stands refl);
  changes = λ p t code i. silent w _ (renewed w p t (changed_by t code) i.publishes.stands refl);
  rests = λ p t i. silent w _ (renewed w p t t i.publishes.stands refl);
  ends = λ p t i. silent w _ (renewed w p t (ended t) i.publishes.stands refl);
  moves = λ p t a state given i. said w _ (entries_of w (event.At p a) given) [] (move_none w p a given i.is) (silent w _ (renewed w p t (moved t state) i.acts.stands refl));
  interprets = λ p t method i. silent w _ (renewed w p t (entered t method None) i.acts.stands refl);
  enters = λ p t method serial code i. silent w _ (renewed w p t (entered t method (Some (id_of code))) i.calls.acts.stands refl);
  misses = λ p t method serial code i. silent w _ (renewed w p t t i.calls.acts.stands refl);
  leaves = λ p t state i. silent w _ (renewed w p t (moved (popped t) state) i.acts.stands refl);
  exits = λ p t i. exited w p t h.kept i;
  finishes = λ p t opened i. said w _ (entries_of w (event.At p act.Finish) (answer.Reply (reply_to opened.request t.stack))) _ (finish_said w p t opened (reply_to opened.request t.stack) i) (finished_here w p t opened (reply_to opened.request t.stack) h i);
  clears = λ p t opened i. silent w _ refl;
  holds = λ p t opened i. silent w _ (renewed w p t (held t) i.acts.stands refl);
  releases = λ p t i. silent w _ (renewed w p t (released t) i.acts.stands refl);
  shows = λ p t i. silent w _ (renewed w p t t i refl);
  starts = λ p i. started w p h.kept i;
  installs = λ method slot i. said w _ (install_entries w method (next_serial w.codes)) _ (install_said w method slot i) (installed_here w method slot i);
  invalidates = λ serial code i. invalidated_here w serial code i;
  goes_round = λ i. silent w _ refl;
  looks_clear = λ serial p code i. silent w _ refl;
  looks_late = λ serial p code i. silent w _ refl;
  finds_unlooked = λ serial code p i. silent w _ refl;
  finds_used = λ serial code i. silent w _ refl;
  retires = λ serial code i. retired_here w serial code i.code_is;
  frees = λ serial code i. freed_here w serial code i;
  asks = λ request i. entered_request w request;
  opens = λ oldest others i. opened_next w oldest others h.kept i;
  tells = λ name opened i. silent w _ refl;
  finds_gone = λ name i. silent w _ refl;
  operates = λ opened others i. said w _ (entries_of w event.Operate (answer.Census (census w))) _ (ap (λ os. for_found (oldest_of os) (λ (o : Opened). Operate o.number ∷ [])) i.opened_is) (operated_here w opened others (answer.Census (census w)) h.kept i);
  closes = λ number opened i. closed_here w number opened h.kept i;
  counts = λ serial code i. silent w _ refl;
  says_state = λ serial code i. silent w _ refl;
  resolves = λ method i. silent w _ refl;
}
