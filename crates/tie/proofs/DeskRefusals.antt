-- The desk refuses what the core refuses.
use Rattle.std.proofs.Common.{◌≡◌, ◌≢◌, ◌⊎◌, inl, inr, ⊎_elim, ℕ, zero, suc, ◌+◌, ◌<◌, ◌≤◌, ◌^◌, Bool, true, false, cond, List, [], ◌∷◌, length, map, Option, Some, None, sym, refl, ap, ◌∙◌, subst, arith}
use Rattle.std.specs.Prelude.{not, ◌||◌, ◌&&◌, ◌==◌, nat_lt, nat_le, find, filter, option_map, slice_get}
use Rattle.std.specs.List.{list_all}
use Rattle.std.proofs.lemmas.List.{length-append}
use Rattle.std.proofs.lemmas.List.Folds.{list_any-append}
use Rattle.std.proofs.lemmas.Bool.{false≢true, eqb-true, eq-eqb, ne_eqb, ltb-true, ltb-false, or_left, or_right, or_parts, and_parts, and_from, and_cases, false_from_ne_true, true_from_ne_false, not-true, not-false, not_from_false}
use mathlib.Core.Logic.{dite}
use native.Mathlib.Decide.{ℕ_discrete}
use Rattle.method_table.specs.declared.Code.{Code}
use Rattle.method_table.specs.Numbers.{last_number}
use Rattle.method_table.specs.Codes.{is_in_use, is_not_entrant, is_zombie, id_of, unfreed, free_slot, next_serial, in_use_for, with_code, with_state, without_use}
use Rattle.method_table.specs.TableView.{retire_fault}
use Rattle.operations.specs.declared.Request.{Request}
use Rattle.operations.specs.Names.{among, is_empty}
use Rattle.operations.specs.Requests.{is_census, is_target, has_targets, are_targets}
use Rattle.bodies.specs.Bodies.{BodyView}
use Rattle.system.specs.declared.events.Event.TheVariants as event
use Rattle.system.specs.declared.answers.Refusal.{Refusal}
use Rattle.system.specs.declared.answers.Refusal.TheVariants as refusal
use Rattle.system.specs.declared.answers.Answer.TheVariants as answer
use Rattle.system.specs.Verdict.{Verdict, refused, accepted, unless◌refuse◌then◌}
use Rattle.system.specs.Threads.{Thread, is_publishing, is_settled}
use Rattle.system.specs.Operations.{Waiting, Opened, is_marked, is_safepoint}
use Rattle.system.specs.Log.{names_given, operations_given}
use Rattle.system.specs.World.{World, start_world, threads, vacant_place, is_live as lives, is_live_target, walk, census}
use Rattle.system.specs.Places.{in_found, in_open}
use Rattle.system.specs.Step.{start_at, start, install_in, of_code, invalidate, weigh, weigh_all, unlooked, free, open_oldest, awaits_safepoint, may_open, all_threads, operate, is_over, close, new_thread}
use Rattle.system.specs.Runs.{answer_of, answer_to, world_after}
use Rattle.system.proofs.Outcomes.{with_request, with_operated, without_opened}
use Rattle.system.proofs.Lists.{map_length, any_at, any_here, all_at, find_place}
use Rattle.system.proofs.SoundMarks.{threads_at, threads_has, live_has}
use Rattle.system.proofs.Sound.{IsKept}
use Rattle.tie.proofs.Tied.{sizes_are}
use Rattle.desk.specs.declared.entries.Live.{Live}
use Rattle.desk.specs.Machine.{State, Current, Asked, Book, is_live, is_taken, none_live, has_census, awaits_census, may_open_more, is_first, open_of, may_close}
use Rattle.desk.specs.Refusals.{AllTaken, HasFree, MayOperate, chosen, holds_target, has_body, are_all}
use Rattle.tie.specs.DeskOf.{seat_of, live_by, live_to, asked_of, due_of, current_of, desk_of}
use Rattle.tie.specs.DeskRefusals.{StartSays, AskSays, OpenSays, InstallSays, InvalidateSays, RetireSays, FreeSays, AreHeld, AwaitsClear, CloseSays, OperateSays, RefusalsAgree}
use Rattle.tie.proofs.DeskPlaces.{seat_there, seat_has, seat_nobody, vacant_free}
use Rattle.tie.proofs.DeskOpened.{among_filter, census_is, empty_is}
use Rattle.tie.proofs.DeskOrder.{IsOrdered, ordered_after, ordered_start}
use Rattle.tie.proofs.DeskSteps.{lives_here, lives_there, target_listed, close_may}

-- One test.
test : {A : Type 0} (Q : Verdict A → Type 0) (b : Bool) (r : Refusal) (v : Verdict A) → (b ≡ false → Q (refused r)) → (b ≡ true → Q v) → Q (unless b refuse r then v)
test Q true r v no_ yes_ = yes_ refl
test Q false r v no_ yes_ = no_ refl

-- 1. Start

-- Who stands at a place has it at the desk.
taken_to : (n p name : ℕ) (places : List (Option Thread)) → 0 < name → name ≤ n → seat_of name places ≡ Some p → is_taken p (live_to n places) ≡ true
taken_to zero p name places from low h = absurd (omega arith)
taken_to (suc n) p name places from low h =
    list_any-append (λ (l : Live). l.place == p) (live_to n places) (live_by (suc n) (seat_of (suc n) places))
    ∙ dite (ℕ_discrete (suc n) name)
    (λ e. or_right (is_taken p (live_to n places)) _ (ap (λ o. is_taken p (live_by (suc n) o)) (subst (λ k. seat_of k places ≡ Some p) (sym e) h) ∙ or_left (p == p) false (eq-eqb p p refl)))
    (λ ne. or_left _ _ (taken_to n p name places from (omega arith) h))

taken_there : (w : World) (p : ℕ) (t : Thread) → IsKept w → slice_get w.places p ≡ Some (Some t) → is_taken p (live_to (names_given w.log) w.places) ≡ true
taken_there w p t k at =
    let q = seat_has t.name w.places p t at refl in let u = seat_there t.name w.places q.0 q.1 in
    let same : q.0 ≡ p = k.threads.one_name q.0 p u.0 t u.1 at u.2 in
    let s = k.threads.each p t at in
    taken_to (names_given w.log) p t.name w.places s.name_from s.name_to (subst (λ n. seat_of t.name w.places ≡ Some n) same q.1)

none_vacant : (ts : List (Option Thread)) → vacant_place ts ≡ None → (p : ℕ) → p < length ts → (t : Thread) × (slice_get ts p ≡ Some (Some t))
none_vacant [] h p low = absurd (omega arith)
none_vacant (None ∷ ts) h p low = cc
none_vacant (Some t ∷ ts) h zero low = (t, refl)
none_vacant (Some t ∷ ts) h (suc p) low = none_vacant ts (inner (vacant_place ts) h) p (omega arith)
  where
    inner : (o : Option ℕ) → option_map (λ n. 1 + n) o ≡ None → o ≡ None
    inner None e = refl
    inner (Some n) e = cc

vacant_is : (ts : List (Option Thread)) (p : ℕ) → vacant_place ts ≡ Some p → (p < length ts) × (slice_get ts p ≡ Some None)
vacant_is [] p h = cc
vacant_is (None ∷ ts) p h = let z : 0 ≡ p = cc in (omega arith, ap (slice_get (None ∷ ts)) (sym z))
vacant_is (Some t ∷ ts) p h = later (vacant_place ts) refl h (vacant_is ts)
  where
    later : (o : Option ℕ) → vacant_place ts ≡ o → option_map (λ n. 1 + n) o ≡ Some p → ((n : ℕ) → vacant_place ts ≡ Some n → (n < length ts) × (slice_get ts n ≡ Some None)) → (p < length (Some t ∷ ts)) × (slice_get (Some t ∷ ts) p ≡ Some None)
    later None e l rest = cc
    later (Some n) e l rest = let is : suc n ≡ p = (let x : 1 + n ≡ p = cc in omega arith) in let r = rest n e in let low = r.0 in subst (λ m. (m < length (Some t ∷ ts)) × (slice_get (Some t ∷ ts) m ≡ Some None)) is (omega arith, r.1)

safepoint_is : (w : World) → has_census (map (current_of w.requests.done w.log) w.requests.opened) ≡ is_safepoint w.requests
safepoint_is w = census_is (current_of w.requests.done w.log) w.requests.opened (λ o. refl)

starts_say : (w : World) (b : Book) → IsKept w → StartSays (desk_of w) (length w.places) b (answer_to w event.Start)
starts_say w b k = test (λ v. StartSays (desk_of w) (length w.places) b (answer_of v)) (not (is_safepoint w.requests)) refusal.SafepointOpen (start_at w (vacant_place w.places))
    (λ e. safepoint_is w ∙ not-false (is_safepoint w.requests) e)
    (λ e. on (safepoint_is w ∙ not-true (is_safepoint w.requests) e) (vacant_place w.places) refl)
  where
    on : has_census (map (current_of w.requests.done w.log) w.requests.opened) ≡ false → (o : Option ℕ) → vacant_place w.places ≡ o → StartSays (desk_of w) (length w.places) b (answer_of (start_at w o))
    on s None e = (s, λ p low. (let t = none_vacant w.places e p low in taken_there w p t.0 k t.1))
    on s (Some p) e =
        let v = vacant_is w.places p e in let free = vacant_free (names_given w.log) p w.places v.1 in
        test (λ v. StartSays (desk_of w) (length w.places) b (answer_of v)) (nat_lt (names_given w.log) last_number) refusal.Spent
        (accepted (Rattle.system.specs.Step.with_place w p (Some (new_thread (names_given w.log + 1)))) (answer.Thread (names_given w.log + 1) p))
        (λ f. (s, (p, v.0, free), (let z = ltb-false (names_given w.log) last_number f in omega arith)))
        (λ f. (s, (p, v.0, free), (let z = ltb-true (names_given w.log) last_number f in omega arith)))

-- 2. Ask and Open

waits_long : (w : World) → length (map asked_of w.requests.waiting) ≡ length w.requests.waiting
waits_long w = map_length asked_of w.requests.waiting

asks_say : (w : World) (r : Request) (b : Book) → AskSays (desk_of w) r b (answer_to w (event.Ask r))
asks_say w r b = test Q (nat_lt (operations_given w.log) last_number) refusal.Spent _
    (λ e. (let z = ltb-false (operations_given w.log) last_number e in omega arith))
    (λ e. (let room : operations_given w.log + 1 < 2 ^ 40 = (let z = ltb-true (operations_given w.log) last_number e in omega arith) in
    test Q (nat_lt (length w.requests.waiting) 64) refusal.QueueFull _
    (λ f. (room, (let z = ltb-false (length w.requests.waiting) 64 f in let y = waits_long w in omega arith)))
    (λ f. (let queue : length (map asked_of w.requests.waiting) < 64 = (let z = ltb-true (length w.requests.waiting) 64 f in let y = waits_long w in omega arith) in
    test Q (has_targets r) refusal.NoTargets _
    (λ g. (room, queue, g))
    (λ g. test Q (are_targets r) refusal.BadTargets (accepted (record w { requests = with_request w r }) (answer.Asked (operations_given w.log + 1)))
    (λ h. (room, queue, g, (λ i. h i && true)))
    (λ h. (room, queue, g, (λ i. h i && true))))))))
  where
    Q : Verdict World → Type 0
    Q v = AskSays (desk_of w) r b (answer_of v)

and_three : (a b c : Bool) → (a && (b && c)) ≡ ((a && b) && c)
and_three true b c = refl
and_three false b c = refl

awaits_is : (ws : List Waiting) → awaits_census (map asked_of ws) ≡ awaits_safepoint ws
awaits_is [] = refl
awaits_is (x ∷ ws) = refl

may_open_is : (w : World) → may_open_more (map asked_of w.requests.waiting) (map (current_of w.requests.done w.log) w.requests.opened) ≡ may_open w.requests
may_open_is w = (λ i. nat_lt (map_length (current_of w.requests.done w.log) w.requests.opened i) 4 && (not (safepoint_is w i) && not (awaits_is w.requests.waiting i && not (empty_is (current_of w.requests.done w.log) w.requests.opened i))))
    ∙ and_three (nat_lt (length w.requests.opened) 4) (not (is_safepoint w.requests)) (not (awaits_safepoint w.requests.waiting && not (is_empty w.requests.opened)))

opens_say : (w : World) → OpenSays (desk_of w) (answer_to w event.Open)
opens_say w = test (λ v. OpenSays (desk_of w) (answer_of v)) (may_open w.requests) refusal.AlreadyOpen (open_oldest w w.requests.waiting) (λ e. may_open_is w ∙ e) (λ e. on e w.requests.waiting refl)
  where
    on : may_open w.requests ≡ true → (ws : List Waiting) → w.requests.waiting ≡ ws → OpenSays (desk_of w) (answer_of (open_oldest w ws))
    on may [] e = (may_open_is w ∙ may, ap (map asked_of) e)
    on may (oldest ∷ others) e = and_from _ _ (may_open_is w ∙ may) (ap (λ ws. is_first oldest.number (map asked_of ws)) e ∙ eq-eqb oldest.number oldest.number refl)

-- 3. Codes

installs_say : (w : World) (m : ℕ) (b : Book) → InstallSays (desk_of w) m b (answer_to w (event.Install m))
installs_say w m b = test (λ v. InstallSays (desk_of w) m b (answer_of v)) (nat_lt m w.methods) refusal.NoSuchMethod (install_in w m (free_slot w.codes w.slots))
    (λ e. rw e refl)
    (λ e. on e (free_slot w.codes w.slots) refl)
  where
    on : nat_lt m w.methods ≡ true → (o : Option ℕ) → free_slot w.codes w.slots ≡ o → InstallSays (desk_of w) m b (answer_of (install_in w m o))
    on low None e = rw (low, e) refl
    on low (Some slot) e = test (λ v. InstallSays (desk_of w) m b (answer_of v)) (nat_le (next_serial w.codes) last_number) refusal.SerialsSpent
        (accepted (record w { codes = with_code (without_use w.codes (in_use_for w.codes m)) m slot }) (answer.Code (next_serial w.codes)))
        (λ f. rw (low, e, f) refl)
        (λ f. rw (low, e, f) refl)

invalidates_say : (w : World) (serial : ℕ) → InvalidateSays (desk_of w) serial (answer_to w (event.Invalidate serial))
invalidates_say w serial = on (unfreed w.codes serial) refl
  where
    on : (o : Option Code) → unfreed w.codes serial ≡ o → InvalidateSays (desk_of w) serial (answer_of (of_code o (invalidate w)))
    on None e = rw e refl
    on (Some code) e = test (λ v. InvalidateSays (desk_of w) serial (answer_of v)) (is_in_use code.state) refusal.NotInUse
        (accepted (record w { codes = with_state w.codes code.serial Rattle.method_table.specs.declared.CodeState.TheVariants.NotEntrant }) answer.Done)
        (λ f. rw (e, f) refl) (λ f. rw (e, f) refl)

weighs_say : (w : World) (serial : ℕ) → RetireSays (desk_of w) serial (answer_to w (event.Weigh serial))
weighs_say w serial = on (unfreed w.codes serial) refl
  where
    on : (o : Option Code) → unfreed w.codes serial ≡ o → RetireSays (desk_of w) serial (answer_of (of_code o (weigh w)))
    on None e = rw e refl
    on (Some code) e = test (λ v. RetireSays (desk_of w) serial (answer_of v)) (is_not_entrant code.state) refusal.NotNotEntrant (weigh_all w code (unlooked w code.serial))
        (λ f. rw (e, f) refl)
        (λ f. (let none : retire_fault (unfreed w.codes serial) ≡ None = rw (e, f) refl in by none (unlooked w code.serial)))
      where
        last : retire_fault (unfreed w.codes serial) ≡ None → (b : Bool) → RetireSays (desk_of w) serial (answer_of (cond b (accepted (record w { codes = with_state w.codes code.serial Rattle.method_table.specs.declared.CodeState.TheVariants.Zombie }) answer.Retired) (accepted w (answer.Used (walk w (id_of code))))))
        last none true = none
        last none false = none

        by : retire_fault (unfreed w.codes serial) ≡ None → (o : Option ℕ) → RetireSays (desk_of w) serial (answer_of (weigh_all w code o))
        by none (Some place) = none
        by none None = last none (walk w (id_of code) == 0)

frees_say : (w : World) (serial : ℕ) → FreeSays (desk_of w) serial (answer_to w (event.Free serial))
frees_say w serial = on (unfreed w.codes serial) refl
  where
    on : (o : Option Code) → unfreed w.codes serial ≡ o → FreeSays (desk_of w) serial (answer_of (of_code o (free w)))
    on None e = rw e refl
    on (Some code) e = test (λ v. FreeSays (desk_of w) serial (answer_of v)) (is_zombie code.state) refusal.NotZombie
        (accepted (record w { codes = with_state w.codes code.serial Rattle.method_table.specs.declared.CodeState.TheVariants.Freed }) answer.Done)
        (λ f. rw (e, f) refl) (λ f. rw (e, f) refl)

-- 4. Close

not_all : {A : Type 0} (p : A → Bool) (xs : List A) → list_all p xs ≡ false → (i : ℕ) × (x : A) × (slice_get xs i ≡ Some x) × (p x ≡ false)
not_all p [] h = absurd (false≢true (sym h))
not_all {A} p (x ∷ xs) h = by (p x) refl h (not_all p xs)
  where
    by : (b : Bool) → p x ≡ b → (b && list_all p xs) ≡ false → (list_all p xs ≡ false → (i : ℕ) × (y : A) × (slice_get xs i ≡ Some y) × (p y ≡ false)) → (i : ℕ) × (y : A) × (slice_get (x ∷ xs) i ≡ Some y) × (p y ≡ false)
    by false e k rest = (0, x, refl, e)
    by true e k rest = let r = rest k in let z = r.3 in (suc r.0, r.1, r.2, z)

not_every : (p : ℕ → Bool) (ns : List ℕ) → list_all p ns ≡ false → (n : ℕ) × (among n ns ≡ true) × (p n ≡ false)
not_every p ns h = let r = not_all p ns h in (r.1, any_here (λ other. other == r.1) ns r.0 r.1 r.2 (eq-eqb r.1 r.1 refl), r.3)

-- A body is of a held thread.
body_held : (w : World) (bs : List BodyView) (i : ℕ) (b : BodyView) → AreHeld w bs → slice_get bs i ≡ Some b → (p : ℕ) × (t : Thread) × (slice_get w.places p ≡ Some (Some t)) × (t.held ≡ true) × (t.name ≡ b.name)
body_held w bs i b h at =
    let has : has_body b.name bs ≡ true = any_here (λ (x : BodyView). x.name == b.name) bs i b at (eq-eqb b.name b.name refl) in
    let a = any_at (λ (t : Thread). t.held && (t.name == b.name)) (threads w.places) (sym (h.same b.name) ∙ has) in
    let e = and_parts a.1.held (a.1.name == b.name) a.3 in let p = threads_at w.places a.0 a.1 a.2 in
    (p.0, a.1, p.1, e.0, eqb-true a.1.name b.name e.1)

held_body : (w : World) (bs : List BodyView) (i : ℕ) (t : Thread) → AreHeld w bs → slice_get (threads w.places) i ≡ Some t → t.held ≡ true → (j : ℕ) × (b : BodyView) × (slice_get bs j ≡ Some b) × (b.name ≡ t.name)
held_body w bs i t h at held =
    let has = any_here (λ (u : Thread). u.held && (u.name == t.name)) (threads w.places) i t at (and_from t.held (t.name == t.name) held (eq-eqb t.name t.name refl)) in
    let a = any_at (λ (x : BodyView). x.name == t.name) bs (h.same t.name ∙ has) in
    (a.0, a.1, a.2, eqb-true a.1.name t.name a.3)

-- Whether a target is held.
target_held : (w : World) (r : Request) (bs : List BodyView) → AreHeld w bs → all_threads (λ t. not (t.held && is_target r t.name)) w ≡ false → holds_target r bs ≡ true
target_held w r bs h e =
    let a = not_all (λ (t : Thread). not (t.held && is_target r t.name)) (threads w.places) e in
    let p = and_parts a.1.held (is_target r a.1.name) (not-false (a.1.held && is_target r a.1.name) a.3) in
    let b = held_body w bs a.0 a.1 h a.2 p.0 in
    any_here (λ (x : BodyView). is_target r x.name) bs b.0 b.1 b.2 (subst (λ n. is_target r n ≡ true) (sym b.3) p.1)

none_held : (w : World) (r : Request) (bs : List BodyView) → AreHeld w bs → all_threads (λ t. not (t.held && is_target r t.name)) w ≡ true → holds_target r bs ≡ false
none_held w r bs h e = false_from_ne_true _ (λ yes_. (
    let a = any_at (λ (x : BodyView). is_target r x.name) bs yes_ in let b = body_held w bs a.0 a.1 h a.2 in let b3 = b.3 in let b4 = b.4 in
    let at = threads_has w.places b.0 b.1 b.2 in
    let free = all_at (λ (t : Thread). not (t.held && is_target r t.name)) (threads w.places) at.0 b.1 e at.1 in
    false≢true (sym (not-true (b.1.held && is_target r b.1.name) free) ∙ and_from b.1.held (is_target r b.1.name) b3 (subst (λ n. is_target r n ≡ true) (sym b4) a.3))))

-- What the desk's close asks of an operation.
may_close_census : (w : World) (o : Opened) → is_census o.request ≡ true → may_close (live_to (names_given w.log) w.places) (current_of w.requests.done w.log o) ≡ o.operated
may_close_census w o e = λ j. cond (e j) o.operated (none_live (live_to (names_given w.log) w.places) (due_of w.requests.done o))

may_close_handshake : (w : World) (o : Opened) → is_census o.request ≡ false → may_close (live_to (names_given w.log) w.places) (current_of w.requests.done w.log o) ≡ none_live (live_to (names_given w.log) w.places) (due_of w.requests.done o)
may_close_handshake w o e = λ j. cond (e j) o.operated (none_live (live_to (names_given w.log) w.places) (due_of w.requests.done o))

among_every : (p : ℕ → Bool) (ns : List ℕ) (n : ℕ) → list_all p ns ≡ true → among n ns ≡ true → p n ≡ true
among_every p ns n h e = let a = any_at (λ other. other == n) ns e in subst (λ k. p k ≡ true) (eqb-true a.1 n a.3) (all_at p ns a.0 a.1 h a.2)

-- Where the core isn't done, the desk isn't, or a Clear is awaited.
awaited : (w : World) (number : Option ℕ) (o : Opened) (i : ℕ) → IsKept w → slice_get w.requests.opened i ≡ Some o → chosen number (desk_of w).opened ≡ Some (current_of w.requests.done w.log o)
    → is_over w o ≡ false → may_close (live_to (names_given w.log) w.places) (current_of w.requests.done w.log o) ≡ true → AwaitsClear w number
awaited w number o i k at chosen_ over may = ⊎_elim first later (and_cases (not (is_census o.request) || o.operated) (list_all (λ name. not (is_live_target w o name) || is_marked w.requests.cleared o.number name) o.live) over)
  where
    first : (not (is_census o.request) || o.operated) ≡ false → AwaitsClear w number
    first e = let p = or_parts (not (is_census o.request)) o.operated e in absurd (false≢true (sym p.1 ∙ (sym (may_close_census w o (not-false (is_census o.request) p.0)) ∙ may)))

    done_of : (name : ℕ) → is_live_target w o name ≡ true → (is_marked w.requests.done o.number name ≡ true) ⊎ (o.operated ≡ true)
    done_of name live = by (is_census o.request) refl
      where
        by : (b : Bool) → is_census o.request ≡ b → (is_marked w.requests.done o.number name ≡ true) ⊎ (o.operated ≡ true)
        by true e = inr (sym (may_close_census w o e) ∙ may)
        by false e = inl (true_from_ne_false _ (λ fresh. (
            let l = and_parts (among name o.live) (lives w name) live in
            let due : among name (due_of w.requests.done o) ≡ true = among_filter (λ n. among n o.live && not (is_marked w.requests.done o.number n)) name (Rattle.desk.specs.Machine.targets_of o.request)
            ∙ and_from _ _ (and_from (among name o.live) (not (is_marked w.requests.done o.number name)) l.0 (not_from_false _ fresh)) (target_listed o.request name e (k.marks.live_target i o name at l.0)) in
            let none = among_every (λ t. not (is_live t (live_to (names_given w.log) w.places))) (due_of w.requests.done o) name (sym (may_close_handshake w o e) ∙ may) due in
            false≢true (sym (not-true _ none) ∙ lives_there w name k l.1))))

    later : list_all (λ name. not (is_live_target w o name) || is_marked w.requests.cleared o.number name) o.live ≡ false → AwaitsClear w number
    later e =
        let r = not_every (λ name. not (is_live_target w o name) || is_marked w.requests.cleared o.number name) o.live e in
        let p = or_parts (not (is_live_target w o r.0)) (is_marked w.requests.cleared o.number r.0) r.2 in
        let live = not-false (is_live_target w o r.0) p.0 in
        record { opened = o; chosen_is = chosen_; name = r.0; live = live; done = done_of r.0 live; uncleared = p.1 }

closing : (w : World) (number : Option ℕ) (bs : List BodyView) (o : Opened) (i : ℕ) → IsOrdered w → AreHeld w bs → slice_get w.requests.opened i ≡ Some o → chosen number (desk_of w).opened ≡ Some (current_of w.requests.done w.log o)
    → CloseSays w number bs (answer_of (close w o))
closing w number bs o i h held at chosen_ = test (λ v. CloseSays w number bs (answer_of v)) (all_threads (λ t. not (t.held && is_target o.request t.name)) w) refusal.Held _
    (λ e. (current_of w.requests.done w.log o, chosen_, target_held w o.request bs held e))
    (λ e. (let free = none_held w o.request bs held e in
    test (λ v. CloseSays w number bs (answer_of v)) (is_over w o) refusal.NotDone (accepted (record w { requests = without_opened w o }) (answer.Closed o.number))
    (λ f. by free f (may_close (live_to (names_given w.log) w.places) (current_of w.requests.done w.log o)) refl)
    (λ f. record {
      opened = current_of w.requests.done w.log o;
      chosen_is = chosen_;
      number_is = refl;
      none_held = free;
      over = close_may w o h.kept (record { open_is = record { position = i; here = at }; none_held = e; over = f });
    })))
  where
    by : holds_target o.request bs ≡ false → is_over w o ≡ false → (b : Bool) → may_close (live_to (names_given w.log) w.places) (current_of w.requests.done w.log o) ≡ b → CloseSays w number bs (answer.Refused refusal.NotDone)
    by free f false e = inl (current_of w.requests.done w.log o, chosen_, free, e)
    by free f true e = inr (awaited w number o i h.kept at chosen_ f e)

open_found : (f : Opened → Current) (n : ℕ) (os : List Opened) → ((o : Opened) → (f o).number ≡ o.number) → open_of n (map f os) ≡ option_map f (find (λ o. o.number == n) os)
open_found f n [] same = refl
open_found f n (o ∷ os) same = ap (λ m. cond (m == n) (Some (f o)) (open_of n (map f os))) (same o) ∙ by (o.number == n) (open_found f n os same)
  where
    by : (b : Bool) → open_of n (map f os) ≡ option_map f (find (λ o. o.number == n) os) → cond b (Some (f o)) (open_of n (map f os)) ≡ option_map f (cond b (Some o) (find (λ o. o.number == n) os))
    by true e = refl
    by false e = e

closes_say : (w : World) (number : Option ℕ) (bs : List BodyView) → IsOrdered w → AreHeld w bs → CloseSays w number bs (answer_to w (event.Close number))
closes_say w None bs h held = on w.requests.opened refl
  where
    on : (os : List Opened) → w.requests.opened ≡ os → CloseSays w None bs (answer_of (in_open os (close w)))
    on [] e = ap (map (current_of w.requests.done w.log)) e
    on (o ∷ os) e = closing w None bs o 0 h held (ap (λ (xs : List Opened). slice_get xs 0) e) (ap (λ (xs : List Opened). chosen None (map (current_of w.requests.done w.log) xs)) e)
closes_say w (Some n) bs h held = test (λ v. CloseSays w (Some n) bs (answer_of v)) (not (is_empty w.requests.opened)) refusal.NothingOpen _
    (λ e. ap (map (current_of w.requests.done w.log)) (empty_of w.requests.opened (not-false (is_empty w.requests.opened) e)))
    (λ e. on (not-true (is_empty w.requests.opened) e) (find (λ o. o.number == n) w.requests.opened) refl)
  where
    empty_of : (os : List Opened) → is_empty os ≡ true → os ≡ []
    empty_of [] e = refl
    empty_of (o ∷ os) e = absurd (false≢true e)

    some_open : (os : List Opened) → is_empty os ≡ false → 0 < length (map (current_of w.requests.done w.log) os)
    some_open [] e = absurd (false≢true (sym e))
    some_open (o ∷ os) e = omega arith

    on : is_empty w.requests.opened ≡ false → (o : Option Opened) → find (λ o. o.number == n) w.requests.opened ≡ o → CloseSays w (Some n) bs (answer_of (in_found refusal.NotOf o (close w)))
    on some None e = (some_open w.requests.opened some, open_found (current_of w.requests.done w.log) n w.requests.opened (λ o. refl) ∙ ap (option_map (current_of w.requests.done w.log)) e)
    on some (Some o) e = let at = find_place (λ (x : Opened). x.number == n) w.requests.opened o e in
        closing w (Some n) bs o at.0 h held at.1 (open_found (current_of w.requests.done w.log) n w.requests.opened (λ o. refl) ∙ ap (option_map (current_of w.requests.done w.log)) e)

-- 5. Operate

-- As many live as stand at places.
length_by : (name : ℕ) (f : ℕ → ℕ) (o : Option ℕ) → length (live_by name (option_map f o)) ≡ length (live_by name o)
length_by name f None = refl
length_by name f (Some p) = refl

length_shift : (n : ℕ) (ps qs : List (Option Thread)) → ((name : ℕ) → name ≤ n → seat_of name qs ≡ option_map (λ place. 1 + place) (seat_of name ps)) → length (live_to n qs) ≡ length (live_to n ps)
length_shift zero ps qs h = refl
length_shift (suc n) ps qs h =
    let a = length-append (live_to n qs) (live_by (suc n) (seat_of (suc n) qs)) in
    let b = length-append (live_to n ps) (live_by (suc n) (seat_of (suc n) ps)) in
    let c = length_shift n ps qs (λ name low. h name (omega arith)) in
    let d : length (live_by (suc n) (seat_of (suc n) qs)) ≡ length (live_by (suc n) (seat_of (suc n) ps)) = ap (λ o. length (live_by (suc n) o)) (h (suc n) (omega arith)) ∙ length_by (suc n) (λ place. 1 + place) (seat_of (suc n) ps) in
    omega arith

beside : (name : ℕ) (t : Thread) (ps : List (Option Thread)) → t.name ≢ name → seat_of name (Some t ∷ ps) ≡ option_map (λ place. 1 + place) (seat_of name ps)
beside name t ps ne = ap (λ b. cond b (Some 0) (option_map (λ place. 1 + place) (seat_of name ps))) (ne_eqb t.name name ne)

length_more : (n : ℕ) (t : Thread) (ps : List (Option Thread)) → 0 < t.name → t.name ≤ n → seat_of t.name ps ≡ None → length (live_to n (Some t ∷ ps)) ≡ 1 + length (live_to n ps)
length_more zero t ps from low none = absurd (omega arith)
length_more (suc n) t ps from low none =
    let a = length-append (live_to n (Some t ∷ ps)) (live_by (suc n) (seat_of (suc n) (Some t ∷ ps))) in
    let b = length-append (live_to n ps) (live_by (suc n) (seat_of (suc n) ps)) in
    dite (ℕ_discrete t.name (suc n))
    (λ e. (let c = length_shift n ps (Some t ∷ ps) (λ name small. beside name t ps (λ z. absurd (omega arith))) in
    let d : length (live_by (suc n) (seat_of (suc n) (Some t ∷ ps))) ≡ 1 = ap (λ b. length (live_by (suc n) (cond b (Some 0) (option_map (λ place. 1 + place) (seat_of (suc n) ps))))) (eq-eqb t.name (suc n) e) in
    let f : length (live_by (suc n) (seat_of (suc n) ps)) ≡ 0 = ap (λ o. length (live_by (suc n) o)) (subst (λ k. seat_of k ps ≡ None) e none) in omega arith))
    (λ ne. (let c = length_more n t ps from (smaller ne) none in
    let d : length (live_by (suc n) (seat_of (suc n) (Some t ∷ ps))) ≡ length (live_by (suc n) (seat_of (suc n) ps)) = ap (λ o. length (live_by (suc n) o)) (beside (suc n) t ps ne) ∙ length_by (suc n) (λ place. 1 + place) (seat_of (suc n) ps) in omega arith))
  where
    smaller : (t.name ≡ suc n → ⊥) → t.name ≤ n
    smaller ne = omega (arith, ne)

length_none : (n : ℕ) → length (live_to n []) ≡ 0
length_none zero = refl
length_none (suc n) = let a = length-append (live_to n []) [] in let b = length_none n in omega arith

count_live : (n : ℕ) (ps : List (Option Thread)) → ((p : ℕ) (t : Thread) → slice_get ps p ≡ Some (Some t) → (0 < t.name) × (t.name ≤ n))
    → ((p q : ℕ) (t u : Thread) → slice_get ps p ≡ Some (Some t) → slice_get ps q ≡ Some (Some u) → t.name ≡ u.name → p ≡ q) → length (live_to n ps) ≡ length (threads ps)
count_live n [] each one_name = length_none n
count_live n (None ∷ ps) each one_name = length_shift n ps (None ∷ ps) (λ name low. refl) ∙ count_live n ps (λ p t x. each (suc p) t x) (λ p q t u x y e. (let r = one_name (suc p) (suc q) t u x y e in omega arith))
count_live n (Some t ∷ ps) each one_name =
    let s = each 0 t refl in
    length_more n t ps s.0 s.1 (seat_nobody t.name ps (λ p u x e. (let r = one_name (suc p) 0 u t x refl e in absurd (omega arith))))
    ∙ ap suc_ (count_live n ps (λ p t x. each (suc p) t x) (λ p q t u x y e. (let r = one_name (suc p) (suc q) t u x y e in omega arith))) ∙ last
  where
    suc_ : ℕ → ℕ
    suc_ m = 1 + m

    last : 1 + length (threads ps) ≡ length (t ∷ threads ps)
    last = omega arith

live_count : (w : World) → IsKept w → length (live_to (names_given w.log) w.places) ≡ length (threads w.places)
live_count w k = count_live (names_given w.log) w.places (λ p t x. (let s = k.threads.each p t x in (s.name_from, s.name_to))) k.threads.one_name

all_stay : (ts : List Thread) → list_all (λ t. t.held) ts ≡ true → filter (λ t. t.held) ts ≡ ts
all_stay [] h = refl
all_stay (t ∷ ts) h = let p = and_parts t.held (list_all (λ (u : Thread). u.held) ts) h in (λ i. cond (p.0 i) (t ∷ all_stay ts p.1 i) (all_stay ts p.1 i))

all_names : (n : ℕ) (places : List (Option Thread)) (p : ℕ → Bool) → ((name : ℕ) → is_live name (live_to n places) ≡ true → p name ≡ true) → list_all (λ (l : Live). p l.name) (live_to n places) ≡ true
all_names n places p h = by (live_to n places) (λ name e. h name e)
  where
    by : (ls : List Live) → ((name : ℕ) → is_live name ls ≡ true → p name ≡ true) → list_all (λ (l : Live). p l.name) ls ≡ true
    by [] g = refl
    by (l ∷ ls) g = and_from (p l.name) (list_all (λ (x : Live). p x.name) ls) (g l.name (or_left (l.name == l.name) (is_live l.name ls) (eq-eqb l.name l.name refl))) (by ls (λ name e. g name (or_right (l.name == name) (is_live name ls) e)))

-- The bodies are those of all live names exactly where all threads are held.
all_held : (w : World) (bs : List BodyView) → IsKept w → AreHeld w bs → all_threads (λ t. t.held) w ≡ true → are_all (live_to (names_given w.log) w.places) bs ≡ true
all_held w bs k h e = and_from _ _
    (eq-eqb (length (live_to (names_given w.log) w.places)) (length bs) (live_count w k ∙ (ap (λ (ts : List Thread). length ts) (sym (all_stay (threads w.places) e)) ∙ sym h.count)))
    (all_names (names_given w.log) w.places (λ name. has_body name bs) (λ name live. (
    let a = any_at (λ (t : Thread). t.name == name) (threads w.places) (lives_here w name k live) in
    let held = all_at (λ (t : Thread). t.held) (threads w.places) a.0 a.1 e a.2 in
    h.same name ∙ any_here (λ (t : Thread). t.held && (t.name == name)) (threads w.places) a.0 a.1 a.2 (and_from a.1.held (a.1.name == name) held a.3))))

every_name : (ls : List Live) (p : ℕ → Bool) (name : ℕ) → list_all (λ (l : Live). p l.name) ls ≡ true → is_live name ls ≡ true → p name ≡ true
every_name ls p name h e = let a = any_at (λ (l : Live). l.name == name) ls e in subst (λ n. p n ≡ true) (eqb-true a.1.name name a.3) (all_at (λ (l : Live). p l.name) ls a.0 a.1 h a.2)

not_all_held : (w : World) (bs : List BodyView) → IsKept w → AreHeld w bs → all_threads (λ t. t.held) w ≡ false → are_all (live_to (names_given w.log) w.places) bs ≡ false
not_all_held w bs k h e = false_from_ne_true _ (λ yes_. (
    let a = not_all (λ (t : Thread). t.held) (threads w.places) e in let free = a.3 in
    let p = threads_at w.places a.0 a.1 a.2 in
    let every = (and_parts (length (live_to (names_given w.log) w.places) == length bs) _ yes_).1 in
    let has = every_name (live_to (names_given w.log) w.places) (λ name. has_body name bs) a.1.name every (lives_there w a.1.name k (live_has w p.0 a.1 p.1)) in
    let b = any_at (λ (t : Thread). t.held && (t.name == a.1.name)) (threads w.places) (sym (h.same a.1.name) ∙ has) in
    let q = threads_at w.places b.0 b.1 b.2 in
    let r = and_parts b.1.held (b.1.name == a.1.name) b.3 in
    let place : q.0 ≡ p.0 = k.threads.one_name q.0 p.0 b.1 a.1 q.1 p.1 (eqb-true b.1.name a.1.name r.1) in
    let both : Some b.1 ≡ Some a.1 = (let z : Some (Some b.1) ≡ Some (Some a.1) = sym q.1 ∙ (ap (slice_get w.places) place ∙ p.1) in let y : b.1 ≡ a.1 = cc in ap (λ (t : Thread). Some t) y) in
    let same : b.1 ≡ a.1 = cc in
    false≢true (sym free ∙ (ap (λ (t : Thread). t.held) (sym same) ∙ r.0))))

operates_say : (w : World) (bs : List BodyView) → IsKept w → AreHeld w bs → OperateSays (desk_of w) bs (answer_to w event.Operate)
operates_say w bs k h = on w.requests.opened refl
  where
    Q : Verdict World → Type 0
    Q v = OperateSays (desk_of w) bs (answer_of v)

    front : (os : List Opened) (o : Opened) (others : List Opened) (p : Current → Bool) (b : Bool) → os ≡ o ∷ others → p (current_of w.requests.done w.log o) ≡ b → Rattle.desk.specs.Refusals.front_is p (map (current_of w.requests.done w.log) os) b
    front os o others p b e f = subst (λ (xs : List Opened). Rattle.desk.specs.Refusals.front_is p (map (current_of w.requests.done w.log) xs) b) (sym e) f

    on : (os : List Opened) → w.requests.opened ≡ os → OperateSays (desk_of w) bs (answer_of (in_open os (operate w)))
    on [] e = ap (map (current_of w.requests.done w.log)) e
    on (o ∷ others) e = test Q (is_census o.request) refusal.NotOf _
        (λ a. front w.requests.opened o others (λ c. is_census c.request) false e a)
        (λ a. (let census_ = front w.requests.opened o others (λ c. is_census c.request) true e a in
        test Q (not o.operated) refusal.AlreadyDone _
        (λ b. (census_, front w.requests.opened o others (λ c. c.operated) true e (not-false o.operated b)))
        (λ b. (let fresh = front w.requests.opened o others (λ c. c.operated) false e (not-true o.operated b) in
        test Q (all_threads (λ t. t.held) w) refusal.NotAllHeld _
        (λ c. (census_, fresh, not_all_held w bs k h c))
        (λ c. (let may : MayOperate (desk_of w) bs = (census_, fresh, all_held w bs k h c) in
        test Q (all_threads (λ t. not (is_publishing t)) w) refusal.Publishing _ (λ d. may)
        (λ d. test Q (all_threads is_settled w) refusal.Unpublished (accepted (record w { requests = with_operated w o }) (answer.Census (census w))) (λ f. may) (λ f. may))))))))

-- 6. All

pub refusals_agree : RefusalsAgree
refusals_agree places slots methods events = record {
  starts = λ b. subst (λ n. StartSays (desk_of w) n b (answer_to w event.Start)) sizes (starts_say w b h.kept);
  asks = asks_say w;
  opens = opens_say w;
  installs = installs_say w;
  invalidates = invalidates_say w;
  weighs = weighs_say w;
  frees = frees_say w;
  closes = λ number bs held. closes_say w number bs h held;
  operates = λ bs held. operates_say w bs h.kept held;
}
  where
    w : World
    w = world_after (start_world places slots methods) events

    h : IsOrdered (world_after (start_world places slots methods) events)
    h = ordered_after (start_world places slots methods) events (ordered_start places slots methods)

    sizes : length (world_after (start_world places slots methods) events).places ≡ places
    sizes = (sizes_are places slots methods events).0
