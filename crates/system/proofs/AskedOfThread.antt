-- The tests and searches of open operations for a thread give the same in the system as in the world.
use Rattle.std.proofs.Common.{◌≡◌, ◌∙◌, sym, ap, subst, length, refl, true, false, not, ◌&&◌, ◌||◌, Bool, cond, Option, Some, None, List, [], ◌∷◌, ℕ, arith}
use Rattle.std.specs.Prelude.{is_some, is_none, find, nat_le, nat_lt, ◌==◌, IsTrue, ◌↔◌}
use Rattle.std.proofs.lemmas.Bool.Decides.{nat_tests}
use Rattle.frames.specs.declared.CodeId.{CodeId}
use Rattle.frames.specs.ImageView.{ImageView, IsSettled, next_code}
use Rattle.frames.proofs.Uncounted.{none_next}
use Rattle.operations.specs.declared.Request.{Request}
use Rattle.operations.specs.declared.Request.TheVariants.{Handshake, Census}
use Rattle.operations.specs.Requests.{is_census, is_target, lists, reply_to}
use Rattle.system.proofs.Lists.{found_passes}
use Rattle.system.specs.declared.requests.Open.{Open}
use Rattle.system.specs.declared.thread.Thread.{Thread as Kept}
use Rattle.system.specs.declared.answers.Answer.TheVariants.{Reply, Done}
use Rattle.system.specs.declared.answers.Refusal.TheVariants.{Unpublished, NothingOpen, NotOf, NotTold, AlreadyDone, NotDone, Held, NotSafe}
use Rattle.system.specs.Verdict.{Verdict, refused, accepted, unless◌refuse◌then◌}
use Rattle.system.specs.Operations.{Requests, Opened, is_marked, with_mark, awaits_census}
use Rattle.thread_state.specs.States.{is_safe}
use Rattle.system.specs.Threads.{Thread, is_settled, next_change, is_publishing}
use Rattle.system.specs.Places.{marks, becomes, in_found, finish}
use Rattle.system.specs.Places as acts
use Rattle.std.specs.List.{list_any}
use Rattle.std.proofs.lemmas.Bool.{false≢true}
use Rattle.operations.specs.Names.{is_empty}
use Rattle.system.specs.World.{World}
use Rattle.system.specs.declared.events.Act.TheVariants as TheActs
use Rattle.thread_state.specs.declared.Move.TheVariants as move
use Rattle.system.specs.Marking.{SameImage}
use Rattle.system.specs.Kept.Threads.{SameOpen, OpenBy, IsHere, was_told, is_done, told_by, undone_by, uncleared_by, awaited_by, is_asked, idle_refusal}
use Rattle.system.proofs.Images.{next_is_left, counted_none}

none_of : (o : Option CodeId) → is_none o ≡ true → o ≡ None
none_of None h = refl
none_of (Some code) h = cc

both : (a b : Bool) → a && b ≡ true → (a ≡ true) × (b ≡ true)
both true true h = (refl, refl)
both true false h = cc
both false b h = cc

not_true : (a : Bool) → not a ≡ true → a ≡ false
not_true true h = cc
not_true false h = refl

-- a thread is settled if and only if its image is
pub settled_by : (image : ImageView) (t : Thread) (b : Bool) → SameImage image t → (IsTrue b ↔ IsSettled image) → is_settled t ≡ b
settled_by image t true h iff =
    let s : IsSettled image = iff.0 refl in
    let closed : is_some t.changed ≡ false = sym h.publishing ∙ s.0 in
    let none : next_change t ≡ None = sym (next_is_left image t h) ∙ counted_none image s.1 in
    rw (closed, none) refl
settled_by image t false h iff = by_value (is_settled t) refl
  where
    by_value : (v : Bool) → is_settled t ≡ v → is_settled t ≡ false
    by_value false e = e
    by_value true e =
        let facts = both (not (is_publishing t)) (is_none (next_change t)) e in
        let closed : image.publishing ≡ false = h.publishing ∙ not_true (is_publishing t) facts.0 in
        let none : next_code image ≡ None = next_is_left image t h ∙ none_of (next_change t) facts.1 in
        let bad : IsTrue false = iff.1 (closed, none_next image none) in cc

-- A test of an open operation gives the same in the system as in the world.
abbrev Agrees : (Open → Bool) → (Opened → Bool) → Kept → Requests → Type 0
Agrees f g kept requests = (a : Open) (o : Opened) → SameOpen a kept requests o → g o ≡ f a

pub any_by : (f : Open → Bool) (g : Opened → Bool) (kept : Kept) (requests : Requests) → Agrees f g kept requests → (opens : List Open) (os : List Opened) → OpenBy opens kept requests os → list_any g os ≡ list_any f opens
any_by f g kept requests same [] [] h = refl
any_by f g kept requests same (a ∷ rest) (o ∷ os) h = rw (same a o h.0, any_by f g kept requests same rest os h.1) refl
any_by f g kept requests same [] (o ∷ os) h = absurd h
any_by f g kept requests same (a ∷ rest) [] h = absurd h

-- Both searches find the same operation.
abbrev pub SameFound : Kept → Requests → Option Open → Option Opened → Type 0
SameFound kept requests None None = Unit {0}
SameFound kept requests (Some a) (Some o) = SameOpen a kept requests o
SameFound kept requests x y = ⊥

pub find_by : (f : Open → Bool) (g : Opened → Bool) (kept : Kept) (requests : Requests) → Agrees f g kept requests → (opens : List Open) (os : List Opened) → OpenBy opens kept requests os → SameFound kept requests (find f opens) (find g os)
find_by f g kept requests same [] [] h = tt
find_by f g kept requests same (a ∷ rest) (o ∷ os) h = by (f a) (g o) (same a o h.0) (find_by f g kept requests same rest os h.1)
  where
    by : (x y : Bool) → y ≡ x → SameFound kept requests (find f rest) (find g os) → SameFound kept requests (cond x (Some a) (find f rest)) (cond y (Some o) (find g os))
    by true true e found = h.0
    by false false e found = found
    by true false e found = absurd (false≢true e)
    by false true e found = absurd (false≢true (sym e))
find_by f g kept requests same [] (o ∷ os) h = absurd h
find_by f g kept requests same (a ∷ rest) [] h = absurd h

pub empty_by : (kept : Kept) (requests : Requests) (opens : List Open) (os : List Opened) → OpenBy opens kept requests os → is_empty os ≡ is_empty opens
empty_by kept requests [] [] h = refl
empty_by kept requests (a ∷ rest) (o ∷ os) h = refl
empty_by kept requests [] (o ∷ os) h = absurd h
empty_by kept requests (a ∷ rest) [] h = absurd h

pub lists_by : (kept : Kept) (requests : Requests) (name : ℕ) → Agrees (λ a. lists a.request name) (λ o. lists o.request name) kept requests
lists_by kept requests name a o h = ap (λ r. lists r name) (sym h.request)

pub target_by : (kept : Kept) (requests : Requests) (name : ℕ) → Agrees (λ a. is_target a.request name) (λ o. is_target o.request name) kept requests
target_by kept requests name a o h = ap (λ r. is_target r name) (sym h.request)

pub told_is : (kept : Kept) (requests : Requests) → Agrees (told_by kept) (acts.was_told requests kept.name) kept requests
told_is kept requests a o h = h.told

pub undone_is : (kept : Kept) (requests : Requests) → Agrees (undone_by kept) (acts.is_undone requests kept.name) kept requests
undone_is kept requests a o h = by (is_marked requests.told o.number kept.name) refl
  where
    by : (b : Bool) → is_marked requests.told o.number kept.name ≡ b → acts.is_undone requests kept.name o ≡ undone_by kept a
    by true e = let told : was_told a kept ≡ true = sym h.told ∙ e in rw (e, told, h.done e) refl
    by false e = let told : was_told a kept ≡ false = sym h.told ∙ e in rw (e, told) refl

not_le : (n m : ℕ) → not (nat_le n m) ≡ nat_lt m n
not_le n m = grind (arith, nat_tests)

pub uncleared_is : (kept : Kept) (requests : Requests) → Agrees (uncleared_by kept) (acts.is_uncleared requests kept.name) kept requests
uncleared_is kept requests a o h = by (is_marked requests.told o.number kept.name) refl
  where
    by : (b : Bool) → is_marked requests.told o.number kept.name ≡ b → acts.is_uncleared requests kept.name o ≡ uncleared_by kept a
    by true e = let told : was_told a kept ≡ true = sym h.told ∙ e in rw (e, told, h.cleared e, not_le a.number kept.marks.cleared) refl
    by false e = let told : was_told a kept ≡ false = sym h.told ∙ e in rw (e, told) refl

pub awaited_is : (kept : Kept) (requests : Requests) → Agrees (awaited_by kept) (λ o. is_census o.request && not o.operated && is_marked requests.told o.number kept.name) kept requests
awaited_is kept requests a o h = rw (h.told, ← h.request, ← h.operated) refl

-- Finish, Clear and Hold by the system's numbers: first the tests, then the operation found.
abbrev tests : {A : Type 0} → Bool → Bool → Bool → Verdict A → Verdict A
tests empty of told rest = unless not empty refuse NothingOpen then unless of refuse NotOf then unless told refuse NotTold then rest

pub finish_is : (opens : List Open) (kept : Kept) (requests : Requests) (t : Thread) → IsHere opens kept requests t
    → finish requests t ≡ tests (is_empty opens) (list_any (λ a. lists a.request kept.name) opens) (list_any (told_by kept) opens) (in_found AlreadyDone (find (acts.is_undone requests kept.name) requests.opened) (acts.finish_in requests t))
finish_is opens kept requests t here = rw (← here.thread.name, empty_by kept requests opens requests.opened here.opened, any_by (λ a. lists a.request kept.name) (λ o. lists o.request kept.name) kept requests (lists_by kept requests kept.name) opens requests.opened here.opened, any_by (told_by kept) (acts.was_told requests kept.name) kept requests (told_is kept requests) opens requests.opened here.opened) refl

pub clear_is : (opens : List Open) (kept : Kept) (requests : Requests) (t : Thread) → IsHere opens kept requests t
    → acts.clear requests t ≡ tests (is_empty opens) (list_any (λ a. is_target a.request kept.name) opens) (list_any (told_by kept) opens) (in_found AlreadyDone (find (acts.is_uncleared requests kept.name) requests.opened) (acts.clear_in requests t))
clear_is opens kept requests t here = rw (← here.thread.name, empty_by kept requests opens requests.opened here.opened, any_by (λ a. is_target a.request kept.name) (λ o. is_target o.request kept.name) kept requests (target_by kept requests kept.name) opens requests.opened here.opened, any_by (told_by kept) (acts.was_told requests kept.name) kept requests (told_is kept requests) opens requests.opened here.opened) refl

pub empty_length : {A : Type 0} (xs : List A) → (length xs == 0) ≡ is_empty xs
empty_length [] = refl
empty_length (x ∷ xs) = grind (arith, nat_tests)

-- The operation found is done.
pub finish_found : (opens : List Open) (kept : Kept) (requests : Requests) (t : Thread) (a : Open) (settled : Bool) → IsHere opens kept requests t → find (undone_by kept) opens ≡ Some a → is_settled t ≡ settled
    → in_found AlreadyDone (find (acts.is_undone requests kept.name) requests.opened) (acts.finish_in requests t)
    ≡ (unless settled refuse Unpublished then accepted (marks (record requests { done = with_mark requests.done a.number kept.name })) (Reply (reply_to a.request kept.image.frames)))
finish_found opens kept requests t a settled here is well = on (find (undone_by kept) opens) (find (acts.is_undone requests kept.name) requests.opened) (find_by (undone_by kept) (acts.is_undone requests kept.name) kept requests (undone_is kept requests) opens requests.opened here.opened) is
  where
    on : (x : Option Open) (y : Option Opened) → SameFound kept requests x y → x ≡ Some a
        → in_found AlreadyDone y (acts.finish_in requests t) ≡ (unless settled refuse Unpublished then accepted (marks (record requests { done = with_mark requests.done a.number kept.name })) (Reply (reply_to a.request kept.image.frames)))
    on None None same e = cc
    on None (Some o) same e = cc
    on (Some b) None same e = absurd same
    on (Some b) (Some o) same e =
        let it : b ≡ a = cc in
        let number : o.number ≡ a.number = sym same.number ∙ ap (λ (x : Open). x.number) it in
        let request : o.request ≡ a.request = sym same.request ∙ ap (λ (x : Open). x.request) it in
        rw (number, request, well, ← here.thread.name, ← here.thread.image.frames) refl

pub clear_found : (opens : List Open) (kept : Kept) (requests : Requests) (t : Thread) (a : Open) → IsHere opens kept requests t → find (uncleared_by kept) opens ≡ Some a
    → in_found AlreadyDone (find (acts.is_uncleared requests kept.name) requests.opened) (acts.clear_in requests t)
    ≡ (unless is_done a kept refuse NotDone then accepted (marks (record requests { cleared = with_mark requests.cleared a.number kept.name })) Done)
clear_found opens kept requests t a here is = on (find (uncleared_by kept) opens) (find (acts.is_uncleared requests kept.name) requests.opened) refl (find_by (uncleared_by kept) (acts.is_uncleared requests kept.name) kept requests (uncleared_is kept requests) opens requests.opened here.opened) is
  where
    on : (x : Option Open) (y : Option Opened) → find (acts.is_uncleared requests kept.name) requests.opened ≡ y → SameFound kept requests x y → x ≡ Some a
        → in_found AlreadyDone y (acts.clear_in requests t) ≡ (unless is_done a kept refuse NotDone then accepted (marks (record requests { cleared = with_mark requests.cleared a.number kept.name })) Done)
    on None None f same e = cc
    on None (Some o) f same e = cc
    on (Some b) None f same e = absurd same
    on (Some b) (Some o) f same e =
        let it : b ≡ a = cc in
        let number : o.number ≡ a.number = sym same.number ∙ ap (λ (x : Open). x.number) it in
        let told : is_marked requests.told o.number kept.name ≡ true = (both (is_marked requests.told o.number kept.name) (not (is_marked requests.cleared o.number kept.name)) (found_passes (acts.is_uncleared requests kept.name) requests.opened o f)).0 in
        let done : is_marked requests.done a.number kept.name ≡ is_done a kept = subst (λ n. is_marked requests.done n kept.name ≡ is_done a kept) number (same.done told ∙ ap (λ x. is_done x kept) it) in
        rw (number, ← here.thread.name, done) refl

-- Without an operation found, all are done or cleared.
pub finish_none : (opens : List Open) (kept : Kept) (requests : Requests) (t : Thread) → IsHere opens kept requests t → find (undone_by kept) opens ≡ None
    → in_found AlreadyDone (find (acts.is_undone requests kept.name) requests.opened) (acts.finish_in requests t) ≡ refused AlreadyDone
finish_none opens kept requests t here is = on (find (undone_by kept) opens) (find (acts.is_undone requests kept.name) requests.opened) (find_by (undone_by kept) (acts.is_undone requests kept.name) kept requests (undone_is kept requests) opens requests.opened here.opened) is
  where
    on : (x : Option Open) (y : Option Opened) → SameFound kept requests x y → x ≡ None → in_found AlreadyDone y (acts.finish_in requests t) ≡ refused AlreadyDone
    on None None same e = refl
    on None (Some o) same e = absurd same
    on (Some b) y same e = cc

pub clear_none : (opens : List Open) (kept : Kept) (requests : Requests) (t : Thread) → IsHere opens kept requests t → find (uncleared_by kept) opens ≡ None
    → in_found AlreadyDone (find (acts.is_uncleared requests kept.name) requests.opened) (acts.clear_in requests t) ≡ refused AlreadyDone
clear_none opens kept requests t here is = on (find (uncleared_by kept) opens) (find (acts.is_uncleared requests kept.name) requests.opened) (find_by (uncleared_by kept) (acts.is_uncleared requests kept.name) kept requests (uncleared_is kept requests) opens requests.opened here.opened) is
  where
    on : (x : Option Open) (y : Option Opened) → SameFound kept requests x y → x ≡ None → in_found AlreadyDone y (acts.clear_in requests t) ≡ refused AlreadyDone
    on None None same e = refl
    on None (Some o) same e = absurd same
    on (Some b) y same e = cc

pub hold_is : (opens : List Open) (kept : Kept) (requests : Requests) (t : Thread) → IsHere opens kept requests t
    → acts.hold requests t ≡ tests (is_empty opens) (list_any (λ a. is_target a.request kept.name) opens) (list_any (told_by kept) opens)
    (unless list_any (uncleared_by kept) opens refuse AlreadyDone then unless not kept.held refuse Held then unless is_safe kept.state refuse NotSafe then accepted (becomes (record t { held = true })) Done)
hold_is opens kept requests t here = rw (
  ← here.thread.name,
  ← here.thread.held,
  ← here.thread.state,
  empty_by kept requests opens requests.opened here.opened,
  any_by (λ a. is_target a.request kept.name) (λ o. is_target o.request kept.name) kept requests (target_by kept requests kept.name) opens requests.opened here.opened,
  any_by (told_by kept) (acts.was_told requests kept.name) kept requests (told_is kept requests) opens requests.opened here.opened,
  any_by (uncleared_by kept) (acts.is_uncleared requests kept.name) kept requests (uncleared_is kept requests) opens requests.opened here.opened,
) refl

-- A Take is refused while a census is pending for the thread.
pub awaits_is : (opens : List Open) (kept : Kept) (requests : Requests) (t : Thread) → IsHere opens kept requests t → awaits_census requests t.name ≡ list_any (awaited_by kept) opens
awaits_is opens kept requests t here = rw (← here.thread.name) (any_by (awaited_by kept) (λ o. is_census o.request && not o.operated && is_marked requests.told o.number kept.name) kept requests (awaited_is kept requests) opens requests.opened here.opened)

pub take_goes : (w : World) (t : Thread) → t.held ≡ false → awaits_census w.requests t.name ≡ false → acts.does w TheActs.Take t ≡ acts.move_by t move.Take
take_goes w t free none = rw (free, none) refl

pub take_waits : (w : World) (t : Thread) → t.held ≡ false → awaits_census w.requests t.name ≡ true → acts.does w TheActs.Take t ≡ refused NotDone
take_waits w t free some = rw (free, some) refl

-- Without a pending operation, the tests decide the refusal.
idle_is : {A : Type 0} (empty of told : Bool) (rest : Verdict A) → rest ≡ refused AlreadyDone → tests empty of told rest ≡ refused (idle_refusal empty of told)
idle_is true of told rest is = refl
idle_is false false told rest is = refl
idle_is false true false rest is = refl
idle_is false true true rest is = is

pub finish_idle : (opens : List Open) (kept : Kept) (requests : Requests) (t : Thread) → IsHere opens kept requests t → find (undone_by kept) opens ≡ None
    → finish requests t ≡ refused (idle_refusal (is_empty opens) (list_any (λ a. lists a.request kept.name) opens) (list_any (told_by kept) opens))
finish_idle opens kept requests t here none = finish_is opens kept requests t here ∙ idle_is (is_empty opens) (list_any (λ a. lists a.request kept.name) opens) (list_any (told_by kept) opens) (in_found AlreadyDone (find (acts.is_undone requests kept.name) requests.opened) (acts.finish_in requests t)) (finish_none opens kept requests t here none)

pub clear_idle : (opens : List Open) (kept : Kept) (requests : Requests) (t : Thread) → IsHere opens kept requests t → find (uncleared_by kept) opens ≡ None
    → acts.clear requests t ≡ refused (idle_refusal (is_empty opens) (list_any (λ a. is_target a.request kept.name) opens) (list_any (told_by kept) opens))
clear_idle opens kept requests t here none = clear_is opens kept requests t here ∙ idle_is (is_empty opens) (list_any (λ a. is_target a.request kept.name) opens) (list_any (told_by kept) opens) (in_found AlreadyDone (find (acts.is_uncleared requests kept.name) requests.opened) (acts.clear_in requests t)) (clear_none opens kept requests t here none)

pub hold_idle : (opens : List Open) (kept : Kept) (requests : Requests) (t : Thread) → IsHere opens kept requests t → list_any (uncleared_by kept) opens ≡ false
    → acts.hold requests t ≡ refused (idle_refusal (is_empty opens) (list_any (λ a. is_target a.request kept.name) opens) (list_any (told_by kept) opens))
hold_idle opens kept requests t here none = hold_is opens kept requests t here ∙ idle_is (is_empty opens) (list_any (λ a. is_target a.request kept.name) opens) (list_any (told_by kept) opens)
    (unless list_any (uncleared_by kept) opens refuse AlreadyDone then unless not kept.held refuse Held then unless is_safe kept.state refuse NotSafe then accepted (becomes (record t { held = true })) Done) (rw none refl)

-- A pending operation was told; an operation that was told is open and has the thread as a target.
told_pair : (kept : Kept) (requests : Requests) (a : Open) (o : Opened) → SameOpen a kept requests o → told_by kept a ≡ true → is_target a.request kept.name ≡ true
told_pair kept requests a o h told = h.target (h.told ∙ told)

or_later : (x y : Bool) → y ≡ true → x || y ≡ true
or_later true y e = refl
or_later false y e = e

pub any_found : (f : Open → Bool) (opens : List Open) (a : Open) → find f opens ≡ Some a → list_any f opens ≡ true
any_found f [] a is = cc
any_found f (b ∷ opens) a is = by (f b) is (any_found f opens a)
  where
    by : (c : Bool) → cond c (Some b) (find f opens) ≡ Some a → (find f opens ≡ Some a → list_any f opens ≡ true) → c || list_any f opens ≡ true
    by true k rest = refl
    by false k rest = rest k

-- All three tests pass.
pub record Waits (kept : Kept) (opens : List Open) : Type 0 where
  pub some : is_empty opens ≡ false
  pub target : list_any (λ a. is_target a.request kept.name) opens ≡ true
  pub told : list_any (told_by kept) opens ≡ true

pub waits_of : (f : Open → Bool) (kept : Kept) (requests : Requests) → ((a : Open) → f a ≡ true → told_by kept a ≡ true) → (opens : List Open) (os : List Opened) → OpenBy opens kept requests os → list_any f opens ≡ true → Waits kept opens
waits_of f kept requests was [] [] h any = absurd (false≢true any)
waits_of f kept requests was [] (o ∷ os) h any = absurd h
waits_of f kept requests was (a ∷ opens) [] h any = absurd h
waits_of f kept requests was (a ∷ opens) (o ∷ os) h any = by (f a) refl any (waits_of f kept requests was opens os h.1)
  where
    by : (b : Bool) → f a ≡ b → b || list_any f opens ≡ true → (list_any f opens ≡ true → Waits kept opens) → Waits kept (a ∷ opens)
    by true e k rest = (let told = was a e in let target = told_pair kept requests a o h.0 told in record { some = refl; target = rw target refl; told = rw told refl })
    by false e k rest = (let r = rest k in record { some = refl; target = or_later (is_target a.request kept.name) (list_any (λ x. is_target x.request kept.name) opens) r.target; told = or_later (told_by kept a) (list_any (told_by kept) opens) r.told })

pub undone_waits : (opens : List Open) (kept : Kept) (requests : Requests) (t : Thread) (a : Open) → IsHere opens kept requests t → find (undone_by kept) opens ≡ Some a → Waits kept opens
undone_waits opens kept requests t a here is = waits_of (undone_by kept) kept requests (λ b e. (both (was_told b kept) (not (is_done b kept)) e).0) opens requests.opened here.opened (any_found (undone_by kept) opens a is)

pub uncleared_waits : (opens : List Open) (kept : Kept) (requests : Requests) (t : Thread) → IsHere opens kept requests t → list_any (uncleared_by kept) opens ≡ true → Waits kept opens
uncleared_waits opens kept requests t here any = waits_of (uncleared_by kept) kept requests (λ b e. (both (was_told b kept) (nat_lt kept.marks.cleared b.number) e).0) opens requests.opened here.opened any

-- An undone handshake lists the thread.
listed_of : (kept : Kept) (requests : Requests) (opens : List Open) (os : List Opened) (a : Open) → OpenBy opens kept requests os → find (undone_by kept) opens ≡ Some a → is_census a.request ≡ false → list_any (λ x. lists x.request kept.name) opens ≡ true
listed_of kept requests [] [] a h is handshake = cc
listed_of kept requests [] (o ∷ os) a h is handshake = absurd h
listed_of kept requests (b ∷ opens) [] a h is handshake = absurd h
listed_of kept requests (b ∷ opens) (o ∷ os) a h is handshake = by (undone_by kept b) refl is (λ rest. listed_of kept requests opens os a h.1 rest handshake)
  where
    lists_of : (r : Request) → is_census r ≡ false → is_target r kept.name ≡ true → lists r kept.name ≡ true
    lists_of (Handshake targets ask) e k = k
    lists_of Census e k = cc

    by : (c : Bool) → undone_by kept b ≡ c → cond c (Some b) (find (undone_by kept) opens) ≡ Some a → (find (undone_by kept) opens ≡ Some a → list_any (λ x. lists x.request kept.name) opens ≡ true) → lists b.request kept.name || list_any (λ x. lists x.request kept.name) opens ≡ true
    by true e k rest =
        let same : b ≡ a = cc in
        let told : told_by kept b ≡ true = (both (was_told b kept) (not (is_done b kept)) e).0 in
        let here = lists_of b.request (ap (λ (x : Open). is_census x.request) same ∙ handshake) (told_pair kept requests b o h.0 told) in
        rw here refl
    by false e k rest = or_later (lists b.request kept.name) (list_any (λ x. lists x.request kept.name) opens) (rest k)

pub asked_is : (opens : List Open) (kept : Kept) (requests : Requests) (t : Thread) (a : Open) → IsHere opens kept requests t → find (undone_by kept) opens ≡ Some a → list_any (λ x. lists x.request kept.name) opens ≡ is_asked kept a opens
asked_is opens kept requests t a here is = by (is_census a.request) refl
  where
    by : (b : Bool) → is_census a.request ≡ b → list_any (λ x. lists x.request kept.name) opens ≡ is_asked kept a opens
    by true e = rw e refl
    by false e = rw (e, listed_of kept requests opens requests.opened a here.opened is e) refl

pub hold_passed : (opens : List Open) (kept : Kept) (requests : Requests) (t : Thread) → IsHere opens kept requests t → is_empty opens ≡ false → list_any (λ a. is_target a.request kept.name) opens ≡ true → list_any (told_by kept) opens ≡ true
    → list_any (uncleared_by kept) opens ≡ true → kept.held ≡ false → is_safe kept.state ≡ true → acts.hold requests t ≡ accepted (becomes (record t { held = true })) Done
hold_passed opens kept requests t here some target told uncleared free safe = hold_is opens kept requests t here ∙ rw (some, target, told, uncleared, free, safe) refl
