-- Each event is one of the cases.
use Rattle.std.proofs.Common.{◌≡◌, ◌⊎◌, ℕ, suc, ◌+◌, ◌<◌, Bool, true, false, cond, List, [], ◌∷◌, ◌++◌, length, Option, Some, None, sym, refl, ap, inl, inr, subst, arith}
use Rattle.std.specs.Prelude.{not, ◌||◌, ◌&&◌, ◌==◌, is_some, is_none, nat_lt, nat_le, slice_get, slice_set, option_map, find, filter}
use Rattle.std.specs.List.{list_any}
use Rattle.std.proofs.lemmas.Bool.{false≢true, and_parts, not-true, ltb-true, leb-true, eqb-true, eqb-false}
use Rattle.std.proofs.lemmas.Option.{slice_get_within}
use Rattle.frames.specs.declared.CodeId.{CodeId}
use Rattle.thread_state.specs.declared.State.{State}
use Rattle.thread_state.specs.declared.State.TheVariants.{Vacant, New, InJava, InVm, InNative, Blocked, NewTrans, NativeTrans, BlockedTrans, AtPoll, Serving}
use Rattle.thread_state.specs.declared.Move.{Move}
use Rattle.thread_state.specs.declared.Move.TheVariants as move
use Rattle.method_table.specs.declared.Code.{Code}
use Rattle.method_table.specs.declared.CodeState.{CodeState}
use Rattle.method_table.specs.declared.CodeState.TheVariants.{InUse, NotEntrant, Zombie, Freed}
use Rattle.system.specs.declared.events.Act.{Act}
use Rattle.system.specs.declared.events.Act.TheVariants as act
use Rattle.system.specs.declared.events.Event.{Event}
use Rattle.system.specs.declared.events.Event.TheVariants as event
use Rattle.system.specs.declared.answers.Answer.{Answer}
use Rattle.system.specs.declared.answers.Answer.TheVariants as answer
use Rattle.system.specs.declared.answers.Refusal.{Refusal}
use Rattle.system.specs.declared.answers.Refusal.TheVariants as refusal
use Rattle.system.specs.Verdict.{Verdict, refused, accepted, unless◌refuse◌then◌}
use Rattle.thread_state.specs.States.{step, cross, is_safe, may_cross, is_in_java, is_in_vm}
use Rattle.method_table.specs.Numbers.{last_number}
use Rattle.method_table.specs.Codes.{id_of, is_in_use, is_not_entrant, is_zombie, takes_slot, code_of, unfreed, in_use_for, free_slot, next_serial, with_code, with_state, without_use}
use Rattle.operations.specs.Names.{is_empty}
use Rattle.operations.specs.Requests.{is_census, lists, is_target, has_targets, are_targets, reply_to}
use Rattle.system.specs.Threads.{Thread, is_publishing, next_change, is_settled}
use Rattle.system.specs.Operations.{Waiting, Opened, is_marked, with_mark, poll_of, awaits_census, is_safepoint}
use Rattle.system.specs.Log.{names_given, operations_given, moment}
use Rattle.system.specs.World.{World, is_live_target, vacant_place, walk, covered, census}
use Rattle.system.specs.Places.{Effect, becomes, leaves, marks, does, is_lawful, may_while_publishing, to_state, move_by, crosses, polls, changes, pushed, enters, calls, is_known, popped, was_told, is_undone, is_uncleared, in_found, finish_in, clear_in, in_open, go_or_stop}
use Rattle.system.specs.Step.{lands, at, new_thread, start_at, start, install_in, install, of_code, invalidate, clear_or_late, look, unlooked, weigh_all, weigh, free, open_oldest, awaits_safepoint, may_open, may_tell, tell_in, tell_oldest, all_threads, operate, is_over, close, count, code_or_none}
use Rattle.system.specs.Runs.{replaced, world_of, answer_of, after, answer_to}
use Rattle.system.proofs.Outcomes.{coded, with_request, with_operated, without_opened, Opens, Stands, Acts, is_move, move_of, IsCode, Calls}
use Rattle.system.proofs.EventCases.{Cases}
use Rattle.system.proofs.Lists.{found_passes, find_place, any_at, filter_at}

-- A chain of tests: the first that fails refuses the event.
chain1 : {A : Type 0} (Q : Verdict A → Type 0) → ((r : Refusal) → Q (refused r)) → (a : Bool) (r : Refusal) (v : Verdict A) → (a ≡ true → Q v) → Q (unless a refuse r then v)
chain1 Q stop true r v h = h refl
chain1 Q stop false r v h = stop r

chain2 : {A : Type 0} (Q : Verdict A → Type 0) → ((r : Refusal) → Q (refused r)) → (a : Bool) (r : Refusal) (b : Bool) (s : Refusal) (v : Verdict A) → (a ≡ true → b ≡ true → Q v) → Q (unless a refuse r then unless b refuse s then v)
chain2 Q stop true r true s v h = h refl refl
chain2 Q stop true r false s v h = stop s
chain2 Q stop false r b s v h = stop r

chain3 : {A : Type 0} (Q : Verdict A → Type 0) → ((r : Refusal) → Q (refused r)) → (a : Bool) (r : Refusal) (b : Bool) (s : Refusal) (c : Bool) (u : Refusal) (v : Verdict A) → (a ≡ true → b ≡ true → c ≡ true → Q v)
    → Q (unless a refuse r then unless b refuse s then unless c refuse u then v)
chain3 Q stop true r b s c u v h = chain2 Q stop b s c u v (h refl)
chain3 Q stop false r b s c u v h = stop r

chain4 : {A : Type 0} (Q : Verdict A → Type 0) → ((r : Refusal) → Q (refused r)) → (a : Bool) (r : Refusal) (b : Bool) (s : Refusal) (c : Bool) (u : Refusal) (d : Bool) (x : Refusal) (v : Verdict A)
    → (a ≡ true → b ≡ true → c ≡ true → d ≡ true → Q v) → Q (unless a refuse r then unless b refuse s then unless c refuse u then unless d refuse x then v)
chain4 Q stop true r b s c u d x v h = chain3 Q stop b s c u d x v (h refl)
chain4 Q stop false r b s c u d x v h = stop r

chain5 : {A : Type 0} (Q : Verdict A → Type 0) → ((r : Refusal) → Q (refused r)) → (a : Bool) (r : Refusal) (b : Bool) (s : Refusal) (c : Bool) (u : Refusal) (d : Bool) (x : Refusal) (e : Bool) (y : Refusal) (v : Verdict A)
    → (a ≡ true → b ≡ true → c ≡ true → d ≡ true → e ≡ true → Q v) → Q (unless a refuse r then unless b refuse s then unless c refuse u then unless d refuse x then unless e refuse y then v)
chain5 Q stop true r b s c u d x e y v h = chain4 Q stop b s c u d x e y v (h refl)
chain5 Q stop false r b s c u d x e y v h = stop r

either_way : {A : Type 0} (Q : Verdict A → Type 0) (b : Bool) (v u : Verdict A) → (b ≡ true → Q v) → (b ≡ false → Q u) → Q (cond b v u)
either_way Q true v u h k = h refl
either_way Q false v u h k = k refl

-- Facts from passed tests.
quiet_of : (x y : Bool) → (not x || y) ≡ true → y ≡ false → x ≡ false
quiet_of true true h k = k
quiet_of true false h k = absurd (false≢true h)
quiet_of false y h k = refl

none_of : {A : Type 0} (o : Option A) → is_none o ≡ true → o ≡ None
none_of None h = refl
none_of (Some x) h = absurd (false≢true h)

used_of : (s : CodeState) → is_in_use s ≡ true → s ≡ InUse
used_of InUse h = refl
used_of NotEntrant h = absurd (false≢true h)
used_of Zombie h = absurd (false≢true h)
used_of Freed h = absurd (false≢true h)

not_entrant_of : (s : CodeState) → is_not_entrant s ≡ true → s ≡ NotEntrant
not_entrant_of NotEntrant h = refl
not_entrant_of InUse h = absurd (false≢true h)
not_entrant_of Zombie h = absurd (false≢true h)
not_entrant_of Freed h = absurd (false≢true h)

zombie_of : (s : CodeState) → is_zombie s ≡ true → s ≡ Zombie
zombie_of Zombie h = refl
zombie_of NotEntrant h = absurd (false≢true h)
zombie_of InUse h = absurd (false≢true h)
zombie_of Freed h = absurd (false≢true h)

pub empty_of : {A : Type 0} (xs : List A) → is_empty xs ≡ true → xs ≡ []
empty_of [] h = refl
empty_of (x ∷ xs) h = absurd (false≢true h)

-- The states in which these acts are lawful aren't safe.
java_unsafe : (s : State) → is_in_java s ≡ true → is_safe s ≡ false
java_unsafe Vacant e = refl
java_unsafe New e = absurd (false≢true e)
java_unsafe InJava e = refl
java_unsafe InVm e = refl
java_unsafe (InNative b) e = absurd (false≢true e)
java_unsafe Blocked e = absurd (false≢true e)
java_unsafe NewTrans e = refl
java_unsafe (NativeTrans b) e = refl
java_unsafe BlockedTrans e = refl
java_unsafe (AtPoll b) e = absurd (false≢true e)
java_unsafe (Serving b) e = refl

vm_unsafe : (s : State) → is_in_vm s ≡ true → is_safe s ≡ false
vm_unsafe Vacant e = refl
vm_unsafe New e = absurd (false≢true e)
vm_unsafe InJava e = refl
vm_unsafe InVm e = refl
vm_unsafe (InNative b) e = absurd (false≢true e)
vm_unsafe Blocked e = absurd (false≢true e)
vm_unsafe NewTrans e = refl
vm_unsafe (NativeTrans b) e = refl
vm_unsafe BlockedTrans e = refl
vm_unsafe (AtPoll b) e = absurd (false≢true e)
vm_unsafe (Serving b) e = refl

cross_unsafe : (s : State) → may_cross s ≡ true → is_safe s ≡ false
cross_unsafe Vacant e = refl
cross_unsafe New e = absurd (false≢true e)
cross_unsafe InJava e = refl
cross_unsafe InVm e = refl
cross_unsafe (InNative b) e = absurd (false≢true e)
cross_unsafe Blocked e = absurd (false≢true e)
cross_unsafe NewTrans e = refl
cross_unsafe (NativeTrans b) e = refl
cross_unsafe BlockedTrans e = refl
cross_unsafe (AtPoll b) e = absurd (false≢true e)
cross_unsafe (Serving b) e = refl

tovm_unsafe : (s : State) → is_some (step s move.ToVm) ≡ true → is_safe s ≡ false
tovm_unsafe Vacant e = refl
tovm_unsafe New e = absurd (false≢true e)
tovm_unsafe InJava e = refl
tovm_unsafe InVm e = refl
tovm_unsafe (InNative b) e = absurd (false≢true e)
tovm_unsafe Blocked e = absurd (false≢true e)
tovm_unsafe NewTrans e = refl
tovm_unsafe (NativeTrans b) e = refl
tovm_unsafe BlockedTrans e = refl
tovm_unsafe (AtPoll b) e = absurd (false≢true e)
tovm_unsafe (Serving b) e = refl

tonative_unsafe : (s : State) → is_some (step s move.ToNative) ≡ true → is_safe s ≡ false
tonative_unsafe Vacant e = refl
tonative_unsafe New e = absurd (false≢true e)
tonative_unsafe InJava e = refl
tonative_unsafe InVm e = refl
tonative_unsafe (InNative b) e = absurd (false≢true e)
tonative_unsafe Blocked e = absurd (false≢true e)
tonative_unsafe NewTrans e = refl
tonative_unsafe (NativeTrans b) e = refl
tonative_unsafe BlockedTrans e = refl
tonative_unsafe (AtPoll b) e = absurd (false≢true e)
tonative_unsafe (Serving b) e = refl

block_unsafe : (s : State) → is_some (step s move.Block) ≡ true → is_safe s ≡ false
block_unsafe Vacant e = refl
block_unsafe New e = absurd (false≢true e)
block_unsafe InJava e = refl
block_unsafe InVm e = refl
block_unsafe (InNative b) e = absurd (false≢true e)
block_unsafe Blocked e = absurd (false≢true e)
block_unsafe NewTrans e = refl
block_unsafe (NativeTrans b) e = refl
block_unsafe BlockedTrans e = refl
block_unsafe (AtPoll b) e = absurd (false≢true e)
block_unsafe (Serving b) e = refl

-- P holds of a verdict, or of the verdict of an act at a place.
abbrev Comes : World → (Event → Answer → World → Type 0) → Event → Verdict World → Type 0
Comes w P e v = P e (answer_of v) (world_of w e v)

abbrev Lands : World → (Event → Answer → World → Type 0) → ℕ → Act → Verdict Effect → Type 0
Lands w P p a v = Comes w P (event.At p a) (lands w p v)

-- An act that changes only the state.
goes_by_move : (w : World) (P : Event → Answer → World → Type 0) → Cases w P → (p : ℕ) (a : Act) (t : Thread) (m : Move) → Acts w p t a → is_move a ≡ true → move_of a ≡ Some m → (t.held ≡ false) ⊎ (is_safe t.state ≡ false)
    → Lands w P p a (move_by t m)
goes_by_move w P c p a t m acts is by free = on (step t.state m) refl
  where
    on : (o : Option State) → step t.state m ≡ o → Lands w P p a (to_state t o)
    on None e = c.refuses (event.At p a) (refusal.Illegal t.state)
    on (Some s) e = c.moves p t a s answer.Done (record { acts = acts; is = is; free = free; way = inl (record { by = m; is = by; goes = e; done = refl }) })

goes_by_poll : (w : World) (P : Event → Answer → World → Type 0) → Cases w P → (p : ℕ) (a : Act) (t : Thread) → Acts w p t a → is_move a ≡ true → is_safe t.state ≡ false → Lands w P p a (polls w.requests t)
goes_by_poll w P c p a t acts is unsafe = on (cross t.state (is_none (poll_of w.requests t.name))) refl
  where
    on : (o : Option State) → cross t.state (is_none (poll_of w.requests t.name)) ≡ o → Lands w P p a (crosses t (poll_of w.requests t.name) o)
    on None e = c.refuses (event.At p a) (refusal.Illegal t.state)
    on (Some s) e = c.moves p t a s (go_or_stop (poll_of w.requests t.name)) (record { acts = acts; is = is; free = inr unsafe; way = inr (record { goes = e; says = refl }) })

leaves_by_poll : (w : World) (P : Event → Answer → World → Type 0) → Cases w P → (p : ℕ) (t : Thread) → Acts w p t act.Leave → is_empty t.stack ≡ false → is_safe t.state ≡ false → Lands w P p act.Leave (polls w.requests (popped t))
leaves_by_poll w P c p t acts some unsafe = on (cross t.state (is_none (poll_of w.requests t.name))) refl
  where
    on : (o : Option State) → cross t.state (is_none (poll_of w.requests t.name)) ≡ o → Lands w P p act.Leave (crosses (popped t) (poll_of w.requests t.name) o)
    on None e = c.refuses (event.At p act.Leave) (refusal.Illegal t.state)
    on (Some s) e = c.leaves p t s (record { acts = acts; some = some; goes = e; unsafe = unsafe })

-- A call after its tests.
calls_case : (w : World) (P : Event → Answer → World → Type 0) → Cases w P → (p : ℕ) (t : Thread) (method : ℕ) (serial : Option ℕ) → Calls w p t method serial → Lands w P p (act.Enter method serial) (calls w.codes t method serial)
calls_case w P c p t method None h = c.interprets p t method h
calls_case w P c p t method (Some serial) h = on (code_of w.codes serial) refl
  where
    entry : Act
    entry = act.Enter method (Some serial)

    on : (o : Option Code) → code_of w.codes serial ≡ o → Lands w P p (act.Enter method (Some serial)) (enters t method o)
    on None e = c.refuses (event.At p (act.Enter method (Some serial))) refusal.Unknown
    on (Some code) e =
        let serial_is : code.serial ≡ serial = eqb-true code.serial serial (found_passes (λ (x : Code). x.serial == serial) w.codes code e) in
        either_way (Lands w P p (act.Enter method (Some serial))) (is_in_use code.state) (unless code.method == method refuse refusal.NotOf then pushed t method (Some (id_of code))) (accepted (becomes t) answer.WrongMethod)
        (λ used. chain1 (Lands w P p (act.Enter method (Some serial))) (c.refuses (event.At p (act.Enter method (Some serial)))) (code.method == method) refusal.NotOf (pushed t method (Some (id_of code)))
        (λ same. c.enters p t method serial code (record { calls = h; code_is = e; serial_is = serial_is; in_use = used_of code.state used; method_is = eqb-true code.method method same })))
        (λ unused. c.misses p t method serial code (record { calls = h; code_is = e; serial_is = serial_is; not_in_use = unused }))

-- An act of the oldest open operation.
opened_case : (w : World) {A : Type 0} (Q : Verdict A → Type 0) → Q (refused refusal.NothingOpen) → (work : Opened → Verdict A) → ((opened : Opened) (others : List Opened) → w.requests.opened ≡ opened ∷ others → Q (work opened)) → Q (in_open w.requests.opened work)
opened_case w Q stop work h = on w.requests.opened refl
  where
    on : (os : List Opened) → w.requests.opened ≡ os → Q (in_open os work)
    on [] e = stop
    on (o ∷ os) e = h o os e

-- An act of the oldest operation that passes, if any.
found_case : (w : World) {A : Type 0} (Q : Verdict A → Type 0) (r : Refusal) → Q (refused r) → (test : Opened → Bool) (os : List Opened) (work : Opened → Verdict A)
    → ((o : Opened) → find test os ≡ Some o → ((i : ℕ) × (slice_get os i ≡ Some o)) → Q (work o)) → Q (in_found r (find test os) work)
found_case w Q r stop test os work h = on (find test os) refl
  where
    on : (o : Option Opened) → find test os ≡ o → Q (in_found r o work)
    on None e = stop
    on (Some o) e = h o e (find_place test os o e)

-- Each act.
acts_of : (w : World) (p : ℕ) (t : Thread) (a : Act) → Stands w p t → (not (is_publishing t) || may_while_publishing a) ≡ true → is_lawful a t ≡ true → may_while_publishing a ≡ false → Acts w p t a
acts_of w p t a s q l stop = record { stands = s; quiet = quiet_of (is_publishing t) (may_while_publishing a) q stop; lawful = l }

does_case : (w : World) (P : Event → Answer → World → Type 0) → Cases w P → (p : ℕ) (t : Thread) (a : Act) → Stands w p t → (not (is_publishing t) || may_while_publishing a) ≡ true → is_lawful a t ≡ true → Lands w P p a (does w a t)
does_case w P c p t act.Begin s q l = c.begins p t (acts_of w p t act.Begin s q l refl)
does_case w P c p t act.Change s q l = chain1 (Lands w P p act.Change) (c.refuses (event.At p act.Change)) (is_publishing t) refusal.NotBegun (changes t (next_change t)) (λ b. on b (next_change t) refl)
  where
    on : is_publishing t ≡ true → (o : Option CodeId) → next_change t ≡ o → Lands w P p act.Change (changes t o)
    on b None e = c.rests p t (record { publishes = record { stands = s; publishing = b }; none = e })
    on b (Some code) e = c.changes p t code (record { publishes = record { stands = s; publishing = b }; next = e })
does_case w P c p t act.End s q l = chain2 (Lands w P p act.End) (c.refuses (event.At p act.End)) (is_publishing t) refusal.NotBegun (is_none (next_change t)) refusal.ChangesLeft
    (accepted (becomes (record t { shown = t.stack; published = true; changed = None })) answer.Done)
    (λ b n. c.ends p t (record { publishes = record { stands = s; publishing = b }; none = none_of (next_change t) n }))
does_case w P c p t act.Wake s q l = chain1 (Lands w P p act.Wake) (c.refuses (event.At p act.Wake)) (not t.held) refusal.Held (move_by t move.Wake)
    (λ h. goes_by_move w P c p act.Wake t move.Wake (acts_of w p t act.Wake s q l refl) refl refl (inl (not-true t.held h)))
does_case w P c p t act.Cross s q l = goes_by_poll w P c p act.Cross t (acts_of w p t act.Cross s q l refl) refl (cross_unsafe t.state l)
does_case w P c p t (act.Enter method serial) s q l =
    chain4 (Lands w P p (act.Enter method serial)) (c.refuses (event.At p (act.Enter method serial))) (nat_lt method w.methods) refusal.NoSuchMethod (is_known w.codes serial) refusal.Unknown
    t.published refusal.Unpublished (nat_lt (length t.stack) 256) refusal.DepthFull (calls w.codes t method serial)
    (λ low known published room. calls_case w P c p t method serial (record { acts = acts_of w p t (act.Enter method serial) s q l refl; low_method = ltb-true method w.methods low; published = published; room = ltb-true (length t.stack) 256 room }))
does_case w P c p t act.Leave s q l = chain1 (Lands w P p act.Leave) (c.refuses (event.At p act.Leave)) (not (is_empty t.stack)) refusal.EmptyStack (polls w.requests (popped t))
    (λ some. leaves_by_poll w P c p t (acts_of w p t act.Leave s q l refl) (not-true (is_empty t.stack) some) (java_unsafe t.state l))
does_case w P c p t act.Edge s q l = goes_by_poll w P c p act.Edge t (acts_of w p t act.Edge s q l refl) refl (java_unsafe t.state l)
does_case w P c p t act.ToVm s q l = goes_by_move w P c p act.ToVm t move.ToVm (acts_of w p t act.ToVm s q l refl) refl refl (inr (tovm_unsafe t.state l))
does_case w P c p t act.FromVm s q l = goes_by_poll w P c p act.FromVm t (acts_of w p t act.FromVm s q l refl) refl (vm_unsafe t.state l)
does_case w P c p t act.ToNative s q l = goes_by_move w P c p act.ToNative t move.ToNative (acts_of w p t act.ToNative s q l refl) refl refl (inr (tonative_unsafe t.state l))
does_case w P c p t act.Block s q l = goes_by_move w P c p act.Block t move.Block (acts_of w p t act.Block s q l refl) refl refl (inr (block_unsafe t.state l))
does_case w P c p t act.Exit s q l = chain3 (Lands w P p act.Exit) (c.refuses (event.At p act.Exit)) (is_empty t.stack) refusal.StackNotEmpty (is_settled t) refusal.Unpublished (is_none (poll_of w.requests t.name)) refusal.OperationPending
    (accepted leaves (answer.Exited t.name))
    (λ e z n. c.exits p t (record { acts = acts_of w p t act.Exit s q l refl; empty = e; settled = z; nothing_told = none_of (poll_of w.requests t.name) n }))
does_case w P c p t act.Take s q l = chain2 (Lands w P p act.Take) (c.refuses (event.At p act.Take)) (not t.held) refusal.Held (not (awaits_census w.requests t.name)) refusal.NotDone (move_by t move.Take)
    (λ h k. goes_by_move w P c p act.Take t move.Take (acts_of w p t act.Take s q l refl) refl refl (inl (not-true t.held h)))
does_case w P c p t act.Finish s q l =
    chain3 (Lands w P p act.Finish) (c.refuses (event.At p act.Finish)) (not (is_empty w.requests.opened)) refusal.NothingOpen (list_any (λ o. lists o.request t.name) w.requests.opened) refusal.NotOf
    (list_any (was_told w.requests t.name) w.requests.opened) refusal.NotTold (in_found refusal.AlreadyDone (find (is_undone w.requests t.name) w.requests.opened) (finish_in w.requests t))
    (λ some listed told. found_case w (Lands w P p act.Finish) refusal.AlreadyDone (c.refuses (event.At p act.Finish) refusal.AlreadyDone) (is_undone w.requests t.name) w.requests.opened (finish_in w.requests t) (λ o e at.
    chain1 (Lands w P p act.Finish) (c.refuses (event.At p act.Finish)) (is_settled t) refusal.Unpublished
    (accepted (marks (record w.requests { done = with_mark w.requests.done o.number t.name })) (answer.Reply (reply_to o.request t.stack)))
    (λ settled. (let both = and_parts (is_marked w.requests.told o.number t.name) (not (is_marked w.requests.done o.number t.name)) (found_passes (is_undone w.requests t.name) w.requests.opened o e) in
    c.finishes p t o (record { acts = acts_of w p t act.Finish s q l refl; listed = listed; least = e; open_is = record { position = at.0; here = at.1 }; told = both.0; not_done = not-true (is_marked w.requests.done o.number t.name) both.1; settled = settled })))))
does_case w P c p t act.Clear s q l =
    chain3 (Lands w P p act.Clear) (c.refuses (event.At p act.Clear)) (not (is_empty w.requests.opened)) refusal.NothingOpen (list_any (λ o. is_target o.request t.name) w.requests.opened) refusal.NotOf
    (list_any (was_told w.requests t.name) w.requests.opened) refusal.NotTold (in_found refusal.AlreadyDone (find (is_uncleared w.requests t.name) w.requests.opened) (clear_in w.requests t))
    (λ some target told. found_case w (Lands w P p act.Clear) refusal.AlreadyDone (c.refuses (event.At p act.Clear) refusal.AlreadyDone) (is_uncleared w.requests t.name) w.requests.opened (clear_in w.requests t) (λ o e at.
    chain1 (Lands w P p act.Clear) (c.refuses (event.At p act.Clear)) (is_marked w.requests.done o.number t.name) refusal.NotDone
    (accepted (marks (record w.requests { cleared = with_mark w.requests.cleared o.number t.name })) answer.Done)
    (λ done. (let both = and_parts (is_marked w.requests.told o.number t.name) (not (is_marked w.requests.cleared o.number t.name)) (found_passes (is_uncleared w.requests t.name) w.requests.opened o e) in
    c.clears p t o (record { acts = acts_of w p t act.Clear s q l refl; least = e; open_is = record { position = at.0; here = at.1 }; told = both.0; done = done; not_cleared = not-true (is_marked w.requests.cleared o.number t.name) both.1 })))))
does_case w P c p t act.Hold s q l =
    chain4 (Lands w P p act.Hold) (c.refuses (event.At p act.Hold)) (not (is_empty w.requests.opened)) refusal.NothingOpen (list_any (λ o. is_target o.request t.name) w.requests.opened) refusal.NotOf
    (list_any (was_told w.requests t.name) w.requests.opened) refusal.NotTold (list_any (is_uncleared w.requests t.name) w.requests.opened) refusal.AlreadyDone
    (unless not t.held refuse refusal.Held then unless is_safe t.state refuse refusal.NotSafe then accepted (becomes (record t { held = true })) answer.Done)
    (λ some target told uncleared. chain2 (Lands w P p act.Hold) (c.refuses (event.At p act.Hold)) (not t.held) refusal.Held (is_safe t.state) refusal.NotSafe
    (accepted (becomes (record t { held = true })) answer.Done)
    (λ held safe. (let a = any_at (is_uncleared w.requests t.name) w.requests.opened uncleared in
    let both = and_parts (is_marked w.requests.told a.1.number t.name) (not (is_marked w.requests.cleared a.1.number t.name)) a.3 in
    c.holds p t a.1 (record { acts = acts_of w p t act.Hold s q l refl; open_is = record { position = a.0; here = a.2 }; told = both.0; not_cleared = not-true (is_marked w.requests.cleared a.1.number t.name) both.1; not_held = not-true t.held held; safe = safe }))))
does_case w P c p t act.Release s q l = chain1 (Lands w P p act.Release) (c.refuses (event.At p act.Release)) t.held refusal.NotHeld (accepted (becomes (record t { held = false })) answer.Done)
    (λ h. c.releases p t (record { acts = acts_of w p t act.Release s q l refl; was_held = h }))
does_case w P c p t act.Stack s q l = c.shows p t s

-- An act at a place.
at_case : (w : World) (P : Event → Answer → World → Type 0) → Cases w P → (p : ℕ) (a : Act) (o : Option (Option Thread)) → slice_get w.places p ≡ o → Comes w P (event.At p a) (at w p a o)
at_case w P c p a None e = c.refuses (event.At p a) refusal.NoSuchPlace
at_case w P c p a (Some None) e = c.refuses (event.At p a) (refusal.Illegal Vacant)
at_case w P c p a (Some (Some t)) e =
    chain2 (Lands w P p a) (c.refuses (event.At p a)) (not (is_publishing t) || may_while_publishing a) refusal.Publishing (is_lawful a t) (refusal.Illegal t.state) (does w a t)
    (does_case w P c p t a (record { there = e; low = slice_get_within w.places p (Some t) e }))

-- The least vacant place is vacant.
pub vacant_is : (ts : List (Option Thread)) (p : ℕ) → vacant_place ts ≡ Some p → (p < length ts) × (slice_get ts p ≡ Some None)
vacant_is [] p h = cc
vacant_is (None ∷ ts) p h = let z : 0 ≡ p = cc in (omega arith, ap (slice_get (None ∷ ts)) (sym z))
vacant_is (Some t ∷ ts) p h = later (vacant_place ts) refl h (vacant_is ts)
  where
    later : (o : Option ℕ) → vacant_place ts ≡ o → option_map (λ n. 1 + n) o ≡ Some p → ((n : ℕ) → vacant_place ts ≡ Some n → (n < length ts) × (slice_get ts n ≡ Some None)) → (p < length (Some t ∷ ts)) × (slice_get (Some t ∷ ts) p ≡ Some None)
    later None e l rest = cc
    later (Some n) e l rest = let is : suc n ≡ p = (let x : 1 + n ≡ p = cc in omega arith) in let r = rest n e in let low = r.0 in subst (λ m. (m < length (Some t ∷ ts)) × (slice_get (Some t ∷ ts) m ≡ Some None)) is (omega arith, r.1)

start_case : (w : World) (P : Event → Answer → World → Type 0) → Cases w P → Comes w P event.Start (start w)
start_case w P c = chain1 (Comes w P event.Start) (c.refuses event.Start) (not (is_safepoint w.requests)) refusal.SafepointOpen (start_at w (vacant_place w.places)) (λ s. on (not-true (is_safepoint w.requests) s) (vacant_place w.places) refl)
  where
    on : is_safepoint w.requests ≡ false → (o : Option ℕ) → vacant_place w.places ≡ o → Comes w P event.Start (start_at w o)
    on s None e = c.refuses event.Start refusal.PlacesFull
    on s (Some p) e = chain1 (Comes w P event.Start) (c.refuses event.Start) (nat_lt (names_given w.log) last_number) refusal.Spent
        (accepted (record w { places = slice_set w.places p (Some (new_thread (names_given w.log + 1))) }) (answer.Thread (names_given w.log + 1) p))
        (λ room. let v = vacant_is w.places p e in c.starts p (record { no_safepoint = s; least = e; vacant = v.1; low = v.0; room = ltb-true (names_given w.log) last_number room }))

-- An event of one step: every event but an Install over code in use.
abbrev pub Simple : World → Event → Type 0
Simple w (event.Install method) = in_use_for w.codes method ≡ None
Simple w e = Unit {0}

install_case : (w : World) (P : Event → Answer → World → Type 0) → Cases w P → (method : ℕ) → in_use_for w.codes method ≡ None → Comes w P (event.Install method) (install w method)
install_case w P c method none = chain1 (Comes w P (event.Install method)) (c.refuses (event.Install method)) (nat_lt method w.methods) refusal.NoSuchMethod
    (install_in w method (free_slot w.codes w.slots)) (λ low. on (ltb-true method w.methods low) (free_slot w.codes w.slots) refl)
  where
    on : method < w.methods → (o : Option ℕ) → free_slot w.codes w.slots ≡ o → Comes w P (event.Install method) (install_in w method o)
    on low None e = c.refuses (event.Install method) refusal.TableFull
    on low (Some slot) e = chain1 (Comes w P (event.Install method)) (c.refuses (event.Install method)) (nat_le (next_serial w.codes) last_number) refusal.SerialsSpent
        (accepted (record w { codes = with_code (without_use w.codes (in_use_for w.codes method)) method slot }) (answer.Code (next_serial w.codes)))
        (λ room. subst (λ o. P (event.Install method) (answer.Code (next_serial w.codes)) (record w { codes = with_code (without_use w.codes o) method slot; log = record { event = event.Install method; answer = answer.Code (next_serial w.codes) } ∷ replaced o ++ w.log }))
        (sym none) (c.installs method slot (record { low_method = low; none_in_use = none; least = e; room = leb-true (next_serial w.codes) last_number room })))

-- An event of an unfreed code, or of a code that was given out.
code_case : (w : World) (Q : Verdict World → Type 0) → Q (refused refusal.Unknown) → (serial : ℕ) (work : Code → Verdict World)
    → ((code : Code) → unfreed w.codes serial ≡ Some code → code.serial ≡ serial → Q (work code)) → Q (of_code (unfreed w.codes serial) work)
code_case w Q stop serial work h = on (unfreed w.codes serial) refl
  where
    on : (o : Option Code) → unfreed w.codes serial ≡ o → Q (of_code o work)
    on None e = stop
    on (Some code) e = h code e (eqb-true code.serial serial (and_parts (code.serial == serial) (takes_slot code.state) (found_passes (λ (x : Code). (x.serial == serial) && takes_slot x.state) w.codes code e)).0)

-- A census opens only while no operation is open.
alone_of : (os : List Opened) (b : Bool) → b ≡ true → not (b && not (is_empty os)) ≡ true → os ≡ []
alone_of [] b h k = refl
alone_of (o ∷ os) true h k = absurd (false≢true k)
alone_of (o ∷ os) false h k = absurd (false≢true h)

-- The oldest waiting request may be opened.
pub opens_of : (w : World) (oldest : Waiting) (others : List Waiting) → may_open w.requests ≡ true → w.requests.waiting ≡ oldest ∷ others → Opens w oldest others
opens_of w oldest others may e =
    let a = and_parts (nat_lt (length w.requests.opened) 4 && not (is_safepoint w.requests)) (not (awaits_safepoint w.requests.waiting && not (is_empty w.requests.opened))) may in
    let b = and_parts (nat_lt (length w.requests.opened) 4) (not (is_safepoint w.requests)) a.0 in
    record {
      few = ltb-true (length w.requests.opened) 4 b.0;
      no_safepoint = not-true (is_safepoint w.requests) b.1;
      alone = λ census. alone_of w.requests.opened (is_census oldest.request) census (subst (λ ws. not (awaits_safepoint ws && not (is_empty w.requests.opened)) ≡ true) e a.1);
      waiting_is = e;
    }

-- A Close of an open operation.
close_case : (w : World) (P : Event → Answer → World → Type 0) → Cases w P → (number : Option ℕ) (o : Opened) → ((i : ℕ) × (slice_get w.requests.opened i ≡ Some o)) → Comes w P (event.Close number) (close w o)
close_case w P c number o at =
    chain2 (Comes w P (event.Close number)) (c.refuses (event.Close number)) (all_threads (λ t. not (t.held && is_target o.request t.name)) w) refusal.Held (is_over w o) refusal.NotDone
    (accepted (record w { requests = without_opened w o }) (answer.Closed o.number))
    (λ held over. c.closes number o (record { open_is = record { position = at.0; here = at.1 }; none_held = held; over = over }))

-- Each event is proved by its cases.
pub by_cases : (w : World) (P : Event → Answer → World → Type 0) → Cases w P → (e : Event) → Simple w e → P e (answer_to w e) (after w e)
by_cases w P c (event.At p a) simple = at_case w P c p a (slice_get w.places p) refl
by_cases w P c event.Start simple = start_case w P c
by_cases w P c (event.Install method) simple = install_case w P c method simple
by_cases w P c (event.Invalidate serial) simple = code_case w (Comes w P (event.Invalidate serial)) (c.refuses (event.Invalidate serial) refusal.Unknown) serial (invalidate w) (λ code found same.
    chain1 (Comes w P (event.Invalidate serial)) (c.refuses (event.Invalidate serial)) (is_in_use code.state) refusal.NotInUse (accepted (record w { codes = with_state w.codes code.serial NotEntrant }) answer.Done)
    (λ used. subst (λ n. P (event.Invalidate serial) answer.Done (coded w (with_state w.codes n NotEntrant) (event.Invalidate serial) answer.Done)) (sym same)
    (c.invalidates serial code (record { found = found; serial_is = same; state_is = used_of code.state used }))))
by_cases w P c event.Round simple = chain1 (Comes w P event.Round) (c.refuses event.Round) (nat_lt (moment w.log) last_number) refusal.Spent (accepted w answer.Done) (λ room. c.goes_round (ltb-true (moment w.log) last_number room))
by_cases w P c (event.Look serial p) simple = code_case w (Comes w P (event.Look serial p)) (c.refuses (event.Look serial p) refusal.Unknown) serial (look w p) (λ code found same.
    chain2 (Comes w P (event.Look serial p)) (c.refuses (event.Look serial p)) (is_not_entrant code.state) refusal.NotNotEntrant (nat_lt p (length w.places)) refusal.NoSuchPlace
    (accepted w (clear_or_late (covered w p code.serial))) (λ left low. on code found same (not_entrant_of code.state left) (ltb-true p (length w.places) low) (covered w p code.serial) refl))
  where
    on : (code : Code) → unfreed w.codes serial ≡ Some code → code.serial ≡ serial → code.state ≡ NotEntrant → p < length w.places → (b : Bool) → covered w p code.serial ≡ b → Comes w P (event.Look serial p) (accepted w (clear_or_late b))
    on code found same left low true e = c.looks_clear serial p code (record { code_is = record { found = found; serial_is = same; state_is = left }; low = low; covered_is = subst (λ n. covered w p n ≡ true) same e })
    on code found same left low false e = c.looks_late serial p code (record { code_is = record { found = found; serial_is = same; state_is = left }; low = low; covered_is = subst (λ n. covered w p n ≡ false) same e })
by_cases w P c (event.Weigh serial) simple = code_case w (Comes w P (event.Weigh serial)) (c.refuses (event.Weigh serial) refusal.Unknown) serial (weigh w) (λ code found same.
    chain1 (Comes w P (event.Weigh serial)) (c.refuses (event.Weigh serial)) (is_not_entrant code.state) refusal.NotNotEntrant (weigh_all w code (unlooked w code.serial))
    (λ left. on code (record { found = found; serial_is = same; state_is = not_entrant_of code.state left }) (unlooked w code.serial) refl))
  where
    on : (code : Code) → IsCode w serial code NotEntrant → (o : Option ℕ) → unlooked w code.serial ≡ o → Comes w P (event.Weigh serial) (weigh_all w code o)
    on code i (Some p) e = c.finds_unlooked serial code p (record { code_is = i; least = subst (λ n. unlooked w n ≡ Some p) i.serial_is e })
    on code i None e = either_way (Comes w P (event.Weigh serial)) (walk w (id_of code) == 0)
        (accepted (record w { codes = with_state w.codes code.serial Zombie }) answer.Retired) (accepted w (answer.Used (walk w (id_of code))))
        (λ z. subst (λ n. P (event.Weigh serial) answer.Retired (coded w (with_state w.codes n Zombie) (event.Weigh serial) answer.Retired)) (sym i.serial_is)
        (c.retires serial code (record { code_is = i; all_looked = subst (λ n. unlooked w n ≡ None) i.serial_is e; unused = eqb-true (walk w (id_of code)) 0 z })))
        (λ z. c.finds_used serial code (record { code_is = i; all_looked = subst (λ n. unlooked w n ≡ None) i.serial_is e; used = eqb-false (walk w (id_of code)) 0 z }))
by_cases w P c (event.Free serial) simple = code_case w (Comes w P (event.Free serial)) (c.refuses (event.Free serial) refusal.Unknown) serial (free w) (λ code found same.
    chain1 (Comes w P (event.Free serial)) (c.refuses (event.Free serial)) (is_zombie code.state) refusal.NotZombie (accepted (record w { codes = with_state w.codes code.serial Freed }) answer.Done)
    (λ z. subst (λ n. P (event.Free serial) answer.Done (coded w (with_state w.codes n Freed) (event.Free serial) answer.Done)) (sym same)
    (c.frees serial code (record { found = found; serial_is = same; state_is = zombie_of code.state z }))))
by_cases w P c (event.Ask request) simple = chain4 (Comes w P (event.Ask request)) (c.refuses (event.Ask request)) (nat_lt (operations_given w.log) last_number) refusal.Spent (nat_lt (length w.requests.waiting) 64) refusal.QueueFull
    (has_targets request) refusal.NoTargets (are_targets request) refusal.BadTargets (accepted (record w { requests = with_request w request }) (answer.Asked (operations_given w.log + 1)))
    (λ room queue some lawful. c.asks request (record { room = ltb-true (operations_given w.log) last_number room; queue_room = ltb-true (length w.requests.waiting) 64 queue; some_target = some; lawful_targets = lawful }))
by_cases w P c event.Open simple = chain1 (Comes w P event.Open) (c.refuses event.Open) (may_open w.requests) refusal.AlreadyOpen (open_oldest w w.requests.waiting) (λ may. on may w.requests.waiting refl)
  where
    on : may_open w.requests ≡ true → (ws : List Waiting) → w.requests.waiting ≡ ws → Comes w P event.Open (open_oldest w ws)
    on may [] e = c.refuses event.Open refusal.QueueEmpty
    on may (oldest ∷ others) e = c.opens oldest others (opens_of w oldest others may e)
by_cases w P c (event.Tell name) simple = chain2 (Comes w P (event.Tell name)) (c.refuses (event.Tell name)) (not (is_empty w.requests.opened)) refusal.NothingOpen
    (list_any (λ o. may_tell w o.request name) w.requests.opened) refusal.NotOf (tell_oldest w name (filter (λ o. is_live_target w o name) w.requests.opened))
    (λ some may. on may (filter (λ o. is_live_target w o name) w.requests.opened) refl)
  where
    on : list_any (λ o. may_tell w o.request name) w.requests.opened ≡ true → (os : List Opened) → filter (λ o. is_live_target w o name) w.requests.opened ≡ os → Comes w P (event.Tell name) (tell_oldest w name os)
    on may [] e = c.finds_gone name (record { may = may; gone = e })
    on may (x ∷ xs) e = found_case w (Comes w P (event.Tell name)) refusal.AlreadyTold (c.refuses (event.Tell name) refusal.AlreadyTold) (λ o. not (is_marked w.requests.told o.number name)) (x ∷ xs) (tell_in w name) (λ o f at.
        (let g = filter_at (λ o. is_live_target w o name) w.requests.opened at.0 o (subst (λ os. slice_get os at.0 ≡ Some o) (sym e) at.1) in
        c.tells name o (record {
          least = subst (λ os. find (λ (o : Opened). not (is_marked w.requests.told o.number name)) os ≡ Some o) (sym e) f;
          open_is = record { position = g.from; here = g.at };
          live = g.passes;
          not_told = not-true (is_marked w.requests.told o.number name) (found_passes (λ (o : Opened). not (is_marked w.requests.told o.number name)) (x ∷ xs) o f);
        })))
by_cases w P c event.Operate simple = opened_case w (Comes w P event.Operate) (c.refuses event.Operate refusal.NothingOpen) (operate w) (λ o os e.
    chain5 (Comes w P event.Operate) (c.refuses event.Operate) (is_census o.request) refusal.NotOf (not o.operated) refusal.AlreadyDone (all_threads (λ t. t.held) w) refusal.NotAllHeld
    (all_threads (λ t. not (is_publishing t)) w) refusal.Publishing (all_threads is_settled w) refusal.Unpublished (accepted (record w { requests = with_operated w o }) (answer.Census (census w)))
    (λ census new held quiet settled. c.operates o os (record { opened_is = e; census = census; not_operated = not-true o.operated new; held = held; quiet = quiet; settled = settled })))
by_cases w P c (event.Close None) simple = opened_case w (Comes w P (event.Close None)) (c.refuses (event.Close None) refusal.NothingOpen) (close w) (λ o os e. close_case w P c None o (0, subst (λ (xs : List Opened). slice_get xs 0 ≡ Some o) (sym e) refl))
by_cases w P c (event.Close (Some n)) simple = chain1 (Comes w P (event.Close (Some n))) (c.refuses (event.Close (Some n))) (not (is_empty w.requests.opened)) refusal.NothingOpen (in_found refusal.NotOf (find (λ o. o.number == n) w.requests.opened) (close w))
    (λ some. found_case w (Comes w P (event.Close (Some n))) refusal.NotOf (c.refuses (event.Close (Some n)) refusal.NotOf) (λ o. o.number == n) w.requests.opened (close w) (λ o e at. close_case w P c (Some n) o at))
by_cases w P c (event.Count serial) simple = code_case w (Comes w P (event.Count serial)) (c.refuses (event.Count serial) refusal.Unknown) serial (count w) (λ code found same. c.counts serial code found)
by_cases w P c (event.CodeState serial) simple = on (code_of w.codes serial) refl
  where
    on : (o : Option Code) → code_of w.codes serial ≡ o → Comes w P (event.CodeState serial) (of_code o (λ code. accepted w (answer.State code.state)))
    on None e = c.refuses (event.CodeState serial) refusal.Unknown
    on (Some code) e = c.says_state serial code e
by_cases w P c (event.Resolve method) simple = chain1 (Comes w P (event.Resolve method)) (c.refuses (event.Resolve method)) (nat_lt method w.methods) refusal.NoSuchMethod (accepted w (code_or_none (in_use_for w.codes method)))
    (λ low. c.resolves method (ltb-true method w.methods low))

-- An event is an Install or of one step.
pub each_kind : (w : World) (P : Event → Type 0) → ((method : ℕ) → P (event.Install method)) → ((e : Event) → Simple w e → P e) → (e : Event) → P e
each_kind w P installs others (event.Install method) = installs method
each_kind w P installs others (event.At p a) = others (event.At p a) tt
each_kind w P installs others event.Start = others event.Start tt
each_kind w P installs others (event.Invalidate s) = others (event.Invalidate s) tt
each_kind w P installs others event.Round = others event.Round tt
each_kind w P installs others (event.Look s p) = others (event.Look s p) tt
each_kind w P installs others (event.Weigh s) = others (event.Weigh s) tt
each_kind w P installs others (event.Free s) = others (event.Free s) tt
each_kind w P installs others (event.Ask r) = others (event.Ask r) tt
each_kind w P installs others event.Open = others event.Open tt
each_kind w P installs others (event.Tell n) = others (event.Tell n) tt
each_kind w P installs others event.Operate = others event.Operate tt
each_kind w P installs others (event.Close n) = others (event.Close n) tt
each_kind w P installs others (event.Count s) = others (event.Count s) tt
each_kind w P installs others (event.CodeState s) = others (event.CodeState s) tt
each_kind w P installs others (event.Resolve m) = others (event.Resolve m) tt
