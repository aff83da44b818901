-- Each event preserves the invariant of reclaiming.
use Rattle.std.proofs.Common.{◌≡◌, ◌⊎◌, ℕ, zero, suc, ◌+◌, ◌-◌, ◌<◌, ◌≤◌, Bool, true, false, cond, List, [], ◌∷◌, ◌++◌, length, Option, Some, None, sym, refl, ap, ◌∙◌, inl, inr, ⊎_elim, subst, arith}
use Rattle.std.specs.Prelude.{not, ◌||◌, ◌&&◌, ◌==◌, slice_get, slice_set, sum_by, replicate}
use Rattle.std.proofs.lemmas.Bool.{false≢true, not-false, eqb-true, eq-eqb, ne_eqb, and_parts, or_cases, and_right, false_from_ne_true}
use Rattle.std.proofs.lemmas.List.Sums.{sum_by-cons}
use Rattle.frames.specs.declared.CodeId.{CodeId}
use Rattle.thread_state.specs.declared.State.{State}
use Rattle.method_table.specs.declared.Code.{Code}
use Rattle.method_table.specs.declared.CodeState.TheVariants.{NotEntrant, Zombie, Freed}
use Rattle.system.specs.declared.events.Act.{Act}
use Rattle.system.specs.declared.events.Act.TheVariants as act
use Rattle.system.specs.declared.events.Event.TheVariants as event
use Rattle.system.specs.declared.answers.Answer.{Answer}
use Rattle.system.specs.declared.answers.Answer.TheVariants as answer
use Rattle.frames.specs.Stack as stack
use Rattle.frames.specs.Stack.{same_code, is_code}
use Rattle.method_table.specs.Numbers.{below}
use Rattle.method_table.specs.Codes.{id_of, is_in_use, code_of, next_serial}
use Rattle.operations.specs.Requests.{kind_of, reply_to}
use Rattle.system.specs.Threads.{Thread, is_publishing, has_changed, part}
use Rattle.system.specs.Operations.{poll_of}
use Rattle.system.specs.Log.{Entry, is_invalidate, is_looked, has_started, is_published_since, names_given, operations_given}
use Rattle.system.specs.World.{World, found, part_at, walk, covered, is_covered_at, census}
use Rattle.system.specs.Places.{go_or_stop, popped}
use Rattle.system.specs.Step.{new_thread, unlooked, code_or_none}
use Rattle.method_table.specs.Codes.{in_use_for}
use Rattle.system.specs.Facts.{may_stand, IsLive, TableIsSound}
use Rattle.system.specs.Moments.{invalidated, is_fresh}
use Rattle.system.proofs.Outcomes.{Stands, begun, changed_by, ended, entered, moved, difference, is_move, Enters, Looks, Retires}
use Rattle.system.proofs.EventCases.{Cases}
use Rattle.system.proofs.Lists.{find_none_at, below_has, at_low}
use Rattle.system.proofs.Frames.{same_is, act_push, act_take, part_quiet}
use Rattle.system.proofs.Moments.{unstarted_begun, unstarted_ended, not_since}
use Rattle.system.proofs.Seats.{each_start}
use Rattle.system.proofs.Table.{unfreed_code}
use Rattle.system.proofs.Threads.{started_more}
use Rattle.system.proofs.ReclaimInvariant.{IsThread, is_unused, IsReclaimed, Silent, IsQuiet, silent_thread, lands, logged, installed, restated, or_later}

same_number : (n : ℕ) → (n == n) ≡ true
same_number n = eq-eqb n n refl

-- An entry that changes nothing at any place, and invalidates nothing.
record Unnoticed (e : Entry) : Type 0 where
  pub quiet : IsQuiet e
  pub invalidates_not : (s : ℕ) → is_invalidate s e.event ≡ false

-- After the act the thread has no more frames than before, counts only codes that may have frames, and has the same
-- shown stack and publication.
record NoMore (codes : List Code) (t u : Thread) : Type 0 where
  pub fewer : (c : CodeId) → stack.act c u.stack ≤ stack.act c t.stack
  pub counted : (c : CodeId) → 0 < part c u → IsLive codes c
  pub shown : u.shown ≡ t.shown
  pub published : u.published ≡ t.published
  pub publishing : is_publishing u ≡ is_publishing t
  pub name : u.name ≡ t.name

-- An act that changes nothing at any place, and adds no frame.
quiet_act : (w : World) (p : ℕ) (t u : Thread) (e : Entry) → IsReclaimed w.places w.codes w.log → Stands w p t → Unnoticed e → NoMore w.codes t u
    → IsReclaimed (slice_set w.places p (Some u)) w.codes (e ∷ w.log)
quiet_act w p t u e h s n less = lands w.places w.codes w.log p (Some u) e h s.low (λ q ne. n.quiet q) n.invalidates_not (λ r q. (let z = n.quiet q in z.clears_not r))
    (λ z s. cc) (λ v x. (let same : u ≡ v = cc in subst (IsThread w.codes (e ∷ w.log) p) same
    (let i = h.seats p t s.there in silent_thread w.codes w.codes w.log p t u e (n.quiet p) i
    (λ c a. i.live c (let l = less.fewer c in omega arith)) less.counted
    (λ c. ⊎_elim (λ a. inl (let l = less.fewer c in let z : stack.act c u.shown ≡ stack.act c t.shown = ap (stack.act c) less.shown in omega arith)) (λ b. inr b) (i.held c)) less.published less.publishing less.name)))

-- The same thread, perhaps in another state, held or released.
same_act : (w : World) (p : ℕ) (t : Thread) (state : State) (hold : Bool) (e : Entry) → IsReclaimed w.places w.codes w.log → Stands w p t → Unnoticed e
    → IsReclaimed (slice_set w.places p (Some (record t { state = state; held = hold }))) w.codes (e ∷ w.log)
same_act w p t state hold e h s n = quiet_act w p t (record t { state = state; held = hold }) e h s n (record {
  fewer = λ c. omega arith;
  counted = λ c a. (let i = h.seats p t s.there in i.counted c a);
  shown = refl;
  published = refl;
  publishing = refl;
  name = refl;
})

-- A move changes nothing at any place.
move_quiet : (p q : ℕ) (a : Act) (given : Answer) → is_move a ≡ true → Silent q (record { event = event.At p a; answer = given })
move_quiet p q act.Wake given h = record { starts_not = refl; exits_not = refl; begins_not = refl; ends_not = refl; enters_not = λ s. refl; clears_not = λ s. refl }
move_quiet p q act.Cross given h = record { starts_not = refl; exits_not = refl; begins_not = refl; ends_not = refl; enters_not = λ s. refl; clears_not = λ s. refl }
move_quiet p q act.Edge given h = record { starts_not = refl; exits_not = refl; begins_not = refl; ends_not = refl; enters_not = λ s. refl; clears_not = λ s. refl }
move_quiet p q act.ToVm given h = record { starts_not = refl; exits_not = refl; begins_not = refl; ends_not = refl; enters_not = λ s. refl; clears_not = λ s. refl }
move_quiet p q act.FromVm given h = record { starts_not = refl; exits_not = refl; begins_not = refl; ends_not = refl; enters_not = λ s. refl; clears_not = λ s. refl }
move_quiet p q act.ToNative given h = record { starts_not = refl; exits_not = refl; begins_not = refl; ends_not = refl; enters_not = λ s. refl; clears_not = λ s. refl }
move_quiet p q act.Block given h = record { starts_not = refl; exits_not = refl; begins_not = refl; ends_not = refl; enters_not = λ s. refl; clears_not = λ s. refl }
move_quiet p q act.Take given h = record { starts_not = refl; exits_not = refl; begins_not = refl; ends_not = refl; enters_not = λ s. refl; clears_not = λ s. refl }
move_quiet p q a given h = absurd (false≢true h)

-- Begin.
begin_kept : (w : World) (p : ℕ) (t : Thread) → IsReclaimed w.places w.codes w.log → Stands w p t → is_publishing t ≡ false → IsReclaimed (slice_set w.places p (Some (begun t))) w.codes (record { event = event.At p act.Begin; answer = answer.Done } ∷ w.log)
begin_kept w p t h s quiet = lands w.places w.codes w.log p (Some (begun t)) e h s.low
    (λ q ne. record { starts_not = refl; exits_not = refl; begins_not = ne_eqb p q (λ z. ne (sym z)); ends_not = refl; enters_not = λ s. refl; clears_not = λ s. refl }) (λ s. refl) (λ s q. refl)
    (λ z s. cc) (λ v x. (let same : begun t ≡ v = cc in subst (IsThread w.codes (e ∷ w.log) p) same mine))
  where
    e : Entry
    e = record { event = event.At p act.Begin; answer = answer.Done }

    mine : IsThread w.codes (record { event = event.At p act.Begin; answer = answer.Done } ∷ w.log) p (begun t)
    mine = let m = h.seats p t s.there in record {
      live = m.live;
      counted = λ c a. m.counted c (subst (λ n. 0 < n) (sym (part_quiet c t quiet)) a);
      held = m.held;
      uncovered = m.uncovered;
      unlooked = m.unlooked;
      published = m.published;
      opened = λ o. (let a = same_number p in let b = m.started in rw (a, b) (omega arith));
      closed = m.closed;
      started = m.started;
      begun_is = (let a = same_number p in let b = m.started in rw (a, b) refl);
      ended_is = m.ended_is;
    }

-- Change.
change_counted : (w : World) (p : ℕ) (t : Thread) (code : CodeId) → IsThread w.codes w.log p t → (c : CodeId) → 0 < part c (changed_by t code) → IsLive w.codes c
change_counted w p t code m c a = by (same_code code c) a
  where
    by : (b : Bool) → 0 < cond (b || has_changed t c) (stack.act c t.stack) (stack.act c t.shown) → IsLive w.codes c
    by true k = m.live c k
    by false k = m.counted c k

-- End.
end_kept : (w : World) (p : ℕ) (t : Thread) → IsReclaimed w.places w.codes w.log → Stands w p t → is_publishing t ≡ true → IsReclaimed (slice_set w.places p (Some (ended t))) w.codes (record { event = event.At p act.End; answer = answer.Done } ∷ w.log)
end_kept w p t h s publishing = lands w.places w.codes w.log p (Some (ended t)) (record { event = event.At p act.End; answer = answer.Done }) h s.low
    (λ q ne. record { starts_not = refl; exits_not = refl; begins_not = refl; ends_not = ne_eqb p q (λ z. ne (sym z)); enters_not = λ s. refl; clears_not = λ s. refl }) (λ s. refl) (λ s q. refl)
    (λ z s. cc) (λ v x. (let same : ended t ≡ v = cc in subst (IsThread w.codes (record { event = event.At p act.End; answer = answer.Done } ∷ w.log) p) same mine))
  where
    stale : (s : ℕ) → is_fresh p s (record { event = event.At p act.End; answer = answer.Done } ∷ w.log) ≡ false
    stale s = let a = same_number p in rw a refl

    mine : IsThread w.codes (record { event = event.At p act.End; answer = answer.Done } ∷ w.log) p (ended t)
    mine = let m = h.seats p t s.there in record {
      live = m.live;
      counted = m.live;
      held = λ c. inl (omega arith);
      uncovered = λ r f. absurd (false≢true (sym (stale r) ∙ f));
      unlooked = λ r f. absurd (false≢true (sym (stale r) ∙ f));
      published = λ r f. refl;
      opened = λ o. absurd (false≢true o);
      closed = λ z. (let a = same_number p in rw a (m.opened publishing));
      started = m.started;
      begun_is = m.begun_is;
      ended_is = (let a = same_number p in rw a m.begun_is);
    }

-- Enter without a code, and Leave.
interpreted : (w : World) (p : ℕ) (t : Thread) (method : ℕ) (e : Entry) → IsReclaimed w.places w.codes w.log → Stands w p t → is_publishing t ≡ false → Unnoticed e
    → IsReclaimed (slice_set w.places p (Some (entered t method None))) w.codes (e ∷ w.log)
interpreted w p t method e h s quiet n = quiet_act w p t (entered t method None) e h s n (record {
  fewer = λ c. (let a = act_push c t.stack (record { method = method; code = None }) in omega arith);
  counted = λ c a. (let m = h.seats p t s.there in m.counted c (subst (λ n. 0 < n) (part_quiet c (entered t method None) quiet ∙ sym (part_quiet c t quiet)) a));
  shown = refl;
  published = refl;
  publishing = refl;
  name = refl;
})

popped_counted : (w : World) (p : ℕ) (t : Thread) (state : State) → IsReclaimed w.places w.codes w.log → Stands w p t → is_publishing t ≡ false → (c : CodeId) → 0 < part c (moved (popped t) state) → IsLive w.codes c
popped_counted w p t state h s quiet c a = let m = h.seats p t s.there in m.counted c (subst (λ n. 0 < n) (part_quiet c (moved (popped t) state) quiet ∙ sym (part_quiet c t quiet)) a)

-- Enter of code in use.
enter_kept : (w : World) (p : ℕ) (t : Thread) (method serial : ℕ) (code : Code) → IsReclaimed w.places w.codes w.log → Enters w p t method serial code
    → IsReclaimed (slice_set w.places p (Some (entered t method (Some (id_of code))))) w.codes (record { event = event.At p (act.Enter method (Some serial)); answer = answer.Entered } ∷ w.log)
enter_kept w p t method serial code h i = lands w.places w.codes w.log p (Some (entered t method (Some (id_of code)))) (record { event = event.At p (act.Enter method (Some serial)); answer = answer.Entered }) h i.calls.acts.stands.low
    (λ q ne. (let a = ne_eqb p q (λ z. ne (sym z)) in record { starts_not = refl; exits_not = refl; begins_not = refl; ends_not = refl; enters_not = λ s. (rw a refl); clears_not = λ s. refl })) (λ s. refl) (λ s q. refl)
    (λ z s. cc) (λ v x. (let same : entered t method (Some (id_of code)) ≡ v = cc in subst (IsThread w.codes (record { event = event.At p (act.Enter method (Some serial)); answer = answer.Entered } ∷ w.log) p) same mine))
  where
    m : IsThread w.codes w.log p t
    m = h.seats p t i.calls.acts.stands.there

    none : invalidated serial w.log ≡ false
    none = h.table.invalidated_is serial ∙ (ap is_unused i.code_is ∙ ap (λ s. not (is_in_use s)) i.in_use)

    fresh_cases : (r : ℕ) → is_fresh p r (record { event = event.At p (act.Enter method (Some serial)); answer = answer.Entered } ∷ w.log) ≡ true → (serial ≡ r) ⊎ (is_fresh p r w.log ≡ true)
    fresh_cases r f = ⊎_elim (λ a. inl (eqb-true serial r (and_parts (p == p) (serial == r) a).1)) (λ b. inr b) (or_cases ((p == p) && (serial == r)) (is_fresh p r w.log) f)

    here : (r : ℕ) → serial ≡ r → is_fresh p r (record { event = event.At p (act.Enter method (Some serial)); answer = answer.Entered } ∷ w.log) ≡ true
    here r e = let a = same_number p in let b = eq-eqb serial r e in rw (a, b) refl

    still : (r : ℕ) → is_fresh p r w.log ≡ true → is_fresh p r (record { event = event.At p (act.Enter method (Some serial)); answer = answer.Entered } ∷ w.log) ≡ true
    still r f = or_later ((p == p) && (serial == r)) (is_fresh p r w.log) f

    live : (c : CodeId) (b : Bool) → same_code (id_of code) c ≡ b → stack.act c (t.stack ++ record { method = method; code = Some (id_of code) } ∷ []) ≡ stack.act c t.stack + cond (same_code (id_of code) c) 1 0
        → 0 < stack.act c (t.stack ++ record { method = method; code = Some (id_of code) } ∷ []) → IsLive w.codes c
    live c true e push a = let same = same_is (id_of code) c e in
        (code, subst (λ n. code_of w.codes n ≡ Some code) (sym i.serial_is ∙ ap (λ (y : CodeId). y.serial) same) i.code_is, same, ap may_stand i.in_use)
    live c false e push a = m.live c (subst (λ n. 0 < n) (push ∙ (rw e (omega arith))) a)

    hold : (c : CodeId) (b : Bool) → same_code (id_of code) c ≡ b → stack.act c (t.stack ++ record { method = method; code = Some (id_of code) } ∷ []) ≡ stack.act c t.stack + cond (same_code (id_of code) c) 1 0
        → (stack.act c (t.stack ++ record { method = method; code = Some (id_of code) } ∷ []) ≤ stack.act c t.shown) ⊎ (is_fresh p c.serial (record { event = event.At p (act.Enter method (Some serial)); answer = answer.Entered } ∷ w.log) ≡ true)
    hold c true e push = inr (here c.serial (sym i.serial_is ∙ ap (λ (y : CodeId). y.serial) (same_is (id_of code) c e)))
    hold c false e push = ⊎_elim (λ (a : stack.act c t.stack ≤ stack.act c t.shown). inl (let z : stack.act c (t.stack ++ record { method = method; code = Some (id_of code) } ∷ []) ≡ stack.act c t.stack = push ∙ (rw e (omega arith)) in omega arith)) (λ b. inr (still c.serial b)) (m.held c)

    unlooked_now : (r : ℕ) → invalidated r w.log ≡ false → is_looked w.log r p ≡ false
    unlooked_now r n = false_from_ne_true (is_looked w.log r p) (λ l. false≢true (sym n ∙ h.table.looked_by r p l))

    mine : IsThread w.codes (record { event = event.At p (act.Enter method (Some serial)); answer = answer.Entered } ∷ w.log) p (entered t method (Some (id_of code)))
    mine = record {
      live = λ c a. live c (same_code (id_of code) c) refl (act_push c t.stack (record { method = method; code = Some (id_of code) })) a;
      counted = λ c a. m.counted c (subst (λ n. 0 < n) (part_quiet c (entered t method (Some (id_of code))) i.calls.acts.quiet ∙ sym (part_quiet c t i.calls.acts.quiet)) a);
      held = λ c. hold c (same_code (id_of code) c) refl (act_push c t.stack (record { method = method; code = Some (id_of code) }));
      uncovered = λ r f. ⊎_elim (λ a. not_since r p t.name w.log (ap (λ n. invalidated n w.log) (sym a) ∙ none)) (λ b. m.uncovered r b) (fresh_cases r f);
      unlooked = λ r f. ⊎_elim (λ a. unlooked_now r (ap (λ n. invalidated n w.log) (sym a) ∙ none)) (λ b. m.unlooked r b) (fresh_cases r f);
      published = λ r f. i.calls.published;
      opened = m.opened;
      closed = m.closed;
      started = m.started;
      begun_is = m.begun_is;
      ended_is = m.ended_is;
    }

-- The names in the log were given out.
abbrev pub NamesKnown : List Entry → Type 0
NamesKnown log = (name : ℕ) → has_started log name ≡ true → name ≤ names_given log

-- Start.
start_kept : (w : World) (p : ℕ) → NamesKnown w.log → IsReclaimed w.places w.codes w.log → p < length w.places
    → IsReclaimed (slice_set w.places p (Some (new_thread (names_given w.log + 1)))) w.codes (record { event = event.Start; answer = answer.Thread (names_given w.log + 1) p } ∷ w.log)
start_kept w p known h low = lands w.places w.codes w.log p (Some (new_thread (names_given w.log + 1))) (record { event = event.Start; answer = answer.Thread (names_given w.log + 1) p }) h low
    (λ q ne. record { starts_not = ne_eqb p q (λ z. ne (sym z)); exits_not = refl; begins_not = refl; ends_not = refl; enters_not = λ s. refl; clears_not = λ s. refl }) (λ s. refl) (λ s q. refl)
    (λ z s. cc) (λ v x. (let same : new_thread (names_given w.log + 1) ≡ v = cc in subst (IsThread w.codes (record { event = event.Start; answer = answer.Thread (names_given w.log + 1) p } ∷ w.log) p) same mine))
  where
    unknown : has_started w.log (names_given w.log + 1) ≡ false
    unknown = false_from_ne_true (has_started w.log (names_given w.log + 1)) (λ z. (let low = known (names_given w.log + 1) z in absurd (omega arith)))

    stale : (s : ℕ) → is_fresh p s (record { event = event.Start; answer = answer.Thread (names_given w.log + 1) p } ∷ w.log) ≡ false
    stale s = let a = same_number p in rw a refl

    mine : IsThread w.codes (record { event = event.Start; answer = answer.Thread (names_given w.log + 1) p } ∷ w.log) p (new_thread (names_given w.log + 1))
    mine = record {
      live = λ c a. absurd (omega arith);
      counted = λ c a. absurd (omega arith);
      held = λ c. inl (omega arith);
      uncovered = λ r f. absurd (false≢true (sym (stale r) ∙ f));
      unlooked = λ r f. absurd (false≢true (sym (stale r) ∙ f));
      published = λ r f. absurd (false≢true (sym (stale r) ∙ f));
      opened = λ o. absurd (false≢true o);
      closed = λ o. absurd (false≢true o);
      started = (let a = same_number (names_given w.log + 1) in rw a refl);
      begun_is = unstarted_begun p (names_given w.log + 1) w.log unknown ∙ (let a = same_number p in rw a refl);
      ended_is = unstarted_ended p (names_given w.log + 1) w.log unknown ∙ (let a = same_number p in rw a refl);
    }

-- A code that isn't in use was invalidated.
pub left_in : (places : List (Option Thread)) (codes : List Code) (log : List Entry) (s : ℕ) (k : Code) → IsReclaimed places codes log → code_of codes s ≡ Some k → is_in_use k.state ≡ false → invalidated s log ≡ true
left_in places codes log s k h is used = h.table.invalidated_is s ∙ (ap is_unused is ∙ ap not used)

-- Look: a code with a Clear look isn't fresh for the thread at the place.
look_kept : (w : World) (s p : ℕ) (code : Code) → TableIsSound w.slots w.methods w.codes → IsReclaimed w.places w.codes w.log → Looks w s p code true → IsReclaimed w.places w.codes (record { event = event.Look s p; answer = answer.Clear } ∷ w.log)
look_kept w s p code table h i = record {
  vacant = h.vacant;
  seats = λ q t x. (let m = h.seats q t x in record {
    live = m.live;
    counted = m.counted;
    held = m.held;
    uncovered = m.uncovered;
    published = m.published;
    opened = m.opened;
    closed = m.closed;
    started = m.started;
    begun_is = m.begun_is;
    ended_is = m.ended_is;
    unlooked = λ r f. false_from_ne_true _ (λ l. ⊎_elim
        (λ a. (let both = and_parts (s == r) (p == q) (and_parts ((s == r) && (p == q)) true a).0 in
        clash r q t x (eqb-true s r both.0) (eqb-true p q both.1) (m.uncovered r f) (m.published r f)))
        (λ b. false≢true (sym (m.unlooked r f) ∙ b)) (or_cases (((s == r) && (p == q)) && true) (is_looked w.log r q) l));
  });
  table = record {
    invalidated_is = h.table.invalidated_is;
    looked_by = λ r q l. ⊎_elim
        (λ a. (let both = and_parts (s == r) (p == q) (and_parts ((s == r) && (p == q)) true a).0 in
        subst (λ n. invalidated n w.log ≡ true) (eqb-true s r both.0) (left_in w.places w.codes w.log s code h (unfreed_code w.slots w.methods w.codes table s code i.code_is.found) (ap is_in_use i.code_is.state_is))))
        (λ b. h.table.looked_by r q b) (or_cases (((s == r) && (p == q)) && true) (is_looked w.log r q) l);
  };
}
  where
    clash : (r q : ℕ) (t : Thread) → slice_get w.places q ≡ Some (Some t) → s ≡ r → p ≡ q → is_published_since w.log r q t.name ≡ false → t.published ≡ true → ⊥
    clash r q t x same_s same_p since pub_is =
        let cov : covered w q r ≡ true = subst (λ n. covered w n r ≡ true) same_p (subst (λ n. covered w p n ≡ true) same_s i.covered_is) in
        let there : (not t.published || is_published_since w.log r q t.name) ≡ true = sym (ap (λ o. is_covered_at w.log r q (found o)) x) ∙ cov in
        ⊎_elim (λ a. false≢true (sym (ap not pub_is) ∙ a)) (λ b. false≢true (sym since ∙ b)) (or_cases (not t.published) (is_published_since w.log r q t.name) there)

-- Weigh: a code becomes a zombie only if no thread has frames of it.
looked_all : (w : World) (s : ℕ) → unlooked w s ≡ None → (p : ℕ) → p < length w.places → is_looked w.log s p ≡ true
looked_all w s h p low = not-false (is_looked w.log s p) (find_none_at (λ place. not (is_looked w.log s place)) (below (length w.places)) p p h (below_has (length w.places) p low))

pub walk_none : (c : CodeId) (places : List (Option Thread)) → sum_by (part_at c) places ≡ 0 → (p : ℕ) (t : Thread) → slice_get places p ≡ Some (Some t) → part c t ≡ 0
walk_none c [] h p t x = cc
walk_none c (o ∷ places) h zero t x = let step = sum_by-cons (part_at c) o places in let z : part_at c o ≡ 0 = omega arith in let same : o ≡ Some t = cc in ap (part_at c) (sym same) ∙ z
walk_none c (o ∷ places) h (suc p) t x = let step = sum_by-cons (part_at c) o places in walk_none c places (omega arith) p t x

-- A code that is neither counted nor fresh has no frame on a stack.
pub part_held : (codes : List Code) (log : List Entry) (p : ℕ) (t : Thread) (c : CodeId) → IsThread codes log p t → (stack.act c t.stack ≤ part c t) ⊎ (is_fresh p c.serial log ≡ true)
part_held codes log p t c m = by (has_changed t c) (m.held c)
  where
    by : (b : Bool) → (stack.act c t.stack ≤ stack.act c t.shown) ⊎ (is_fresh p c.serial log ≡ true) → (stack.act c t.stack ≤ cond b (stack.act c t.stack) (stack.act c t.shown)) ⊎ (is_fresh p c.serial log ≡ true)
    by true h = inl (omega arith)
    by false h = h

nobody : (w : World) (s : ℕ) (k : Code) → IsReclaimed w.places w.codes w.log → Retires w s k → (p : ℕ) (t : Thread) → slice_get w.places p ≡ Some (Some t) → (c : CodeId) → id_of k ≡ c → (0 < stack.act c t.stack) ⊎ (0 < part c t) → ⊥
nobody w s k h i p t x c is_k d =
    let m = h.seats p t x in
    let none : part c t ≡ 0 = ap (λ y. part y t) (sym is_k) ∙ walk_none (id_of k) w.places i.unused p t x in
    let serial : c.serial ≡ s = ap (λ (y : CodeId). y.serial) (sym is_k) ∙ i.code_is.serial_is in
    ⊎_elim (λ a. ⊎_elim (λ le. absurd (omega arith))
    (λ f. false≢true (sym (m.unlooked c.serial f) ∙ (ap (λ n. is_looked w.log n p) serial ∙ looked_all w s i.all_looked p (at_low w.places p (Some t) x))))
    (part_held w.codes w.log p t c m))
    (λ b. absurd (omega arith)) d

-- An event that changes only the log.
logs : (w : World) (e : Entry) → IsReclaimed w.places w.codes w.log → Unnoticed e → IsReclaimed w.places w.codes (e ∷ w.log)
logs w e h n = logged w.places w.codes w.log e h n.quiet n.invalidates_not

-- Each event preserves the invariant, in a world with a sound table.
pub reclaim_kept : (w : World) → TableIsSound w.slots w.methods w.codes → NamesKnown w.log → IsReclaimed w.places w.codes w.log → Cases w (λ e a v. IsReclaimed v.places v.codes v.log)
reclaim_kept w table known h = record {
  refuses = λ e r. h;
  begins = λ p t i. begin_kept w p t h i.stands i.quiet;
  changes = λ p t code i. quiet_act w p t (changed_by t code) (record { event = event.At p act.Change; answer = difference t code }) h i.publishes.stands
      (record { quiet = λ q. record { starts_not = refl; exits_not = refl; begins_not = refl; ends_not = refl; enters_not = λ s. refl; clears_not = λ s. refl }; invalidates_not = λ s. refl })
      (record {
        fewer = λ c. omega arith;
        counted = change_counted w p t code (h.seats p t i.publishes.stands.there);
        shown = refl;
        published = refl;
        publishing = sym i.publishes.publishing;
        name = refl;
      });
  rests = λ p t i. same_act w p t t.state t.held (record { event = event.At p act.Change; answer = answer.NoChange }) h i.publishes.stands
      (record { quiet = λ q. record { starts_not = refl; exits_not = refl; begins_not = refl; ends_not = refl; enters_not = λ s. refl; clears_not = λ s. refl }; invalidates_not = λ s. refl });
  ends = λ p t i. end_kept w p t h i.publishes.stands i.publishes.publishing;
  moves = λ p t a state given i. same_act w p t state t.held (record { event = event.At p a; answer = given }) h i.acts.stands
      (record { quiet = λ q. move_quiet p q a given i.is; invalidates_not = λ s. refl });
  interprets = λ p t method i. interpreted w p t method (record { event = event.At p (act.Enter method None); answer = answer.Entered }) h i.acts.stands i.acts.quiet
      (record { quiet = λ q. record { starts_not = refl; exits_not = refl; begins_not = refl; ends_not = refl; enters_not = λ s. refl; clears_not = λ s. refl }; invalidates_not = λ s. refl });
  enters = λ p t method serial code i. enter_kept w p t method serial code h i;
  misses = λ p t method serial code i. same_act w p t t.state t.held (record { event = event.At p (act.Enter method (Some serial)); answer = answer.WrongMethod }) h i.calls.acts.stands
      (record { quiet = λ q. record { starts_not = refl; exits_not = refl; begins_not = refl; ends_not = refl; enters_not = λ s. refl; clears_not = λ s. refl }; invalidates_not = λ s. refl });
  leaves = λ p t state i. quiet_act w p t (moved (popped t) state) (record { event = event.At p act.Leave; answer = go_or_stop (poll_of w.requests t.name) }) h i.acts.stands
      (record { quiet = λ q. record { starts_not = refl; exits_not = refl; begins_not = refl; ends_not = refl; enters_not = λ s. refl; clears_not = λ s. refl }; invalidates_not = λ s. refl })
      (record {
        fewer = λ c. act_take c (length t.stack - 1) t.stack;
        counted = popped_counted w p t state h i.acts.stands i.acts.quiet;
        shown = refl;
        published = refl;
        publishing = refl;
        name = refl;
      });
  exits = λ p t i. lands w.places w.codes w.log p None (record { event = event.At p act.Exit; answer = answer.Exited t.name }) h i.acts.stands.low
      (λ q ne. record { starts_not = refl; exits_not = ne_eqb p q (λ z. ne (sym z)); begins_not = refl; ends_not = refl; enters_not = λ s. refl; clears_not = λ s. refl })
      (λ s. refl) (λ s q. refl) (λ z s. (let a = same_number p in rw a refl)) (λ v x. cc);
  finishes = λ p t opened i. logs w (record { event = event.At p act.Finish; answer = answer.Reply (reply_to opened.request t.stack) }) h
      (record { quiet = λ q. record { starts_not = refl; exits_not = refl; begins_not = refl; ends_not = refl; enters_not = λ s. refl; clears_not = λ s. refl }; invalidates_not = λ s. refl });
  clears = λ p t opened i. logs w (record { event = event.At p act.Clear; answer = answer.Done }) h
      (record { quiet = λ q. record { starts_not = refl; exits_not = refl; begins_not = refl; ends_not = refl; enters_not = λ s. refl; clears_not = λ s. refl }; invalidates_not = λ s. refl });
  holds = λ p t opened i. same_act w p t t.state true (record { event = event.At p act.Hold; answer = answer.Done }) h i.acts.stands
      (record { quiet = λ q. record { starts_not = refl; exits_not = refl; begins_not = refl; ends_not = refl; enters_not = λ s. refl; clears_not = λ s. refl }; invalidates_not = λ s. refl });
  releases = λ p t i. same_act w p t t.state false (record { event = event.At p act.Release; answer = answer.Done }) h i.acts.stands
      (record { quiet = λ q. record { starts_not = refl; exits_not = refl; begins_not = refl; ends_not = refl; enters_not = λ s. refl; clears_not = λ s. refl }; invalidates_not = λ s. refl });
  shows = λ p t i. same_act w p t t.state t.held (record { event = event.At p act.Stack; answer = answer.Frames t.stack }) h i
      (record { quiet = λ q. record { starts_not = refl; exits_not = refl; begins_not = refl; ends_not = refl; enters_not = λ s. refl; clears_not = λ s. refl }; invalidates_not = λ s. refl });
  starts = λ p i. start_kept w p known h i.low;
  installs = λ method slot i. installed w.places w.codes w.log (record { event = event.Install method; answer = answer.Code (next_serial w.codes) }) method slot h
      (λ q. record { starts_not = refl; exits_not = refl; begins_not = refl; ends_not = refl; enters_not = λ s. refl; clears_not = λ s. refl }) (λ s. refl);
  invalidates = λ serial code i. restated w.places w.codes w.log serial NotEntrant code (record { event = event.Invalidate serial; answer = answer.Done }) h (record {
    there = unfreed_code w.slots w.methods w.codes table serial code i.found;
    quiet = λ q. record { starts_not = refl; exits_not = refl; begins_not = refl; ends_not = refl; enters_not = λ s. refl; clears_not = λ s. refl };
    stays = λ p t x c is d z. refl;
    left = (let a = same_number serial in rw a refl);
    others = λ r ne. ne_eqb serial r ne;
  });
  goes_round = λ i. logs w (record { event = event.Round; answer = answer.Done }) h
      (record { quiet = λ q. record { starts_not = refl; exits_not = refl; begins_not = refl; ends_not = refl; enters_not = λ s. refl; clears_not = λ s. refl }; invalidates_not = λ s. refl });
  looks_clear = λ serial p code i. look_kept w serial p code table h i;
  looks_late = λ serial p code i. logs w (record { event = event.Look serial p; answer = answer.Late }) h
      (record { quiet = λ q. record { starts_not = refl; exits_not = refl; begins_not = refl; ends_not = refl; enters_not = λ s. refl; clears_not = λ s. and_right ((serial == s) && (p == q)) false refl }; invalidates_not = λ s. refl });
  finds_unlooked = λ serial code p i. logs w (record { event = event.Weigh serial; answer = answer.NotLooked p }) h
      (record { quiet = λ q. record { starts_not = refl; exits_not = refl; begins_not = refl; ends_not = refl; enters_not = λ s. refl; clears_not = λ s. refl }; invalidates_not = λ s. refl });
  finds_used = λ serial code i. logs w (record { event = event.Weigh serial; answer = answer.Used (walk w (id_of code)) }) h
      (record { quiet = λ q. record { starts_not = refl; exits_not = refl; begins_not = refl; ends_not = refl; enters_not = λ s. refl; clears_not = λ s. refl }; invalidates_not = λ s. refl });
  retires = λ serial code i. (let there = unfreed_code w.slots w.methods w.codes table serial code i.code_is.found in
      restated w.places w.codes w.log serial Zombie code (record { event = event.Weigh serial; answer = answer.Retired }) h (record {
        there = there;
        quiet = λ q. record { starts_not = refl; exits_not = refl; begins_not = refl; ends_not = refl; enters_not = λ s. refl; clears_not = λ s. refl };
        stays = λ p t x c is d z. absurd (nobody w serial code h i p t x c is d);
        left = left_in w.places w.codes w.log serial code h there (ap is_in_use i.code_is.state_is);
        others = λ r ne. refl;
      }));
  frees = λ serial code i. (let there = unfreed_code w.slots w.methods w.codes table serial code i.found in
      restated w.places w.codes w.log serial Freed code (record { event = event.Free serial; answer = answer.Done }) h (record {
        there = there;
        quiet = λ q. record { starts_not = refl; exits_not = refl; begins_not = refl; ends_not = refl; enters_not = λ s. refl; clears_not = λ s. refl };
        stays = λ p t x c is d z. absurd (false≢true (ap may_stand (sym i.state_is) ∙ z));
        left = left_in w.places w.codes w.log serial code h there (ap is_in_use i.state_is);
        others = λ r ne. refl;
      }));
  asks = λ request i. logs w (record { event = event.Ask request; answer = answer.Asked (operations_given w.log + 1) }) h
      (record { quiet = λ q. record { starts_not = refl; exits_not = refl; begins_not = refl; ends_not = refl; enters_not = λ s. refl; clears_not = λ s. refl }; invalidates_not = λ s. refl });
  opens = λ oldest others i. logs w (record { event = event.Open; answer = answer.Opened oldest.number (kind_of oldest.request) }) h
      (record { quiet = λ q. record { starts_not = refl; exits_not = refl; begins_not = refl; ends_not = refl; enters_not = λ s. refl; clears_not = λ s. refl }; invalidates_not = λ s. refl });
  tells = λ name opened i. logs w (record { event = event.Tell name; answer = answer.Told }) h
      (record { quiet = λ q. record { starts_not = refl; exits_not = refl; begins_not = refl; ends_not = refl; enters_not = λ s. refl; clears_not = λ s. refl }; invalidates_not = λ s. refl });
  finds_gone = λ name i. logs w (record { event = event.Tell name; answer = answer.Gone }) h
      (record { quiet = λ q. record { starts_not = refl; exits_not = refl; begins_not = refl; ends_not = refl; enters_not = λ s. refl; clears_not = λ s. refl }; invalidates_not = λ s. refl });
  operates = λ opened others i. logs w (record { event = event.Operate; answer = answer.Census (census w) }) h
      (record { quiet = λ q. record { starts_not = refl; exits_not = refl; begins_not = refl; ends_not = refl; enters_not = λ s. refl; clears_not = λ s. refl }; invalidates_not = λ s. refl });
  closes = λ number opened i. logs w (record { event = event.Close number; answer = answer.Closed opened.number }) h
      (record { quiet = λ q. record { starts_not = refl; exits_not = refl; begins_not = refl; ends_not = refl; enters_not = λ s. refl; clears_not = λ s. refl }; invalidates_not = λ s. refl });
  counts = λ serial code i. logs w (record { event = event.Count serial; answer = answer.Count (walk w (id_of code)) }) h
      (record { quiet = λ q. record { starts_not = refl; exits_not = refl; begins_not = refl; ends_not = refl; enters_not = λ s. refl; clears_not = λ s. refl }; invalidates_not = λ s. refl });
  says_state = λ serial code i. logs w (record { event = event.CodeState serial; answer = answer.State code.state }) h
      (record { quiet = λ q. record { starts_not = refl; exits_not = refl; begins_not = refl; ends_not = refl; enters_not = λ s. refl; clears_not = λ s. refl }; invalidates_not = λ s. refl });
  resolves = λ method i. logs w (record { event = event.Resolve method; answer = code_or_none (in_use_for w.codes method) }) h
      (record { quiet = λ q. record { starts_not = refl; exits_not = refl; begins_not = refl; ends_not = refl; enters_not = λ s. refl; clears_not = λ s. refl }; invalidates_not = λ s. refl });
}

pub reclaim_start : (places : ℕ) → IsReclaimed (replicate places None) [] []
reclaim_start places = record {
  seats = each_start (IsThread [] []) places;
  vacant = λ p s x. refl;
  table = record { invalidated_is = λ s. refl; looked_by = λ s p h. h };
}

pub names_known : (w : World) → NamesKnown w.log → Cases w (λ e a v. NamesKnown v.log)
names_known w h = record {
  refuses = λ e r. h;
  begins = λ p t i. h;
  changes = λ p t code i. h;
  rests = λ p t i. h;
  ends = λ p t i. h;
  moves = λ p t a state given i. h;
  interprets = λ p t method i. h;
  enters = λ p t method serial code i. h;
  misses = λ p t method serial code i. h;
  leaves = λ p t state i. h;
  exits = λ p t i. h;
  finishes = λ p t opened i. h;
  clears = λ p t opened i. h;
  holds = λ p t opened i. h;
  releases = λ p t i. h;
  shows = λ p t i. h;
  starts = λ p i. λ name z. subst (λ n. name ≤ n) (started_more w p) (⊎_elim (λ a. (let same = eqb-true (names_given w.log + 1) name a in omega arith)) (λ b. (let low = h name b in omega arith)) (or_cases (names_given w.log + 1 == name) (has_started w.log name) z));
  installs = λ method slot i. h;
  invalidates = λ serial code i. h;
  goes_round = λ i. h;
  looks_clear = λ serial p code i. h;
  looks_late = λ serial p code i. h;
  finds_unlooked = λ serial code p i. h;
  finds_used = λ serial code i. h;
  retires = λ serial code i. h;
  frees = λ serial code i. h;
  asks = λ request i. h;
  opens = λ oldest others i. h;
  tells = λ name opened i. h;
  finds_gone = λ name i. h;
  operates = λ opened others i. h;
  closes = λ number opened i. h;
  counts = λ serial code i. h;
  says_state = λ serial code i. h;
  resolves = λ method i. h;
}
