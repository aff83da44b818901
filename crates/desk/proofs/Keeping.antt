-- A history with one entry more.
use Rattle.std.proofs.Common.{◌≡◌, ◌≢◌, ℕ, zero, suc, ◌+◌, ◌-◌, ◌<◌, ◌≤◌, List, [], ◌∷◌, ◌++◌, Bool, true, false, not, cond, Option, Some, None, length, map, refl, sym, ap, ◌∙◌, subst, arith, length-append}
use Rattle.std.specs.Prelude.{◌&&◌, ◌==◌, is_none, slice_get, slice_set, option_map}
use Rattle.std.specs.List.{remove}
use Rattle.std.proofs.lemmas.Bool.{eq-eqb, ne_eqb, and_parts}
use Rattle.std.proofs.lemmas.List.{map-append, append_assoc}
use Rattle.frames.specs.declared.CodeId.{CodeId}
use Rattle.method_table.specs.declared.Code.{Code}
use Rattle.method_table.specs.declared.CodeState.{CodeState}
use Rattle.method_table.specs.declared.CodeState.TheVariants as state
use Rattle.method_table.specs.Codes.{unfreed, in_use_for, id_of, with_code, with_state, without_use, in_state, next_serial, free_slot}
use Rattle.method_table.proofs.Left.{state_is, unfreed_here, slot_left, long_left, fault_left, none_left}
use Rattle.method_table.specs.TableView.{TableView, IsTable, install_fault, invalidate_fault, retire_fault, free_fault}
use Rattle.operations.specs.declared.Request.{Request}
use Rattle.operations.specs.declared.Request.TheVariants.{Handshake, Census}
use Rattle.operations.specs.declared.queue.Waiting.{Waiting}
use Rattle.operations.specs.Names.{among, is_distinct}
use Rattle.operations.specs.Requests.{is_census}
use Rattle.desk.specs.CodeBoard.{with_codes}
use Rattle.desk.specs.declared.entries.Entry.{Entry}
use Rattle.desk.specs.declared.entries.Entry.TheVariants.{Start, Exit, Ask, Open, Finish, Operate, Close, Install, Invalidate}
use Rattle.desk.specs.declared.entries.Live.{Live}
use Rattle.desk.specs.declared.entries.Carried.{Carried}
use Rattle.desk.specs.declared.entries.Opened.{Opened}
use Rattle.desk.specs.Machine.{State, step, open_of, lawful, start, after_from, legal_from, after, is_legal, is_taken, is_live, without, Asked, Current, may_open_more, is_least, is_first, live_of, open_next, opened_of, rest_of, finished, as_operated, Book, has_census, passes, is_due, may_operate, may_close, at_number, without_number, steps_of, is_free_slot, targets_of, Stands, stands}
use Rattle.desk.specs.Room.{needs, needs_of_asked, needs_of_opened, needs_of_codes, states_left}
use Rattle.desk.specs.Fields.{Fields, IsKept, AreFit, AreDistinct, state_of, asked_of, current_of, due_of, IsIndex, IsCarried, AreCarried, DeskSeen, Enters, EntersInstall, install_entries, kept_before, at}
use Rattle.desk.proofs.Fewer.{filter_le, filter_less}
use Rattle.desk.proofs.Distinct.{distinct_part}
use Rattle.desk.proofs.CodeEntries.{unfreed_parts}
use Rattle.desk.specs.Refusals.{front_is}
use Rattle.desk.proofs.OpenLists.{front_at, open_at, none_at, set_at, removed_at, needs_at, needs_without, fit_of, fit_at, fit_push, fit_without, needs_push, distinct_of, distinct_at, distinct_push, distinct_without}

after_from-push : (s : State) (h : List Entry) (e : Entry) → after_from s (h ++ e ∷ []) ≡ step (after_from s h) e
after_from-push s [] e = refl
after_from-push s (x ∷ h) e = after_from-push (step s x) h e

both_true : (a b : Bool) → a ≡ true → b ≡ true → (a && b) ≡ true
both_true a b p q = ap (λ x. x && b) p ∙ q

legal_from-push : (s : State) (h : List Entry) (e : Entry) → legal_from s h ≡ true → lawful (after_from s h) e ≡ true → legal_from s (h ++ e ∷ []) ≡ true
legal_from-push s [] e legal may = both_true _ _ may refl
legal_from-push s (x ∷ h) e legal may =
    let p = and_parts (lawful s x) (legal_from (step s x) h) legal in both_true _ _ p.0 (legal_from-push (step s x) h e p.1 may)

pub after-push : (slots methods : ℕ) (h : List Entry) (e : Entry) → after slots methods (h ++ e ∷ []) ≡ step (after slots methods h) e
unfolding after
after-push slots methods h e = after_from-push (start slots methods) h e

pub legal-push : (slots methods : ℕ) (h : List Entry) (e : Entry) → is_legal slots methods h ≡ true → lawful (after slots methods h) e ≡ true → is_legal slots methods (h ++ e ∷ []) ≡ true
unfolding after is_legal
legal-push slots methods h e legal may = legal_from-push (start slots methods) h e legal may

-- the conditions of a new entry
record Entered {J : Type 0} (d d' : Fields J) (e : Entry) : Type 0 where
  slots : d'.table.slots ≡ d.table.slots
  methods : d'.table.methods ≡ d.table.methods
  history : d'.book.history ≡ d.book.history ++ e ∷ []
  may : lawful (state_of d) e ≡ true
  next : step (state_of d) e ≡ state_of d'
  needed : needs (state_of d') ≤ d'.book.reserved
  fit : AreFit (map current_of d'.opened)
  distinct : AreDistinct (map current_of d'.opened)

-- one more entry preserves the invariant
keeps : {J : Type 0} {d d' : Fields J} (e : Entry) → IsKept d → Entered d d' e → IsKept d'
keeps {d = d} {d' = d'} e k n = record {
  legal = (λ i. is_legal (n.slots i) (n.methods i) (n.history i)) ∙ legal-push d.table.slots d.table.methods d.book.history e k.legal (ap (λ (t : State). lawful t e) k.state ∙ n.may);
  state = (λ i. after (n.slots i) (n.methods i) (n.history i)) ∙ after-push d.table.slots d.table.methods d.book.history e ∙ ap (λ (t : State). step t e) k.state ∙ n.next;
  needed = n.needed;
  fit = n.fit;
  distinct = n.distinct;
}

-- no entry yet
pub empty : {J : Type 0} (d : Fields J) → d.book.history ≡ [] → start d.table.slots d.table.methods ≡ state_of d → IsKept d
unfolding after is_legal
empty d none first = record {
  legal = ap (is_legal d.table.slots d.table.methods) none;
  state = ap (after d.table.slots d.table.methods) none ∙ first;
  needed = subst (λ (s : State). needs s ≤ d.book.reserved) first (omega arith);
  fit = subst (λ (s : State). AreFit s.opened) first tt;
  distinct = subst (λ (s : State). AreDistinct s.opened) first tt;
}

pub start_keeps : {J : Type 0} {d : Fields J} (b : Book) (place : ℕ) (live : List Live)
    → IsKept d → is_taken place d.live ≡ false → has_census (map current_of d.opened) ≡ false → live ≡ d.live ++ record { name = d.next_name; place = place } ∷ []
    → b.history ≡ d.book.history ++ Start d.next_name place ∷ [] → b.reserved ≡ d.book.reserved + 1 → IsKept (record d { book = b; next_name = d.next_name + 1; live = live })
start_keeps {d = d} b place live k free none is there kept =
    let n : length live ≡ length d.live + 1 = omega (arith, ap length is, length-append d.live (record { name = d.next_name; place = place } ∷ [])) in
    keeps (Start d.next_name place) k record {
      slots = refl;
      methods = refl;
      history = there;
      may = both_true _ _ (eq-eqb d.next_name d.next_name refl) (both_true _ _ (ap not free) (ap not none));
      next = ap (λ (l : List Live). state_of (record d { next_name = d.next_name + 1; live = l })) (sym is);
      needed = (let m = k.needed in omega arith);
      fit = k.fit;
      distinct = k.distinct;
    }

pub exit_keeps : {J : Type 0} {d : Fields J} (b : Book) (name : ℕ) (live : List Live)
    → IsKept d → is_live name d.live ≡ true → live ≡ without name d.live
    → b.history ≡ d.book.history ++ Exit name ∷ [] → b.reserved + 1 ≡ d.book.reserved → IsKept (record d { book = b; live = live })
exit_keeps {d = d} b name live k here is there kept =
    let less = filter_less (λ (l : Live). l.name == name) d.live here in
    let n : length live + 1 ≤ length d.live = omega (arith, ap length is) in
    keeps (Exit name) k record {
      slots = refl;
      methods = refl;
      history = there;
      may = here;
      next = ap (λ (l : List Live). state_of (record d { live = l })) (sym is);
      needed = (let m = k.needed in omega arith);
      fit = k.fit;
      distinct = k.distinct;
    }

needs_of_asked-push : (xs : List Asked) (a : Asked) → needs_of_asked (xs ++ a ∷ []) ≡ needs_of_asked xs + (2 + steps_of a.request)
needs_of_asked-push [] a = omega arith
needs_of_asked-push (x ∷ xs) a = let k = needs_of_asked-push xs a in omega arith

pub ask_keeps : {J : Type 0} {d : Fields J} (b : Book) (queue : List (Waiting (Carried J))) (w : Waiting (Carried J))
    → IsKept d → w.number ≡ d.next_number → queue ≡ d.queue ++ w ∷ []
    → b.history ≡ d.book.history ++ Ask d.next_number w.request ∷ [] → b.reserved ≡ d.book.reserved + (2 + steps_of w.request)
    → IsKept (record d { book = b; next_number = d.next_number + 1; queue = queue })
ask_keeps {d = d} b queue w k same is there kept =
    let asked : map asked_of queue ≡ map asked_of d.queue ++ record { number = d.next_number; request = w.request } ∷ [] =
    ap (map asked_of) is ∙ map-append asked_of d.queue (w ∷ []) ∙ ap (λ (n : ℕ). map asked_of d.queue ++ record { number = n; request = w.request } ∷ []) same in
    let more : needs_of_asked (map asked_of queue) ≡ needs_of_asked (map asked_of d.queue) + (2 + steps_of w.request) =
    ap needs_of_asked asked ∙ needs_of_asked-push (map asked_of d.queue) (record { number = d.next_number; request = w.request }) in
    keeps (Ask d.next_number w.request) k record {
      slots = refl;
      methods = refl;
      history = there;
      may = eq-eqb d.next_number d.next_number refl;
      next = (let F : List Asked → State = λ l. record (state_of d) { next_number = d.next_number + 1; waiting = l } in ap F (sym asked));
      needed = (let m = k.needed in omega arith);
      fit = k.fit;
      distinct = k.distinct;
    }

pub carried_push : {J : Type 0} (whom : J → ℕ) (q : List (Waiting (Carried J))) (w : Waiting (Carried J)) → AreCarried whom q → IsCarried whom w → AreCarried whom (q ++ w ∷ [])
carried_push whom [] w are new = (new, tt)
carried_push whom (x ∷ q) w are new = (are.0, carried_push whom q w are.1 new)

due_opened : (before : ℕ) (ls : List Live) (a : Asked) → due_of (opened_of before ls a) ≤ steps_of a.request
due_opened before ls a = by a.request
  where
    by : (r : Request) → due_of (opened_of before ls (record { number = a.number; request = r })) ≤ steps_of r
    by Census = omega arith
    by (Handshake targets ask) = let l = filter_le (λ (t : ℕ). is_live t ls) targets in omega arith

-- the opened request is the oldest waiting one
pub record OpensIt {J : Type 0} (d : Fields J) (w : Waiting (Carried J)) (o : Opened J) : Type 0 where
  pub number : o.number ≡ w.number
  pub request : o.request ≡ w.request
  pub before : o.before ≡ d.next_name
  pub left : o.left ≡ steps_of w.request
  pub due : o.due.items ≡ live_of d.live (targets_of w.request)
  pub operated : o.operated ≡ false

pub open_keeps : {J : Type 0} {d : Fields J} (whom : J → ℕ) (b : Book) (queue : List (Waiting (Carried J))) (opened : List (Opened J)) (w : Waiting (Carried J)) (o : Opened J)
    → IsKept d → AreCarried whom d.queue → may_open_more (map asked_of d.queue) (map current_of d.opened) ≡ true → d.queue ≡ w ∷ queue → opened ≡ d.opened ++ o ∷ [] → OpensIt d w o
    → b.history ≡ d.book.history ++ Open w.number ∷ [] → b.reserved + 1 ≡ d.book.reserved → IsKept (record d { book = b; queue = queue; opened = opened }) × AreCarried whom queue
open_keeps {d = d} whom b queue opened w o k are none is there_is opens there kept =
    let carried : IsCarried whom w × AreCarried whom queue = subst (AreCarried whom) is are in
    let asked : map asked_of d.queue ≡ asked_of w ∷ map asked_of queue = ap (map asked_of) is in
    let n : needs_of_asked (map asked_of d.queue) ≡ (2 + steps_of w.request) + needs_of_asked (map asked_of queue) = ap needs_of_asked asked in
    let new : Current = opened_of d.next_name d.live (asked_of w) in
    let o_is : current_of o ≡ new = λ i. record { number = opens.number i; request = opens.request i; before = opens.before i; left = opens.left i; due = opens.due i; operated = opens.operated i } in
    let os_is : map current_of opened ≡ map current_of d.opened ++ new ∷ [] = ap (map current_of) there_is ∙ map-append current_of d.opened (o ∷ []) ∙ ap (λ (c : Current). map current_of d.opened ++ c ∷ []) o_is in
    let m : needs_of_opened (map current_of opened) ≡ needs_of_opened (map current_of d.opened) + (1 + steps_of w.request) = ap needs_of_opened os_is ∙ needs_push (map current_of d.opened) new in
    let once = distinct_part (λ (name : ℕ). is_live name d.live) (targets_of w.request) carried.0.distinct in (
      keeps (Open w.number) k record {
        slots = refl;
        methods = refl;
        history = there;
        may = both_true _ _ none (ap (is_first w.number) asked ∙ eq-eqb w.number w.number refl);
        next = (let F : List Asked → State = λ l. record (state_of d) { waiting = rest_of l; opened = open_next d.next_name d.live l (map current_of d.opened) } in
            ap F asked ∙ ap (λ (cs : List Current). record (state_of d) { waiting = map asked_of queue; opened = cs }) (sym os_is));
        needed = (let z = k.needed in omega arith);
        fit = subst AreFit (sym os_is) (fit_push (map current_of d.opened) new k.fit carried.0.number (due_opened d.next_name d.live (asked_of w)));
        distinct = subst AreDistinct (sym os_is) (distinct_push (map current_of d.opened) new k.distinct once);
      },
      carried.1,
    )

-- the open request with this number, and its index
pub record Found {J : Type 0} (opened : List (Opened J)) (n : ℕ) (o : Opened J) : Type 0 where
  pub place : ℕ
  pub index : IsIndex n opened (Some place)
  pub here : slice_get opened place ≡ Some o

pub found_is : {J : Type 0} {opened : List (Opened J)} {n : ℕ} {o : Opened J} → Found opened n o → open_of n (map current_of opened) ≡ Some (current_of o)
found_is {opened = opened} {n = n} {o = o} f = open_at n f.place opened o f.index f.here

-- only this request changes
pub record Changed {J : Type 0} (f : Current → Current) (n : ℕ) (old new : List (Opened J)) (o : Opened J) : Type 0 where
  pub found : Found old n o
  pub made : Opened J
  pub set : new ≡ slice_set old found.place made
  pub is : current_of made ≡ f (current_of o)

pub changed_is : {J : Type 0} {f : Current → Current} {n : ℕ} {old new : List (Opened J)} {o : Opened J} → Changed f n old new o → map current_of new ≡ at_number f n (map current_of old)
changed_is {f = f} {n = n} {old = old} {o = o} c = ap (map current_of) c.set ∙ set_at f n c.found.place old o c.made c.found.index c.found.here c.is

-- a change uses one of the request's reserved entries, and the due names stay distinct
record Spends (f : Current → Current) (c : Current) : Type 0 where
  number : (f c).number ≡ c.number
  left : (f c).left + 1 ≡ c.left
  fit : due_of (f c) ≤ (f c).left
  distinct : is_distinct c.due ≡ true → is_distinct (f c).due ≡ true

-- an entry that changes the open request with its number
changes : {J : Type 0} {d : Fields J} {o : Opened J} (b : Book) (e : Entry) (f : Current → Current) (n : ℕ) (opened : List (Opened J))
    → IsKept d → Changed f n d.opened opened o → Spends f (current_of o)
    → lawful (state_of d) e ≡ true → step (state_of d) e ≡ record (state_of d) { opened = at_number f n (map current_of d.opened) }
    → b.history ≡ d.book.history ++ e ∷ [] → b.reserved + 1 ≡ d.book.reserved → IsKept (record d { book = b; opened = opened })
changes {d = d} {o = o} b e f n opened k c spends may next there kept =
    let found = found_is c.found in
    let os_is : map current_of opened ≡ at_number f n (map current_of d.opened) = changed_is c in
    let m = needs_at f n (map current_of d.opened) (current_of o) found in
    let m' : needs_of_opened (map current_of opened) ≡ needs_of_opened (at_number f n (map current_of d.opened)) = ap needs_of_opened os_is in
    let less = spends.left in
    let once = distinct_of n (map current_of d.opened) (current_of o) k.distinct found in
    keeps e k record {
      slots = refl;
      methods = refl;
      history = there;
      may = may;
      next = next ∙ ap (λ (cs : List Current). record (state_of d) { opened = cs }) (sym os_is);
      needed = (let z = k.needed in omega arith);
      fit = subst AreFit (sym os_is) (fit_at f n (map current_of d.opened) (current_of o) k.fit found spends.fit spends.number);
      distinct = subst AreDistinct (sym os_is) (distinct_at f n (map current_of d.opened) (current_of o) k.distinct found (spends.distinct once));
    }

-- the due names of an open request are distinct
pub due_once : {J : Type 0} {d : Fields J} {n : ℕ} {o : Opened J} → IsKept d → Found d.opened n o → is_distinct o.due.items ≡ true
due_once {d = d} {n = n} {o = o} k found = distinct_of n (map current_of d.opened) (current_of o) k.distinct (found_is found)

-- room is reserved for the entries of an open request
pub open_room : {J : Type 0} {d : Fields J} {n : ℕ} {o : Opened J} → IsKept d → Found d.opened n o → (due_of (current_of o) ≤ o.left) × (1 + o.left ≤ d.book.reserved)
open_room {d = d} {n = n} {o = o} k found =
    let is = found_is found in
    ((fit_of n (map current_of d.opened) (current_of o) k.fit is).1, (let a = needs_without n (map current_of d.opened) (current_of o) is in let m = k.needed in omega arith))

due_left : (name : ℕ) (c : Current) → is_due name c ≡ true → due_of c ≤ c.left → Spends (finished name) c
due_left name c h fit =
    let less = filter_less (λ (x : ℕ). x == name) c.due h in
    record { number = refl; left = omega arith; fit = omega arith; distinct = distinct_part (λ (t : ℕ). not (t == name)) c.due }

-- while a name is due, an entry is left
pub due_entry : (name : ℕ) (c : Current) → is_due name c ≡ true → due_of c ≤ c.left → 0 < c.left
due_entry name c h fit = let d = due_left name c h fit in omega (arith, d.left)

pub finish_keeps : {J : Type 0} {d : Fields J} {o : Opened J} (b : Book) (n name reply : ℕ) (opened : List (Opened J))
    → IsKept d → Changed (finished name) n d.opened opened o
    → among name o.due.items ≡ true → is_live name d.live ≡ true → is_least n name (map current_of d.opened) ≡ true
    → b.history ≡ d.book.history ++ Finish n name reply ∷ [] → b.reserved + 1 ≡ d.book.reserved → IsKept (record d { book = b; opened = opened })
finish_keeps {d = d} {o = o} b n name reply opened k c due lives least there kept =
    let found = found_is c.found in
    let spends = due_left name (current_of o) due (fit_of n (map current_of d.opened) (current_of o) k.fit found).1 in
    let may = both_true _ _ (both_true _ _ (ap (passes (is_due name)) found ∙ due) lives) least in
    changes b (Finish n name reply) (finished name) n opened k c spends may refl there kept

operate_left : (c : Current) → may_operate c ≡ true → due_of c ≤ c.left → Spends as_operated c
operate_left c h fit =
    let one : cond {A = ℕ} (may_operate c) 1 0 ≡ 1 = ap (λ b. cond {A = ℕ} b 1 0) h in
    let none : cond {A = ℕ} (may_operate (as_operated c)) 1 0 ≡ 0 = zero_of (is_census c.request) in
    record { number = refl; left = omega arith; fit = omega arith; distinct = λ once. once }
  where
    zero_of : (b : Bool) → cond {A = ℕ} (b && false) 1 0 ≡ 0
    zero_of true = refl
    zero_of false = refl

pub operate_keeps : {J : Type 0} {d : Fields J} {o : Opened J} (b : Book) (n : ℕ) (opened : List (Opened J))
    → IsKept d → Changed as_operated n d.opened opened o → may_operate (current_of o) ≡ true
    → b.history ≡ d.book.history ++ Operate n ∷ [] → b.reserved + 1 ≡ d.book.reserved → IsKept (record d { book = b; opened = opened })
operate_keeps {d = d} {o = o} b n opened k c may there kept =
    let found = found_is c.found in
    let spends = operate_left (current_of o) may (fit_of n (map current_of d.opened) (current_of o) k.fit found).1 in
    changes b (Operate n) as_operated n opened k c spends (ap (passes may_operate) found ∙ may) refl there kept

-- the Close of a request that may be closed is lawful
pub close_is : {J : Type 0} {d : Fields J} {n : ℕ} {o : Opened J} → IsKept d → Found d.opened n o → may_close d.live (current_of o) ≡ true → lawful (state_of d) (Close n) ≡ true
close_is {d = d} k found may = ap (passes (may_close d.live)) (found_is found) ∙ may

pub close_keeps : {J : Type 0} {d : Fields J} {n : ℕ} {o : Opened J} (b : Book) (opened : List (Opened J))
    → IsKept d → (found : Found d.opened n o) → opened ≡ remove d.opened found.place → may_close d.live (current_of o) ≡ true
    → b.history ≡ d.book.history ++ Close n ∷ [] → b.reserved + (1 + o.left) ≡ d.book.reserved → IsKept (record d { book = b; opened = opened })
close_keeps {d = d} {n = n} {o = o} b opened k found is may there kept =
    let gone : map current_of opened ≡ without_number n (map current_of d.opened) = ap (map current_of) is ∙ removed_at n found.place d.opened found.index in
    let m = needs_without n (map current_of d.opened) (current_of o) (found_is found) in
    let m' : needs_of_opened (map current_of opened) ≡ needs_of_opened (without_number n (map current_of d.opened)) = ap needs_of_opened gone in
    keeps (Close n) k record {
      slots = refl;
      methods = refl;
      history = there;
      may = close_is k found may;
      next = ap (λ (cs : List Current). record (state_of d) { opened = cs }) (sym gone);
      needed = (let z = k.needed in omega arith);
      fit = subst AreFit (sym gone) (fit_without n (map current_of d.opened) k.fit);
      distinct = subst AreDistinct (sym gone) (distinct_without n (map current_of d.opened) k.distinct);
    }

-- open requests with the same state preserve the invariant
pub same_keeps : {J : Type 0} {d : Fields J} (opened : List (Opened J)) → IsKept d → map current_of opened ≡ map current_of d.opened → IsKept (record d { opened = opened })
same_keeps {d = d} opened k same = record {
  legal = k.legal;
  state = k.state ∙ ap (λ (cs : List Current). record (state_of d) { opened = cs }) (sym same);
  needed = subst (λ (cs : List Current). needs (record (state_of d) { opened = cs }) ≤ d.book.reserved) (sym same) k.needed;
  fit = subst AreFit (sym same) k.fit;
  distinct = subst AreDistinct (sym same) k.distinct;
}

-- the entries that codes can make
needs_of_codes-push : (cs : List Code) (c : Code) → needs_of_codes (cs ++ c ∷ []) ≡ needs_of_codes cs + states_left c.state
needs_of_codes-push [] c = omega arith
needs_of_codes-push (x ∷ cs) c = let r = needs_of_codes-push cs c in omega arith

abbrev AreNumbered : ℕ → List Code → Type 0
AreNumbered first cs = (i : ℕ) (c : Code) → slice_get cs i ≡ Some c → c.serial ≡ i + first

tail_numbered : (first : ℕ) (x : Code) (cs : List Code) → AreNumbered first (x ∷ cs) → AreNumbered (first + 1) cs
tail_numbered first x cs n i c h = let a = n (suc i) c h in omega arith

in_state_other : (s : ℕ) (st : CodeState) (c : Code) → c.serial ≢ s → in_state s st c ≡ c
in_state_other s st c ne = ap (λ b. cond b (record c { state = st }) c) (ne_eqb c.serial s ne)

untouched : (first s : ℕ) (st : CodeState) (cs : List Code) → AreNumbered first cs → s < first → with_state cs s st ≡ cs
untouched first s st [] n low = refl
untouched first s st (x ∷ cs) n low =
    let here : x.serial ≢ s = λ e. (let a = n 0 x refl in omega arith) in
    ap (λ c. c ∷ with_state cs s st) (in_state_other s st x here) ∙ ap (λ l. x ∷ l) (untouched (first + 1) s st cs (tail_numbered first x cs n) (omega arith))

needs_changed : (first i s : ℕ) (st : CodeState) (cs : List Code) (c : Code) → AreNumbered first cs → slice_get cs i ≡ Some c → c.serial ≡ s → needs_of_codes (with_state cs s st) + states_left c.state ≡ needs_of_codes cs + states_left st
needs_changed first i s st [] c n h e = cc
needs_changed first zero s st (x ∷ cs) c n h e =
    let same : x ≡ c = cc in
    let rest : with_state cs s st ≡ cs = untouched (first + 1) s st cs (tail_numbered first x cs n) (let a = n 0 x refl in let b = ap (λ (z : Code). z.serial) same in omega arith) in
    let here : in_state s st x ≡ record x { state = st } = ap (λ b. cond b (record x { state = st }) x) (eq-eqb x.serial s (ap (λ (z : Code). z.serial) same ∙ e)) in
    let a : states_left (in_state s st x).state ≡ states_left st = ap (λ (z : Code). states_left z.state) here in
    let b : needs_of_codes (with_state cs s st) ≡ needs_of_codes cs = ap needs_of_codes rest in
    let d : states_left x.state ≡ states_left c.state = ap (λ (z : Code). states_left z.state) same in
    omega arith
needs_changed first (suc i) s st (x ∷ cs) c n h e =
    let there : x.serial ≢ s = λ f. (let a = n 0 x refl in let b = n (suc i) c h in omega arith) in
    let a : states_left (in_state s st x).state ≡ states_left x.state = ap (λ (z : Code). states_left z.state) (in_state_other s st x there) in
    let r = needs_changed (first + 1) i s st cs c (tail_numbered first x cs n) h e in omega arith

-- the method has no code in use and may have one, and the code gets the free slot and the next serial
record Installs (t : TableView) (method : ℕ) (id : CodeId) : Type 0 where
  free : free_slot t.codes t.slots ≡ Some id.slot
  serial : id.serial ≡ next_serial t.codes
  none : in_use_for t.codes method ≡ None
  may : install_fault t method ≡ None

may_install : {J : Type 0} {method : ℕ} {id : CodeId} (d : Fields J) → Installs d.table method id → lawful (state_of d) (Install id method) ≡ true
may_install {method = method} {id = id} d i =
    both_true _ _ (eq-eqb id.serial (next_serial d.table.codes) i.serial) (both_true _ _ (ap (is_free_slot id.slot) i.free ∙ eq-eqb id.slot id.slot refl) (both_true _ _ (ap is_none i.none) (ap is_none i.may)))

install_keeps : {J : Type 0} {d : Fields J} {id : CodeId} (b : Book) (method : ℕ) (t : TableView)
    → IsKept d → Installs d.table method id → t ≡ with_codes d.table (with_code d.table.codes method id.slot)
    → b.history ≡ d.book.history ++ Install id method ∷ [] → b.reserved ≡ d.book.reserved + 3 → IsKept (record d { book = b; table = t })
install_keeps {d = d} {id = id} b method t k i is there kept =
    let m = needs_of_codes-push d.table.codes (record { serial = next_serial d.table.codes; slot = id.slot; method = method; state = state.InUse }) in
    let n : needs_of_codes t.codes ≡ needs_of_codes (with_code d.table.codes method id.slot) = ap (λ (v : TableView). needs_of_codes v.codes) is in
    keeps (Install id method) k record {
      slots = ap (λ (v : TableView). v.slots) is;
      methods = ap (λ (v : TableView). v.methods) is;
      history = there;
      may = may_install d i;
      next = ap (λ (v : TableView). record (state_of d) { table = v }) (sym is);
      needed = (let z = k.needed in omega arith);
      fit = k.fit;
      distinct = k.distinct;
    }

-- room is reserved for the entries of a code
pub code_room : {J : Type 0} {d : Fields J} (serial : ℕ) (code : Code) → IsKept d → IsTable d.table → unfreed d.table.codes serial ≡ Some code → states_left code.state ≤ d.book.reserved
code_room {d = d} serial code k table is =
    let u = unfreed_parts d.table.codes serial code is in
    let m = needs_changed 1 u.0 serial state.Freed d.table.codes code table.serials u.1 u.2 in
    let z = k.needed in omega arith

pub code_keeps : {J : Type 0} {d : Fields J} (b : Book) (e : Entry) (serial : ℕ) (t : TableView) (code : Code) (st : CodeState)
    → IsKept d → IsTable d.table → unfreed d.table.codes serial ≡ Some code → t ≡ with_codes d.table (with_state d.table.codes serial st)
    → lawful (state_of d) e ≡ true → step (state_of d) e ≡ record (state_of d) { table = with_codes d.table (with_state d.table.codes serial st) }
    → states_left st + 1 ≡ states_left code.state
    → b.history ≡ d.book.history ++ e ∷ [] → b.reserved + 1 ≡ d.book.reserved → IsKept (record d { book = b; table = t })
code_keeps {d = d} b e serial t code st k table found is may next less there kept =
    let u = unfreed_parts d.table.codes serial code found in
    let m = needs_changed 1 u.0 serial st d.table.codes code table.serials u.1 u.2 in
    let n : needs_of_codes t.codes ≡ needs_of_codes (with_state d.table.codes serial st) = ap (λ (v : TableView). needs_of_codes v.codes) is in
    keeps e k record {
      slots = ap (λ (v : TableView). v.slots) is;
      methods = ap (λ (v : TableView). v.methods) is;
      history = there;
      may = may;
      next = next ∙ ap (λ (v : TableView). record (state_of d) { table = v }) (sym is);
      needed = (let z = k.needed in omega arith);
      fit = k.fit;
      distinct = k.distinct;
    }

pub left_invalidate : (c : Code) → invalidate_fault (Some c) ≡ None → states_left c.state ≡ 3
left_invalidate c h = by c.state h
  where
    by : (s : CodeState) → invalidate_fault (Some (record c { state = s })) ≡ None → states_left s ≡ 3
    by state.InUse h = refl
    by state.NotEntrant h = cc
    by state.Zombie h = cc
    by state.Freed h = cc

-- an install, whatever it replaces: the method may have a code, which gets the free slot and the next serial
pub record Replaces (t : TableView) (method : ℕ) (old : Option CodeId) (id : CodeId) : Type 0 where
  pub table : IsTable t
  pub free : free_slot t.codes t.slots ≡ Some id.slot
  pub serial : id.serial ≡ next_serial t.codes
  pub may : install_fault t method ≡ None
  pub replaced : old ≡ option_map id_of (in_use_for t.codes method)

-- after the code in use leaves use, the method has no other in use
left_installs : (t : TableView) (method : ℕ) (replaced : Option CodeId) (id : CodeId) (c : Code) → Replaces t method replaced id → in_use_for t.codes method ≡ Some c
    → Installs (with_codes t (with_state t.codes c.serial state.NotEntrant)) method id
left_installs t method replaced id c r e = record {
  free = slot_left t r.table method c e ∙ r.free;
  serial = r.serial ∙ ap (λ n. n + 1) (sym (long_left t r.table method c e));
  none = none_left t r.table method c e;
  may = fault_left t r.table method c e ∙ r.may;
}

pub installs_keep : {J : Type 0} {d : Fields J} {replaced : Option CodeId} {id : CodeId} (b : Book) (method : ℕ) (t : TableView)
    → IsKept d → Replaces d.table method replaced id → t ≡ with_codes d.table (with_code (without_use d.table.codes (in_use_for d.table.codes method)) method id.slot)
    → b.history ≡ d.book.history ++ install_entries replaced id method → b.reserved + kept_before replaced ≡ d.book.reserved + 3 → IsKept (record d { book = b; table = t })
installs_keep {d = d} {replaced = replaced} {id = id} b method t k r next there kept = by (in_use_for d.table.codes method) refl replaced r next there kept
  where
    by : (o : Option Code) → in_use_for d.table.codes method ≡ o → (replaced : Option CodeId) → Replaces d.table method replaced id → t ≡ with_codes d.table (with_code (without_use d.table.codes o) method id.slot)
        → b.history ≡ d.book.history ++ install_entries replaced id method → b.reserved + kept_before replaced ≡ d.book.reserved + 3 → IsKept (record d { book = b; table = t })
    by None e None r next there kept = install_keeps b method t k (record { free = r.free; serial = r.serial; none = e; may = r.may }) next there (omega arith)
    by None e (Some a) r next there kept = let no : ◌≡◌ {A = Option CodeId} (Some a) None = r.replaced ∙ ap (option_map id_of) e in cc
    by (Some c) e None r next there kept = let no : ◌≡◌ {A = Option CodeId} None (Some (id_of c)) = r.replaced ∙ ap (option_map id_of) e in cc
    by (Some c) e (Some a) r next there kept =
        let u = unfreed_here d.table r.table method c e in
        let used = state_is d.table r.table method c e in
        let fault : invalidate_fault (Some c) ≡ None = rw used refl in
        let less = left_invalidate c fault in
        let room = code_room c.serial c k r.table u in
        let mid : Fields _ = record d { book = record { history = d.book.history ++ Invalidate c.serial ∷ []; reserved = d.book.reserved - 1; gone = d.book.gone }; table = with_codes d.table (with_state d.table.codes c.serial state.NotEntrant) } in
        let after_left : IsKept mid = code_keeps mid.book (Invalidate c.serial) c.serial mid.table c state.NotEntrant k r.table u refl (ap is_none (ap invalidate_fault u ∙ fault)) refl (sym less) refl (omega arith) in
        let serials : a.serial ≡ c.serial = (let both : Some a ≡ Some (id_of c) = r.replaced ∙ ap (option_map id_of) e in let same : a ≡ id_of c = cc in ap (λ (x : CodeId). x.serial) same) in
        install_keeps {d = mid} b method t after_left (left_installs d.table method (Some a) id c r e) next
        (there ∙ (ap (λ n. d.book.history ++ Invalidate n ∷ Install id method ∷ []) serials ∙ sym (append_assoc d.book.history (Invalidate c.serial ∷ []) (Install id method ∷ [])))) (omega arith)

installs_are_legal : {J : Type 0} (d : Fields J) (method : ℕ) (replaced : Option CodeId) (id : CodeId) → Replaces d.table method replaced id → legal_from (state_of d) (install_entries replaced id method) ≡ true
installs_are_legal d method replaced id r = by (in_use_for d.table.codes method) refl replaced r
  where
    by : (o : Option Code) → in_use_for d.table.codes method ≡ o → (replaced : Option CodeId) → Replaces d.table method replaced id → legal_from (state_of d) (install_entries replaced id method) ≡ true
    by None e None r = both_true _ _ (may_install d (record { free = r.free; serial = r.serial; none = e; may = r.may })) refl
    by None e (Some a) r = let no : ◌≡◌ {A = Option CodeId} (Some a) None = r.replaced ∙ ap (option_map id_of) e in cc
    by (Some c) e None r = let no : ◌≡◌ {A = Option CodeId} None (Some (id_of c)) = r.replaced ∙ ap (option_map id_of) e in cc
    by (Some c) e (Some a) r =
        let serials : c.serial ≡ a.serial = (let both : Some a ≡ Some (id_of c) = r.replaced ∙ ap (option_map id_of) e in let same : a ≡ id_of c = cc in ap (λ (x : CodeId). x.serial) (sym same)) in
        let fault : invalidate_fault (Some c) ≡ None = (let used = state_is d.table r.table method c e in rw used refl) in
        subst (λ n. legal_from (state_of d) (Invalidate n ∷ Install id method ∷ []) ≡ true) serials
        (both_true _ _ (ap is_none (ap invalidate_fault (unfreed_here d.table r.table method c e) ∙ fault))
        (both_true _ _ (may_install (record d { table = with_codes d.table (with_state d.table.codes c.serial state.NotEntrant) }) (left_installs d.table method (Some a) id c r e)) refl))

pub enters_install : {J : Type 0} {d : Fields J} {old new : DeskSeen} {receipt : Stands} (method : ℕ) (replaced : Option CodeId) (id : CodeId) → IsKept d → at old ≡ state_of d → Replaces d.table method replaced id
    → new.book.history ≡ old.book.history ++ install_entries replaced id method → receipt ≡ stands (length old.book.history + kept_before replaced) (Install id method)
    → new.book.gone ≡ old.book.gone → new.slots ≡ old.slots → new.methods ≡ old.methods → EntersInstall old new replaced id method receipt
enters_install {d = d} method replaced id kept is r history receipt gone slots methods = record {
  legal_is = ap (λ (s : State). legal_from s (install_entries replaced id method)) is ∙ installs_are_legal d method replaced id r;
  history_is = history;
  receipt_is = receipt;
  gone_stays = gone;
  sizes_stay = (slots, methods);
}

pub left_retire : (c : Code) → retire_fault (Some c) ≡ None → states_left c.state ≡ 2
left_retire c h = by c.state h
  where
    by : (s : CodeState) → retire_fault (Some (record c { state = s })) ≡ None → states_left s ≡ 2
    by state.InUse h = cc
    by state.NotEntrant h = refl
    by state.Zombie h = cc
    by state.Freed h = cc

pub left_free : (c : Code) → free_fault (Some c) ≡ None → states_left c.state ≡ 1
left_free c h = by c.state h
  where
    by : (s : CodeState) → free_fault (Some (record c { state = s })) ≡ None → states_left s ≡ 1
    by state.InUse h = cc
    by state.NotEntrant h = cc
    by state.Zombie h = refl
    by state.Freed h = cc

pub enters_by : {old new : DeskSeen} {receipt : Stands} (s : State) (e : Entry) → at old ≡ s → lawful s e ≡ true → new.book.history ≡ old.book.history ++ e ∷ [] → receipt ≡ stands (length old.book.history) e
    → new.book.gone ≡ old.book.gone → new.slots ≡ old.slots → new.methods ≡ old.methods → Enters old new e receipt
enters_by s e is may history receipt gone slots methods = record { lawful_is = ap (λ (t : State). lawful t e) is ∙ may; history_is = history; receipt_is = receipt; gone_stays = gone; sizes_stay = (slots, methods) }

-- when a Finish is lawful
pub finish_is : {J : Type 0} {d : Fields J} {n : ℕ} {o : Opened J} (name reply : ℕ) (b least : Bool)
    → IsKept d → Found d.opened n o → b ≡ (is_due name (current_of o) && is_live name d.live) → least ≡ is_least n name (map current_of d.opened)
    → lawful (state_of d) (Finish n name reply) ≡ (b && least)
finish_is {d = d} {n = n} name reply b least kept found is least_is =
    ap (λ x. (passes (is_due name) x && is_live name d.live) && is_least n name (map current_of d.opened)) (found_is found) ∙ (λ k. sym is k && sym least_is k)

pub finish_not : {J : Type 0} {d : Fields J} (n name reply : ℕ) → IsKept d → IsIndex n d.opened None → lawful (state_of d) (Finish n name reply) ≡ false
finish_not {d = d} n name reply kept none = ap (λ x. (passes (is_due name) x && is_live name d.live) && is_least n name (map current_of d.opened)) (none_at n d.opened none)

-- the oldest request may be operated
pub may_operate_is : {J : Type 0} (os : List (Opened J)) (o : Opened J) → front_is (λ c. is_census c.request) (map current_of os) true → front_is (λ c. c.operated) (map current_of os) false → slice_get os 0 ≡ Some o → may_operate (current_of o) ≡ true
may_operate_is os o census fresh here = both_true _ _ (front_at (λ c. is_census c.request) true os o census here) (ap not (front_at (λ c. c.operated) false os o fresh here))

pub new_keeps : {J : Type 0} (d : Fields J) → d.book.history ≡ [] → d.next_name ≡ 1 → d.next_number ≡ 1 → d.live ≡ [] → d.queue ≡ [] → d.opened ≡ [] → d.table.codes ≡ [] → IsKept d
new_keeps d none name number live queue opened codes = empty d none (λ i. record {
  next_name = sym name i;
  live = sym live i;
  next_number = sym number i;
  waiting = map asked_of (sym queue i);
  opened = map current_of (sym opened i);
  table = record { codes = sym codes i; slots = d.table.slots; methods = d.table.methods };
})
