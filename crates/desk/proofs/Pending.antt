-- No reply can follow to a request before the least pending one.
use Rattle.std.proofs.Common.{◌≡◌, ℕ, ◌+◌, ◌-◌, ◌<◌, ◌≤◌, List, [], ◌∷◌, ◌++◌, Bool, true, false, map, drop, length, refl, sym, ap, ◌∙◌, subst, arith, cond}
use Rattle.std.specs.Prelude.{◌==◌, ◌||◌, min, nat_le, slice_get, Some, None}
use Rattle.std.specs.List.{list_any}
use Rattle.std.proofs.lemmas.Bool.{ne_eqb, leb-true, leb-false}
use Rattle.std.proofs.lemmas.List.{map-append, length-drop}
use Rattle.operations.specs.declared.queue.Waiting.{Waiting}
use Rattle.desk.specs.declared.entries.Carried.{Carried}
use Rattle.desk.specs.declared.entries.Live.{Live}
use Rattle.desk.specs.Fields.{Fields, IsKept, state_of, asked_of, current_of}
use Rattle.desk.proofs.ReplyLists.{forgotten_rooms}
use Rattle.desk.specs.declared.entries.Entry.{Entry}
use Rattle.desk.specs.declared.entries.Entry.TheVariants.{Start, Exit, Ask, Open, Finish, Operate, Close, Install, Invalidate, Retire, Free}
use Rattle.desk.specs.Machine.{State, Asked, Current, Gone, Book, step, lawful, start, after_from, legal_from, after, is_legal, rest_of, open_next, opened_of, at_number, without_number, finished, as_operated, is_open, targets_of}
use Rattle.desk.specs.Replies.{Said, of_number, owed_waiting, owed_opened, HaveRoom}
use Rattle.desk.specs.Rising.{AreRising}
use Rattle.desk.specs.Pending.{first_waiting, least_open, least_pending, is_pending}
use Rattle.desk.proofs.Rising.{AllBelow, and_true, same, rising_push, below_push, rising_from}

abbrev pub numbers_of : List Asked → List ℕ
numbers_of ws = map (λ (a : Asked). a.number) ws

-- the waiting numbers rise and are below the next
pub record Queued (next : ℕ) (ws : List Asked) : Type 0 where
  pub rising : AreRising 0 (numbers_of ws)
  pub below : AllBelow next (numbers_of ws)

queued_push : (next : ℕ) (ws : List Asked) (a : Asked) → Queued next ws → a.number ≡ next → Queued (next + 1) (ws ++ a ∷ [])
queued_push next ws a k is =
    let all : numbers_of (ws ++ a ∷ []) ≡ numbers_of ws ++ next ∷ [] = map-append (λ (x : Asked). x.number) ws (a ∷ []) ∙ ap (λ (n : ℕ). numbers_of ws ++ n ∷ []) is in
    record {
      rising = subst (AreRising 0) (sym all) (rising_push 0 next (numbers_of ws) k.rising k.below (omega arith));
      below = subst (AllBelow (next + 1)) (sym all) (below_push next (numbers_of ws) k.below);
    }

queued_rest : (next : ℕ) (ws : List Asked) → Queued next ws → Queued next (rest_of ws)
queued_rest next [] k = k
queued_rest next (a ∷ ws) k = record { rising = rising_from 0 (a.number + 1) (numbers_of ws) (omega arith) k.rising.1; below = k.below.1 }

queued_step : (s : State) (e : Entry) → lawful s e ≡ true → Queued s.next_number s.waiting → let t = step s e in Queued t.next_number t.waiting
queued_step s (Start a b) l k = k
queued_step s (Exit a) l k = k
queued_step s (Ask m r) l k = queued_push s.next_number s.waiting (record { number = m; request = r }) k (same m s.next_number l)
queued_step s (Open m) l k = queued_rest s.next_number s.waiting k
queued_step s (Finish m who reply) l k = k
queued_step s (Operate m) l k = k
queued_step s (Close m) l k = k
queued_step s (Install a b) l k = k
queued_step s (Invalidate a) l k = k
queued_step s (Retire a) l k = k
queued_step s (Free a) l k = k

queued_after : (s : State) (es : List Entry) → legal_from s es ≡ true → Queued s.next_number s.waiting → let t = after_from s es in Queued t.next_number t.waiting
queued_after s [] l k = k
queued_after s (e ∷ es) l k = let p = and_true _ _ l in queued_after (step s e) es p.1 (queued_step s e p.0 k)

pub are_queued : (slots methods : ℕ) (h : List Entry) → is_legal slots methods h ≡ true → let t = after slots methods h in Queued t.next_number t.waiting
unfolding is_legal after
are_queued slots methods h l = queued_after (start slots methods) h l (record { rising = tt; below = tt })

-- a number before the first waiting one owes nothing
owed_rest : (n least : ℕ) (ws : List Asked) → AreRising least (numbers_of ws) → n < least → owed_waiting n ws ≡ 0
owed_rest n least [] r low = refl
owed_rest n least (a ∷ ws) r low =
    let first : least ≤ a.number = r.0 in
    let rest = owed_rest n (a.number + 1) ws r.1 (omega arith) in
    let none : cond {A = ℕ} (a.number == n) (length (targets_of a.request)) 0 ≡ 0 = ap (λ b. cond {A = ℕ} b (length (targets_of a.request)) 0) (ne_eqb a.number n (λ e. absurd (omega arith))) in
    omega arith

waiting_none : (n next : ℕ) (ws : List Asked) → AreRising 0 (numbers_of ws) → n < first_waiting next ws → owed_waiting n ws ≡ 0
waiting_none n next [] r low = refl
waiting_none n next (a ∷ ws) r low = owed_rest n a.number (a ∷ ws) (omega arith, r.1) low

-- nor does a number before the least open one
open_none : (n m : ℕ) (cs : List Current) → n < least_open m cs → (n < m) × (owed_opened n cs ≡ 0)
open_none n m [] low = (low, refl)
open_none n m (c ∷ cs) low =
    let rest = open_none n (min m c.number) cs low in
    let l = rest.0 in
    let none : cond {A = ℕ} (c.number == n) (length c.due) 0 ≡ 0 = ap (λ b. cond {A = ℕ} b (length c.due) 0) (ne_eqb c.number n (λ e. absurd (omega arith))) in
    let r = rest.1 in
    (omega arith, omega arith)

pub owed_none : (n : ℕ) (s : State) → Queued s.next_number s.waiting → n < least_pending s → owed_waiting n s.waiting + owed_opened n s.opened ≡ 0
owed_none n s k low =
    let o = open_none n (first_waiting s.next_number s.waiting) s.opened low in
    let w = waiting_none n s.next_number s.waiting k.rising o.0 in
    let e = o.1 in omega arith

open_most : (m : ℕ) (cs : List Current) → least_open m cs ≤ m
open_most m [] = omega arith
open_most m (c ∷ cs) = let r = open_most (min m c.number) cs in omega arith

waiting_most : (next : ℕ) (ws : List Asked) → AllBelow next (numbers_of ws) → first_waiting next ws ≤ next
waiting_most next [] b = omega arith
waiting_most next (a ∷ ws) b = let l = b.0 in omega arith

pub pending_most : (s : State) → Queued s.next_number s.waiting → least_pending s ≤ s.next_number
pending_most s k = let a = open_most (first_waiting s.next_number s.waiting) s.opened in let b = waiting_most s.next_number s.waiting k.below in omega arith

pub first_at : {J : Type 0} (next : ℕ) (q : List (Waiting (Carried J))) (w : Waiting (Carried J)) → slice_get q 0 ≡ Some w → first_waiting next (map asked_of q) ≡ w.number
first_at next [] w h = cc
first_at next (x ∷ q) w h = let same : x ≡ w = cc in ap (λ (z : Waiting (Carried _)). z.number) same

pub first_none : {J : Type 0} (next : ℕ) (q : List (Waiting (Carried J))) → slice_get q 0 ≡ None → first_waiting next (map asked_of q) ≡ next
first_none next [] h = refl
first_none next (x ∷ q) h = cc

-- entries raise the least pending number
open_first : (a b : ℕ) (cs : List Current) → a ≤ b → least_open a cs ≤ least_open b cs
open_first a b [] le = le
open_first a b (c ∷ cs) le = open_first (min a c.number) (min b c.number) cs (omega arith)

open_pushed : (m : ℕ) (cs : List Current) (c : Current) → least_open m (cs ++ c ∷ []) ≡ min (least_open m cs) c.number
open_pushed m [] c = refl
open_pushed m (x ∷ cs) c = open_pushed (min m x.number) cs c

open_at : (f : Current → Current) (n m : ℕ) (cs : List Current) → ((c : Current) → (f c).number ≡ c.number) → least_open m (at_number f n cs) ≡ least_open m cs
open_at f n m [] keep = refl
open_at f n m (c ∷ cs) keep = by (c.number == n) (open_at f n (min m c.number) cs keep)
  where
    by : (b : Bool) → least_open (min m c.number) (at_number f n cs) ≡ least_open (min m c.number) cs → least_open m (cond b (f c ∷ cs) (c ∷ at_number f n cs)) ≡ least_open m (c ∷ cs)
    by true rest = ap (λ k. least_open (min m k) cs) (keep c)
    by false rest = rest

open_without : (n m : ℕ) (cs : List Current) → least_open m cs ≤ least_open m (without_number n cs)
open_without n m [] = omega arith
open_without n m (c ∷ cs) = by (c.number == n) (open_without n (min m c.number) cs)
  where
    by : (b : Bool) → least_open (min m c.number) cs ≤ least_open (min m c.number) (without_number n cs) → least_open m (c ∷ cs) ≤ least_open m (cond b cs (c ∷ without_number n cs))
    by true rest = open_first (min m c.number) m cs (omega arith)
    by false rest = rest

first_ask : (next : ℕ) (ws : List Asked) (a : Asked) → a.number ≡ next → first_waiting (next + 1) (ws ++ a ∷ []) ≡ first_waiting next ws
first_ask next [] a is = is
first_ask next (x ∷ ws) a is = refl

first_above : (next : ℕ) (a : Asked) (ws : List Asked) → Queued next (a ∷ ws) → a.number ≤ first_waiting next ws
first_above next a [] k = let l = k.below.0 in omega arith
first_above next a (b ∷ ws) k = let l = k.rising.1.0 in omega arith

opens : (next before : ℕ) (ls : List Live) (ws : List Asked) (cs : List Current) → Queued next ws → least_open (first_waiting next ws) cs ≤ least_open (first_waiting next (rest_of ws)) (open_next before ls ws cs)
opens next before ls [] cs k = omega arith
opens next before ls (a ∷ ws) cs k =
    let p = open_pushed (first_waiting next ws) cs (opened_of before ls a) in
    let m = open_most a.number cs in
    let r = open_first a.number (first_waiting next ws) cs (first_above next a ws k) in omega arith

rises : (s : State) (e : Entry) → lawful s e ≡ true → Queued s.next_number s.waiting → least_pending s ≤ least_pending (step s e)
rises s (Start a b) l k = omega arith
rises s (Exit a) l k = omega arith
rises s (Ask m r) l k = let e = ap (λ x. least_open x s.opened) (first_ask s.next_number s.waiting (record { number = m; request = r }) (same m s.next_number l)) in omega arith
rises s (Open m) l k = opens s.next_number s.next_name s.live s.waiting s.opened k
rises s (Finish m who reply) l k = let e = open_at (finished who) m (first_waiting s.next_number s.waiting) s.opened (λ c. refl) in omega arith
rises s (Operate m) l k = let e = open_at as_operated m (first_waiting s.next_number s.waiting) s.opened (λ c. refl) in omega arith
rises s (Close m) l k = open_without m (first_waiting s.next_number s.waiting) s.opened
rises s (Install a b) l k = omega arith
rises s (Invalidate a) l k = omega arith
rises s (Retire a) l k = omega arith
rises s (Free a) l k = omega arith

rises_all : (s : State) (es : List Entry) → legal_from s es ≡ true → Queued s.next_number s.waiting → least_pending s ≤ least_pending (after_from s es)
rises_all s [] l k = omega arith
rises_all s (e ∷ es) l k =
    let p = and_true _ _ l in
    let here = rises s e p.0 k in
    let rest = rises_all (step s e) es p.1 (queued_step s e p.0 k) in omega arith

after_more : (s : State) (h es : List Entry) → after_from s (h ++ es) ≡ after_from (after_from s h) es
after_more s [] es = refl
after_more s (e ∷ h) es = after_more (step s e) h es

legal_more : (s : State) (h es : List Entry) → legal_from s (h ++ es) ≡ true → legal_from (after_from s h) es ≡ true
legal_more s [] es l = l
legal_more s (e ∷ h) es l = legal_more (step s e) h es (and_true _ _ l).1

-- so the forgotten operations stay before it
pub later_stays : {J : Type 0} {d d' : Fields J} (es : List Entry) → IsKept d → IsKept d' → d'.table.slots ≡ d.table.slots → d'.table.methods ≡ d.table.methods
    → d'.book.history ≡ d.book.history ++ es → d'.book.gone ≡ d.book.gone → d.book.gone.operations < least_pending (state_of d) → d'.book.gone.operations < least_pending (state_of d')
unfolding is_legal after
later_stays {d = d} {d' = d'} es k k' slots methods history gone later =
    let first = start d.table.slots d.table.methods in
    let queued = queued_after first d.book.history k.legal (record { rising = tt; below = tt }) in
    let whole : after_from (start d'.table.slots d'.table.methods) d'.book.history ≡ after_from first (d.book.history ++ es) = λ i. after_from (start (slots i) (methods i)) (history i) in
    let legal = legal_more first d.book.history es ((λ i. legal_from (start (sym slots i) (sym methods i)) (sym history i)) ∙ k'.legal) in
    let up = rises_all (after_from first d.book.history) es legal queued in
    let old : least_pending (after_from first d.book.history) ≡ least_pending (state_of d) = ap least_pending k.state in
    let new : least_pending (after_from (after_from first d.book.history) es) ≡ least_pending (state_of d') = ap least_pending (sym (after_more first d.book.history es) ∙ sym whole ∙ k'.state) in
    let same : d'.book.gone.operations ≡ d.book.gone.operations = ap (λ (x : Gone). x.operations) gone in omega arith

-- the waiting numbers rise
kept_queued : {J : Type 0} {d : Fields J} → IsKept d → Queued d.next_number (map asked_of d.queue)
kept_queued {d = d} k = subst (λ (z : State). Queued z.next_number z.waiting) k.state (are_queued d.table.slots d.table.methods d.book.history k.legal)

-- a pending number is at least the least
open_above : (n m : ℕ) (cs : List Current) → is_open n cs ≡ true → least_open m cs ≤ n
open_above n m [] h = absurd (let k : false ≡ true = h in cc)
open_above n m (c ∷ cs) h = by (c.number == n) refl h (open_above n (min m c.number) cs)
  where
    by : (b : Bool) → (c.number == n) ≡ b → (b || is_open n cs) ≡ true → (is_open n cs ≡ true → least_open (min m c.number) cs ≤ n) → least_open (min m c.number) cs ≤ n
    by true e h rest = let is = same c.number n e in let l = open_most (min m c.number) cs in omega arith
    by false e h rest = rest h

wait_above : (n least : ℕ) (ws : List Asked) → AreRising least (numbers_of ws) → list_any (λ (a : Asked). a.number == n) ws ≡ true → least ≤ n
wait_above n least [] r h = absurd (let k : false ≡ true = h in cc)
wait_above n least (a ∷ ws) r h = by (a.number == n) refl h (wait_above n (a.number + 1) ws r.1)
  where
    by : (b : Bool) → (a.number == n) ≡ b → (b || list_any (λ (x : Asked). x.number == n) ws) ≡ true → (list_any (λ (x : Asked). x.number == n) ws ≡ true → a.number + 1 ≤ n) → least ≤ n
    by true e h rest = let is = same a.number n e in let l = r.0 in omega arith
    by false e h rest = let l = r.0 in let k = rest h in omega arith

first_waits : (n next : ℕ) (ws : List Asked) → AreRising 0 (numbers_of ws) → list_any (λ (a : Asked). a.number == n) ws ≡ true → first_waiting next ws ≤ n
first_waits n next [] r h = absurd (let k : false ≡ true = h in cc)
first_waits n next (a ∷ ws) r h = wait_above n a.number (a ∷ ws) (omega arith, r.1) h

pub pending_above : {J : Type 0} {d : Fields J} (n : ℕ) → IsKept d → d.book.gone.operations < least_pending (state_of d) → is_pending n (state_of d) ≡ true → d.book.gone.operations < n
pending_above {d = d} n k later h = by (is_open n s.opened) refl h
  where
    s : State
    s = state_of d

    b : Book
    b = d.book

    queued : Queued s.next_number s.waiting
    queued = kept_queued k

    by : (x : Bool) → is_open n s.opened ≡ x → (x || list_any (λ (a : Asked). a.number == n) s.waiting) ≡ true → b.gone.operations < n
    by true e h = let l = open_above n (first_waiting s.next_number s.waiting) s.opened e in omega arith
    by false e h = let l = first_waits n s.next_number s.waiting queued.rising h in let m = open_most (first_waiting s.next_number s.waiting) s.opened in omega arith

pub at_first : {J : Type 0} (d : Fields J) → d.queue ≡ [] → d.opened ≡ [] → d.book.gone.operations ≡ 0 → 0 < d.next_number → d.book.gone.operations < least_pending (state_of d)
at_first d none none_open gone low =
    let e : least_pending (state_of d) ≡ d.next_number = λ i. least_open (first_waiting d.next_number (map asked_of (none i))) (map current_of (none_open i)) in omega arith

-- the replies left after those of the first operations are forgotten
pub forget_room : {J : Type 0} {d : Fields J} (last : ℕ) (gone : Gone) (lists lists' : List Said)
    → IsKept d → HaveRoom d.book.gone d.next_number (map asked_of d.queue) (map current_of d.opened) lists
    → last ≡ least_pending (state_of d) - 1 → d.book.gone.operations < least_pending (state_of d) → gone.operations ≡ last → lists' ≡ drop (gone.operations - d.book.gone.operations) lists
    → HaveRoom gone d.next_number (map asked_of d.queue) (map current_of d.opened) lists'
forget_room {d = d} last gone lists lists' k have is later gone_is lists_is =
    let queued : Queued d.next_number (map asked_of d.queue) = kept_queued k in
    let most : least_pending (state_of d) ≤ d.next_number = pending_most (state_of d) queued in
    let z = have.count in
    let cut : length lists' ≡ length lists - (gone.operations - d.book.gone.operations) = ap (λ (l : List Said). length l) lists_is ∙ length-drop (gone.operations - d.book.gone.operations) lists in
    let more : d.book.gone.operations ≤ gone.operations = omega arith in
    record {
      count = omega arith;
      enough = λ n. by queued more n (nat_le n gone.operations) refl;
    }
  where
    by : Queued d.next_number (map asked_of d.queue) → d.book.gone.operations ≤ gone.operations → (n : ℕ) (x : Bool) → nat_le n gone.operations ≡ x
        → owed_waiting n (map asked_of d.queue) + owed_opened n (map current_of d.opened) ≤ (of_number (n - gone.operations) lists').room
    by queued more n true e =
        let low : n ≤ gone.operations = leb-true n gone.operations e in
        let none = none_owed queued more n (nat_le n d.book.gone.operations) refl low in omega arith
      where
        none_owed : Queued d.next_number (map asked_of d.queue) → d.book.gone.operations ≤ gone.operations → (n : ℕ) (x : Bool) → nat_le n d.book.gone.operations ≡ x → n ≤ gone.operations
            → owed_waiting n (map asked_of d.queue) + owed_opened n (map current_of d.opened) ≡ 0
        none_owed queued more n true e there =
            let low : n ≤ d.book.gone.operations = leb-true n d.book.gone.operations e in
            let first : n - d.book.gone.operations ≡ 0 = omega arith in
            let o = have.enough n in
            let r : (of_number (n - d.book.gone.operations) lists).room ≡ 0 = ap (λ m. (of_number m lists).room) first in omega arith
        none_owed queued more n false e there =
            let high : d.book.gone.operations < n = leb-false n d.book.gone.operations e in
            owed_none n (state_of d) queued (omega arith)
    by queued more n false e =
        let high : gone.operations < n = leb-false n gone.operations e in
        let same = forgotten_rooms n d.book.gone.operations gone.operations lists lists' more high lists_is in
        let o = have.enough n in omega arith

-- the numbers before the least pending one were given out
pub given_out : {J : Type 0} {d : Fields J} (last : ℕ) (lists : List Said) → IsKept d → HaveRoom d.book.gone d.next_number (map asked_of d.queue) (map current_of d.opened) lists
    → last ≡ least_pending (state_of d) - 1 → last ≤ d.book.gone.operations + length lists
given_out {d = d} last lists k have is =
    let queued : Queued d.next_number (map asked_of d.queue) = kept_queued k in
    let most : least_pending (state_of d) ≤ d.next_number = pending_most (state_of d) queued in
    let z = have.count in omega arith

-- forgetting changes no entry
pub book_keeps : {J : Type 0} {d : Fields J} (b : Book) → IsKept d → b.history ≡ d.book.history → b.reserved ≡ d.book.reserved → IsKept (record d { book = b })
book_keeps {d = d} b k history reserved = record {
  legal = ap (is_legal d.table.slots d.table.methods) history ∙ k.legal;
  state = ap (after d.table.slots d.table.methods) history ∙ k.state;
  needed = (let n = k.needed in omega arith);
  fit = k.fit;
  distinct = k.distinct;
}
