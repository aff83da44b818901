-- The pending operations of threads. After all of them are armed, none is left.
use Rattle.std.proofs.Common.{◌≡◌, ◌≤◌, ◌&&◌, ◌||◌, ◌++◌, ℕ, suc, Bool, true, false, cond, List, [], ◌∷◌, Option, Some, None, length, slice_index, take, refl, sym, ap, ◌∙◌, append_assoc, arith}
use Rattle.std.specs.Prelude.{nat_lt, find}
use Rattle.std.specs.List.{cons_option}
use Rattle.thread_state.specs.declared.poll_rule.Arming.{Arming}
use Rattle.desk.specs.declared.entries.Live.{Live}
use Rattle.operations.specs.declared.Kind.{Kind}
use Rattle.operations.specs.Requests.{kind_of}
use Rattle.desk.specs.Fields.{DeskSeen, at}
use Rattle.desk.specs.Machine.{State, Current, Book, after}
use Rattle.desk.specs.Targets.{is_target_of, is_untold, untold, untold_in, number_of, due_of, kind_of_oldest, open_kind}
use Rattle.stopped_threads.specs.Holding.{ArmsOn}
use Rattle.coordinator_core.specs.Telling.{telling_by, telling_of, tellings, is_there, more_behind, any_more, AreArmed, due_in}
use Rattle.coordinator_core.specs.declared.listing.PendingOp.{PendingOp}

and_false : (a b : Bool) → b ≡ false → (a && b) ≡ false
and_false true b e = e
and_false false b e = refl

same_some : (m n : ℕ) → Some m ≡ Some n → m ≡ n
same_some m n e = cc

not_less : (m n : ℕ) → m ≡ n → nat_lt n m ≡ false
not_less m n e = grind (arith, e)

-- With one open request nothing is pending after it.
pub one_alone : (next name last n : ℕ) (cs : List Current) → length cs ≤ 1 → untold_in next name last cs ≡ Some n → untold_in next name n cs ≡ None
one_alone next name last n [] few h = refl
one_alone next name last n (c ∷ d ∷ cs) few h = absurd (omega (arith, few))
one_alone next name last n (c ∷ []) few h = by (is_untold next name last c) h
  where
    by : (b : Bool) → number_of (cond b (Some c) None) ≡ Some n → untold_in next name n (c ∷ []) ≡ None
    by true e =
        let over : nat_lt n c.number ≡ false = not_less c.number n (same_some c.number n e) in
        ap (λ t. number_of (cond t (Some c) None)) (and_false (is_target_of next name c) (nat_lt n c.number) over)
    by false e = absurd (let k : None ≡ Some n = e in cc)

less_of : (a : Bool) (m k x : ℕ) → m ≤ k → (a && nat_lt m x) ≡ false → (a && nat_lt k x) ≡ false
less_of false m k x low e = refl
less_of true m k x low e = grind (arith, low, e)

-- If nothing is pending after a number, nothing is after a greater one.
pub told_still : (next name m k : ℕ) (cs : List Current) → m ≤ k → untold_in next name m cs ≡ None → untold_in next name k cs ≡ None
told_still next name m k [] low h = refl
told_still next name m k (c ∷ cs) low h = by (is_untold next name m c) refl h (told_still next name m k cs low)
  where
    by : (b : Bool) → is_untold next name m c ≡ b → number_of (cond b (Some c) (find (is_untold next name m) cs)) ≡ None
        → (untold_in next name m cs ≡ None → untold_in next name k cs ≡ None) → untold_in next name k (c ∷ cs) ≡ None
    by true e none again = absurd (let k : Some c.number ≡ None = none in cc)
    by false e none again =
        ap (λ t. number_of (cond t (Some c) (find (is_untold next name k) cs))) (less_of (is_target_of next name c) m k c.number low e) ∙ again none

-- Nothing is pending for the first thread, or something is.
pub none_first : (s : State) (kind : Kind) (armer : Arming) (l : Live) (ls : List Live) → telling_of s kind armer l ≡ None
    → tellings s kind armer (l ∷ ls) ≡ tellings s kind armer ls
none_first s kind armer l ls e = ap (λ o. cons_option o (tellings s kind armer ls)) e

pub some_first : (s : State) (kind : Kind) (armer : Arming) (l : Live) (ls : List Live) (t : PendingOp) → telling_of s kind armer l ≡ Some t
    → tellings s kind armer (l ∷ ls) ≡ t ∷ tellings s kind armer ls
some_first s kind armer l ls t e = ap (λ o. cons_option o (tellings s kind armer ls)) e

pub none_more : (s : State) (kind : Kind) (armer : Arming) (l : Live) (ls : List Live) → telling_of s kind armer l ≡ None
    → any_more s kind armer (l ∷ ls) ≡ any_more s kind armer ls
none_more s kind armer l ls e = ap (λ o. more_behind s o || any_more s kind armer ls) e

pub some_more : (s : State) (kind : Kind) (armer : Arming) (l : Live) (ls : List Live) (t : PendingOp) → telling_of s kind armer l ≡ Some t
    → any_more s kind armer (l ∷ ls) ≡ (is_there (untold s t.name t.number) || any_more s kind armer ls)
some_more s kind armer l ls t e = ap (λ o. more_behind s o || any_more s kind armer ls) e

or_left : (a b : Bool) → (a || b) ≡ false → a ≡ false
or_left false b e = refl
or_left true b e = e

or_right : (a b : Bool) → (a || b) ≡ false → b ≡ false
or_right false b e = e
or_right true b e = absurd (let k : true ≡ false = e in cc)

not_there : (o : Option ℕ) → is_there o ≡ false → o ≡ None
not_there None e = refl
not_there (Some n) e = absurd (let k : true ≡ false = e in cc)

inside : (kind : Kind) (l : Live) (last : ℕ) (b : Bool) (o : Option ℕ) → o ≡ None → cond b (telling_by kind l last o) None ≡ None
inside kind l last true o e = ap (telling_by kind l last) e
inside kind l last false o e = refl

-- If nothing is pending for a thread after a number that is armed, nothing is pending for it.
still : (s : State) (kind : Kind) (armer : Arming) (l : Live) (m : ℕ) → m ≤ slice_index armer.armed l.place → untold s l.name m ≡ None → telling_of s kind armer l ≡ None
still s kind armer l m low none =
    inside kind l (slice_index armer.armed l.place) (nat_lt l.place (length armer.armed)) (untold s l.name (slice_index armer.armed l.place))
    (told_still s.next_name l.name m (slice_index armer.armed l.place) s.opened low none)

-- The first thread is armed for its listed operation, and then the others.
first_told : (s : State) (kind : Kind) (old new : Arming) (l : Live) (ls : List Live) → length new.armed ≡ length old.armed → ArmsOn old new
    → (any_more s kind old ls ≡ false → AreArmed new (tellings s kind old ls) → tellings s kind new ls ≡ [])
    → (b : Bool) (o : Option ℕ) → nat_lt l.place (length old.armed) ≡ b → untold s l.name (slice_index old.armed l.place) ≡ o
    → (more_behind s (cond b (telling_by kind l (slice_index old.armed l.place) o) None) || any_more s kind old ls) ≡ false
    → AreArmed new (cons_option (cond b (telling_by kind l (slice_index old.armed l.place) o) None) (tellings s kind old ls)) → tellings s kind new (l ∷ ls) ≡ []
first_told s kind old new l ls long arms again false o out is more armed =
    let beyond : nat_lt l.place (length new.armed) ≡ false = ap (nat_lt l.place) long ∙ out in
    let none : telling_of s kind new l ≡ None = ap (λ b. cond b (telling_by kind l (slice_index new.armed l.place) (untold s l.name (slice_index new.armed l.place))) None) beyond in
    none_first s kind new l ls none ∙ again more armed
first_told s kind old new l ls long arms again true None within is more armed =
    none_first s kind new l ls (still s kind new l (slice_index old.armed l.place) (arms.rises l.place) is) ∙ again more armed
first_told s kind old new l ls long arms again true (Some n) within is more armed =
    let none : untold s l.name n ≡ None = not_there (untold s l.name n) (or_left (is_there (untold s l.name n)) (any_more s kind old ls) more) in
    none_first s kind new l ls (still s kind new l n armed.0 none)
    ∙ again (or_right (is_there (untold s l.name n)) (any_more s kind old ls) more) armed.1

-- If each thread is armed for its listed operation and nothing was pending after that, nothing is pending for any.
pub all_told : (s : State) (kind : Kind) (old new : Arming) (ls : List Live) → length new.armed ≡ length old.armed → ArmsOn old new
    → any_more s kind old ls ≡ false → AreArmed new (tellings s kind old ls) → tellings s kind new ls ≡ []
all_told s kind old new [] long arms more armed = refl
all_told s kind old new (l ∷ ls) long arms more armed =
    first_told s kind old new l ls long arms (all_told s kind old new ls long arms)
    (nat_lt l.place (length old.armed)) (untold s l.name (slice_index old.armed l.place)) refl refl more armed

-- Operations that are armed stay so.
pub armed_on : (old new : Arming) (ts : List PendingOp) → ArmsOn old new → AreArmed old ts → AreArmed new ts
armed_on old new [] arms are = tt
armed_on old new (t ∷ ts) arms are = let low = arms.rises t.target.place in let one = are.0 in (omega (arith, low, one), armed_on old new ts arms are.1)

-- the state of a desk with the same history and sizes
pub at_same : (d e : DeskSeen) → d.book ≡ e.book → d.slots ≡ e.slots → d.methods ≡ e.methods → at d ≡ at e
at_same d e book slots methods =
    ap (λ (b : Book). after d.slots d.methods b.history) book ∙ ap (λ n. after n d.methods e.book.history) slots ∙ ap (λ n. after e.slots n e.book.history) methods

-- The first of the rest goes to the end of the list.
pub moved : (xs : List PendingOp) (one : PendingOp) (rest : List PendingOp) (n k : ℕ) → n ≡ suc k → (xs ++ one ∷ []) ++ take k rest ≡ xs ++ take n (one ∷ rest)
moved xs one rest n k e = append_assoc xs (one ∷ []) (take k rest) ∙ sym (ap (λ m. xs ++ take m (one ∷ rest)) e)

pub or_moved : (h m a : Bool) → ((h || m) || a) ≡ (m || (h || a))
or_moved false m a = refl
or_moved true false a = refl
or_moved true true a = refl

-- If no request is open, no thread is due.
nothing_due : (ls : List Live) → due_of [] ls ≡ []
nothing_due [] = refl
nothing_due (l ∷ ls) = nothing_due ls

nothing_open : (cs : List Current) → kind_of_oldest cs ≡ None → cs ≡ []
nothing_open [] e = refl
nothing_open (c ∷ cs) e = absurd (let k : Some (kind_of c.request) ≡ None = e in cc)

pub none_due : (s : State) → open_kind s ≡ None → due_in s ≡ []
none_due s e = ap (λ cs. due_of cs s.live) (nothing_open s.opened e) ∙ nothing_due s.live

pub armed_more : (armer : Arming) (ts : List PendingOp) (t : PendingOp) → AreArmed armer ts → t.number ≤ slice_index armer.armed t.target.place → AreArmed armer (ts ++ t ∷ [])
armed_more armer [] t are low = (low, tt)
armed_more armer (x ∷ ts) t are low = (are.0, armed_more armer ts t are.1 low)

pub and_left : (a b : Bool) → (a && b) ≡ true → a ≡ true
and_left true b e = refl
and_left false b e = e

pub and_right : (a b : Bool) → (a && b) ≡ true → b ≡ true
and_right true b e = e
and_right false b e = absurd (let k : false ≡ true = e in cc)
