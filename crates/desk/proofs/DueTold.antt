-- A thread due for an open request is one of its targets, and its poll is to be armed for a handshake that is open
-- alone.
use Rattle.std.proofs.Common.{◌≡◌, ℕ, List, [], ◌∷◌, ◌++◌, Bool, true, false, not, cond, Some, None, refl, sym, ap, ◌∙◌}
use Rattle.std.specs.Prelude.{◌&&◌, ◌||◌, ◌==◌, nat_lt, filter}
use Rattle.std.specs.List.{list_any}
use Rattle.std.proofs.lemmas.Bool.{and_parts}
use Rattle.operations.specs.declared.Request.{Request}
use Rattle.operations.specs.declared.Request.TheVariants.{Handshake, Census}
use Rattle.operations.specs.Names.{among}
use Rattle.desk.specs.declared.entries.Entry.{Entry}
use Rattle.desk.specs.declared.entries.Entry.TheVariants.{Start, Exit, Ask, Open, Finish, Operate, Close, Install, Invalidate, Retire, Free}
use Rattle.desk.specs.declared.entries.Live.{Live}
use Rattle.desk.specs.Machine.{Asked, Current, State, step, start, after_from, after, at_number, without_number, open_next, opened_of, finished, as_operated, targets_of}
use Rattle.desk.specs.Targets.{is_due_target, is_target_of, number_of, only_handshake, untold_in, untold_of}
use Rattle.desk.specs.DueTold.{DueAreTold}

-- a name in a part of the list is in the list
in_whole : (p : ℕ → Bool) (name : ℕ) (ns : List ℕ) → among name (filter p ns) ≡ true → among name ns ≡ true
in_whole p name [] h = h
in_whole p name (x ∷ ns) h = by (p x) (x == name) refl (in_whole p name ns) h
  where
    by : (b here : Bool) → (x == name) ≡ here → (among name (filter p ns) ≡ true → among name ns ≡ true)
        → among name (cond b (x ∷ filter p ns) (filter p ns)) ≡ true → (here || among name ns) ≡ true
    by b true is rest h = refl
    by true false is rest h = rest (sym (ap (λ k. k || among name (filter p ns)) is) ∙ h)
    by false false is rest h = rest h

abbrev AreTargets : Current → Type 0
AreTargets c = (name : ℕ) → among name c.due ≡ true → among name (targets_of c.request) ≡ true

abbrev AllTargets : List Current → Type 0
AllTargets [] = Unit {0}
AllTargets (c ∷ cs) = AreTargets c × AllTargets cs

all_push : (cs : List Current) (c : Current) → AllTargets cs → AreTargets c → AllTargets (cs ++ c ∷ [])
all_push [] c all new = (new, tt)
all_push (x ∷ cs) c all new = (all.0, all_push cs c all.1 new)

all_changed : (f : Current → Current) (n : ℕ) (cs : List Current) → ((c : Current) → AreTargets c → AreTargets (f c)) → AllTargets cs → AllTargets (at_number f n cs)
all_changed f n [] keeps all = tt
all_changed f n (c ∷ cs) keeps all = by (c.number == n) (all_changed f n cs keeps all.1)
  where
    by : (b : Bool) → AllTargets (at_number f n cs) → AllTargets (cond b (f c ∷ cs) (c ∷ at_number f n cs))
    by true rest = (keeps c all.0, all.1)
    by false rest = (all.0, rest)

all_left : (n : ℕ) (cs : List Current) → AllTargets cs → AllTargets (without_number n cs)
all_left n [] all = tt
all_left n (c ∷ cs) all = by (c.number == n) (all_left n cs all.1)
  where
    by : (b : Bool) → AllTargets (without_number n cs) → AllTargets (cond b cs (c ∷ without_number n cs))
    by true rest = all.1
    by false rest = (all.0, rest)

all_opened : (before : ℕ) (ls : List Live) (waiting : List Asked) (cs : List Current) → AllTargets cs → AllTargets (open_next before ls waiting cs)
all_opened before ls [] cs all = all
all_opened before ls (a ∷ rest) cs all =
    all_push cs (opened_of before ls a) all (λ name h. in_whole (λ (t : ℕ). list_any (λ (l : Live). l.name == t) ls) name (targets_of a.request) h)

all_step : (s : State) (e : Entry) → AllTargets s.opened → AllTargets (step s e).opened
all_step s (Start name place) all = all
all_step s (Exit name) all = all
all_step s (Ask n r) all = all
all_step s (Open n) all = all_opened s.next_name s.live s.waiting s.opened all
all_step s (Finish n who reply) all =
    all_changed (finished who) n s.opened (λ c are. λ name h. are name (in_whole (λ (t : ℕ). not (t == who)) name c.due h)) all
all_step s (Operate n) all = all_changed as_operated n s.opened (λ c are. are) all
all_step s (Close n) all = all_left n s.opened all
all_step s (Install code method) all = all
all_step s (Invalidate serial) all = all
all_step s (Retire serial) all = all
all_step s (Free serial) all = all

all_after : (s : State) (es : List Entry) → AllTargets s.opened → AllTargets (after_from s es).opened
all_after s [] all = all
all_after s (e ∷ es) all = all_after (step s e) es (all_step s e all)

same_some : (m n : ℕ) → Some m ≡ Some n → m ≡ n
same_some m n e = cc

or_false : (b : Bool) → (b || false) ≡ true → b ≡ true
or_false true e = refl
or_false false e = e

-- the only request is untold if its number is greater
untold_alone : (next name last n : ℕ) (c : Current) → is_target_of next name c ≡ true → c.number ≡ n → untold_in next name last (c ∷ []) ≡ untold_of n last
untold_alone next name last n c target same =
    ap (λ b. number_of (cond (b && nat_lt last c.number) (Some c) None)) target ∙ by (nat_lt last c.number) ∙ ap (λ k. untold_of k last) same
  where
    by : (b : Bool) → number_of (cond b (Some c) None) ≡ cond b (Some c.number) None
    by true = refl
    by false = refl

told_alone : (next n last : ℕ) (l : Live) (cs : List Current) → AllTargets cs → only_handshake cs ≡ Some n → list_any (is_due_target l) cs ≡ true → untold_in next l.name last cs ≡ untold_of n last
told_alone next n last l [] all one due = absurd (let k : None ≡ Some n = one in cc)
told_alone next n last l (c ∷ d ∷ cs) all one due = absurd (let k : None ≡ Some n = one in cc)
told_alone next n last l (c ∷ []) all one due = by c.request refl
  where
    by : (r : Request) → c.request ≡ r → untold_in next l.name last (c ∷ []) ≡ untold_of n last
    by Census is = absurd (let k : None ≡ Some n = sym (ap (λ (r : Request). only_handshake (record c { request = r } ∷ [])) is) ∙ one in cc)
    by (Handshake targets ask) is =
        let number : c.number ≡ n = same_some c.number n (sym (ap (λ (r : Request). only_handshake (record c { request = r } ∷ [])) is) ∙ one) in
        let owed : (nat_lt l.name c.before && among l.name c.due) ≡ true =
        sym (ap (λ (r : Request). is_due_target l (record c { request = r })) is) ∙ or_false (is_due_target l c) due in
        let parts = and_parts (nat_lt l.name c.before) (among l.name c.due) owed in
        let listed : among l.name targets ≡ true = sym (ap (λ (r : Request). among l.name (targets_of r)) is) ∙ all.0 l.name parts.1 in
        let target : is_target_of next l.name c ≡ true =
        ap (λ (r : Request). is_target_of next l.name (record c { request = r })) is ∙ (ap (λ b. b && nat_lt l.name c.before) listed ∙ parts.0) in
        untold_alone next l.name last n c target number

pub due_are_told : DueAreTold
unfolding after
due_are_told slots methods h = λ n l last one due.
    let s = after_from (start slots methods) h in told_alone s.next_name n last l s.opened (all_after (start slots methods) h tt) one due
