-- Finish, Clear, Tell, Open, Operate and Close preserve the meaning of a thread's three numbers, which give its poll
-- and its marks for open operations.
use Rattle.std.proofs.Common.{◌≡◌, ◌∙◌, ◌<◌, ◌≤◌, ◌+◌, sym, ap, subst, refl, ℕ, zero, suc, Bool, true, false, not, ◌&&◌, ◌||◌, eqb, ◌==◌, cond, List, [], ◌∷◌, Option, Some, None, length, map, arith, ⊎_elim}
use Rattle.std.specs.Prelude.{filter, nat_le, nat_lt, slice_get, find}
use Rattle.std.proofs.lemmas.Bool.{false≢true, leb-true, leb-false, ltb-true, ltb-false, and_parts, and_from, eqb-true}
use Rattle.std.proofs.lemmas.Bool.Decides.{nat_tests}
use Rattle.operations.specs.Names.{among}
use Rattle.operations.specs.Requests.{is_census, is_target}
use Rattle.system.specs.declared.requests.Open.{Open}
use Rattle.system.specs.declared.thread.Marks.{Marks}
use Rattle.system.specs.declared.thread.Thread.{Thread as Kept}
use Rattle.system.specs.Operations.{Requests, Mark, Opened, Waiting, is_marked, with_mark, marks_of, poll_of, greatest, max_with}
use Rattle.system.specs.Threads.{Thread}
use Rattle.system.specs.World.{World, live_names, is_live, is_live_target}
use Rattle.system.specs.Log.{names_given, operations_given, moment}
use Rattle.system.specs.Places.{is_undone, is_uncleared}
use Rattle.system.specs.Facts.{NumbersAreSound, MarksAreSound, IsSound}
use Rattle.system.specs.Kept.Threads.{poll_by, SameOpen}
use Rattle.system.specs.Marking.{SameMarks, SameOpened, done_by}
use Rattle.system.proofs.Outcomes.{Tells, Opens, newly_opened, with_opened, with_operated}
use Rattle.system.specs.Step.{operated_if}
use Rattle.std.proofs.lemmas.List.Folds.{list_any-append}
use Rattle.system.proofs.Lists.{IsFirst, find_before, found_passes, at_low, same_at, filter_has, filter_pair, push_at}
use Rattle.system.proofs.Numbers.{only_number}
use Rattle.system.proofs.SoundMarks.{marked_more, marked_old, marked_new}

false_where : (b : Bool) → (b ≡ true → ⊥) → b ≡ false
false_where true f = absurd (f refl)
false_where false f = refl

le_true : (n m : ℕ) → n ≤ m → nat_le n m ≡ true
le_true n m h = grind (arith, nat_tests)

le_false : (n m : ℕ) → m < n → nat_le n m ≡ false
le_false n m h = grind (arith, nat_tests)

-- The poll.
abbrev pub waits : List Mark → ℕ → List Mark → List ℕ
waits cleared name ms = map (λ mark. mark.operation) (filter (λ mark. (mark.name == name) && not (is_marked cleared mark.operation name)) ms)

abbrev pub AtMost : ℕ → Option ℕ → Type 0
AtMost n None = Unit {0}
AtMost n (Some k) = k ≤ n

pub max_least : (n k : ℕ) (o : Option ℕ) → k ≤ n → AtMost n o → max_with k o ≤ n
max_least n k None low h = low
max_least n k (Some m) low h = omega (arith, low, h)

pub max_here : (n : ℕ) (o : Option ℕ) → AtMost n o → max_with n o ≡ n
max_here n None h = refl
max_here n (Some m) h = omega (arith, h)

or_right : (a b : Bool) → b ≡ true → a || b ≡ true
or_right true b h = refl
or_right false b h = h

first_marked : (mark : Mark) (ms : List Mark) (name : ℕ) → eqb mark.name name ≡ true → is_marked (mark ∷ ms) mark.operation name ≡ true
first_marked mark ms name same = rw same (let own : eqb mark.operation mark.operation ≡ true = grind (arith, nat_tests) in rw own refl)

at_most : (cleared : List Mark) (name last : ℕ) (ms : List Mark) → ((k : ℕ) → is_marked ms k name ≡ true → k ≤ last) → AtMost last (greatest (waits cleared name ms))
at_most cleared name last [] h = tt
at_most cleared name last (mark ∷ ms) h = by (eqb mark.name name) refl (is_marked cleared mark.operation name) refl (at_most cleared name last ms (λ k m. h k (or_right ((mark.operation == k) && (mark.name == name)) (is_marked ms k name) m)))
  where
    by : (b : Bool) → eqb mark.name name ≡ b → (c : Bool) → is_marked cleared mark.operation name ≡ c → AtMost last (greatest (waits cleared name ms)) → AtMost last (greatest (waits cleared name (mark ∷ ms)))
    by false e c f rest = rw e rest
    by true e true f rest = rw (e, f) rest
    by true e false f rest = rw (e, f) (max_least last mark.operation (greatest (waits cleared name ms)) (h mark.operation (first_marked mark ms name e)) rest)

greatest_is : (cleared : List Mark) (name last : ℕ) (ms : List Mark) → ((k : ℕ) → is_marked ms k name ≡ true → k ≤ last) → is_marked cleared last name ≡ false → is_marked ms last name ≡ true → greatest (waits cleared name ms) ≡ Some last
greatest_is cleared name last [] h open_ here = absurd (false≢true here)
greatest_is cleared name last (mark ∷ ms) h open_ here =
    by (eqb mark.name name) refl (eqb mark.operation last) refl (is_marked cleared mark.operation name) refl (at_most cleared name last ms rest_low) (λ m. greatest_is cleared name last ms rest_low open_ m)
  where
    rest_low : (k : ℕ) → is_marked ms k name ≡ true → k ≤ last
    rest_low k m = h k (or_right ((mark.operation == k) && (mark.name == name)) (is_marked ms k name) m)

    by : (b : Bool) → eqb mark.name name ≡ b → (d : Bool) → eqb mark.operation last ≡ d → (c : Bool) → is_marked cleared mark.operation name ≡ c → AtMost last (greatest (waits cleared name ms)) → (is_marked ms last name ≡ true → greatest (waits cleared name ms) ≡ Some last)
        → greatest (waits cleared name (mark ∷ ms)) ≡ Some last
    by false e true g c f low rest = rw e (rest (rw (e, g) at here))
    by false e false g c f low rest = rw e (rest (rw (e, g) at here))
    by true e true g true f low rest = let is : mark.operation ≡ last = grind (arith, nat_tests) in absurd (false≢true (sym open_ ∙ subst (λ n. is_marked cleared n name ≡ true) is f))
    by true e true g false f low rest = let is : mark.operation ≡ last = grind (arith, nat_tests) in rw (e, f, is) (ap Some (max_here last (greatest (waits cleared name ms)) low))
    by true e false g true f low rest = rw (e, f) (rest (rw (e, g) at here))
    by true e false g false f low rest = let less = h mark.operation (first_marked mark ms name e) in let r = rest (rw (e, g) at here) in rw (e, f, r) (ap Some (omega (arith, less)))

none_waits : (cleared : List Mark) (name : ℕ) (ms : List Mark) → ((k : ℕ) → is_marked ms k name ≡ true → is_marked cleared k name ≡ true) → waits cleared name ms ≡ []
none_waits cleared name [] all = refl
none_waits cleared name (mark ∷ ms) all = by (eqb mark.name name) refl (none_waits cleared name ms (λ k m. all k (or_right ((mark.operation == k) && (mark.name == name)) (is_marked ms k name) m)))
  where
    by : (b : Bool) → eqb mark.name name ≡ b → waits cleared name ms ≡ [] → waits cleared name (mark ∷ ms) ≡ []
    by false e rest = rw e rest
    by true e rest = rw (e, all mark.operation (first_marked mark ms name e)) rest

pub poll_is : (m : Marks) (requests : Requests) (name : ℕ) → SameMarks m requests name → poll_of requests name ≡ poll_by m
poll_is m requests name same = by (eqb m.told m.cleared) refl
  where
    by : (b : Bool) → eqb m.told m.cleared ≡ b → poll_of requests name ≡ poll_by m
    by true e = rw e (ap greatest (none_waits requests.cleared name requests.told (λ k t. (let low = same.told_last k t in let is : m.told ≡ m.cleared = grind (arith, nat_tests) in same.cleared_is k t ∙ le_true k m.cleared (omega (arith, low, is))))))
    by false e =
        let old = same.cleared_old in
        let above : m.cleared < m.told = grind (arith, nat_tests) in
        let told : is_marked requests.told m.told name ≡ true = same.told_is (omega (arith, above)) in
        rw e (greatest_is requests.cleared name m.told requests.told same.told_last (same.cleared_is m.told told ∙ le_false m.told m.cleared above) told)

-- The marks for an open operation.
pub same_open : (open_ : Open) (o : Opened) (kept : Kept) (w : World) (i : ℕ) → MarksAreSound w.places w.requests (names_given w.log) (operations_given w.log) → slice_get w.requests.opened i ≡ Some o → 0 < o.number → SameOpened open_ o w → SameMarks kept.marks w.requests kept.name
    → is_live w kept.name ≡ true → SameOpen open_ kept w.requests o
same_open open_ o kept w i s at from same m live = record {
  number = same.number;
  request = same.request;
  operated = same.operated;
  told = by (among kept.name o.live) refl;
  target = λ told. ap (λ r. is_target r kept.name) same.request ∙ s.live_target i o kept.name at (s.told_live i o kept.name at told);
  done = λ told. m.done_is i o at told ∙ rw (same.request, same.operated, same.number) refl;
  cleared = λ told. m.cleared_is o.number told ∙ ap (λ n. nat_le n kept.marks.cleared) (sym same.number);
}
  where
    last : (a b : Bool) → b ≡ true → a ≡ a && b
    last true true h = refl
    last false b h = refl
    last true false h = absurd (false≢true h)

    none : (a : Bool) → false ≡ a && false
    none true = refl
    none false = refl

    is_for : among kept.name o.live ≡ (nat_le kept.name open_.names && is_target open_.request kept.name)
    is_for = rw same.request (same.live kept.name live)

    by : (b : Bool) → among kept.name o.live ≡ b → is_marked w.requests.told o.number kept.name ≡ (nat_le open_.number kept.marks.told && ((open_.number == kept.marks.told) || (nat_le kept.name open_.names && is_target open_.request kept.name)))
    by true e = m.told_all i o at e ∙ (ap (λ n. nat_le n kept.marks.told) (sym same.number)
        ∙ last (nat_le open_.number kept.marks.told) ((open_.number == kept.marks.told) || (nat_le kept.name open_.names && is_target open_.request kept.name)) (or_right (open_.number == kept.marks.told) (nat_le kept.name open_.names && is_target open_.request kept.name) (sym is_for ∙ e)))
    by false e =
        let untold : is_marked w.requests.told o.number kept.name ≡ false = false_where (is_marked w.requests.told o.number kept.name) (λ t. false≢true (sym e ∙ s.told_live i o kept.name at t)) in
        let dead : (nat_le kept.name open_.names && is_target open_.request kept.name) ≡ false = sym is_for ∙ e in
        untold ∙ (none (nat_le open_.number kept.marks.told) ∙ sym (rw (other untold, dead) refl))
      where
        other : is_marked w.requests.told o.number kept.name ≡ false → (open_.number == kept.marks.told) ≡ false
        other untold = false_where (open_.number == kept.marks.told) (λ h. (
            let number = same.number in
            let is : kept.marks.told ≡ o.number = (let x = eqb-true open_.number kept.marks.told h in omega (arith, x, number)) in
            false≢true (sym untold ∙ subst (λ n. is_marked w.requests.told n kept.name ≡ true) is (m.told_is (omega (arith, is, from))))))

both_parts : (a b : Bool) → (a && not b) ≡ true → (a ≡ true) × (b ≡ false)
both_parts true true h = absurd (false≢true h)
both_parts true false h = (refl, refl)
both_parts false b h = absurd (false≢true h)

-- A Finish of the thread itself.
pub done_own : (w : World) (name : ℕ) (opened : Opened) (m : Marks) → NumbersAreSound w.requests.waiting w.requests.opened (names_given w.log) (operations_given w.log) (moment w.log) → find (is_undone w.requests name) w.requests.opened ≡ Some opened → is_census opened.request ≡ false
    → SameMarks m w.requests name → SameMarks (record m { done = opened.number }) (record w.requests { done = with_mark w.requests.done opened.number name }) name
done_own w name opened m numbers next handshake h = record {
  told_last = h.told_last;
  told_is = h.told_is;
  told_all = h.told_all;
  done_is = λ j o at told. by j o at told (nat_lt o.number opened.number) refl (nat_lt opened.number o.number) refl;
  done_old = h.told_last opened.number is_next.0;
  cleared_is = h.cleared_is;
  cleared_old = h.cleared_old;
}
  where
    is_next : (is_marked w.requests.told opened.number name ≡ true) × (is_marked w.requests.done opened.number name ≡ false)
    is_next = both_parts (is_marked w.requests.told opened.number name) (is_marked w.requests.done opened.number name) (found_passes (is_undone w.requests name) w.requests.opened opened next)

    found : IsFirst (is_undone w.requests name) w.requests.opened opened
    found = find_before (is_undone w.requests name) w.requests.opened opened next

    done_of : (a b : Bool) → (a && not b) ≡ false → a ≡ true → b ≡ true
    done_of a true e h = refl
    done_of true false e h = absurd (false≢true (sym e))
    done_of false false e h = absurd (false≢true h)

    no_census : (j : ℕ) (o : Opened) → slice_get w.requests.opened j ≡ Some o → is_census o.request ≡ false
    no_census j o at = false_where (is_census o.request) (λ c. (let few = numbers.census_alone j o at c in
        let a = at_low w.requests.opened j o at in let b = at_low w.requests.opened found.place opened found.at in
        let same : j ≡ found.place = omega (arith, few, a, b) in let is : o ≡ opened = same_at w.requests.opened found.place o opened (subst (λ n. slice_get w.requests.opened n ≡ Some o) same at) found.at in
        false≢true (sym handshake ∙ subst (λ (x : Opened). is_census x.request ≡ true) is c)))

    before : (j : ℕ) (o : Opened) → slice_get w.requests.opened j ≡ Some o → o.number < opened.number → (b : Bool) → nat_lt j found.place ≡ b → (c : Bool) → nat_lt found.place j ≡ c → is_undone w.requests name o ≡ false
    before j o at less true e c f = found.none_before j o (ltb-true j found.place e) at
    before j o at less false e true f = let r = numbers.opened_rise found.place j opened o (ltb-true found.place j f) found.at at in absurd (omega (arith, r, less))
    before j o at less false e false f =
        let a = ltb-false j found.place e in let b = ltb-false found.place j f in let same : j ≡ found.place = omega (arith, a, b) in
        let is : o ≡ opened = same_at w.requests.opened found.place o opened (subst (λ n. slice_get w.requests.opened n ≡ Some o) same at) found.at in
        let number = ap (λ (x : Opened). x.number) is in absurd (omega (arith, number, less))

    by : (j : ℕ) (o : Opened) → slice_get w.requests.opened j ≡ Some o → is_marked w.requests.told o.number name ≡ true → (b : Bool) → nat_lt o.number opened.number ≡ b → (c : Bool) → nat_lt opened.number o.number ≡ c
        → is_marked (with_mark w.requests.done opened.number name) o.number name ≡ done_by o (record m { done = opened.number })
    by j o at told true e c f =
        let less = ltb-true o.number opened.number e in
        let was = done_of (is_marked w.requests.told o.number name) (is_marked w.requests.done o.number name) (before j o at less (nat_lt j found.place) refl (nat_lt found.place j) refl) told in
        marked_old w.requests.done opened.number name o.number name was ∙ sym (rw (no_census j o at) (le_true o.number opened.number (omega (arith, less))))
    by j o at told false e true f =
        let above = ltb-true opened.number o.number f in
        let not_yet : is_marked w.requests.done o.number name ≡ false = false_where (is_marked w.requests.done o.number name) (λ d. (
        let low : nat_le o.number m.done ≡ true = (let a = h.done_is j o at told in (rw (no_census j o at) at (sym a ∙ d))) in
        let le = leb-true o.number m.done low in
        let mine : is_marked w.requests.done opened.number name ≡ true = h.done_is found.place opened found.at is_next.0 ∙ rw handshake (le_true opened.number m.done (omega (arith, le, above))) in
        false≢true (sym is_next.1 ∙ mine))) in
        false_where (is_marked (with_mark w.requests.done opened.number name) o.number name) (λ d. ⊎_elim (λ new. (let n = new.0 in absurd (omega (arith, n, above)))) (λ old. false≢true (sym not_yet ∙ old)) (marked_more w.requests.done opened.number name o.number name d))
        ∙ sym (rw (no_census j o at) (le_false o.number opened.number above))
    by j o at told false e false f =
        let a = ltb-false o.number opened.number e in let b = ltb-false opened.number o.number f in let same : opened.number ≡ o.number = omega (arith, a, b) in
        subst (λ n. is_marked (with_mark w.requests.done opened.number name) n name ≡ true) same (marked_new w.requests.done opened.number name) ∙ sym (rw (no_census j o at) (le_true o.number opened.number (omega (arith, same))))

-- A Clear of the thread itself.
pub cleared_own : (w : World) (p : ℕ) (t : Thread) (opened : Opened) (m : Marks) → NumbersAreSound w.requests.waiting w.requests.opened (names_given w.log) (operations_given w.log) (moment w.log) → MarksAreSound w.places w.requests (names_given w.log) (operations_given w.log) → slice_get w.places p ≡ Some (Some t) → find (is_uncleared w.requests t.name) w.requests.opened ≡ Some opened
    → SameMarks m w.requests t.name → SameMarks (record m { cleared = opened.number }) (record w.requests { cleared = with_mark w.requests.cleared opened.number t.name }) t.name
cleared_own w p t opened m numbers marks there next h = record {
  told_last = h.told_last;
  told_is = h.told_is;
  told_all = h.told_all;
  done_is = h.done_is;
  done_old = h.done_old;
  cleared_is = λ k told. by k told (nat_lt k opened.number) refl (nat_lt opened.number k) refl;
  cleared_old = h.told_last opened.number is_next.0;
}
  where
    is_next : (is_marked w.requests.told opened.number t.name ≡ true) × (is_marked w.requests.cleared opened.number t.name ≡ false)
    is_next = both_parts (is_marked w.requests.told opened.number t.name) (is_marked w.requests.cleared opened.number t.name) (found_passes (is_uncleared w.requests t.name) w.requests.opened opened next)

    found : IsFirst (is_uncleared w.requests t.name) w.requests.opened opened
    found = find_before (is_uncleared w.requests t.name) w.requests.opened opened next

    cleared_of : (a b : Bool) → (a && not b) ≡ false → a ≡ true → b ≡ true
    cleared_of a true e h = refl
    cleared_of true false e h = absurd (false≢true (sym e))
    cleared_of false false e h = absurd (false≢true h)

    before : (j : ℕ) (o : Opened) → slice_get w.requests.opened j ≡ Some o → o.number < opened.number → (b : Bool) → nat_lt j found.place ≡ b → (c : Bool) → nat_lt found.place j ≡ c → is_uncleared w.requests t.name o ≡ false
    before j o at less true e c f = found.none_before j o (ltb-true j found.place e) at
    before j o at less false e true f = let r = numbers.opened_rise found.place j opened o (ltb-true found.place j f) found.at at in absurd (omega (arith, r, less))
    before j o at less false e false f =
        let a = ltb-false j found.place e in let b = ltb-false found.place j f in let same : j ≡ found.place = omega (arith, a, b) in
        let is : o ≡ opened = same_at w.requests.opened found.place o opened (subst (λ n. slice_get w.requests.opened n ≡ Some o) same at) found.at in
        let number = ap (λ (x : Opened). x.number) is in absurd (omega (arith, number, less))

    old_cleared : (k : ℕ) → is_marked w.requests.told k t.name ≡ true → k < opened.number → (b : Bool) → is_marked w.requests.cleared k t.name ≡ b → is_marked w.requests.cleared k t.name ≡ true
    old_cleared k told less true e = e
    old_cleared k told less false e =
        let r = marks.uncleared_open p t k there told e in
        let low : r.1.number < opened.number = (let n = r.3 in omega (arith, n, less)) in
        cleared_of (is_marked w.requests.told k t.name) (is_marked w.requests.cleared k t.name) (subst (λ n. (is_marked w.requests.told n t.name && not (is_marked w.requests.cleared n t.name)) ≡ false) r.3 (before r.0 r.1 r.2 low (nat_lt r.0 found.place) refl (nat_lt found.place r.0) refl)) told

    by : (k : ℕ) → is_marked w.requests.told k t.name ≡ true → (b : Bool) → nat_lt k opened.number ≡ b → (c : Bool) → nat_lt opened.number k ≡ c → is_marked (with_mark w.requests.cleared opened.number t.name) k t.name ≡ nat_le k opened.number
    by k told true e c f =
        let less = ltb-true k opened.number e in
        marked_old w.requests.cleared opened.number t.name k t.name (old_cleared k told less (is_marked w.requests.cleared k t.name) refl) ∙ sym (le_true k opened.number (omega (arith, less)))
    by k told false e true f =
        let above = ltb-true opened.number k f in
        false_where (is_marked (with_mark w.requests.cleared opened.number t.name) k t.name) (λ d. ⊎_elim (λ new. (let n = new.0 in absurd (omega (arith, n, above))))
        (λ old. (let le = leb-true k m.cleared (sym (h.cleared_is k told) ∙ old) in
        let mine : is_marked w.requests.cleared opened.number t.name ≡ true = h.cleared_is opened.number is_next.0 ∙ le_true opened.number m.cleared (omega (arith, le, above)) in false≢true (sym is_next.1 ∙ mine)))
        (marked_more w.requests.cleared opened.number t.name k t.name d)) ∙ sym (le_false k opened.number above)
    by k told false e false f =
        let a = ltb-false k opened.number e in let b = ltb-false opened.number k f in let same : opened.number ≡ k = omega (arith, a, b) in
        subst (λ n. is_marked (with_mark w.requests.cleared opened.number t.name) n t.name ≡ true) same (marked_new w.requests.cleared opened.number t.name) ∙ sym (le_true k opened.number (omega (arith, same)))

-- A Tell to the thread itself.
pub told_own : (w : World) (name p : ℕ) (t : Thread) (opened : Opened) (m : Marks) → IsSound w → slice_get w.places p ≡ Some (Some t) → t.name ≡ name → Tells w name opened
    → SameMarks m w.requests name → SameMarks (record m { told = opened.number }) (record w.requests { told = with_mark w.requests.told opened.number name }) name
told_own w name p t opened m s there named i h = record {
  told_last = λ k told. ⊎_elim (λ new. (let n = new.0 in omega (arith, n))) (λ old. (let low = h.told_last k old in let b = before in omega (arith, low, b))) (marked_more w.requests.told opened.number name k name told);
  told_is = λ some. marked_new w.requests.told opened.number name;
  told_all = λ j o at live. all j o at live (nat_lt o.number opened.number) refl (nat_lt opened.number o.number) refl;
  done_is = λ j o at told. ⊎_elim (λ new. own_done j o at new.0) (λ old. h.done_is j o at old) (marked_more w.requests.told opened.number name o.number name told);
  done_old = (let a = h.done_old in let b = before in omega (arith, a, b));
  cleared_is = λ k told. ⊎_elim (λ new. own_cleared k new.0) (λ old. h.cleared_is k old) (marked_more w.requests.told opened.number name k name told);
  cleared_old = (let a = h.cleared_old in let b = before in omega (arith, a, b));
}
  where
    lives : (among name opened.live ≡ true) × (is_live w name ≡ true)
    lives = and_parts (among name opened.live) (is_live w name) i.live

    before : m.told < opened.number
    before = leb-false opened.number m.told (sym (h.told_all i.open_is.position opened i.open_is.here lives.0) ∙ i.not_told)

    not_done : is_marked w.requests.done opened.number name ≡ false
    not_done = false_where (is_marked w.requests.done opened.number name) (λ d. false≢true (sym i.not_told ∙ s.marks.done_told opened.number name d))

    not_cleared : is_marked w.requests.cleared opened.number name ≡ false
    not_cleared = false_where (is_marked w.requests.cleared opened.number name) (λ c. false≢true (sym not_done ∙ s.marks.cleared_done opened.number name c))

    own_cleared : (k : ℕ) → opened.number ≡ k → is_marked w.requests.cleared k name ≡ nat_le k m.cleared
    own_cleared k same = subst (λ n. is_marked w.requests.cleared n name ≡ nat_le n m.cleared) same (not_cleared ∙ sym (le_false opened.number m.cleared (let a = h.cleared_old in let b = before in omega (arith, a, b))))

    not_operated : opened.operated ≡ false
    not_operated = false_where opened.operated (λ e. false≢true (sym i.not_told ∙ subst (λ n. is_marked w.requests.told opened.number n ≡ true) named (s.operated.told i.open_is.position opened p t i.open_is.here e there)))

    either : (b c d : Bool) → c ≡ false → d ≡ false → false ≡ cond b c d
    either true c d e f = sym e
    either false c d e f = sym f

    own_done : (j : ℕ) (o : Opened) → slice_get w.requests.opened j ≡ Some o → opened.number ≡ o.number → is_marked w.requests.done o.number name ≡ done_by o (record m { told = opened.number })
    own_done j o at same =
        let is : opened ≡ o = only_number s.numbers i.open_is.position j opened o i.open_is.here at same in
        subst (λ (x : Opened). is_marked w.requests.done x.number name ≡ done_by x (record m { told = opened.number })) is
        (not_done ∙ either (is_census opened.request) opened.operated (nat_le opened.number m.done) not_operated (le_false opened.number m.done (let a = h.done_old in let b = before in omega (arith, a, b))))

    told_if : (b : Bool) → not b ≡ false → b ≡ true
    told_if true e = refl
    told_if false e = absurd (false≢true (sym e))

    found : IsFirst (λ o. not (is_marked w.requests.told o.number name)) (filter (λ o. is_live_target w o name) w.requests.opened) opened
    found = find_before (λ o. not (is_marked w.requests.told o.number name)) (filter (λ o. is_live_target w o name) w.requests.opened) opened i.least

    told_less : (o : Opened) → o.number < opened.number → (a : ℕ) → slice_get (filter (λ o. is_live_target w o name) w.requests.opened) a ≡ Some o → (b : Bool) → nat_lt a found.place ≡ b → (c : Bool) → nat_lt found.place a ≡ c → is_marked w.requests.told o.number name ≡ true
    told_less o less a at true e c f = told_if (is_marked w.requests.told o.number name) (found.none_before a o (ltb-true a found.place e) at)
    told_less o less a at false e true f =
        let r = filter_pair (λ o. is_live_target w o name) w.requests.opened found.place a opened o (ltb-true found.place a f) found.at at in
        let n = s.numbers.opened_rise r.first r.second opened o r.in_order r.at_first r.at_second in absurd (omega (arith, n, less))
    told_less o less a at false e false f =
        let x = ltb-false a found.place e in let y = ltb-false found.place a f in let same : a ≡ found.place = omega (arith, x, y) in
        let is : o ≡ opened = same_at (filter (λ o. is_live_target w o name) w.requests.opened) found.place o opened (subst (λ n. slice_get (filter (λ o. is_live_target w o name) w.requests.opened) n ≡ Some o) same at) found.at in
        let number = ap (λ (x : Opened). x.number) is in absurd (omega (arith, number, less))

    all : (j : ℕ) (o : Opened) → slice_get w.requests.opened j ≡ Some o → among name o.live ≡ true → (b : Bool) → nat_lt o.number opened.number ≡ b → (c : Bool) → nat_lt opened.number o.number ≡ c → is_marked (with_mark w.requests.told opened.number name) o.number name ≡ nat_le o.number opened.number
    all j o at live true e c f =
        let less = ltb-true o.number opened.number e in
        let in_list = filter_has (λ o. is_live_target w o name) w.requests.opened j o at (and_from (among name o.live) (is_live w name) live lives.1) in
        marked_old w.requests.told opened.number name o.number name (told_less o less in_list.0 in_list.1 (nat_lt in_list.0 found.place) refl (nat_lt found.place in_list.0) refl) ∙ sym (le_true o.number opened.number (omega (arith, less)))
    all j o at live false e true f =
        let above = ltb-true opened.number o.number f in
        false_where (is_marked (with_mark w.requests.told opened.number name) o.number name) (λ d. ⊎_elim (λ new. (let n = new.0 in absurd (omega (arith, n, above))))
        (λ old. (let low = h.told_last o.number old in let b = before in absurd (omega (arith, low, b, above)))) (marked_more w.requests.told opened.number name o.number name d)) ∙ sym (le_false o.number opened.number above)
    all j o at live false e false f =
        let a = ltb-false o.number opened.number e in let b = ltb-false opened.number o.number f in let same : opened.number ≡ o.number = omega (arith, a, b) in
        subst (λ n. is_marked (with_mark w.requests.told opened.number name) n name ≡ true) same (marked_new w.requests.told opened.number name) ∙ sym (le_true o.number opened.number (omega (arith, same)))

-- An Open.
pub opened_own : (w : World) (oldest : Waiting) (others : List Waiting) (name : ℕ) (m : Marks) → IsSound w → Opens w oldest others → SameMarks m w.requests name → SameMarks m (with_opened w oldest others) name
opened_own w oldest others name m s i h = record {
  told_last = h.told_last;
  told_is = h.told_is;
  told_all = λ j o at live. ⊎_elim (λ old. h.told_all j o old live) (λ new. (let same : oldest.number ≡ o.number = ap (λ (x : Opened). x.number) new.1 in subst (λ n. is_marked w.requests.told n name ≡ nat_le n m.told) same (fresh ∙ sym (above m.told refl)))) (push_at w.requests.opened (newly_opened w oldest) j o at);
  done_is = λ j o at told. ⊎_elim (λ old. h.done_is j o old told) (λ new. (let same : oldest.number ≡ o.number = ap (λ (x : Opened). x.number) new.1 in absurd (false≢true (sym fresh ∙ subst (λ n. is_marked w.requests.told n name ≡ true) (sym same) told)))) (push_at w.requests.opened (newly_opened w oldest) j o at);
  done_old = h.done_old;
  cleared_is = h.cleared_is;
  cleared_old = h.cleared_old;
}
  where
    first : oldest.number + length w.requests.waiting ≡ operations_given w.log + 0 + 1
    first = s.numbers.waiting_is 0 oldest (subst (λ ws. slice_get ws 0 ≡ Some oldest) (sym i.waiting_is) refl)

    fresh : is_marked w.requests.told oldest.number name ≡ false
    fresh = false_where (is_marked w.requests.told oldest.number name) (λ t. (let a = (s.marks.told_opened oldest.number name t).1 in let f = first in omega (arith, a, f)))

    above : (k : ℕ) → m.told ≡ k → nat_le oldest.number m.told ≡ false
    above zero e = le_false oldest.number m.told (let f = first in let q = s.numbers.waiting_asked in omega (arith, e, f, q))
    above (suc k) e = le_false oldest.number m.told (let t = h.told_is (omega (arith, e)) in let a = (s.marks.told_opened m.told name t).1 in let f = first in omega (arith, a, f))

-- The marks of all live threads.
marked_all : (n name : ℕ) (names : List ℕ) → among name names ≡ true → is_marked (marks_of n names) n name ≡ true
marked_all n name [] h = cc
marked_all n name (x ∷ xs) h = by (eqb x name) h (marked_all n name xs)
  where
    self : eqb n n ≡ true
    self = grind (arith, nat_tests)

    by : (b : Bool) → (b || among name xs) ≡ true → (among name xs ≡ true → is_marked (marks_of n xs) n name ≡ true) → ((eqb n n && b) || is_marked (marks_of n xs) n name) ≡ true
    by true k rest = rw self refl
    by false k rest = rw self (rest k)

or_left : (a b : Bool) → a ≡ true → (a || b) ≡ true
or_left true b h = refl
or_left false b h = cc

only_one : (x : Opened) (j : ℕ) (y : Opened) → slice_get (x ∷ []) j ≡ Some y → x ≡ y
only_one x zero y h = cc
only_one x (suc j) y h = cc

-- An Operate: the census, which is open alone, becomes done for all live threads.
pub operated_own : (w : World) (o : Opened) (name : ℕ) (m : Marks) → w.requests.opened ≡ o ∷ [] → is_census o.request ≡ true → among name (live_names w) ≡ true → SameMarks m w.requests name → SameMarks m (with_operated w o) name
operated_own w o name m is asked lives h = record {
  told_last = h.told_last;
  told_is = h.told_is;
  told_all = λ j other at live. (let r = first j other at in subst (λ (x : Opened). is_marked w.requests.told x.number name ≡ nat_le x.number m.told) r
      (h.told_all 0 o here (subst (λ (x : Opened). among name x.live ≡ true) (sym r) live)));
  done_is = λ j other at told. subst (λ (x : Opened). is_marked (with_operated w o).done x.number name ≡ done_by x m) (first j other at) (marked ∙ rw asked refl);
  done_old = h.done_old;
  cleared_is = h.cleared_is;
  cleared_old = h.cleared_old;
}
  where
    here : slice_get w.requests.opened 0 ≡ Some o
    here = ap (λ os. slice_get os 0) is

    self : eqb o.number o.number ≡ true
    self = grind (arith, nat_tests)

    only : map (operated_if o.number) w.requests.opened ≡ record o { operated = true } ∷ []
    only = ap (map (operated_if o.number)) is ∙ rw self refl

    first : (j : ℕ) (other : Opened) → slice_get (with_operated w o).opened j ≡ Some other → record o { operated = true } ≡ other
    first j other at = only_one (record o { operated = true }) j other (ap (λ os. slice_get os j) (sym only) ∙ at)

    marked : is_marked (with_operated w o).done o.number name ≡ true
    marked = list_any-append (λ (mark : Mark). (mark.operation == o.number) && (mark.name == name)) (marks_of o.number (live_names w)) w.requests.done
        ∙ or_left (is_marked (marks_of o.number (live_names w)) o.number name) (is_marked w.requests.done o.number name) (marked_all o.number name (live_names w) lives)

-- Other requests wait, and no new operation is open.
pub fewer_own : (old : Requests) (ws : List Waiting) (os : List Opened) (name : ℕ) (m : Marks) → ((i : ℕ) (o : Opened) → slice_get os i ≡ Some o → (j : ℕ) × (slice_get old.opened j ≡ Some o)) → SameMarks m old name → SameMarks m (record old { waiting = ws; opened = os }) name
fewer_own old ws os name m was h = record {
  told_last = h.told_last;
  told_is = h.told_is;
  told_all = λ i o at live. (let r = was i o at in h.told_all r.0 o r.1 live);
  done_is = λ i o at told. (let r = was i o at in h.done_is r.0 o r.1 told);
  done_old = h.done_old;
  cleared_is = h.cleared_is;
  cleared_old = h.cleared_old;
}
