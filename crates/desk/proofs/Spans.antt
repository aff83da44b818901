-- The replies in the spans of one list, through each change of it.
use Rattle.std.proofs.Common.{◌≡◌, ◌≢◌, ℕ, zero, suc, ◌+◌, ◌-◌, ◌<◌, ◌≤◌, List, [], ◌∷◌, ◌++◌, map, length, take, drop, get_or, refl, sym, ap, ◌∙◌, subst, arith, length-drop, length-append}
use Rattle.std.proofs.lemmas.List.{drop-drop, drop-map, drop-append-le, take-append-le, drop-set-lt, drop-set-add, take-set-le, take_more_set, length-map, map-append}
use Rattle.std.specs.Prelude.{slice_set}
use Rattle.desk.specs.declared.replies.Span.{Span}
use Rattle.desk.specs.Replies.{Said, nothing_said}
use Rattle.desk.specs.Spans.{said_in, AreBehind, AreFew, silent, answered, earlier}

abbrev end_of : Span → ℕ
end_of s = s.start + (s.said + s.room)

-- items after the spans change no span
said_more : (all more : List (ℕ × ℕ)) (s : Span) → end_of s ≤ length all → said_in (all ++ more) s ≡ said_in all s
said_more all more s is_in =
    let l = length-drop s.start all in
    ap (λ (k : List (ℕ × ℕ)). record { said = k; room = s.room })
    (ap (take s.said) (drop-append-le s.start all more (omega arith)) ∙ take-append-le s.said (drop s.start all) more (omega arith))

from_to : (ss : List Span) (from to : ℕ) → AreBehind from ss to → from ≤ to
from_to [] from to h = omega (arith, h)
from_to (s ∷ ss) from to h = let r = from_to ss (end_of s) to h.1 in let l = h.0 in omega arith

lists_more : (ss : List Span) (from : ℕ) (all more : List (ℕ × ℕ)) → AreBehind from ss (length all) → map (said_in (all ++ more)) ss ≡ map (said_in all) ss
lists_more [] from all more h = refl
lists_more (s ∷ ss) from all more h = (λ i. said_more all more s (from_to ss (end_of s) (length all) h.1) i ∷ lists_more ss (end_of s) all more h.1 i)

-- one more span at the end, without replies
abbrev fresh : ℕ → ℕ → Span
fresh start room = record { start = start; said = 0; room = room }

behind_push : (ss : List Span) (from to room : ℕ) → AreBehind from ss to → AreBehind from (ss ++ fresh to room ∷ []) (to + room)
behind_push [] from to room h = (sym h, omega arith)
behind_push (s ∷ ss) from to room h = (h.0, behind_push ss (end_of s) to room h.1)

pub behind_more : (all all' more : List (ℕ × ℕ)) (ss ss' : List Span) (start room : ℕ) → AreBehind 0 ss (length all) → start ≡ length all → length more ≡ room → all' ≡ all ++ more → ss' ≡ ss ++ fresh start room ∷ [] → AreBehind 0 ss' (length all')
behind_more all all' more ss ss' start room h at count all_is is =
    let l = ap (λ (l : List (ℕ × ℕ)). length l) all_is in
    let long : start + room ≡ length all' = omega (arith, length-append all more) in
    subst (λ n. AreBehind 0 ss' n) long (subst (λ l. AreBehind 0 l (start + room)) (sym is) (behind_push ss 0 start room (subst (AreBehind 0 ss) (sym at) h)))

pub lists_push : (all all' more : List (ℕ × ℕ)) (ss ss' : List Span) (start room : ℕ) → AreBehind 0 ss (length all) → all' ≡ all ++ more → ss' ≡ ss ++ fresh start room ∷ [] → map (said_in all') ss' ≡ map (said_in all) ss ++ silent room ∷ []
lists_push all all' more ss ss' start room h all_is is =
    (λ i. map (said_in (all_is i)) (is i)) ∙ map-append (said_in (all ++ more)) ss (fresh start room ∷ []) ∙ ap (λ (l : List Said). l ++ silent room ∷ []) (lists_more ss 0 all more h)

-- each span is within the list
span_in : (ss : List Span) (from to k : ℕ) (d : Span) → AreBehind from ss to → k < length ss → (from ≤ (get_or ss k d).start) × (end_of (get_or ss k d) ≤ to)
span_in [] from to k d h low = absurd (omega arith)
span_in (s ∷ ss) from to zero d h low = (omega (arith, h.0), from_to ss (end_of s) to h.1)
span_in (s ∷ ss) from to (suc k) d h low = let r = span_in ss (end_of s) to k d h.1 (omega arith) in let l = h.0 in (omega (arith, r.0), r.1)

get_lists : (all : List (ℕ × ℕ)) (ss : List Span) (k : ℕ) (d : Span) (e : Said) → k < length ss → get_or (map (said_in all) ss) k e ≡ said_in all (get_or ss k d)
get_lists all [] k d e low = absurd (omega arith)
get_lists all (s ∷ ss) zero d e low = refl
get_lists all (s ∷ ss) (suc k) d e low = get_lists all ss k d e (omega arith)

-- a span that was read is between the ends
pub read_in : (ss : List Span) (from to k : ℕ) (s : Span) → AreBehind from ss to → k < length ss → s ≡ get_or ss k s → (from ≤ s.start) × (end_of s ≤ to)
read_in ss from to k s h low is = subst (λ (z : Span). (from ≤ z.start) × (end_of z ≤ to)) (sym is) (span_in ss from to k s h low)

pub read_said : (all : List (ℕ × ℕ)) (ss : List Span) (k : ℕ) (s : Span) (e : Said) → k < length ss → s ≡ get_or ss k s → get_or (map (said_in all) ss) k e ≡ said_in all s
read_said all ss k s e low is = get_lists all ss k s e low ∙ ap (said_in all) (sym is)

-- the lists of replies have as many items as the spans, with the same room
pub place_in : (all : List (ℕ × ℕ)) (ss : List Span) (lists : List Said) (k : ℕ) → map (said_in all) ss ≡ lists → k < length lists → k < length ss
place_in all ss lists k is low = let l = ap (λ (l : List Said). length l) is in omega (arith, length-map ss (said_in all))

pub room_in : (all : List (ℕ × ℕ)) (ss : List Span) (lists : List Said) (k : ℕ) (s : Span) → map (said_in all) ss ≡ lists → k < length ss → s ≡ get_or ss k s → 0 < (get_or lists k nothing_said).room → 0 < s.room
room_in all ss lists k s is low read room =
    subst (λ (x : Said). 0 < x.room) (ap (λ (l : List Said). get_or l k nothing_said) (sym is) ∙ read_said all ss k s nothing_said low read) room

-- a reply before or after a span doesn't change it
said_after : (all : List (ℕ × ℕ)) (p : ℕ) (x : ℕ × ℕ) (s : Span) → p < s.start → said_in (slice_set all p x) s ≡ said_in all s
said_after all p x s low = ap (λ (k : List (ℕ × ℕ)). record { said = take s.said k; room = s.room }) (drop-set-lt s.start all p x low)

drop_set : (all : List (ℕ × ℕ)) (n p : ℕ) (x : ℕ × ℕ) → n ≤ p → drop n (slice_set all p x) ≡ slice_set (drop n all) (p - n) x
drop_set all n p x low =
    let e : n + (p - n) ≡ p = omega arith in
    ap (λ k. drop n (slice_set all k x)) (sym e) ∙ drop-set-add n all (p - n) x

said_before : (all : List (ℕ × ℕ)) (p : ℕ) (x : ℕ × ℕ) (s : Span) → end_of s ≤ p → said_in (slice_set all p x) s ≡ said_in all s
said_before all p x s low =
    ap (λ (k : List (ℕ × ℕ)). record { said = k; room = s.room })
    (ap (take s.said) (drop_set all s.start p x (omega arith)) ∙ take-set-le s.said (drop s.start all) (p - s.start) x (omega arith))

lists_after : (ss : List Span) (from to : ℕ) (all : List (ℕ × ℕ)) (p : ℕ) (x : ℕ × ℕ) → AreBehind from ss to → p < from → map (said_in (slice_set all p x)) ss ≡ map (said_in all) ss
lists_after [] from to all p x h low = refl
lists_after (s ∷ ss) from to all p x h low =
    let first : p < s.start = (let l = h.0 in omega arith) in
    (λ i. said_after all p x s first i ∷ lists_after ss (end_of s) to all p x h.1 (omega (arith, first)) i)

-- a span with one more reply and room for one less
abbrev pub next : Span → Span
next s = record { start = s.start; said = s.said + 1; room = s.room - 1 }

said_next : (all : List (ℕ × ℕ)) (x : ℕ × ℕ) (s : Span) → s.start + s.said < length all → said_in (slice_set all (s.start + s.said) x) (next s) ≡ answered x (said_in all s)
said_next all x s is_in =
    let l = length-drop s.start all in
    ap (λ (k : List (ℕ × ℕ)). record { said = k; room = s.room - 1 })
    (ap (take (s.said + 1)) (drop-set-add s.start all s.said x) ∙ take_more_set (drop s.start all) s.said x (omega arith))

pub lists_set : (ss : List Span) (from to : ℕ) (all : List (ℕ × ℕ)) (k : ℕ) (x : ℕ × ℕ) (s : Span) → AreBehind from ss to → to ≡ length all → k < length ss → s ≡ get_or ss k s → 0 < s.room
    → map (said_in (slice_set all (s.start + s.said) x)) (slice_set ss k (next s)) ≡ slice_set (map (said_in all) ss) k (answered x (said_in all s))
lists_set [] from to all k x s h e low is room = absurd (omega arith)
lists_set (y ∷ ss) from to all zero x s h e low is room =
    let rest : AreBehind (end_of s) ss to = subst (λ (z : Span). AreBehind (end_of z) ss to) (sym is) h.1 in
    let end = from_to ss (end_of s) to rest in
    (λ i. said_next all x s (omega arith) i ∷ lists_after ss (end_of s) to all (s.start + s.said) x rest (omega arith) i)
lists_set (y ∷ ss) from to all (suc k) x s h e low is room =
    let there = span_in ss (end_of y) to k s h.1 (omega arith) in
    let start : end_of y ≤ s.start = subst (λ (z : Span). end_of y ≤ z.start) (sym is) there.0 in
    (λ i. said_before all (s.start + s.said) x y (omega (arith, start)) i ∷ lists_set ss (end_of y) to all k x s h.1 e (omega arith) is room i)

pub behind_set : (ss : List Span) (from to k : ℕ) (s : Span) → AreBehind from ss to → k < length ss → s ≡ get_or ss k s → 0 < s.room → AreBehind from (slice_set ss k (next s)) to
behind_set [] from to k s h low is room = absurd (omega arith)
behind_set (y ∷ ss) from to zero s h low is room =
    let first : s.start ≡ from = subst (λ (z : Span). z.start ≡ from) (sym is) h.0 in
    let rest : AreBehind (end_of s) ss to = subst (λ (z : Span). AreBehind (end_of z) ss to) (sym is) h.1 in
    let same : end_of s ≡ s.start + (s.said + 1 + (s.room - 1)) = omega arith in
    (first, subst (λ n. AreBehind n ss to) same rest)
behind_set (y ∷ ss) from to (suc k) s h low is room = (h.0, behind_set ss (end_of y) to k s h.1 (omega arith) is room)

-- the first spans are dropped with their items
behind_drop : (ss : List Span) (from to k : ℕ) (d : Span) → AreBehind from ss to → k < length ss → AreBehind (get_or ss k d).start (drop k ss) to
behind_drop [] from to k d h low = absurd (omega arith)
behind_drop (s ∷ ss) from to zero d h low = (refl, h.1)
behind_drop (s ∷ ss) from to (suc k) d h low = behind_drop ss (end_of s) to k d h.1 (omega arith)

behind_earlier : (ss : List Span) (from to less : ℕ) → AreBehind from ss to → less ≤ from → AreBehind (from - less) (map (earlier less) ss) (to - less)
behind_earlier [] from to less h low = omega (arith, h)
behind_earlier (s ∷ ss) from to less h low =
    let first : s.start ≡ from = h.0 in
    let same : end_of s - less ≡ end_of (earlier less s) = omega arith in
    (omega arith, subst (λ n. AreBehind n (map (earlier less) ss) (to - less)) same (behind_earlier ss (end_of s) to less h.1 (omega arith)))

said_earlier : (all : List (ℕ × ℕ)) (less : ℕ) (s : Span) → less ≤ s.start → said_in (drop less all) (earlier less s) ≡ said_in all s
said_earlier all less s low =
    let e : less + (s.start - less) ≡ s.start = omega arith in
    ap (λ (k : List (ℕ × ℕ)). record { said = take s.said k; room = s.room }) (drop-drop (s.start - less) less all ∙ ap (λ n. drop n all) e)

lists_earlier : (ss : List Span) (from to less : ℕ) (all : List (ℕ × ℕ)) → AreBehind from ss to → less ≤ from → map (said_in (drop less all)) (map (earlier less) ss) ≡ map (said_in all) ss
lists_earlier [] from to less all h low = refl
lists_earlier (s ∷ ss) from to less all h low =
    let first : s.start ≡ from = h.0 in
    (λ i. said_earlier all less s (omega arith) i ∷ lists_earlier ss (end_of s) to less all h.1 (omega arith) i)

-- the span read at an index, and all after it
pub dropped_behind : (ss ss' : List Span) (all all' : List (ℕ × ℕ)) (k : ℕ) (s : Span) → AreBehind 0 ss (length all) → k < length ss → s ≡ get_or ss k s
    → ss' ≡ map (earlier s.start) (drop k ss) → all' ≡ drop s.start all → AreBehind 0 ss' (length all')
dropped_behind ss ss' all all' k s h low read is all_is =
    let from : AreBehind s.start (drop k ss) (length all) = subst (λ (z : Span). AreBehind z.start (drop k ss) (length all)) (sym read) (behind_drop ss 0 (length all) k s h low) in
    let there = behind_earlier (drop k ss) s.start (length all) s.start from (omega arith) in
    let long : length all - s.start ≡ length all' = sym (length-drop s.start all) ∙ ap (λ (l : List (ℕ × ℕ)). length l) (sym all_is) in
    subst (λ n. AreBehind 0 ss' n) long (subst (λ (l : List Span). AreBehind 0 l (length all - s.start)) (sym is) (subst (λ n. AreBehind n (map (earlier s.start) (drop k ss)) (length all - s.start)) (omega arith) there))

pub dropped_lists : (ss ss' : List Span) (all all' : List (ℕ × ℕ)) (k : ℕ) (s : Span) → AreBehind 0 ss (length all) → k < length ss → s ≡ get_or ss k s
    → ss' ≡ map (earlier s.start) (drop k ss) → all' ≡ drop s.start all → map (said_in all') ss' ≡ drop k (map (said_in all) ss)
dropped_lists ss ss' all all' k s h low read is all_is =
    let from : AreBehind s.start (drop k ss) (length all) = subst (λ (z : Span). AreBehind z.start (drop k ss) (length all)) (sym read) (behind_drop ss 0 (length all) k s h low) in
    (λ i. map (said_in (all_is i)) (is i)) ∙ lists_earlier (drop k ss) s.start (length all) s.start all from (omega arith) ∙ sym (drop-map (said_in all) k ss)

pub dropped_starts : (ss ss' : List Span) (to k : ℕ) (s : Span) → AreBehind 0 ss to → k < length ss → s ≡ get_or ss k s → ss' ≡ drop k ss
    → (j : ℕ) (d : Span) → j < length ss' → s.start ≤ (get_or ss' j d).start
dropped_starts ss ss' to k s h low read is j d in_it =
    let from : AreBehind s.start ss' to = subst (λ (l : List Span). AreBehind s.start l to) (sym is) (subst (λ (z : Span). AreBehind z.start (drop k ss) to) (sym read) (behind_drop ss 0 to k s h low)) in
    (span_in ss' s.start to j d from in_it).0

-- an item that the loop hasn't reached is unchanged
not_reached : {X : Type 0} (f : X → X) (xs : List X) (k : ℕ) (d : X) → k < length xs → get_or (map f (take k xs) ++ drop k xs) k d ≡ get_or xs k d
not_reached f [] k d low = absurd (omega arith)
not_reached f (x ∷ xs) zero d low = refl
not_reached f (x ∷ xs) (suc k) d low = not_reached f xs k d (omega arith)

pub mapped_so_far : {X : Type 0} (f : X → X) (xs ys : List X) (k : ℕ) (x : X) → k < length xs → ys ≡ map f (take k xs) ++ drop k xs → x ≡ get_or ys k x → get_or xs k x ≡ x
mapped_so_far f xs ys k x low is read = sym (not_reached f xs k x low) ∙ ap (λ (l : List _). get_or l k x) (sym is) ∙ sym read

pub dropped_below : (all : List (ℕ × ℕ)) (ss : List Span) (lists : List Said) (k n : ℕ) → map (said_in all) ss ≡ lists → k ≤ length lists → n ≡ length ss → k ≢ n → k < length ss
dropped_below all ss lists k n is low len ne = let l = ap (λ (l : List Said). length l) is in let m = length-map ss (said_in all) in omega arith

-- no span has too much room, through each change
few_behind : (ss : List Span) (s : Span) → AreFew ss → s.said + s.room ≤ 64 → AreFew (ss ++ s ∷ [])
few_behind [] s h low = (low, tt)
few_behind (x ∷ ss) s h low = (h.0, few_behind ss s h.1 low)

pub few_more : (ss ss' : List Span) (start room : ℕ) → AreFew ss → room ≤ 64 → ss' ≡ ss ++ fresh start room ∷ [] → AreFew ss'
few_more ss ss' start room h low is = subst AreFew (sym is) (few_behind ss (fresh start room) h (omega (arith, low)))

few_there : (ss : List Span) (k : ℕ) (d : Span) → AreFew ss → k < length ss → (get_or ss k d).said + (get_or ss k d).room ≤ 64
few_there [] k d h low = absurd (omega arith)
few_there (x ∷ ss) zero d h low = h.0
few_there (x ∷ ss) (suc k) d h low = few_there ss k d h.1 (omega arith)

pub few_at : (ss : List Span) (k : ℕ) (s : Span) → AreFew ss → k < length ss → s ≡ get_or ss k s → s.said + s.room ≤ 64
few_at ss k s h low is = subst (λ (z : Span). z.said + z.room ≤ 64) (sym is) (few_there ss k s h low)

few_put : (ss : List Span) (k : ℕ) (s : Span) → AreFew ss → s.said + s.room ≤ 64 → AreFew (slice_set ss k s)
few_put [] k s h low = tt
few_put (x ∷ ss) zero s h low = (low, h.1)
few_put (x ∷ ss) (suc k) s h low = (h.0, few_put ss k s h.1 low)

pub few_set : (ss : List Span) (k : ℕ) (s : Span) → AreFew ss → k < length ss → s ≡ get_or ss k s → 0 < s.room → AreFew (slice_set ss k (next s))
few_set ss k s h low is room = few_put ss k (next s) h (let l = few_at ss k s h low is in omega arith)

few_drop : (ss : List Span) (k : ℕ) → AreFew ss → AreFew (drop k ss)
few_drop ss zero h = h
few_drop [] (suc k) h = tt
few_drop (x ∷ ss) (suc k) h = few_drop ss k h.1

few_earlier : (ss : List Span) (less : ℕ) → AreFew ss → AreFew (map (earlier less) ss)
few_earlier [] less h = tt
few_earlier (x ∷ ss) less h = (h.0, few_earlier ss less h.1)

pub few_dropped : (ss ss' : List Span) (k less : ℕ) → AreFew ss → ss' ≡ map (earlier less) (drop k ss) → AreFew ss'
few_dropped ss ss' k less h is = subst AreFew (sym is) (few_earlier (drop k ss) less (few_drop ss k h))
