-- The order of log entries is a comparison of moments. Each law holds for every log.
use Rattle.std.proofs.Common.{◌≡◌, ℕ, ◌+◌, ◌≤◌, Bool, true, false, cond, List, [], ◌∷◌, sym, refl, ap, ◌∙◌, subst, arith}
use Rattle.std.specs.Prelude.{not, ◌||◌, ◌&&◌, nat_lt}
use Rattle.std.specs.List.{count_by}
use Rattle.std.proofs.lemmas.Bool.{false≢true, and_right, or_parts, lt-ltb, le-ltb}
use Rattle.system.specs.declared.events.Act.{Act}
use Rattle.system.specs.declared.events.Event.{Event}
use Rattle.system.specs.declared.events.Event.TheVariants as event
use Rattle.system.specs.Log.{Entry, is_invalidate, is_round, is_begin, is_end, has_started, in_order, moment, is_published_since}
use Rattle.system.specs.Moments.{invalidated, left_at}
use Rattle.system.proofs.Frames.{count_cons}

-- The moments of the last Begin at the place after the thread's Start, and of its last ended publication, or 0.
abbrev pub begun_at : ℕ → ℕ → List Entry → ℕ
begun_at place name [] = 0
begun_at place name (entry ∷ log) = cond (is_begin place entry.event && has_started log name) (moment log) (begun_at place name log)

abbrev pub ended_at : ℕ → ℕ → List Entry → ℕ
ended_at place name [] = 0
ended_at place name (entry ∷ log) = cond (is_end place entry.event) (begun_at place name log) (ended_at place name log)

-- A thread without a Start has no such moments.
pub unstarted_begun : (place name : ℕ) (log : List Entry) → has_started log name ≡ false → begun_at place name log ≡ 0
unstarted_begun place name [] h = refl
unstarted_begun place name (entry ∷ log) h = let parts = or_parts _ (has_started log name) h in let rest = parts.1 in let b = and_right (is_begin place entry.event) (has_started log name) rest in
    rw b (unstarted_begun place name log rest)

pub unstarted_ended : (place name : ℕ) (log : List Entry) → has_started log name ≡ false → ended_at place name log ≡ 0
unstarted_ended place name [] h = refl
unstarted_ended place name (entry ∷ log) h = let parts = or_parts _ (has_started log name) h in by (is_end place entry.event) (unstarted_begun place name log parts.1) (unstarted_ended place name log parts.1)
  where
    by : (b : Bool) → begun_at place name log ≡ 0 → ended_at place name log ≡ 0 → cond b (begun_at place name log) (ended_at place name log) ≡ 0
    by true x y = x
    by false x y = y

-- No entry is of two kinds.
pub not_round : (s : ℕ) (e : Event) → is_invalidate s e ≡ true → is_round e ≡ false
not_round s (event.Invalidate r) h = refl
not_round s event.Round h = absurd (false≢true h)
not_round s e h = absurd (false≢true h)

pub not_at : (s p : ℕ) (a : Act) (e : Event) → e ≡ event.At p a → is_invalidate s e ≡ false
not_at s p a e h = ap (is_invalidate s) h

pub not_begin : (s p : ℕ) (e : Event) → is_invalidate s e ≡ true → is_begin p e ≡ false
not_begin s p (event.Invalidate r) h = refl
not_begin s p (event.At q a) h = absurd (false≢true h)
not_begin s p e h = absurd (false≢true h)

pub not_end : (s p : ℕ) (e : Event) → is_invalidate s e ≡ true → is_end p e ≡ false
not_end s p (event.Invalidate r) h = refl
not_end s p (event.At q a) h = absurd (false≢true h)
not_end s p e h = absurd (false≢true h)

-- A round begins a new moment.
pub moment_step : (e : Entry) (log : List Entry) → moment (e ∷ log) ≡ cond (is_round e.event) (1 + moment log) (moment log)
moment_step e log = let c = count_cons (λ (x : Entry). is_round x.event) e log in by (is_round e.event) c
  where
    by : (b : Bool) → count_by (λ (x : Entry). is_round x.event) (e ∷ log) ≡ cond b 1 0 + count_by (λ (x : Entry). is_round x.event) log → moment (e ∷ log) ≡ cond b (1 + moment log) (moment log)
    by true c = omega arith
    by false c = omega arith

-- Moments rise.
left_step : (i j r : Bool) (n l : ℕ) → l ≤ n → cond (i && not j) n l ≤ cond r (1 + n) n
left_step true true true n l h = omega arith
left_step true true false n l h = omega arith
left_step true false true n l h = omega arith
left_step true false false n l h = omega arith
left_step false j true n l h = omega arith
left_step false j false n l h = omega arith

pub left_by : (s : ℕ) (log : List Entry) → left_at s log ≤ moment log
left_by s [] = omega arith
left_by s (e ∷ log) = subst (λ m. left_at s (e ∷ log) ≤ m) (sym (moment_step e log)) (left_step (is_invalidate s e.event) (invalidated s log) (is_round e.event) (moment log) (left_at s log) (left_by s log))

begun_step : (b r : Bool) (n g : ℕ) → g ≤ n → cond b n g ≤ cond r (1 + n) n
begun_step true true n g h = omega arith
begun_step true false n g h = omega arith
begun_step false true n g h = omega arith
begun_step false false n g h = omega arith

pub begun_by : (p name : ℕ) (log : List Entry) → begun_at p name log ≤ moment log
begun_by p name [] = omega arith
begun_by p name (e ∷ log) = subst (λ m. begun_at p name (e ∷ log) ≤ m) (sym (moment_step e log)) (begun_step (is_begin p e.event && has_started log name) (is_round e.event) (moment log) (begun_at p name log) (begun_by p name log))

ended_step : (f r : Bool) (n g d : ℕ) → g ≤ n → d ≤ n → cond f g d ≤ cond r (1 + n) n
ended_step true true n g d h k = omega arith
ended_step true false n g d h k = omega arith
ended_step false true n g d h k = omega arith
ended_step false false n g d h k = omega arith

pub ended_by : (p name : ℕ) (log : List Entry) → ended_at p name log ≤ moment log
ended_by p name [] = omega arith
ended_by p name (e ∷ log) = subst (λ m. ended_at p name (e ∷ log) ≤ m) (sym (moment_step e log))
    (ended_step (is_end p e.event) (is_round e.event) (moment log) (begun_at p name log) (ended_at p name log) (begun_by p name log) (ended_by p name log))

-- The tests of the order, the last first.
abbrev pub Test : Type 0
Test = Event → List Entry → Bool

abbrev ends_there : ℕ → Test
ends_there p = λ e before. is_end p e

abbrev begins_there : ℕ → ℕ → Test
begins_there p name = λ e before. is_begin p e && has_started before name

abbrev rounds_there : Test
rounds_there = λ e before. is_round e

abbrev leaves_there : ℕ → Test
leaves_there s = λ e before. is_invalidate s e

abbrev from_left : ℕ → List Test
from_left s = leaves_there s ∷ []

abbrev from_round : ℕ → List Test
from_round s = rounds_there ∷ from_left s

abbrev pub from_begin : ℕ → ℕ → ℕ → List Test
from_begin s p name = begins_there p name ∷ from_round s

abbrev from_end : ℕ → ℕ → ℕ → List Test
from_end s p name = ends_there p ∷ from_begin s p name

one_step : (test : Test) (tests : List Test) (e : Entry) (log : List Entry) → in_order (test ∷ tests) (e ∷ log) ≡ cond (test e.event log) (in_order tests log) (in_order (test ∷ tests) log)
one_step test tests e log = by (test e.event log)
  where
    by : (b : Bool) → elim b [ true ↦ in_order tests log | false ↦ in_order (test ∷ tests) log ] ≡ cond b (in_order tests log) (in_order (test ∷ tests) log)
    by true = refl
    by false = refl

left_is : (s : ℕ) (log : List Entry) → in_order (from_left s) log ≡ invalidated s log
left_is s [] = refl
left_is s (e ∷ log) = one_step (leaves_there s) [] e log ∙ by (is_invalidate s e.event) (left_is s log)
  where
    by : (i : Bool) → in_order (from_left s) log ≡ invalidated s log → cond i true (in_order (from_left s) log) ≡ (i || invalidated s log)
    by true h = refl
    by false h = h

round_step : (i j r a : Bool) (n l : ℕ) → (i ≡ true → r ≡ false) → l ≤ n → a ≡ (j && nat_lt l n) → cond r j a ≡ ((i || j) && nat_lt (cond (i && not j) n l) (cond r (1 + n) n))
round_step true j true a n l x h k = absurd (false≢true (sym (x refl)))
round_step true true false a n l x h k = k
round_step true false false a n l x h k = k ∙ sym (le-ltb n n (omega arith))
round_step false true true a n l x h k = sym (lt-ltb l (1 + n) (omega arith))
round_step false false true a n l x h k = refl
round_step false true false a n l x h k = k
round_step false false false a n l x h k = k

round_is : (s : ℕ) (log : List Entry) → in_order (from_round s) log ≡ (invalidated s log && nat_lt (left_at s log) (moment log))
round_is s [] = refl
round_is s (e ∷ log) = one_step rounds_there (from_left s) e log
    ∙ (ap (λ x. cond (is_round e.event) x (in_order (from_round s) log)) (left_is s log)
    ∙ (round_step (is_invalidate s e.event) (invalidated s log) (is_round e.event) (in_order (from_round s) log) (moment log) (left_at s log) (not_round s e.event) (left_by s log) (round_is s log)
    ∙ ap (λ m. invalidated s (e ∷ log) && nat_lt (left_at s (e ∷ log)) m) (sym (moment_step e log))))

begin_step : (i j b a ba : Bool) (n l g : ℕ) → (i ≡ true → b ≡ false) → g ≤ n → a ≡ (j && nat_lt l n) → ba ≡ (j && nat_lt l g) → cond b a ba ≡ ((i || j) && nat_lt (cond (i && not j) n l) (cond b n g))
begin_step true j true a ba n l g x h k m = absurd (false≢true (sym (x refl)))
begin_step true true false a ba n l g x h k m = m
begin_step true false false a ba n l g x h k m = m ∙ sym (le-ltb n g h)
begin_step false true true a ba n l g x h k m = k
begin_step false false true a ba n l g x h k m = k
begin_step false true false a ba n l g x h k m = m
begin_step false false false a ba n l g x h k m = m

begin_no : (s p name : ℕ) (e : Entry) (log : List Entry) → is_invalidate s e.event ≡ true → (is_begin p e.event && has_started log name) ≡ false
begin_no s p name e log h = let b = not_begin s p e.event h in rw b refl

begin_is : (s p name : ℕ) (log : List Entry) → in_order (from_begin s p name) log ≡ (invalidated s log && nat_lt (left_at s log) (begun_at p name log))
begin_is s p name [] = refl
begin_is s p name (e ∷ log) = one_step (begins_there p name) (from_round s) e log
    ∙ begin_step (is_invalidate s e.event) (invalidated s log) (is_begin p e.event && has_started log name) (in_order (from_round s) log) (in_order (from_begin s p name) log) (moment log) (left_at s log) (begun_at p name log)
    (begin_no s p name e log) (begun_by p name log) (round_is s log) (begin_is s p name log)

end_step : (i j f ba ea : Bool) (n l g d : ℕ) → (i ≡ true → f ≡ false) → d ≤ n → ba ≡ (j && nat_lt l g) → ea ≡ (j && nat_lt l d) → cond f ba ea ≡ ((i || j) && nat_lt (cond (i && not j) n l) (cond f g d))
end_step true j true ba ea n l g d x h k m = absurd (false≢true (sym (x refl)))
end_step true true false ba ea n l g d x h k m = m
end_step true false false ba ea n l g d x h k m = m ∙ sym (le-ltb n d h)
end_step false true true ba ea n l g d x h k m = k
end_step false false true ba ea n l g d x h k m = k
end_step false true false ba ea n l g d x h k m = m
end_step false false false ba ea n l g d x h k m = m

-- An Invalidate, a Round, a Begin and an End come in this order if and only if the ended publication's moment is above
-- the invalidation's.
pub end_is : (s p name : ℕ) (log : List Entry) → is_published_since log s p name ≡ (invalidated s log && nat_lt (left_at s log) (ended_at p name log))
end_is s p name [] = refl
end_is s p name (e ∷ log) = one_step (ends_there p) (from_begin s p name) e log
    ∙ end_step (is_invalidate s e.event) (invalidated s log) (is_end p e.event) (in_order (from_begin s p name) log) (is_published_since log s p name) (moment log) (left_at s log) (begun_at p name log) (ended_at p name log)
    (not_end s p e.event) (ended_by p name log) (begin_is s p name log) (end_is s p name log)

-- The order after an entry, by whether the entry is an End at the place.
pub since_step : (s p name : ℕ) (e : Entry) (log : List Entry) → is_published_since (e ∷ log) s p name ≡ cond (is_end p e.event) (in_order (from_begin s p name) log) (is_published_since log s p name)
since_step s p name e log = one_step (ends_there p) (from_begin s p name) e log

-- Nothing is published since the invalidation of a code that wasn't invalidated.
pub not_since : (s p name : ℕ) (log : List Entry) → invalidated s log ≡ false → is_published_since log s p name ≡ false
not_since s p name log h = end_is s p name log ∙ (rw h refl)
