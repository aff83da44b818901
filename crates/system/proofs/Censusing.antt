-- A census: its refusals, its answer from the index, and the system after it.
use Rattle.std.proofs.Common.{◌≡◌, ◌≢◌, ◌∙◌, ◌+◌, ◌<◌, ◌≤◌, sym, ap, ap₂, refl, subst, ℕ, zero, suc, Bool, true, false, not, ◌&&◌, ◌==◌, eqb, cond, List, [], ◌∷◌, Option, Some, None, length, map, arith}
use Rattle.std.specs.Prelude.{slice_get, sum_by, filter, is_none, IsTrue, ◌↔◌}
use Rattle.std.specs.List.{list_all, cons_option}
use Rattle.std.proofs.lemmas.List.Sums.{sum_by-cons}
use Rattle.std.proofs.lemmas.List.Sorted.{sum_by-IsPermutation}
use Rattle.std.proofs.lemmas.Bool.Decides.{nat_tests}
use Rattle.frames.specs.declared.CodeId.{CodeId}
use Rattle.frames.specs.ImageView.{ImageView, IsSettled, next_code}
use Rattle.frames.proofs.Uncounted.{none_next}
use Rattle.method_table.specs.declared.Code.{Code}
use Rattle.method_table.specs.declared.CodeState.{CodeState}
use Rattle.method_table.specs.declared.CodeState.TheVariants.{InUse, NotEntrant, Zombie, Freed}
use Rattle.method_table.specs.Codes.{code_of, id_of, takes_slot}
use Rattle.activation_index.specs.declared.Entry.{Entry}
use Rattle.activation_index.specs.Counts.{count_in, IsRisingFrom}
use Rattle.activation_index.specs.Cells.{cell_of}
use Rattle.activation_index.specs.Cells.{counted as in_cells}
use Rattle.activation_index.specs.Pairs.{of_serial, IsRisingPairs}
use Rattle.operations.specs.Requests.{is_census}
use Rattle.system.specs.declared.events.Event.TheVariants as event
use Rattle.system.specs.declared.answers.Answer.{Answer}
use Rattle.system.specs.declared.answers.Answer.TheVariants as answer
use Rattle.system.specs.declared.answers.CodeCount.{CodeCount}
use Rattle.system.specs.declared.answers.Refusal.{Refusal}
use Rattle.system.specs.declared.answers.Refusal.TheVariants.{NothingOpen, NotOf, AlreadyDone, NotAllHeld, Publishing, Unpublished}
use Rattle.system.specs.declared.requests.Open.{Open}
use Rattle.system.specs.declared.thread.Thread.{Thread as Kept}
use Rattle.system.specs.declared.keeping.Core.{Core}
use Rattle.system.specs.Verdict.{Verdict, refused, accepted, unless◌refuse◌then◌}
use Rattle.system.specs.Operations.{Opened}
use Rattle.system.specs.Log.{Entry as Logged}
use Rattle.system.specs.Threads.{Thread, is_publishing, is_settled}
use Rattle.system.specs.World.{World, found, thread_at, threads, walk, frames_of, census}
use Rattle.system.specs.Places.{in_open}
use Rattle.system.specs.Step.{outcome, operate, operated_if}
use Rattle.system.specs.Facts.{IsSound, may_stand}
use Rattle.system.specs.Memory.{Accepts}
use Rattle.system.specs.Runs.{answer_to}
use Rattle.system.specs.Safepoints.{is_accepted}
use Rattle.system.specs.Marking.{SameThread}
use Rattle.system.specs.Kept.Censuses.{holds_at, is_held_kept, is_quiet_kept, is_settled_kept, operate_refusal, operated, named, IsCensus}
use Rattle.system.specs.Marking.{SameOpened, SameOpens}
use Rattle.system.specs.Stands.{Matches, SamePlace, DoesIn, Does, kept_at, walk_of, waiting_of}
use Rattle.system.proofs.Outcomes.{asked, with_operated}
use Rattle.system.proofs.Lists.{all_at, find_place}
use Rattle.system.proofs.Logs.{operations_next}
use Rattle.system.proofs.CodeEvents.{accepted_in, refused_does}
use Rattle.system.proofs.SoundMarks.{threads_has, live_has}
use Rattle.system.proofs.Seats.{there_of}
use Rattle.system.proofs.Table.{code_serial}
use Rattle.system.proofs.Images.{is_settled_by, counted_none}
use Rattle.system.proofs.Safely.{index_is}
use Rattle.system.proofs.Requesting.{Rerequests, IsOfRequests, asked_live, sizes_stay, among_names, names_stay}
use Rattle.system.proofs.ThreeNumbers.{operated_own}
use Rattle.system.proofs.Pairs.{Oldest, oldest_of, none_open}
use Rattle.system.proofs.CodeEvents.{unstood}

none_of : (o : Option CodeId) → is_none o ≡ true → o ≡ None
none_of None h = refl
none_of (Some code) h = cc

-- The test of an image.
pub settled_test : (image : ImageView) (b : Bool) → (IsTrue b ↔ IsSettled image) → b ≡ not image.publishing && is_none (next_code image)
settled_test image true iff = let s : IsSettled image = iff.0 refl in rw (s.0, counted_none image s.1) refl
settled_test image false iff = by image.publishing (is_none (next_code image)) refl refl
  where
    by : (p n : Bool) → image.publishing ≡ p → is_none (next_code image) ≡ n → false ≡ not p && n
    by true n e f = refl
    by false false e f = refl
    by false true e f = let bad : IsTrue false = iff.1 (e, none_next image (none_of (next_code image) f)) in cc

-- A test of all the world's threads gives the same for the system's threads.
abbrev Agree : (Kept → Bool) → (Thread → Bool) → Option Kept → Option Thread → Type 0
Agree f g None None = Unit {0}
Agree f g (Some kept) (Some t) = f kept ≡ g t
Agree f g None (Some t) = ⊥
Agree f g (Some kept) None = ⊥

all_same : (f : Kept → Bool) (g : Thread → Bool) (ks : List (Option Kept)) (ts : List (Option Thread)) → length ks ≡ length ts → ((p : ℕ) → Agree f g (kept_at ks p) (found (slice_get ts p))) → list_all g (threads ts) ≡ list_all (holds_at f) ks
all_same f g [] [] e h = refl
all_same f g [] (t ∷ ts) e h = absurd (omega arith)
all_same f g (k ∷ ks) [] e h = absurd (omega arith)
all_same f g (None ∷ ks) (None ∷ ts) e h = all_same f g ks ts (omega arith) (λ p. h (suc p))
all_same f g (None ∷ ks) (Some t ∷ ts) e h = absurd (h 0)
all_same f g (Some k ∷ ks) (None ∷ ts) e h = absurd (h 0)
all_same f g (Some k ∷ ks) (Some t ∷ ts) e h = ap₂ (λ a b. a && b) (sym (h 0)) (all_same f g ks ts (omega arith) (λ p. h (suc p)))

agree : (f : Kept → Bool) (g : Thread → Bool) (w : World) (p : ℕ) (k : Option Kept) (t : Option Thread) → ((kept : Kept) (u : Thread) → SameThread kept u → f kept ≡ g u) → SamePlace w p k t → Agree f g k t
agree f g w p None None h same = tt
agree f g w p (Some kept) (Some t) h same = h kept t same.thread
agree f g w p None (Some t) h same = absurd same
agree f g w p (Some kept) None h same = absurd same

all_threads_same : (f : Kept → Bool) (g : Thread → Bool) (s : Core) (w : World) → Matches s w → ((kept : Kept) (u : Thread) → SameThread kept u → f kept ≡ g u) → list_all g (threads w.places) ≡ list_all (holds_at f) s.places.items
all_threads_same f g s w m h = all_same f g s.places.items w.places m.places.lengths (λ p. agree f g w p (kept_at s.places.items p) (thread_at w p) h (m.places.each p))

held_same : (s : Core) (w : World) → Matches s w → list_all (λ (t : Thread). t.held) (threads w.places) ≡ list_all (holds_at is_held_kept) s.places.items
held_same s w m = all_threads_same is_held_kept (λ t. t.held) s w m (λ kept u same. same.held)

quiet_same : (s : Core) (w : World) → Matches s w → list_all (λ (t : Thread). not (is_publishing t)) (threads w.places) ≡ list_all (holds_at is_quiet_kept) s.places.items
quiet_same s w m = all_threads_same is_quiet_kept (λ t. not (is_publishing t)) s w m (λ kept u same. ap not same.image.publishing)

settled_same : (s : Core) (w : World) → Matches s w → list_all is_settled (threads w.places) ≡ list_all (holds_at is_settled_kept) s.places.items
settled_same s w m = all_threads_same is_settled_kept is_settled s w m (λ kept u same. sym (is_settled_by kept.image u same.image))

-- The tests in their order.
abbrev tests : World → Opened → Bool → Bool → Bool → Bool → Bool → Verdict World
tests w o a b c d e =
    unless a refuse NotOf then
    unless not b refuse AlreadyDone then
    unless c refuse NotAllHeld then
    unless d refuse Publishing then
    unless e refuse Unpublished then
    accepted (record w { requests = with_operated w o }) (answer.Census (census w))

abbrev first : Bool → Bool → Bool → Bool → Bool → Option Refusal
first a b c d e = cond (not a) (Some NotOf) (cond b (Some AlreadyDone) (cond (not c) (Some NotAllHeld) (cond (not d) (Some Publishing) (cond (not e) (Some Unpublished) None))))

tests_refused : (w : World) (o : Opened) (a b c d e : Bool) (r : Refusal) → first a b c d e ≡ Some r → tests w o a b c d e ≡ refused r
tests_refused w o false b c d e r h = cc
tests_refused w o true true c d e r h = cc
tests_refused w o true false false d e r h = cc
tests_refused w o true false true false e r h = cc
tests_refused w o true false true true false r h = cc
tests_refused w o true false true true true r h = cc

-- an accepted census passed all tests
record Passed (w : World) (o : Opened) (a b c d e : Bool) : Type 0 where
  is : tests w o a b c d e ≡ accepted (record w { requests = with_operated w o }) (answer.Census (census w))
  asked : a ≡ true
  settled : e ≡ true

passed : (w : World) (o : Opened) (a b c d e : Bool) → first a b c d e ≡ None → Passed w o a b c d e
passed w o false b c d e h = cc
passed w o true true c d e h = cc
passed w o true false false d e h = cc
passed w o true false true false e h = cc
passed w o true false true true false h = cc
passed w o true false true true true h = record { is = refl; asked = refl; settled = refl }

-- The tests of the world give the same in the system.
module _ (s : Core) (w : World) (m : Matches s w) (open_ : Open) (k : Oldest open_ s.requests.opens w.requests.opened w) where
  outcome_is : outcome w event.Operate ≡ tests w k.o (is_census open_.request) open_.operated (list_all (holds_at is_held_kept) s.places.items) (list_all (holds_at is_quiet_kept) s.places.items) (list_all (holds_at is_settled_kept) s.places.items)
  outcome_is =
      let one : outcome w event.Operate ≡ operate w k.o = ap (λ os. in_open os (operate w)) k.is in
      let request : is_census k.o.request ≡ is_census open_.request = ap is_census (sym k.same.request) in
      let done : k.o.operated ≡ open_.operated = sym k.same.operated in
      let held = held_same s w m in
      let quiet = quiet_same s w m in
      let settled = settled_same s w m in
      one ∙ (λ i. tests w k.o (request i) (done i) (held i) (quiet i) (settled i))

refused_by : (s : Core) (w : World) (opens : List Open) (r : Refusal) → Matches s w → s.requests.opens ≡ opens → operate_refusal opens s.places.items ≡ Some r → outcome w event.Operate ≡ refused r
refused_by s w [] r m is h =
    let none = none_open s.requests.opens w.requests.opened w m.opened is in
    let r_is : NothingOpen ≡ r = cc in
    ap (λ os. in_open os (operate w)) none ∙ ap refused r_is
refused_by s w (open_ ∷ later) r m is h =
    let k = oldest_of s.requests.opens w.requests.opened w open_ m.opened (ap (λ opens. slice_get opens 0) is) in
    outcome_is s w m open_ k ∙ tests_refused w k.o (is_census open_.request) open_.operated (list_all (holds_at is_held_kept) s.places.items) (list_all (holds_at is_quiet_kept) s.places.items) (list_all (holds_at is_settled_kept) s.places.items) r h

pub operate_refused : (s : Core) (r : Refusal) → operate_refusal s.requests.opens s.places.items ≡ Some r → Does event.Operate s (answer.Refused r) s
operate_refused s r h = refused_does s event.Operate r (λ w m. refused_by s w s.requests.opens r m refl h)

-- Entries as a census returns them.
abbrev census_of : List Entry → List CodeCount
census_of es = map (λ entry. record { serial = entry.serial; count = entry.count }) es

own : (e : Entry) (es : List Entry) (least : ℕ) → IsRisingFrom least (e ∷ es) → 0 < count_in (e ∷ es) e.serial
own e es least r = let self : eqb e.serial e.serial ≡ true = grind (arith, nat_tests) in rw self r.1

below_none : (es : List Entry) (least q : ℕ) → IsRisingFrom least es → q < least → count_in es q ≡ 0
below_none [] least q r low = refl
below_none (e ∷ es) least q r low =
    let other : eqb e.serial q ≡ false = (let x = r.0 in grind (arith, nat_tests)) in
    rw other (below_none es (e.serial + 1) q r.2 (let x = r.0 in omega arith))

-- Rising entries without zeros, with the counts of the codes, are the codes' counts without zeros.
abbrev count_of : (Code → ℕ) → Option Code → ℕ
count_of g None = 0
count_of g (Some code) = g code

abbrev counted : (Code → ℕ) → Code → CodeCount
counted g code = record { serial = code.serial; count = g code }

abbrev counts_of : (Code → ℕ) → List Code → List CodeCount
counts_of g codes = filter (λ (c : CodeCount). not (c.count == 0)) (map (counted g) codes)

-- serials rise by one from n
abbrev AreFrom : ℕ → List Code → Type 0
AreFrom n [] = Unit {0}
AreFrom n (code ∷ codes) = (code.serial ≡ n) × AreFrom (n + 1) codes

are_from : (n : ℕ) (codes : List Code) → ((i : ℕ) (code : Code) → slice_get codes i ≡ Some code → code.serial ≡ i + n) → AreFrom n codes
are_from n [] h = tt
are_from n (code ∷ codes) h = (let first = h 0 code refl in omega (arith, first), are_from (n + 1) codes (λ i other e. (let x = h (suc i) other e in omega (arith, x))))

not_counted : (g : Code → ℕ) (code : Code) (codes : List Code) → g code ≡ 0 → counts_of g (code ∷ codes) ≡ counts_of g codes
not_counted g code codes none = let e : eqb (g code) 0 ≡ true = grind (arith, nat_tests) in rw e refl

is_counted : (g : Code → ℕ) (code : Code) (codes : List Code) → 0 < g code → counts_of g (code ∷ codes) ≡ counted g code ∷ counts_of g codes
is_counted g code codes some = let e : eqb (g code) 0 ≡ false = grind (arith, nat_tests) in rw e refl

code_later : (code : Code) (codes : List Code) (n q : ℕ) → code.serial ≡ n → n + 1 ≤ q → code_of (code ∷ codes) q ≡ code_of codes q
code_later code codes n q is later = let e : eqb code.serial q ≡ false = grind (arith, nat_tests) in rw e refl

code_now : (code : Code) (codes : List Code) (n : ℕ) → code.serial ≡ n → code_of (code ∷ codes) n ≡ Some code
code_now code codes n is = let e : eqb code.serial n ≡ true = grind (arith, nat_tests) in rw e refl

count_later : (e : Entry) (es : List Entry) (n q : ℕ) → e.serial ≡ n → n + 1 ≤ q → count_in (e ∷ es) q ≡ count_in es q
count_later e es n q is later = let x : eqb e.serial q ≡ false = grind (arith, nat_tests) in rw x refl

count_now : (e : Entry) (es : List Entry) (n : ℕ) → e.serial ≡ n → count_in (e ∷ es) n ≡ e.count
count_now e es n is = let x : eqb e.serial n ≡ true = grind (arith, nat_tests) in rw x refl

rising_later : (e : Entry) (es : List Entry) (n : ℕ) → IsRisingFrom n (e ∷ es) → e.serial ≢ n → IsRisingFrom (n + 1) (e ∷ es)
rising_later e es n r differ = (let low = r.0 in grind arith, r.1, r.2)

census_matches : (g : Code → ℕ) (codes : List Code) (n : ℕ) (es : List Entry) → AreFrom n codes → IsRisingFrom n es → ((q : ℕ) → n ≤ q → count_in es q ≡ count_of g (code_of codes q)) → census_of es ≡ counts_of g codes
census_matches g [] n [] f r h = refl
census_matches g [] n (e ∷ es) f r h = let none = h e.serial r.0 in let some = own e es n r in absurd (omega (arith, none, some))
census_matches g (code ∷ codes) n [] f r h =
    let zero : g code ≡ 0 = sym (h n (omega arith) ∙ ap (count_of g) (code_now code codes n f.0)) in
    census_matches g codes (n + 1) [] f.1 tt (λ q later. h q (omega (arith, later)) ∙ ap (count_of g) (code_later code codes n q f.0 later)) ∙ sym (not_counted g code codes zero)
census_matches g (code ∷ codes) n (e ∷ es) f r h = by (eqb e.serial n) refl
    (λ is rising. census_matches g codes (n + 1) es f.1 rising (λ q later. sym (count_later e es n q is later) ∙ (h q (omega (arith, later)) ∙ ap (count_of g) (code_later code codes n q f.0 later))))
    (λ rising. census_matches g codes (n + 1) (e ∷ es) f.1 rising (λ q later. h q (omega (arith, later)) ∙ ap (count_of g) (code_later code codes n q f.0 later)))
  where
    at_n : count_in (e ∷ es) n ≡ g code
    at_n = h n (omega arith) ∙ ap (count_of g) (code_now code codes n f.0)

    by : (b : Bool) → eqb e.serial n ≡ b → (e.serial ≡ n → IsRisingFrom (n + 1) es → census_of es ≡ counts_of g codes) → (IsRisingFrom (n + 1) (e ∷ es) → census_of (e ∷ es) ≡ counts_of g codes) → census_of (e ∷ es) ≡ counts_of g (code ∷ codes)
    by true t here there =
        let is : e.serial ≡ n = grind (arith, nat_tests) in
        let count_is : e.count ≡ g code = sym (count_now e es n is) ∙ at_n in
        let some : 0 < g code = (let p = r.1 in omega (arith, p, count_is)) in
        let serials : e.serial ≡ code.serial = is ∙ sym f.0 in
        let one : record { serial = e.serial; count = e.count } ≡ counted g code = (λ i. record { serial = serials i; count = count_is i }) in
        ap₂ (λ (x : CodeCount) xs. x ∷ xs) one (here is (subst (λ k. IsRisingFrom (k + 1) es) is r.2)) ∙ sym (is_counted g code codes some)
    by false t here there =
        let differ : e.serial ≢ n = λ is. (let x : eqb e.serial n ≡ true = grind (arith, nat_tests) in cc) in
        let other : count_in (e ∷ es) n ≡ count_in es n = rw t refl in
        let below : count_in es n ≡ 0 = below_none es (e.serial + 1) n r.2 (let low = r.0 in omega (arith, low)) in
        let zero : g code ≡ 0 = sym at_n ∙ (other ∙ below) in
        there (rising_later e es n r differ) ∙ sym (not_counted g code codes zero)

from_one : (es : List Entry) → IsRisingFrom 0 es → count_in es 0 ≡ 0 → IsRisingFrom 1 es
from_one [] r none = tt
from_one (e ∷ es) r none = rising_later e es 0 r (λ is. let now = count_now e es 0 is in let some = r.1 in absurd (omega (arith, now, some, none)))

-- The cells of a serial together count nothing, or as much as one of them.
abbrev share : ℕ → ℕ × ℕ → ℕ
share q pair = cond (eqb pair.0 q) pair.1 0

abbrev total : ℕ → List Entry → ℕ
total q cells = sum_by (share q) (in_cells cells)

abbrev one_or_none : ℕ → ℕ × ℕ → ℕ
one_or_none q pair = cond (eqb pair.0 q) 1 0

total-cons : (q : ℕ) (e : Entry) (es : List Entry) → total q (e ∷ es) ≡ cond (eqb e.serial q) e.count 0 + total q es
total-cons q e es = by (eqb e.count 0) refl
  where
    none : (b : Bool) → e.count ≡ 0 → total q es ≡ cond b e.count 0 + total q es
    none true zero_ = omega (arith, zero_)
    none false zero_ = omega arith

    by : (b : Bool) → eqb e.count 0 ≡ b → sum_by (share q) (cons_option (cond b None (Some (e.serial, e.count))) (in_cells es)) ≡ cond (eqb e.serial q) e.count 0 + total q es
    by true h = none (eqb e.serial q) (grind (arith, nat_tests))
    by false h = sum_by-cons (share q) (e.serial, e.count) (in_cells es)

few-cons : (q : ℕ) (e : Entry) (es : List Entry) → of_serial q (in_cells (e ∷ es)) ≡ cond (eqb e.count 0) 0 (cond (eqb e.serial q) 1 0) + of_serial q (in_cells es)
few-cons q e es = by (eqb e.count 0) refl
  where
    by : (b : Bool) → eqb e.count 0 ≡ b → of_serial q (cons_option (cond b None (Some (e.serial, e.count))) (in_cells es)) ≡ cond b 0 (cond (eqb e.serial q) 1 0) + of_serial q (in_cells es)
    by true h = omega arith
    by false h = sum_by-cons (one_or_none q) (e.serial, e.count) (in_cells es)

record Counting (q n : ℕ) (cells : List Entry) : Type 0 where
  sum_is : total q cells ≡ n
  few : of_serial q (in_cells cells) ≤ 1

abbrev IsQuiet : ℕ → Entry → Type 0
IsQuiet q cell = cell.serial ≡ q → cell.count ≡ 0

quiet_share : (q : ℕ) (e : Entry) → IsQuiet q e → (cond (eqb e.serial q) e.count 0 ≡ 0) × (cond (eqb e.count 0) 0 (cond {A = ℕ} (eqb e.serial q) 1 0) ≡ 0)
quiet_share q e h = by (eqb e.serial q) refl
  where
    nothing : (b : Bool) → cond {A = ℕ} b 0 0 ≡ 0
    nothing true = refl
    nothing false = refl

    by : (b : Bool) → eqb e.serial q ≡ b → (cond b e.count 0 ≡ 0) × (cond (eqb e.count 0) 0 (cond {A = ℕ} b 1 0) ≡ 0)
    by false k = (refl, nothing (eqb e.count 0))
    by true k =
        let none : e.count ≡ 0 = h (grind (arith, nat_tests)) in
        let is : eqb e.count 0 ≡ true = grind (arith, nat_tests) in (none, rw is refl)

all_quiet : (q : ℕ) (cells : List Entry) → ((i : ℕ) (cell : Entry) → slice_get cells i ≡ Some cell → IsQuiet q cell) → (total q cells ≡ 0) × (of_serial q (in_cells cells) ≡ 0)
all_quiet q [] h = (refl, refl)
all_quiet q (e ∷ es) h =
    let rest = all_quiet q es (λ i cell x. h (suc i) cell x) in
    let mine = quiet_share q e (h 0 e refl) in
    let a = total-cons q e es in let b = few-cons q e es in
    let r0 = rest.0 in let r1 = rest.1 in let m0 = mine.0 in let m1 = mine.1 in
    (omega (arith, a, r0, m0), omega (arith, b, r1, m1))

one_cell : (q i : ℕ) (cells : List Entry) (cell : Entry) → slice_get cells i ≡ Some cell → cell.serial ≡ q → ((j : ℕ) (other : Entry) → j ≢ i → slice_get cells j ≡ Some other → IsQuiet q other) → Counting q cell.count cells
one_cell q i [] cell x is h = cc
one_cell q zero (e ∷ es) cell x is h =
    let same : e ≡ cell = cc in
    let rest = all_quiet q es (λ i other y. h (suc i) other (λ z. omega (arith, z)) y) in
    let a = total-cons q e es in let b = few-cons q e es in
    let self : eqb e.serial q ≡ true = (let s : e.serial ≡ q = ap (λ (c : Entry). c.serial) same ∙ is in grind (arith, nat_tests)) in
    let r0 = rest.0 in let r1 = rest.1 in
    let a1 = rw self at a in let b1 = rw self at b in
    let count_is : e.count ≡ cell.count = ap (λ (c : Entry). c.count) same in
    record { sum_is = omega (arith, a1, r0, count_is); few = (let most = at_most (eqb e.count 0) in omega (arith, b1, r1, most)) }
  where
    at_most : (b : Bool) → cond {A = ℕ} b 0 1 ≤ 1
    at_most true = omega arith
    at_most false = omega arith
one_cell q (suc i) (e ∷ es) cell x is h =
    let rest = one_cell q i es cell x is (λ j other differ y. h (suc j) other (λ z. differ (omega (arith, z))) y) in
    let mine = quiet_share q e (h 0 e (λ z. omega (arith, z)) refl) in
    let a = total-cons q e es in let b = few-cons q e es in
    let m0 = mine.0 in let m1 = mine.1 in let r0 = rest.sum_is in let r1 = rest.few in
    record { sum_is = omega (arith, a, m0, r0); few = omega (arith, b, m1, r1) }

untaken : (state : CodeState) → takes_slot state ≡ false → may_stand state ≡ false
untaken InUse h = cc
untaken NotEntrant h = cc
untaken Zombie h = cc
untaken Freed h = refl

-- the cells of a serial together count as much as its code
serial_counts : (s : Core) (w : World) → Matches s w → IsSound w → (q : ℕ) → Counting q (walk_of w (code_of w.codes q)) s.index
serial_counts s w m sound q = by (code_of w.codes q) refl
  where
    zero_or : (n : ℕ) → (0 < n → ⊥) → n ≡ 0
    zero_or zero h = refl
    zero_or (suc n) h = absurd (h (omega arith))

    quiet : (total q s.index ≡ 0) × (of_serial q (in_cells s.index) ≡ 0) → (n : ℕ) → n ≡ 0 → Counting q n s.index
    quiet h n e = record { sum_is = h.0 ∙ sym e; few = (let z = h.1 in omega (arith, z)) }

    by : (o : Option Code) → code_of w.codes q ≡ o → Counting q (walk_of w o) s.index
    by None e = quiet (all_quiet q s.index (λ i cell x is. zero_or cell.count (λ some. (let o = m.index.own i cell x some in let bad : None ≡ Some o.0 = sym e ∙ (ap (code_of w.codes) (sym is) ∙ o.1) in cc)))) 0 refl
    by (Some k) e = by_state (takes_slot k.state) refl
      where
        by_state : (b : Bool) → takes_slot k.state ≡ b → Counting q (walk w (id_of k)) s.index
        by_state true t = one_cell q k.slot s.index (cell_of q (walk w (id_of k))) (m.index.here q k e t) refl
            (λ j other differ x is. zero_or other.count (λ some. (
            let o = m.index.own j other x some in
            let are : Some k ≡ Some o.0 = sym e ∙ (ap (code_of w.codes) (sym is) ∙ o.1) in
            let same : k ≡ o.0 = cc in
            differ (sym (ap (λ (c : Code). c.slot) same ∙ o.3)))))
        by_state false t = quiet (all_quiet q s.index (λ i cell x is. zero_or cell.count (λ some. (
            let o = m.index.own i cell x some in
            let are : Some k ≡ Some o.0 = sym e ∙ (ap (code_of w.codes) (sym is) ∙ o.1) in
            let same : k ≡ o.0 = cc in
            let bad : false ≡ true = sym t ∙ (ap (λ (c : Code). takes_slot c.state) same ∙ o.2) in cc)))) (walk w (id_of k)) (unstood w sound q k e (untaken k.state t))

-- The counts of pairs by serial are the sums of their entries.
abbrev entries : List (ℕ × ℕ) → List Entry
entries pairs = map (λ (pair : ℕ × ℕ). cell_of pair.0 pair.1) pairs

entries_named : (pairs : List (ℕ × ℕ)) → map named pairs ≡ census_of (entries pairs)
entries_named [] = refl
entries_named (pair ∷ pairs) = ap (λ cs. named pair ∷ cs) (entries_named pairs)

entries_rising : (least : ℕ) (pairs : List (ℕ × ℕ)) → IsRisingPairs least pairs → IsRisingFrom least (entries pairs)
entries_rising least [] r = tt
entries_rising least (pair ∷ pairs) r = (r.0, r.1, entries_rising (pair.0 + 1) pairs r.2)

none_below : (q least : ℕ) (pairs : List (ℕ × ℕ)) → IsRisingPairs least pairs → q < least → sum_by (share q) pairs ≡ 0
none_below q least [] r low = refl
none_below q least (pair ∷ pairs) r low =
    let r0 = r.0 in
    let other : eqb pair.0 q ≡ false = grind (arith, nat_tests) in
    let rest = none_below q (pair.0 + 1) pairs r.2 (omega (arith, r0, low)) in
    sum_by-cons (share q) pair pairs ∙ rw other (omega (arith, rest))

entries_count : (q least : ℕ) (pairs : List (ℕ × ℕ)) → IsRisingPairs least pairs → count_in (entries pairs) q ≡ sum_by (share q) pairs
entries_count q least [] r = refl
entries_count q least (pair ∷ pairs) r = by (entries_count q (pair.0 + 1) pairs r.2) (eqb pair.0 q) refl ∙ sym (sum_by-cons (share q) pair pairs)
  where
    by : count_in (entries pairs) q ≡ sum_by (share q) pairs → (b : Bool) → eqb pair.0 q ≡ b → cond b pair.1 (count_in (entries pairs) q) ≡ cond b pair.1 0 + sum_by (share q) pairs
    by rest true h =
        let same : pair.0 ≡ q = grind (arith, nat_tests) in
        let none = none_below q (pair.0 + 1) pairs r.2 (omega (arith, same)) in omega (arith, none)
    by rest false h = omega (arith, rest)

-- The index gives the census if all threads are settled.
census_is : (s : Core) (w : World) (counts : List CodeCount) → Matches s w → IsSound w → IsCensus s.index counts → list_all is_settled (threads w.places) ≡ true → counts ≡ census w
census_is s w counts m sound k settled =
    let rising : IsRisingPairs 0 k.pairs = k.rising (λ q. (serial_counts s w m sound q).few) in
    let es : List Entry = entries k.pairs in
    let is : (q : ℕ) → count_in es q ≡ walk_of w (code_of w.codes q) = λ q. entries_count q 0 k.pairs rising ∙ (sum_by-IsPermutation (share q) (in_cells s.index) k.pairs k.same ∙ (serial_counts s w m sound q).sum_is) in
    let ordered : IsRisingFrom 0 es = entries_rising 0 k.pairs rising in
    k.counts_are ∙ (entries_named k.pairs
    ∙ census_matches (λ code. frames_of w (id_of code)) w.codes 1 es (are_from 1 w.codes (λ i code e. sound.table.serial_is i code e)) (from_one es ordered (is 0 ∙ zero_free (code_of w.codes 0) refl)) (λ q low. is q ∙ same (code_of w.codes q)))
  where
    settled_at : (p : ℕ) (t : Thread) → slice_get w.places p ≡ Some (Some t) → is_settled t ≡ true
    settled_at p t x = let r = threads_has w.places p t x in all_at is_settled (threads w.places) r.0 t settled r.1

    same : (o : Option Code) → walk_of w o ≡ count_of (λ code. frames_of w (id_of code)) o
    same None = refl
    same (Some code) = index_is (id_of code) w.places settled_at

    zero_free : (o : Option Code) → code_of w.codes 0 ≡ o → walk_of w o ≡ 0
    zero_free None e = refl
    zero_free (Some code) e =
        let at = find_place (λ (c : Code). eqb c.serial 0) w.codes code e in
        let is = sound.table.serial_is at.0 code at.1 in
        let zero = code_serial w.codes 0 code e in
        absurd (omega (arith, is, zero))

of_operate : (a : Answer) → IsOfRequests event.Operate a
of_operate a = record { starts_none = refl; rounds_none = refl; invalidates_none = λ r. refl; looks_none = λ r place. refl; elsewhere = λ place. record { starts_not = refl; begins_not = refl; ends_not = refl } }

-- A census is open alone.
alone : (w : World) (o : Opened) (others : List Opened) → IsSound w → w.requests.opened ≡ o ∷ others → is_census o.request ≡ true → others ≡ []
alone w o [] sound is asks = refl
alone w o (x ∷ xs) sound is asks =
    let few = sound.numbers.census_alone 0 o (ap (λ os. slice_get os 0) is) asks in
    let long : length w.requests.opened ≡ suc (suc (length xs)) = ap (λ (os : List Opened). length os) is in
    absurd (omega (arith, few, long))

none_later : (opens : List Open) (w : World) → SameOpens opens [] w → opens ≡ []
none_later [] w h = refl
none_later (a ∷ opens) w h = absurd h

operated_one : (w : World) (o : Opened) → w.requests.opened ≡ o ∷ [] → map (operated_if o.number) w.requests.opened ≡ record o { operated = true } ∷ []
operated_one w o is = let self : eqb o.number o.number ≡ true = grind (arith, nat_tests) in ap (map (operated_if o.number)) is ∙ rw self refl

done_in : (s new : Core) (w : World) (opens : List Open) → Matches s w → IsSound w → Rerequests s new → new.requests ≡ record s.requests { opens = operated s.requests.opens } → (counts : List CodeCount) → IsCensus s.index counts → s.requests.opens ≡ opens → operate_refusal opens s.places.items ≡ None
    → DoesIn event.Operate (answer.Census counts) new w
done_in s new w [] m sound rest requests counts rising is h = cc
done_in s new w (open_ ∷ xs) m sound rest requests counts rising is h =
    let k = oldest_of s.requests.opens w.requests.opened w open_ m.opened (ap (λ opens. slice_get opens 0) is) in
    let a : Answer = answer.Census (census w) in
    let entry : Logged = record { event = event.Operate; answer = a } in
    let pass = passed w k.o (is_census open_.request) open_.operated (list_all (holds_at is_held_kept) s.places.items) (list_all (holds_at is_quiet_kept) s.places.items) (list_all (holds_at is_settled_kept) s.places.items) h in
    let asks : is_census k.o.request ≡ true = ap is_census (sym k.same.request) ∙ pass.asked in
    let settled : list_all is_settled (threads w.places) ≡ true = settled_same s w m ∙ pass.settled in
    let goes : outcome w event.Operate ≡ accepted (record w { requests = with_operated w k.o }) a = outcome_is s w m open_ k ∙ pass.is in
    let others : k.others ≡ [] = alone w k.o k.others sound k.is asks in
    let one : w.requests.opened ≡ k.o ∷ [] = k.is ∙ ap (λ os. k.o ∷ os) others in
    let later : k.later ≡ [] = none_later k.later w (subst (λ os. SameOpens k.later os w) others k.rest) in
    let opens_are : new.requests.opens ≡ record open_ { operated = true } ∷ [] = ap (λ r. r.opens) requests ∙ (ap operated k.opens_are ∙ ap (λ ys. record open_ { operated = true } ∷ ys) later) in
    let list_is = operated_one w k.o one in
    let v : World = asked w (with_operated w k.o) event.Operate a in
    let same : SameOpened (record open_ { operated = true }) (record k.o { operated = true }) v = record {
      number = k.same.number;
      request = k.same.request;
      operated = refl;
      names = (let n = names_stay w event.Operate a (of_operate a) in let low = k.same.names in omega (arith, n, low));
      live = k.same.live;
    } in
    subst (λ counts. DoesIn event.Operate (answer.Census counts) new w) (sym (census_is s w counts m sound rising settled))
    (accepted_in new w (record w { requests = with_operated w k.o }) event.Operate a goes (asked_live s new w (with_operated w k.o) event.Operate a m (record {
      rest = rest;
      entry = of_operate a;
      numbers = ap (λ r. r.numbers) requests ∙ (let n = operations_next entry w.log in let same = m.numbers in omega (arith, n, same));
      waiting = ap (λ r. map waiting_of r.waiting) requests ∙ m.waiting;
      opened = subst (λ os. SameOpens new.requests.opens os v) (sym list_is) (subst (λ ys. SameOpens ys (record k.o { operated = true } ∷ []) v) (sym opens_are) (same, tt));
      marks = λ x p u there h. operated_own w k.o u.name x one asks (among_names u.name (threads w.places) ∙ live_has w p u (there_of w p u there)) h;
    })))

pub operate_done : (s new : Core) (counts : List CodeCount) → Rerequests s new → new.requests ≡ record s.requests { opens = operated s.requests.opens } → IsCensus s.index counts → operate_refusal s.requests.opens s.places.items ≡ None
    → Does event.Operate s (answer.Census counts) new
operate_done s new counts rest requests rising h = record {
  each = λ w sound m. done_in s new w s.requests.opens m sound rest requests counts rising refl h;
  sizes = sizes_stay s new rest;
}

may_in : (s : Core) (w : World) (opens : List Open) → Matches s w → s.requests.opens ≡ opens → operate_refusal opens s.places.items ≡ None → is_accepted (answer_to w event.Operate) ≡ true
may_in s w [] m is h = cc
may_in s w (open_ ∷ xs) m is h =
    let k = oldest_of s.requests.opens w.requests.opened w open_ m.opened (ap (λ opens. slice_get opens 0) is) in
    let pass = passed w k.o (is_census open_.request) open_.operated (list_all (holds_at is_held_kept) s.places.items) (list_all (holds_at is_quiet_kept) s.places.items) (list_all (holds_at is_settled_kept) s.places.items) h in
    let goes : outcome w event.Operate ≡ accepted (record w { requests = with_operated w k.o }) (answer.Census (census w)) = outcome_is s w m open_ k ∙ pass.is in
    rw goes refl

pub may_operate : (s : Core) → operate_refusal s.requests.opens s.places.items ≡ None → Accepts s event.Operate
may_operate s h = λ w sound m. may_in s w s.requests.opens m refl h
