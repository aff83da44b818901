-- What the marks and the log say of one another, which each event keeps.
use Rattle.std.proofs.Common.{◌≡◌, ◌⊎◌, ℕ, ◌+◌, ◌<◌, ◌≤◌, true, false, List, [], ◌∷◌, length, Option, Some, None, sym, refl, ap, ap₂, ◌∙◌, inl, inr, ⊎_elim, subst, arith}
use Rattle.std.specs.Prelude.{◌==◌, slice_get, slice_set, unwrap_or}
use Rattle.std.proofs.lemmas.Bool.{false≢true, or_cases, eqb-true}
use mathlib.Core.Logic.{dite}
use native.Mathlib.Decide.{ℕ_discrete}
use Rattle.operations.specs.Names.{among}
use Rattle.system.specs.declared.events.Event.{Event}
use Rattle.system.specs.declared.answers.Answer.{Answer}
use Rattle.system.specs.Threads.{Thread}
use Rattle.system.specs.Operations.{Requests, Opened, Mark, is_marked, pending, greatest}
use Rattle.system.specs.Log.{Entry, names_given, operations_given}
use Rattle.system.specs.World.{found}
use Rattle.system.specs.Ran.{name_in}
use Rattle.system.proofs.Seats.{Each, each_some, each_none, get_set_same, get_set_other}
use Rattle.system.proofs.ThreeNumbers.{waits}
use Rattle.tie.specs.PollRow.{word_of, armed_at, uncleared_at, cleared_at}
use Rattle.tie.proofs.PollLog.{IsElsewhere, IsSilent, elsewhere, armed_rests, uncleared_rests, cleared_rests, names_rest, name_rests}

-- What waits for the thread at a place; nothing at a vacant one.
abbrev pub pending_at : Requests → Option Thread → List ℕ
pending_at requests None = []
pending_at requests (Some t) = pending requests t.name

-- The word is the greatest number that waits.
pub word_is : (requests : Requests) (o : Option Thread) → word_of requests o ≡ unwrap_or (greatest (pending_at requests o)) 0
word_is requests None = refl
word_is requests (Some t) = refl

pub same_word : (a b : Requests) (o u : Option Thread) → pending_at a o ≡ pending_at b u → word_of a o ≡ word_of b u
same_word a b o u h = word_is a o ∙ (ap (λ ns. unwrap_or (greatest ns) 0) h ∙ sym (word_is b u))

-- Nothing is uncleared; or what was told last is, and all others that are were told before.
abbrev pub IsLast : List ℕ → ℕ → ℕ → Type 0
IsLast uncleared armed cleared = ((uncleared ≡ []) × (cleared ≡ armed))
    ⊎ ((rest : List ℕ) × (uncleared ≡ armed ∷ rest) × ((m : ℕ) → among m rest ≡ true → m < armed) × (cleared < armed))

pub last_same : {us vs : List ℕ} {a b c d : ℕ} → us ≡ vs → a ≡ b → c ≡ d → IsLast vs b d → IsLast us a c
last_same e f g (inl h) = inl (e ∙ h.0, g ∙ (h.1 ∙ sym f))
last_same e f g (inr h) = let less = h.3 in inr (h.0, e ∙ (h.1 ∙ ap (λ n. n ∷ h.0) (sym f)), (λ m is. let low = h.2 m is in omega (arith, low, f)), omega arith)

-- Nothing above what was told last is uncleared.
pub none_later : {us : List ℕ} {a c : ℕ} → IsLast us a c → (m : ℕ) → among m us ≡ true → m ≤ a
none_later (inl h) m is = absurd (false≢true (subst (λ ns. among m ns ≡ true) h.0 is))
none_later {us} {a} {c} (inr h) m is = ⊎_elim (λ (same : (a == m) ≡ true). (let e = eqb-true a m same in omega (arith, e)))
    (λ (more : among m h.0 ≡ true). (let low = h.2 m more in omega (arith, low)))
    (or_cases (a == m) (among m h.0) (subst (λ ns. among m ns ≡ true) h.1 is))

-- What was told last at the place of the name is before each open operation that has the name as live and is new to it.
abbrev pub IsAhead : Requests → ℕ → ℕ → Type 0
IsAhead requests armed name = (i : ℕ) (o : Opened) → slice_get requests.opened i ≡ Some o → among name o.live ≡ true → is_marked requests.told o.number name ≡ false → armed < o.number

pub record IsRow (places : List (Option Thread)) (requests : Requests) (log : List Entry) : Type 0 where
  -- What was told was opened.
  pub few : (p : ℕ) → armed_at p requests.told log + length requests.waiting ≤ operations_given log
  -- By the marks there waits what is uncleared by the log.
  pub waiting : (p : ℕ) → pending_at requests (found (slice_get places p)) ≡ uncleared_at p requests.told requests.cleared log
  pub last : (p : ℕ) → IsLast (uncleared_at p requests.told requests.cleared log) (armed_at p requests.told log) (cleared_at p requests.told requests.cleared log)
  pub ahead : Each (λ p t. IsAhead requests (armed_at p requests.told log) t.name) places
  -- No two places had the same thread.
  pub names : (p : ℕ) → name_in p log ≤ names_given log
  pub apart : (p q : ℕ) → 0 < name_in p log → name_in p log ≡ name_in q log → p ≡ q

-- What waits at each place stays where the thread at one changes and keeps its name.
pub seated_waits : (places : List (Option Thread)) (p : ℕ) (t u : Thread) → slice_get places p ≡ Some (Some t) → p < length places → u.name ≡ t.name → (requests : Requests) (q : ℕ)
    → pending_at requests (found (slice_get (slice_set places p (Some u)) q)) ≡ pending_at requests (found (slice_get places q))
seated_waits places p t u there low same requests q = dite (ℕ_discrete q p)
    (λ e. subst (λ n. pending_at requests (found (slice_get (slice_set places p (Some u)) n)) ≡ pending_at requests (found (slice_get places n))) (sym e)
    (ap (λ o. pending_at requests (found o)) (get_set_same places p (Some u) low) ∙ (ap (λ n. pending requests n) same ∙ sym (ap (λ o. pending_at requests (found o)) there))))
    (λ ne. ap (λ o. pending_at requests (found o)) (get_set_other places p q (Some u) ne))

pub left_waits : (places : List (Option Thread)) (p : ℕ) (o : Option Thread) → p < length places → (requests : Requests) → pending_at requests o ≡ pending_at requests (found (slice_get places p)) → (q : ℕ)
    → pending_at requests (found (slice_get (slice_set places p o) q)) ≡ pending_at requests (found (slice_get places q))
left_waits places p o low requests same q = dite (ℕ_discrete q p)
    (λ e. subst (λ n. pending_at requests (found (slice_get (slice_set places p o) n)) ≡ pending_at requests (found (slice_get places n))) (sym e)
    (ap (λ x. pending_at requests (found x)) (get_set_same places p o low) ∙ same))
    (λ ne. ap (λ x. pending_at requests (found x)) (get_set_other places p q o ne))

pub seated_row : (places : List (Option Thread)) (requests : Requests) (log : List Entry) (p : ℕ) (t u : Thread) → slice_get places p ≡ Some (Some t) → p < length places → u.name ≡ t.name
    → IsRow places requests log → IsRow (slice_set places p (Some u)) requests log
seated_row places requests log p t u there low same h = record {
  few = h.few;
  waiting = λ q. seated_waits places p t u there low same requests q ∙ h.waiting q;
  last = h.last;
  ahead = each_some (λ q v. IsAhead requests (armed_at q requests.told log) v.name) places p u low h.ahead (subst (IsAhead requests (armed_at p requests.told log)) (sym same) (h.ahead p t there));
  names = h.names;
  apart = h.apart;
}

pub left_row : (places : List (Option Thread)) (requests : Requests) (log : List Entry) (p : ℕ) (t : Thread) → slice_get places p ≡ Some (Some t) → p < length places → pending requests t.name ≡ []
    → IsRow places requests log → IsRow (slice_set places p None) requests log
left_row places requests log p t there low none h = record {
  few = h.few;
  waiting = λ q. left_waits places p None low requests (sym none ∙ sym (ap (λ o. pending_at requests (found o)) there)) q ∙ h.waiting q;
  last = h.last;
  ahead = each_none (λ q v. IsAhead requests (armed_at q requests.told log) v.name) places p low h.ahead;
  names = h.names;
  apart = h.apart;
}

-- Requests with the same marks.
pub pending_same : (a b : Requests) → a.told ≡ b.told → a.cleared ≡ b.cleared → (o : Option Thread) → pending_at a o ≡ pending_at b o
pending_same a b told cleared None = refl
pending_same a b told cleared (Some t) = ap₂ (λ (cs ms : List Mark). waits cs t.name ms) cleared told

pub asked_row : (places : List (Option Thread)) (a b : Requests) (log : List Entry) → b.told ≡ a.told → b.cleared ≡ a.cleared → ((p : ℕ) → armed_at p b.told log + length b.waiting ≤ operations_given log)
    → Each (λ p t. IsAhead b (armed_at p b.told log) t.name) places → IsRow places a log → IsRow places b log
asked_row places a b log told cleared few ahead h =
    let armed : (p : ℕ) → armed_at p b.told log ≡ armed_at p a.told log = λ p. ap (λ ms. armed_at p ms log) told in
    let uncleared : (p : ℕ) → uncleared_at p b.told b.cleared log ≡ uncleared_at p a.told a.cleared log = λ p. ap₂ (λ ms ns. uncleared_at p ms ns log) told cleared in
    let cleared_is : (p : ℕ) → cleared_at p b.told b.cleared log ≡ cleared_at p a.told a.cleared log = λ p. ap₂ (λ ms ns. cleared_at p ms ns log) told cleared in
    record {
      few = few;
      waiting = λ p. pending_same b a told cleared (found (slice_get places p)) ∙ (h.waiting p ∙ sym (uncleared p));
      last = λ p. last_same (uncleared p) (armed p) (cleared_is p) (h.last p);
      ahead = ahead;
      names = h.names;
      apart = h.apart;
    }

-- Each open operation was open before, with the same number and the same live names.
abbrev pub WasOpen : List Opened → List Opened → Type 0
WasOpen before now = (i : ℕ) (o : Opened) → slice_get now i ≡ Some o → (j : ℕ) × (x : Opened) × (slice_get before j ≡ Some x) × (x.number ≡ o.number) × (x.live ≡ o.live)

pub ahead_still : (a b : Requests) (armed name : ℕ) → b.told ≡ a.told → WasOpen a.opened b.opened → IsAhead a armed name → IsAhead b armed name
ahead_still a b armed name told opened h = λ i o is live new. (let was = opened i o is in
    subst (λ n. armed < n) was.3 (h was.0 was.1 was.2 (subst (λ ns. among name ns ≡ true) (sym was.4) live)
    (subst (λ n. is_marked a.told n name ≡ false) (sym was.3) (subst (λ ms. is_marked ms o.number name ≡ false) told new))))

-- A silent entry more.
pub log_row : (places : List (Option Thread)) (requests : Requests) (log : List Entry) (e : Event) (a : Answer) → IsSilent e a → ((p : ℕ) → armed_at p requests.told log + length requests.waiting ≤ operations_given (record { event = e; answer = a } ∷ log))
    → IsRow places requests log → IsRow places requests (record { event = e; answer = a } ∷ log)
log_row places requests log e a s few h =
    let entry : Entry = record { event = e; answer = a } in
    let at : (p : ℕ) → IsElsewhere p (record { event = e; answer = a }) log requests requests = λ p. elsewhere p e a log requests s in
    let armed : (p : ℕ) → armed_at p requests.told (entry ∷ log) ≡ armed_at p requests.told log = λ p. armed_rests p entry log requests requests (at p) in
    let uncleared : (p : ℕ) → uncleared_at p requests.told requests.cleared (entry ∷ log) ≡ uncleared_at p requests.told requests.cleared log = λ p. uncleared_rests p entry log requests requests (at p) in
    let cleared : (p : ℕ) → cleared_at p requests.told requests.cleared (entry ∷ log) ≡ cleared_at p requests.told requests.cleared log = λ p. cleared_rests p entry log requests requests (at p) in
    let name : (p : ℕ) → name_in p (entry ∷ log) ≡ name_in p log = λ p. name_rests p e a log s in
    record {
      few = λ p. subst (λ n. n + length requests.waiting ≤ operations_given (entry ∷ log)) (sym (armed p)) (few p);
      waiting = λ p. h.waiting p ∙ sym (uncleared p);
      last = λ p. last_same (uncleared p) (armed p) (cleared p) (h.last p);
      ahead = λ p t there. subst (λ n. IsAhead requests n t.name) (sym (armed p)) (h.ahead p t there);
      names = λ p. subst (λ n. n ≤ names_given (entry ∷ log)) (sym (name p)) (subst (λ n. name_in p log ≤ n) (sym (names_rest e a log s)) (h.names p));
      apart = λ p q some same. h.apart p q (subst (λ n. 0 < n) (name p) some) (sym (name p) ∙ (same ∙ name q));
    }
