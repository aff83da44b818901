-- Ask and Open: their answers, and the system after them.
use Rattle.std.proofs.Common.{None, ◌≡◌, ◌∙◌, ◌+◌, ◌≤◌, sym, ap, refl, ℕ, Bool, true, false, ◌&&◌, ◌||◌, ◌==◌, eqb, cond, List, [], ◌∷◌, ◌++◌, Some, length, map, arith}
use Rattle.std.specs.Prelude.{filter, nat_lt, nat_le}
use Rattle.std.specs.List.{list_any}
use Rattle.std.proofs.lemmas.Bool.Decides.{nat_tests}
use Rattle.method_table.specs.Numbers.{last_number}
use Rattle.operations.specs.declared.Request.{Request}
use Rattle.operations.specs.declared.queue.Waiting.{Waiting as Queued}
use Rattle.operations.specs.declared.queue.QueueFault.{QueueFault}
use Rattle.operations.specs.declared.queue.QueueFault.TheVariants as fault
use Rattle.operations.specs.Queues.{MayWait, IsCause}
use Rattle.operations.specs.Names.{among, is_empty}
use Rattle.operations.specs.Requests.{is_census, is_target, kind_of}
use Rattle.system.specs.declared.events.Event.{Event}
use Rattle.system.specs.declared.events.Event.TheVariants as event
use Rattle.system.specs.declared.answers.Answer.{Answer}
use Rattle.system.specs.declared.answers.Answer.TheVariants as answer
use Rattle.system.specs.declared.answers.Refusal.{Refusal}
use Rattle.system.specs.declared.answers.Refusal.TheVariants as refusal
use Rattle.system.specs.declared.records.Record.{Record}
use Rattle.system.specs.declared.thread.Marks.{Marks}
use Rattle.system.specs.declared.keeping.Core.{Core}
use Rattle.system.specs.Verdict.{accepted}
use Rattle.system.specs.Operations.{Requests, Opened, is_safepoint}
use Rattle.system.specs.Log.{Entry, is_start, is_round, is_invalidate, is_look, says_clear, names_given, operations_given, moment}
use Rattle.system.specs.Threads.{Thread}
use Rattle.system.specs.World.{World, thread_at, threads, live_names, is_live}
use Rattle.system.specs.Step.{outcome, awaits_safepoint, may_open}
use Rattle.system.specs.Kept.Asking.{refusal_of}
use Rattle.system.specs.Kept.Censuses.{has_census}
use Rattle.system.specs.Kept.Opening.{is_census_next, may_open_now}
use Rattle.system.specs.Facts.{IsSound}
use Rattle.system.specs.Memory.{Accepts}
use Rattle.system.specs.Marking.{SameMarks, SameOpens}
use Rattle.system.specs.Stands.{Matches, SamePlaces, SameRecord, SameRecords, SameSizes, Does, waiting_of, kept_at}
use Rattle.system.proofs.Cells.{cells_stay}
use Rattle.system.proofs.Lists.{map_length}
use Rattle.system.proofs.Outcomes.{asked, with_request, newly_opened, with_opened, Opens}
use Rattle.system.proofs.CaseOfEvent.{opens_of}
use Rattle.system.proofs.ThreeNumbers.{fewer_own, opened_own}
use Rattle.system.proofs.Pairs.{empty_same, any_same, same_length, opens_push}
use Rattle.system.proofs.Logs.{IsElsewhere, names_next, operations_next, moment_next, left_next, looked_next, moments_next, place_over, opened_over}
use Rattle.system.proofs.CodeEvents.{accepted_in, answered_as, none_some, refused_does, same_some}
use Rattle.system.proofs.SoundMarks.{among_live}

-- A system with other requests.
pub record Rerequests (s t : Core) : Type 0 where
  pub table : t.table ≡ s.table
  pub places : t.places ≡ s.places
  pub records : t.records ≡ s.records
  pub index : t.index ≡ s.index
  pub names : t.names ≡ s.names
  pub moment_is : t.moment ≡ s.moment

-- A log entry of an event of operations.
pub record IsOfRequests (e : Event) (a : Answer) : Type 0 where
  pub starts_none : is_start e ≡ false
  pub rounds_none : is_round e ≡ false
  pub invalidates_none : (serial : ℕ) → is_invalidate serial e ≡ false
  pub looks_none : (serial place : ℕ) → is_look serial place e && says_clear a ≡ false
  pub elsewhere : (place : ℕ) → IsElsewhere place (record { event = e; answer = a })

-- The system after a change of requests.
pub record Asked (s t : Core) (w : World) (requests : Requests) (e : Event) (a : Answer) : Type 0 where
  pub rest : Rerequests s t
  pub entry : IsOfRequests e a
  pub numbers : t.requests.numbers ≡ operations_given (record { event = e; answer = a } ∷ w.log)
  pub waiting : map waiting_of t.requests.waiting ≡ requests.waiting
  pub opened : SameOpens t.requests.opens requests.opened (asked w requests e a)
  pub marks : (m : Marks) (name : ℕ) → SameMarks m w.requests name → SameMarks m requests name

records_over : (records : List Record) (w : World) (requests : Requests) (e : Event) (a : Answer) → IsOfRequests e a → SameRecords records w → SameRecords records (asked w requests e a)
records_over records w requests e a q same = record {
  lengths = same.lengths;
  each = λ serial code r found state at_slot. (
      let was : SameRecord r w code = same.each serial code r found state at_slot in
      record {
        left_is = was.left_is ∙ sym (left_next code.serial (record { event = e; answer = a }) w.log (q.invalidates_none code.serial));
        looked_is = λ place lt. was.looked_is place lt ∙ sym (looked_next code.serial place (record { event = e; answer = a }) w.log (q.looks_none code.serial place));
      });
}

pub names_stay : (w : World) (e : Event) (a : Answer) → IsOfRequests e a → names_given (record { event = e; answer = a } ∷ w.log) ≡ names_given w.log
names_stay w e a q = let n = names_next (record { event = e; answer = a }) w.log ∙ ap (λ b. cond {A = ℕ} b 1 0 + names_given w.log) q.starts_none in omega (arith, n)

-- An event may change only the marks of live threads.
pub record AskedLive (s t : Core) (w : World) (requests : Requests) (e : Event) (a : Answer) : Type 0 where
  pub rest : Rerequests s t
  pub entry : IsOfRequests e a
  pub numbers : t.requests.numbers ≡ operations_given (record { event = e; answer = a } ∷ w.log)
  pub waiting : map waiting_of t.requests.waiting ≡ requests.waiting
  pub opened : SameOpens t.requests.opens requests.opened (asked w requests e a)
  pub marks : (m : Marks) (place : ℕ) (u : Thread) → thread_at w place ≡ Some u → SameMarks m w.requests u.name → SameMarks m requests u.name

pub asked_live : (s t : Core) (w : World) (requests : Requests) (e : Event) (a : Answer) → Matches s w → AskedLive s t w requests e a → Matches t (asked w requests e a)
asked_live s t w requests e a m k =
    let entry : Entry = record { event = e; answer = a } in
    let v : World = asked w requests e a in
    let now : moment (entry ∷ w.log) ≡ moment w.log = (let n = moment_next entry w.log ∙ ap (λ b. cond {A = ℕ} b 1 0 + moment w.log) k.entry.rounds_none in omega (arith, n)) in
    let places : SamePlaces s.places.items v = record {
      lengths = m.places.lengths;
      each = λ place. place_over w v place (kept_at s.places.items place) (thread_at w place)
          (λ kept u there same. record { thread = same.thread; marks = k.marks kept.marks place u there same.marks; moments = moments_next place entry w.log kept.moments (k.entry.elsewhere place) same.moments }) (m.places.each place);
    } in
    record {
      slots = ap (λ tb. tb.slots) k.rest.table ∙ m.slots;
      methods = ap (λ tb. tb.methods) k.rest.table ∙ m.methods;
      codes = ap (λ tb. tb.codes) k.rest.table ∙ m.codes;
      places = rw k.rest.places places;
      records = rw k.rest.records (records_over s.records.items w requests e a k.entry m.records);
      names = k.rest.names ∙ (m.names ∙ sym (names_stay w e a k.entry));
      moment_is = k.rest.moment_is ∙ (m.moment_is ∙ sym now);
      numbers = k.numbers;
      waiting = k.waiting;
      opened = k.opened;
      index = rw k.rest.index (cells_stay s.index w v refl refl refl m.index);
    }

pub asked_matches : (s t : Core) (w : World) (requests : Requests) (e : Event) (a : Answer) → Matches s w → Asked s t w requests e a → Matches t (asked w requests e a)
asked_matches s t w requests e a m k = asked_live s t w requests e a m (record {
  rest = k.rest;
  entry = k.entry;
  numbers = k.numbers;
  waiting = k.waiting;
  opened = k.opened;
  marks = λ m place u there h. k.marks m u.name h;
})

pub sizes_stay : (s t : Core) → Rerequests s t → SameSizes s t
sizes_stay s t k = record { places = ap (λ v. length v.items) k.places; slots = ap (λ tb. tb.slots) k.table; methods = ap (λ tb. tb.methods) k.table }

-- Ask.
waiting_length : (s : Core) (w : World) → Matches s w → length w.requests.waiting ≡ length s.requests.waiting
waiting_length s w m = ap length (sym m.waiting) ∙ map_length waiting_of s.requests.waiting

room_in : (s : Core) (w : World) (b : Bool) → Matches s w → nat_lt s.requests.numbers last_number ≡ b → nat_lt (operations_given w.log) last_number ≡ b
room_in s w b m h = ap (λ n. nat_lt n last_number) (sym m.numbers) ∙ h

few_in : (s : Core) (w : World) (b : Bool) → Matches s w → nat_lt (length s.requests.waiting) 64 ≡ b → nat_lt (length w.requests.waiting) 64 ≡ b
few_in s w b m h = ap (λ n. nat_lt n 64) (waiting_length s w m) ∙ h

pub spent : (s : Core) (request : Request) → nat_lt s.requests.numbers last_number ≡ false → Does (event.Ask request) s (answer.Refused refusal.Spent) s
spent s request h = refused_does s (event.Ask request) refusal.Spent (λ w m. rw (room_in s w false m h) refl)

pub queue_full : (s : Core) (request : Request) → nat_lt s.requests.numbers last_number ≡ true → IsCause (length s.requests.waiting) request fault.QueueFull → Does (event.Ask request) s (answer.Refused refusal.QueueFull) s
queue_full s request room c = refused_does s (event.Ask request) refusal.QueueFull (λ w m. rw (room_in s w true m room, few_in s w false m c) refl)

pub no_targets : (s : Core) (request : Request) → nat_lt s.requests.numbers last_number ≡ true → IsCause (length s.requests.waiting) request fault.NoTargets → Does (event.Ask request) s (answer.Refused refusal.NoTargets) s
no_targets s request room c = refused_does s (event.Ask request) refusal.NoTargets (λ w m. rw (room_in s w true m room, few_in s w true m c.0, c.1) refl)

pub bad_targets : (s : Core) (request : Request) → nat_lt s.requests.numbers last_number ≡ true → IsCause (length s.requests.waiting) request fault.BadTargets → Does (event.Ask request) s (answer.Refused refusal.BadTargets) s
bad_targets s request room c = refused_does s (event.Ask request) refusal.BadTargets (λ w m. rw (room_in s w true m room, few_in s w true m c.0, c.1, c.2) refl)

map_push : {A B : Type 0} (f : A → B) (xs : List A) (y : A) → map f (xs ++ y ∷ []) ≡ map f xs ++ f y ∷ []
map_push f [] y = refl
map_push f (x ∷ xs) y = ap (λ ys. f x ∷ ys) (map_push f xs y)

of_ask : (request : Request) (n : ℕ) → IsOfRequests (event.Ask request) (answer.Asked n)
of_ask request n = record { starts_none = refl; rounds_none = refl; invalidates_none = λ r. refl; looks_none = λ r place. refl; elsewhere = λ place. record { starts_not = refl; begins_not = refl; ends_not = refl } }

ask_in : (s : Core) (w : World) (request : Request) → Matches s w → nat_lt s.requests.numbers last_number ≡ true → MayWait (length s.requests.waiting) request
    → outcome w (event.Ask request) ≡ accepted (record w { requests = with_request w request }) (answer.Asked (operations_given w.log + 1))
ask_in s w request m room may = rw (room_in s w true m room, few_in s w true m may.0, may.1, may.2) refl

pub asked_does : (s t : Core) (request : Request) → nat_lt s.requests.numbers last_number ≡ true → MayWait (length s.requests.waiting) request → Rerequests s t
    → t.requests.numbers ≡ s.requests.numbers + 1 → t.requests.waiting ≡ s.requests.waiting ++ record { number = s.requests.numbers + 1; request = request; load = tt } ∷ [] → t.requests.opens ≡ s.requests.opens
    → Does (event.Ask request) s (answer.Asked (s.requests.numbers + 1)) t
asked_does s t request room may rest numbers waiting open_is = record {
  each = λ w sound m. (
      let a : Answer = answer.Asked (operations_given w.log + 1) in
      let entry : Entry = record { event = event.Ask request; answer = a } in
      rw m.numbers (accepted_in t w (record w { requests = with_request w request }) (event.Ask request) a (ask_in s w request m room may)
      (asked_matches s t w (with_request w request) (event.Ask request) a m (record {
        rest = rest;
        entry = of_ask request (operations_given w.log + 1);
        numbers = numbers ∙ (let n = operations_next entry w.log in let same = m.numbers in omega (arith, n, same));
        waiting = ap (map waiting_of) waiting ∙ (map_push waiting_of s.requests.waiting (record { number = s.requests.numbers + 1; request = request; load = tt }) ∙ rw (m.waiting, m.numbers) refl);
        opened = rw open_is (opened_over s.requests.opens w.requests.opened w (asked w (with_request w request) (event.Ask request) a) (let n = names_stay w (event.Ask request) a (of_ask request (operations_given w.log + 1)) in omega (arith, n)) (λ name lives. lives) m.opened);
        marks = λ k name h. fewer_own w.requests (with_request w request).waiting w.requests.opened name k (λ i o at. (i, at)) h;
      }))));
  sizes = sizes_stay s t rest;
}

-- Open.
awaits_is : (queued : List (Queued (Unit {0}))) → awaits_safepoint (map waiting_of queued) ≡ is_census_next queued
awaits_is [] = refl
awaits_is (oldest ∷ others) = refl

-- The world may open the oldest request if and only if the system may.
may_open_is : (s : Core) (w : World) → Matches s w → may_open w.requests ≡ may_open_now s.requests.opens s.requests.waiting
may_open_is s w m =
    let few : length w.requests.opened ≡ length s.requests.opens = same_length w s.requests.opens w.requests.opened m.opened in
    let census : is_safepoint w.requests ≡ has_census s.requests.opens = any_same w (λ a. is_census a.request) (λ o. is_census o.request) (λ a o same. ap is_census (sym same.request)) s.requests.opens w.requests.opened m.opened in
    let waits : awaits_safepoint w.requests.waiting ≡ is_census_next s.requests.waiting = ap awaits_safepoint (sym m.waiting) ∙ awaits_is s.requests.waiting in
    let none : is_empty w.requests.opened ≡ is_empty s.requests.opens = empty_same w s.requests.opens w.requests.opened m.opened in
    rw (few, census, waits, none) refl

pub already_open : (s : Core) → may_open_now s.requests.opens s.requests.waiting ≡ false → Does event.Open s (answer.Refused refusal.AlreadyOpen) s
already_open s may = refused_does s event.Open refusal.AlreadyOpen (λ w m. (let is : may_open w.requests ≡ false = may_open_is s w m ∙ may in rw is refl))

pub queue_empty : (s : Core) → may_open_now s.requests.opens s.requests.waiting ≡ true → s.requests.waiting ≡ [] → Does event.Open s (answer.Refused refusal.QueueEmpty) s
queue_empty s may empty = refused_does s event.Open refusal.QueueEmpty (λ w m. (
    let may_is : may_open w.requests ≡ true = may_open_is s w m ∙ may in
    let empty_is : w.requests.waiting ≡ [] = sym m.waiting ∙ ap (map waiting_of) empty in
    rw may_is (rw empty_is refl)))

and_false : (a : Bool) → a && false ≡ false
and_false true = refl
and_false false = refl

-- A filtered list has the names of the list that pass.
among_filter : (test : ℕ → Bool) (name : ℕ) (names : List ℕ) → among name (filter test names) ≡ test name && among name names
among_filter test name [] = sym (and_false (test name))
among_filter test name (x ∷ xs) = by (test x) (eqb x name) refl refl (among_filter test name xs)
  where
    by : (b c : Bool) → test x ≡ b → eqb x name ≡ c → among name (filter test xs) ≡ test name && among name xs → among name (filter test (x ∷ xs)) ≡ test name && among name (x ∷ xs)
    by true true e f rest = (let same : x ≡ name = grind (arith, nat_tests) in let passes : test name ≡ true = ap test (sym same) ∙ e in rw (e, f, passes) refl)
    by true false e f rest = rw (e, f) rest
    by false true e f rest = (let same : x ≡ name = grind (arith, nat_tests) in let passes : test name ≡ false = ap test (sym same) ∙ e in rw (e, f, passes) (rest ∙ ap (λ b. b && among name xs) passes))
    by false false e f rest = rw (e, f) rest

pub among_names : (name : ℕ) (ts : List Thread) → among name (map (λ (t : Thread). t.name) ts) ≡ list_any (λ (t : Thread). t.name == name) ts
among_names name [] = refl
among_names name (t ∷ ts) = ap (λ b. (t.name == name) || b) (among_names name ts)

-- A live name was given out.
live_name_low : (w : World) (name : ℕ) → IsSound w → is_live w name ≡ true → name ≤ names_given w.log
live_name_low w name sound lives =
    let a = among_live w name (among_names name (threads w.places) ∙ lives) in
    let low = (sound.threads.each a.0 a.1 a.2).name_to in
    let same = a.3 in omega (arith, low, same)

of_open : (a : Answer) → IsOfRequests event.Open a
of_open a = record { starts_none = refl; rounds_none = refl; invalidates_none = λ r. refl; looks_none = λ r place. refl; elsewhere = λ place. record { starts_not = refl; begins_not = refl; ends_not = refl } }

and_both : (a b c : Bool) → b ≡ true → c ≡ true → a && b ≡ c && a
and_both a b c e f = rw (e, f) (and_true a)
  where
    and_true : (x : Bool) → x && true ≡ x
    and_true true = refl
    and_true false = refl

opened_live : (w : World) (request : Request) (names name : ℕ) → IsSound w → names ≡ names_given w.log → is_live w name ≡ true → among name (filter (is_target request) (live_names w)) ≡ (nat_le name names && is_target request name)
opened_live w request names name sound is lives =
    let low : name ≤ names_given w.log = live_name_low w name sound lives in
    let within : nat_le name names ≡ true = grind (arith, nat_tests) in
    among_filter (is_target request) name (live_names w) ∙ and_both (is_target request name) (among name (live_names w)) (nat_le name names) (among_names name (threads w.places) ∙ lives) within

pub opened_does : (s t : Core) (oldest : Queued (Unit {0})) (others : List (Queued (Unit {0}))) → may_open_now s.requests.opens s.requests.waiting ≡ true → s.requests.waiting ≡ oldest ∷ others → Rerequests s t
    → t.requests.numbers ≡ s.requests.numbers → t.requests.waiting ≡ others → t.requests.opens ≡ s.requests.opens ++ record { number = oldest.number; request = oldest.request; names = s.names; operated = false } ∷ []
    → Does event.Open s (answer.Opened oldest.number (kind_of oldest.request)) t
opened_does s t oldest others may is rest numbers waiting opens_are = record {
  each = λ w sound m. (
      let a : Answer = answer.Opened oldest.number (kind_of oldest.request) in
      let entry : Entry = record { event = event.Open; answer = a } in
      let o : Opened = newly_opened w (waiting_of oldest) in
      let requests : Requests = with_opened w (waiting_of oldest) (map waiting_of others) in
      let v : World = asked w requests event.Open a in
      let may_is : may_open w.requests ≡ true = may_open_is s w m ∙ may in
      let waits : w.requests.waiting ≡ waiting_of oldest ∷ map waiting_of others = sym m.waiting ∙ ap (map waiting_of) is in
      let said : outcome w event.Open ≡ accepted (record w { requests = requests }) a = rw may_is (rw waits refl) in
      let opens : Opens w (waiting_of oldest) (map waiting_of others) = opens_of w (waiting_of oldest) (map waiting_of others) may_is waits in
      let low : names_given w.log ≤ names_given v.log = (let n = names_stay w event.Open a (of_open a) in omega (arith, n)) in
      accepted_in t w (record w { requests = requests }) event.Open a said
      (asked_matches s t w requests event.Open a m (record {
        rest = rest;
        entry = of_open a;
        numbers = numbers ∙ (let n = operations_next entry w.log in let same = m.numbers in omega (arith, n, same));
        waiting = ap (map waiting_of) waiting;
        opened = rw opens_are (opens_push v s.requests.opens w.requests.opened _ o (opened_over s.requests.opens w.requests.opened w v low (λ name lives. lives) m.opened) (record {
          number = refl;
          request = refl;
          operated = refl;
          names = (let same = m.names in omega (arith, low, same));
          live = λ name lives. opened_live w oldest.request s.names name sound m.names lives;
        }));
        marks = λ k name h. opened_own w (waiting_of oldest) (map waiting_of others) name k sound opens h;
      })));
  sizes = sizes_stay s t rest;
}

-- A request that the queue refuses, and one that it accepts.
pub not_queued : (s : Core) (request : Request) (f : QueueFault) (r : Refusal) → nat_lt s.requests.numbers last_number ≡ true → IsCause (length s.requests.waiting) request f → refusal_of f ≡ Some r → Does (event.Ask request) s (answer.Refused r) s
not_queued s request fault.QueueFull r room cause is = answered_as s s (event.Ask request) (answer.Refused refusal.QueueFull) (answer.Refused r) (ap answer.Refused (same_some is)) (queue_full s request room cause)
not_queued s request fault.NoTargets r room cause is = answered_as s s (event.Ask request) (answer.Refused refusal.NoTargets) (answer.Refused r) (ap answer.Refused (same_some is)) (no_targets s request room cause)
not_queued s request fault.BadTargets r room cause is = answered_as s s (event.Ask request) (answer.Refused refusal.BadTargets) (answer.Refused r) (ap answer.Refused (same_some is)) (bad_targets s request room cause)
not_queued s request fault.NoMemory r room cause is = absurd (none_some is)

pub may_ask : (s : Core) (request : Request) → nat_lt s.requests.numbers last_number ≡ true → MayWait (length s.requests.waiting) request → Accepts s (event.Ask request)
may_ask s request room may = λ w sound m. rw (ask_in s w request m room may) refl

pub would_queue : (s : Core) (request : Request) (f : QueueFault) → nat_lt s.requests.numbers last_number ≡ true → IsCause (length s.requests.waiting) request f → refusal_of f ≡ None → Accepts s (event.Ask request)
would_queue s request fault.QueueFull room cause is = cc
would_queue s request fault.NoTargets room cause is = cc
would_queue s request fault.BadTargets room cause is = cc
would_queue s request fault.NoMemory room cause is = may_ask s request room cause
