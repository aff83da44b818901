-- The row and the marks agree in every world that events lead to, so the row meets the rule.
use Rattle.std.proofs.Common.{◌≡◌, ◌≢◌, ℕ, suc, ◌+◌, ◌<◌, ◌≤◌, Bool, true, false, cond, List, [], ◌∷◌, length, map, Some, None, sym, refl, ap, ◌∙◌, inl, inr, ⊎_elim, subst, arith}
use Rattle.std.specs.Prelude.{not, ◌==◌, slice_get, slice_set, filter}
use Rattle.std.proofs.lemmas.Bool.{false≢true, eq-eqb, ne_eqb}
use mathlib.Core.Logic.{dite}
use native.Mathlib.Decide.{ℕ_discrete}
use Rattle.operations.specs.declared.Request.{Request}
use Rattle.operations.specs.Requests.{kind_of, reply_to}
use Rattle.method_table.specs.Codes.{id_of, in_use_for, next_serial}
use Rattle.system.specs.declared.events.Act.{Act}
use Rattle.system.specs.declared.events.Act.TheVariants as act
use Rattle.system.specs.declared.events.Event.{Event}
use Rattle.system.specs.declared.events.Event.TheVariants as event
use Rattle.system.specs.declared.answers.Answer.{Answer}
use Rattle.system.specs.declared.answers.Answer.TheVariants as answer
use Rattle.system.specs.Threads.{Thread}
use Rattle.system.specs.Operations.{Requests, Waiting, Opened, Mark, is_marked, pending, poll_of}
use Rattle.operations.specs.Names.{among}
use Rattle.system.specs.Log.{Entry, names_given, operations_given}
use Rattle.system.specs.World.{World, thread_at, found, is_live, walk, census}
use Rattle.system.specs.Places.{popped, go_or_stop}
use Rattle.system.specs.Step.{new_thread, operated_if, code_or_none}
use Rattle.system.specs.Facts.{IsSound}
use Rattle.system.specs.Ran.{name_in}
use Rattle.system.proofs.Outcomes.{difference, Stands, begun, changed_by, ended, entered, moved, held, released, is_move, noted, seated, asked, with_done, with_cleared, with_told, with_request, newly_opened, with_opened, with_operated, without_opened, Starts, Tells, Clears, Opens, Exits}
use Rattle.system.proofs.EventCases.{Cases}
use Rattle.system.proofs.Seats.{each_some}
use Rattle.system.proofs.Lists.{map_at, push_at, push_length, filter_at}
use Rattle.system.proofs.Numbers.{operated_number, operated_live, asked_more}
use Rattle.system.proofs.SoundMarks.{live_has, marked_old}
use Rattle.system.proofs.Threads.{started_more}
use Rattle.tie.specs.PollRow.{armed_at, uncleared_at, cleared_at, cleared_before, clears, place_of}
use Rattle.tie.proofs.PollMarks.{waits_none, greatest_none}
use Rattle.tie.proofs.PollLog.{IsSilent, armed_rests, uncleared_rests, cleared_rests}
use Rattle.tie.proofs.PollKept.{pending_at, IsLast, last_same, IsAhead, IsRow, left_waits, seated_row, left_row, asked_row, WasOpen, ahead_still, log_row}
use Rattle.tie.proofs.PollTold.{LogTells, Told, told_is, told_entry, told_marks, told_armed, told_uncleared, told_cleared, told_last, told_after, told_waits, told_waits_other, Cleared, cleared_is, clear_entry, cleared_marks, Way, clears_last, clears_before, cleared_way, cleared_last, cleared_stays, cleared_waits, cleared_waits_other}

abbrev pub RowIn : World → Type 0
RowIn w = IsRow w.places w.requests w.log

-- A move clears nothing.
pub move_clears_not : (q p : ℕ) (a : Act) → is_move a ≡ true → clears q (event.At p a) ≡ false
move_clears_not q p act.Wake h = refl
move_clears_not q p act.Cross h = refl
move_clears_not q p act.Edge h = refl
move_clears_not q p act.ToVm h = refl
move_clears_not q p act.FromVm h = refl
move_clears_not q p act.ToNative h = refl
move_clears_not q p act.Block h = refl
move_clears_not q p act.Take h = refl
move_clears_not q p a h = absurd (false≢true h)

pub move_clears_none : (p : ℕ) (a : Act) → is_move a ≡ true → (marks : List Mark) → cleared_before (event.At p a) marks ≡ marks
move_clears_none p act.Wake h marks = refl
move_clears_none p act.Cross h marks = refl
move_clears_none p act.Edge h marks = refl
move_clears_none p act.ToVm h marks = refl
move_clears_none p act.FromVm h marks = refl
move_clears_none p act.ToNative h marks = refl
move_clears_none p act.Block h marks = refl
move_clears_none p act.Take h marks = refl
move_clears_none p a h marks = absurd (false≢true h)

-- The entries that tell and clear nothing: of an act of a thread other than Clear, and of an event that is no Start and no Tell.
pub act_silent : (p : ℕ) (a : Act) (given : Answer) → ((q : ℕ) → clears q (event.At p a) ≡ false) → ((marks : List Mark) → cleared_before (event.At p a) marks ≡ marks) → IsSilent (event.At p a) given
act_silent p a given not_clear none = record { tells_none = λ q log. refl; clears_none = not_clear; told_stays = λ marks. refl; cleared_stays = none; starts_none = refl; names_none = λ q n. refl }

pub move_silent : (p : ℕ) (a : Act) (given : Answer) → is_move a ≡ true → IsSilent (event.At p a) given
move_silent p a given is = act_silent p a given (λ q. move_clears_not q p a is) (move_clears_none p a is)

-- An act that leaves the thread's name.
seated_in : (w : World) (p : ℕ) (t u : Thread) (a : Act) (given : Answer) → IsSilent (event.At p a) given → Stands w p t → u.name ≡ t.name → RowIn w → RowIn (seated w p (Some u) (event.At p a) given)
seated_in w p t u a given silent s same h = log_row (slice_set w.places p (Some u)) w.requests w.log (event.At p a) given silent h.few (seated_row w.places w.requests w.log p t u s.there s.low same h)

exited_in : (w : World) (p : ℕ) (t : Thread) (given : Answer) → Exits w p t → RowIn w → RowIn (seated w p None (event.At p act.Exit) given)
exited_in w p t given i h = log_row (slice_set w.places p None) w.requests w.log (event.At p act.Exit) given (act_silent p act.Exit given (λ q. refl) (λ marks. refl)) h.few
    (left_row w.places w.requests w.log p t i.acts.stands.there i.acts.stands.low (greatest_none (pending w.requests t.name) i.nothing_told) h)

-- Requests that change without a mark of what was told or cleared, with the same numbers open.
remarked_in : (w : World) (requests : Requests) (e : Event) (given : Answer) → IsSilent e given → ((p : ℕ) → armed_at p requests.told w.log + length requests.waiting ≤ operations_given (record { event = e; answer = given } ∷ w.log))
    → requests.told ≡ w.requests.told → requests.cleared ≡ w.requests.cleared → WasOpen w.requests.opened requests.opened
    → ((p : ℕ) → armed_at p requests.told w.log + length requests.waiting ≤ operations_given w.log) → RowIn w → RowIn (asked w requests e given)
remarked_in w requests e given silent few told cleared opened few_now h = log_row w.places requests w.log e given silent few
    (asked_row w.places w.requests requests w.log told cleared few_now (λ p t there. subst (λ ms. IsAhead requests (armed_at p ms w.log) t.name) (sym told) (ahead_still w.requests requests (armed_at p w.requests.told w.log) t.name told opened (h.ahead p t there))) h)

-- A new thread, whose name is after all that were given.
started_in : (w : World) (p : ℕ) → IsSound w → Starts w p → RowIn w → RowIn (seated w p (Some (new_thread (names_given w.log + 1))) event.Start (answer.Thread (names_given w.log + 1) p))
started_in w p sound i h = record {
  few = h.few;
  waiting = λ q. left_waits w.places p (Some (new_thread (names_given w.log + 1))) i.low w.requests (none_told ∙ sym (ap (λ o. pending_at w.requests (found o)) i.vacant)) q ∙ h.waiting q;
  last = λ q. last_same refl refl (cleared_rests q entry w.log w.requests w.requests (record { tells_not = refl; clears_not = refl; told_is = refl; cleared_is = refl })) (h.last q);
  ahead = each_some (λ q v. IsAhead w.requests (armed_at q w.requests.told w.log) v.name) w.places p (new_thread (names_given w.log + 1)) i.low h.ahead
      (λ j o is live new. (let low = sound.marks.live_given j o (names_given w.log + 1) is live in absurd (omega arith)));
  names = λ q. (let more = started_more w p in low q (p == q) more);
  apart = λ q r some same. dite (ℕ_discrete p q)
      (λ e. dite (ℕ_discrete p r) (λ f. sym e ∙ f) (λ g. absurd (other r g (sym same ∙ here q e))))
      (λ f. dite (ℕ_discrete p r) (λ g. absurd (other q f (same ∙ here r g)))
      (λ g. h.apart q r (subst (λ n. 0 < n) (there q f) some) (sym (there q f) ∙ (same ∙ there r g))));
}
  where
    entry : Entry
    entry = record { event = event.Start; answer = answer.Thread (names_given w.log + 1) p }

    none_told : pending w.requests (names_given w.log + 1) ≡ []
    none_told = waits_none w.requests.cleared (names_given w.log + 1) w.requests.told (λ n marked. (let low = sound.marks.told_given n (names_given w.log + 1) marked in absurd (omega arith)))

    low : (q : ℕ) (b : Bool) → names_given w.log + 1 ≡ names_given (record { event = event.Start; answer = answer.Thread (names_given w.log + 1) p } ∷ w.log) → cond b (names_given w.log + 1) (name_in q w.log) ≤ names_given (record { event = event.Start; answer = answer.Thread (names_given w.log + 1) p } ∷ w.log)
    low q true more = omega arith
    low q false more = let old = h.names q in omega arith

    here : (q : ℕ) → p ≡ q → cond (p == q) (names_given w.log + 1) (name_in q w.log) ≡ names_given w.log + 1
    here q e = let b = eq-eqb p q e in rw b refl

    there : (q : ℕ) → p ≢ q → cond (p == q) (names_given w.log + 1) (name_in q w.log) ≡ name_in q w.log
    there q ne = let b = ne_eqb p q ne in rw b refl

    other : (q : ℕ) → p ≢ q → cond (p == q) (names_given w.log + 1) (name_in q w.log) ≢ names_given w.log + 1
    other q ne same = let old = h.names q in let is = there q ne in absurd (omega arith)

-- A request more.
asked_in : (w : World) (request : Request) → RowIn w → RowIn (asked w (with_request w request) (event.Ask request) (answer.Asked (operations_given w.log + 1)))
asked_in w request h = asked_row w.places w.requests (with_request w request) (record { event = event.Ask request; answer = answer.Asked (operations_given w.log + 1) } ∷ w.log) refl refl few now.ahead now
  where
    more : operations_given w.log + 1 ≡ operations_given (record { event = event.Ask request; answer = answer.Asked (operations_given w.log + 1) } ∷ w.log)
    more = asked_more w request

    now : IsRow w.places w.requests (record { event = event.Ask request; answer = answer.Asked (operations_given w.log + 1) } ∷ w.log)
    now = log_row w.places w.requests w.log (event.Ask request) (answer.Asked (operations_given w.log + 1)) (record { tells_none = λ p log. refl; clears_none = λ p. refl; told_stays = λ marks. refl; cleared_stays = λ marks. refl; starts_none = refl; names_none = λ p n. refl })
        (λ p. subst (λ n. armed_at p w.requests.told w.log + length w.requests.waiting ≤ n) more (let old = h.few p in omega arith)) h

    few : (p : ℕ) → armed_at p w.requests.told (record { event = event.Ask request; answer = answer.Asked (operations_given w.log + 1) } ∷ w.log) + length (with_request w request).waiting ≤ operations_given (record { event = event.Ask request; answer = answer.Asked (operations_given w.log + 1) } ∷ w.log)
    few p = subst (λ n. armed_at p w.requests.told w.log + length (with_request w request).waiting ≤ n) more
        (let old = h.few p in let longer = push_length w.requests.waiting (record { number = operations_given w.log + 1; request = request }) in omega arith)

-- An operation more.
opened_in : (w : World) (oldest : Waiting) (others : List Waiting) (given : Answer) → IsSound w → Opens w oldest others → RowIn w → RowIn (asked w (with_opened w oldest others) event.Open given)
opened_in w oldest others given sound i h = log_row w.places (with_opened w oldest others) w.log event.Open given (record { tells_none = λ p log. refl; clears_none = λ p. refl; told_stays = λ marks. refl; cleared_stays = λ marks. refl; starts_none = refl; names_none = λ p n. refl }) few
    (asked_row w.places w.requests (with_opened w oldest others) w.log refl refl few (λ p t there j o is live un. ⊎_elim
    (λ old. h.ahead p t there j o old live un)
    (λ new. (let low = later p in let same : oldest.number ≡ o.number = ap (λ (x : Opened). x.number) new.1 in omega (arith, low, same)))
    (push_at w.requests.opened (newly_opened w oldest) j o is)) h)
  where
    longer : length w.requests.waiting ≡ suc (length others)
    longer = ap (λ (ws : List Waiting). length ws) i.waiting_is

    few : (p : ℕ) → armed_at p w.requests.told w.log + length others ≤ operations_given w.log
    few p = let old = h.few p in let e = longer in omega arith

    later : (p : ℕ) → armed_at p w.requests.told w.log < oldest.number
    later p = let old = h.few p in let first = sound.numbers.waiting_is 0 oldest (subst (λ ws. slice_get ws 0 ≡ Some oldest) (sym i.waiting_is) refl) in omega arith

-- A Tell that is told: what is told is uncleared, and above all else that is.
told_in : (w : World) (name : ℕ) (opened : Opened) → IsSound w → LogTells w → Tells w name opened → RowIn w → RowIn (asked w (with_told w.requests opened name) (event.Tell name) answer.Told)
told_in w name opened sound ran i h = record {
  few = λ q. dite (ℕ_discrete q p)
      (λ e. subst (λ m. armed_at m told log + length w.requests.waiting ≤ operations_given w.log) (sym e)
      (subst (λ n. n + length w.requests.waiting ≤ operations_given w.log) (sym (told_armed w name p opened d)) (sound.numbers.opened_is i.open_is.position opened i.open_is.here).1))
      (λ ne. subst (λ n. n + length w.requests.waiting ≤ operations_given w.log) (sym (armed_rests q (told_entry name) w.log w.requests (with_told w.requests opened name) (d.others q ne))) (h.few q));
  waiting = λ q. dite (ℕ_discrete q p)
      (λ e. subst (λ m. pending_at (with_told w.requests opened name) (thread_at w m) ≡ uncleared_at m told w.requests.cleared log) (sym e)
      (told_waits w name p opened d ∙ (ap (λ ns. opened.number ∷ ns) (h.waiting p) ∙ sym (told_uncleared w name p opened d))))
      (λ ne. told_waits_other w name p opened sound d q ne ∙ (h.waiting q ∙ sym (uncleared_rests q (told_entry name) w.log w.requests (with_told w.requests opened name) (d.others q ne))));
  last = λ q. dite (ℕ_discrete q p)
      (λ e. subst (λ m. IsLast (uncleared_at m told w.requests.cleared log) (armed_at m told log) (cleared_at m told w.requests.cleared log)) (sym e)
      (last_same (told_uncleared w name p opened d) (told_armed w name p opened d) (told_cleared w name p opened d) (told_last w name p opened h d)))
      (λ ne. let x = d.others q ne in last_same (uncleared_rests q (told_entry name) w.log w.requests (with_told w.requests opened name) x) (armed_rests q (told_entry name) w.log w.requests (with_told w.requests opened name) x)
      (cleared_rests q (told_entry name) w.log w.requests (with_told w.requests opened name) x) (h.last q));
  ahead = λ q v there j o at live new. dite (ℕ_discrete q p)
      (λ e. subst (λ m. armed_at m told log < o.number) (sym e) (subst (λ n. n < o.number) (sym (told_armed w name p opened d)) (after v there e j o at live new)))
      (λ ne. subst (λ n. n < o.number) (sym (armed_rests q (told_entry name) w.log w.requests (with_told w.requests opened name) (d.others q ne))) (h.ahead q v there j o at live (new_before o v.name new)));
  names = h.names;
  apart = h.apart;
}
  where
    p : ℕ
    p = place_of w.places name

    log : List Entry
    log = told_entry name ∷ w.log

    told : List Mark
    told = told_marks w name opened

    d : Told w name (place_of w.places name) opened
    d = told_is w name opened sound ran h i

    new_before : (o : Opened) (other : ℕ) → is_marked (told_marks w name opened) o.number other ≡ false → is_marked w.requests.told o.number other ≡ false
    new_before o other new = by (is_marked w.requests.told o.number other) refl
      where
        by : (b : Bool) → is_marked w.requests.told o.number other ≡ b → b ≡ false
        by false e = refl
        by true e = absurd (false≢true (sym new ∙ marked_old w.requests.told opened.number name o.number other e))

    after : {q : ℕ} (v : Thread) → slice_get w.places q ≡ Some (Some v) → q ≡ place_of w.places name → (j : ℕ) (o : Opened) → slice_get w.requests.opened j ≡ Some o → among v.name o.live ≡ true → is_marked (told_marks w name opened) o.number v.name ≡ false → opened.number < o.number
    after {q} v there e j o at live new =
        let is : Some (Some d.stands.thread) ≡ Some (Some v) = sym d.stands.there ∙ subst (λ n. slice_get w.places n ≡ Some (Some v)) e there in
        let who : d.stands.thread ≡ v = cc in
        let named : v.name ≡ name = ap (λ (t : Thread). t.name) (sym who) ∙ d.stands.named in
        told_after w name opened sound i (subst (λ n. is_live w n ≡ true) named (live_has w q v there)) j o at (subst (λ n. among n o.live ≡ true) named live) (subst (λ n. is_marked (told_marks w name opened) o.number n ≡ false) named new)

-- A Clear: the number that it clears is uncleared no more.
cleared_in : (w : World) (p : ℕ) (t : Thread) (opened : Opened) → IsSound w → Clears w p t opened → RowIn w → RowIn (asked w (with_cleared w.requests opened t.name) (event.At p act.Clear) answer.Done)
cleared_in w p t opened sound i h = record {
  few = h.few;
  waiting = λ q. dite (ℕ_discrete q p)
      (λ e. subst (λ m. pending_at (with_cleared w.requests opened t.name) (thread_at w m) ≡ uncleared_at m w.requests.told (cleared_marks w t opened) (clear_entry p ∷ w.log)) (sym e) (cleared_waits w p t opened h d))
      (λ ne. cleared_waits_other w p t opened sound d q ne ∙ (h.waiting q ∙ sym (uncleared_rests q (clear_entry p) w.log w.requests (with_cleared w.requests opened t.name) (d.others q ne))));
  last = λ q. dite (ℕ_discrete q p)
      (λ e. subst (λ m. IsLast (uncleared_at m w.requests.told (cleared_marks w t opened) (clear_entry p ∷ w.log)) (armed_at m w.requests.told w.log) (cleared_at m w.requests.told (cleared_marks w t opened) (clear_entry p ∷ w.log))) (sym e) (left (cleared_way w p t opened d)))
      (λ ne. let x = d.others q ne in last_same (uncleared_rests q (clear_entry p) w.log w.requests (with_cleared w.requests opened t.name) x) refl (cleared_rests q (clear_entry p) w.log w.requests (with_cleared w.requests opened t.name) x) (h.last q));
  ahead = λ q v there. h.ahead q v there;
  names = h.names;
  apart = h.apart;
}
  where
    d : Cleared w p t opened
    d = cleared_is w p t opened sound h i

    left : Way w p t opened → IsLast (uncleared_at p w.requests.told (cleared_marks w t opened) (clear_entry p ∷ w.log)) (armed_at p w.requests.told w.log) (cleared_at p w.requests.told (cleared_marks w t opened) (clear_entry p ∷ w.log))
    left (clears_last is none) = inl (none, cleared_last w p t opened none)
    left (clears_before rest less some below) = inr (rest, some, below, subst (λ n. n < armed_at p w.requests.told w.log) (sym (cleared_stays w p (armed_at p w.requests.told w.log) rest t opened some)) d.less)

-- Every other event tells and clears nothing.
pub noted_in : (w : World) (e : Event) (given : Answer) → IsSilent e given → ((p : ℕ) → armed_at p w.requests.told w.log + length w.requests.waiting ≤ operations_given (record { event = e; answer = given } ∷ w.log)) → RowIn w → RowIn (noted w e given)
noted_in w e given silent few h = log_row w.places w.requests w.log e given silent few h

operated_open : (n : ℕ) (os : List Opened) → WasOpen os (map (operated_if n) os)
operated_open n os i o is = let m = map_at (operated_if n) os i o is in
    (i, m.before, m.at, sym (operated_number n m.before) ∙ ap (λ (x : Opened). x.number) m.is, sym (operated_live n m.before) ∙ ap (λ (x : Opened). x.live) m.is)

closed_open : (test : Opened → Bool) (os : List Opened) → WasOpen os (filter test os)
closed_open test os i o is = let m = filter_at test os i o is in (m.from, o, m.at, refl, refl)

pub row_kept : (w : World) → IsSound w → LogTells w → RowIn w → Cases w (λ e a v. RowIn v)
row_kept w sound ran h = record {
  refuses = λ e r. h;
  begins = λ p t i. seated_in w p t (begun t) act.Begin answer.Done (act_silent p act.Begin answer.Done (λ q. refl) (λ marks. refl)) i.stands refl h;
  changes = λ p t code i. seated_in w p t (changed_by t code) act.Change (difference t code) (act_silent p act.Change (difference t code) (λ q. refl) (λ marks. refl)) i.publishes.stands refl h;
  rests = λ p t i. seated_in w p t t act.Change answer.NoChange (act_silent p act.Change answer.NoChange (λ q. refl) (λ marks. refl)) i.publishes.stands refl h;
  ends = λ p t i. seated_in w p t (ended t) act.End answer.Done (act_silent p act.End answer.Done (λ q. refl) (λ marks. refl)) i.publishes.stands refl h;
  moves = λ p t a state given i. seated_in w p t (moved t state) a given (move_silent p a given i.is) i.acts.stands refl h;
  interprets = λ p t method i. seated_in w p t (entered t method None) (act.Enter method None) answer.Entered (act_silent p (act.Enter method None) answer.Entered (λ q. refl) (λ marks. refl)) i.acts.stands refl h;
  enters = λ p t method serial code i. seated_in w p t (entered t method (Some (id_of code))) (act.Enter method (Some serial)) answer.Entered (act_silent p (act.Enter method (Some serial)) answer.Entered (λ q. refl) (λ marks. refl)) i.calls.acts.stands refl h;
  misses = λ p t method serial code i. seated_in w p t t (act.Enter method (Some serial)) answer.WrongMethod (act_silent p (act.Enter method (Some serial)) answer.WrongMethod (λ q. refl) (λ marks. refl)) i.calls.acts.stands refl h;
  leaves = λ p t state i. seated_in w p t (moved (popped t) state) act.Leave (go_or_stop (poll_of w.requests t.name)) (act_silent p act.Leave (go_or_stop (poll_of w.requests t.name)) (λ q. refl) (λ marks. refl)) i.acts.stands refl h;
  exits = λ p t i. exited_in w p t (answer.Exited t.name) i h;
  finishes = λ p t opened i. remarked_in w (with_done w.requests opened t.name) (event.At p act.Finish) (answer.Reply (reply_to opened.request t.stack)) (act_silent p act.Finish (answer.Reply (reply_to opened.request t.stack)) (λ q. refl) (λ marks. refl)) h.few refl refl (λ j o is. (j, o, is, refl, refl)) h.few h;
  clears = λ p t opened i. cleared_in w p t opened sound i h;
  holds = λ p t opened i. seated_in w p t (held t) act.Hold answer.Done (act_silent p act.Hold answer.Done (λ q. refl) (λ marks. refl)) i.acts.stands refl h;
  releases = λ p t i. seated_in w p t (released t) act.Release answer.Done (act_silent p act.Release answer.Done (λ q. refl) (λ marks. refl)) i.acts.stands refl h;
  shows = λ p t i. seated_in w p t t act.Stack (answer.Frames t.stack) (act_silent p act.Stack (answer.Frames t.stack) (λ q. refl) (λ marks. refl)) i refl h;
  starts = λ p i. started_in w p sound i h;
  installs = λ method slot i. noted_in w (event.Install method) (answer.Code (next_serial w.codes)) (record { tells_none = λ p log. refl; clears_none = λ p. refl; told_stays = λ marks. refl; cleared_stays = λ marks. refl; starts_none = refl; names_none = λ p n. refl }) h.few h;
  invalidates = λ serial code i. noted_in w (event.Invalidate serial) answer.Done (record { tells_none = λ p log. refl; clears_none = λ p. refl; told_stays = λ marks. refl; cleared_stays = λ marks. refl; starts_none = refl; names_none = λ p n. refl }) h.few h;
  goes_round = λ i. noted_in w event.Round answer.Done (record { tells_none = λ p log. refl; clears_none = λ p. refl; told_stays = λ marks. refl; cleared_stays = λ marks. refl; starts_none = refl; names_none = λ p n. refl }) h.few h;
  looks_clear = λ serial p code i. noted_in w (event.Look serial p) answer.Clear (record { tells_none = λ p log. refl; clears_none = λ p. refl; told_stays = λ marks. refl; cleared_stays = λ marks. refl; starts_none = refl; names_none = λ p n. refl }) h.few h;
  looks_late = λ serial p code i. noted_in w (event.Look serial p) answer.Late (record { tells_none = λ p log. refl; clears_none = λ p. refl; told_stays = λ marks. refl; cleared_stays = λ marks. refl; starts_none = refl; names_none = λ p n. refl }) h.few h;
  finds_unlooked = λ serial code p i. noted_in w (event.Weigh serial) (answer.NotLooked p) (record { tells_none = λ p log. refl; clears_none = λ p. refl; told_stays = λ marks. refl; cleared_stays = λ marks. refl; starts_none = refl; names_none = λ p n. refl }) h.few h;
  finds_used = λ serial code i. noted_in w (event.Weigh serial) (answer.Used (walk w (id_of code))) (record { tells_none = λ p log. refl; clears_none = λ p. refl; told_stays = λ marks. refl; cleared_stays = λ marks. refl; starts_none = refl; names_none = λ p n. refl }) h.few h;
  retires = λ serial code i. noted_in w (event.Weigh serial) answer.Retired (record { tells_none = λ p log. refl; clears_none = λ p. refl; told_stays = λ marks. refl; cleared_stays = λ marks. refl; starts_none = refl; names_none = λ p n. refl }) h.few h;
  frees = λ serial code i. noted_in w (event.Free serial) answer.Done (record { tells_none = λ p log. refl; clears_none = λ p. refl; told_stays = λ marks. refl; cleared_stays = λ marks. refl; starts_none = refl; names_none = λ p n. refl }) h.few h;
  asks = λ request i. asked_in w request h;
  opens = λ oldest others i. opened_in w oldest others (answer.Opened oldest.number (kind_of oldest.request)) sound i h;
  tells = λ name opened i. told_in w name opened sound ran i h;
  finds_gone = λ name i. noted_in w (event.Tell name) answer.Gone (record { tells_none = λ p log. refl; clears_none = λ p. refl; told_stays = λ marks. refl; cleared_stays = λ marks. refl; starts_none = refl; names_none = λ p n. refl }) h.few h;
  operates = λ opened others i. remarked_in w (with_operated w opened) event.Operate (answer.Census (census w)) (record { tells_none = λ p log. refl; clears_none = λ p. refl; told_stays = λ marks. refl; cleared_stays = λ marks. refl; starts_none = refl; names_none = λ p n. refl }) h.few refl refl (operated_open opened.number w.requests.opened) h.few h;
  closes = λ number opened i. remarked_in w (without_opened w opened) (event.Close number) (answer.Closed opened.number) (record { tells_none = λ p log. refl; clears_none = λ p. refl; told_stays = λ marks. refl; cleared_stays = λ marks. refl; starts_none = refl; names_none = λ p n. refl }) h.few refl refl (closed_open (λ (o : Opened). not (o.number == opened.number)) w.requests.opened) h.few h;
  counts = λ serial code i. noted_in w (event.Count serial) (answer.Count (walk w (id_of code))) (record { tells_none = λ p log. refl; clears_none = λ p. refl; told_stays = λ marks. refl; cleared_stays = λ marks. refl; starts_none = refl; names_none = λ p n. refl }) h.few h;
  says_state = λ serial code i. noted_in w (event.CodeState serial) (answer.State code.state) (record { tells_none = λ p log. refl; clears_none = λ p. refl; told_stays = λ marks. refl; cleared_stays = λ marks. refl; starts_none = refl; names_none = λ p n. refl }) h.few h;
  resolves = λ method i. noted_in w (event.Resolve method) (code_or_none (in_use_for w.codes method)) (record { tells_none = λ p log. refl; clears_none = λ p. refl; told_stays = λ marks. refl; cleared_stays = λ marks. refl; starts_none = refl; names_none = λ p n. refl }) h.few h;
}
