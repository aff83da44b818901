-- Each event changes the poll row by its step.
use Rattle.std.proofs.Common.{◌≡◌, ◌≢◌, ℕ, ◌+◌, ◌<◌, true, false, cond, List, ◌∷◌, length, Option, Some, None, sym, refl, ap, ◌∙◌, ⊎_elim, subst, arith}
use Rattle.std.specs.Prelude.{◌==◌, slice_set, unwrap_or, if◌then◌else◌}
use Rattle.std.proofs.lemmas.Bool.{false≢true, eq-eqb, ne_eqb}
use Rattle.thread_state.specs.declared.State.{State}
use Rattle.thread_state.specs.declared.poll_rule.Deed.TheVariants.{Load, Store, Exchange}
use Rattle.method_table.specs.declared.Code.{Code}
use Rattle.method_table.specs.Codes.{id_of, in_use_for, next_serial}
use Rattle.thread_state.specs.PollRule.{PollStep, loads, stores, exchanges, word_after, cleared_after}
use Rattle.system.specs.declared.events.Act.{Act}
use Rattle.system.specs.declared.events.Act.TheVariants as act
use Rattle.system.specs.declared.events.Event.{Event}
use Rattle.system.specs.declared.events.Event.TheVariants as event
use Rattle.system.specs.declared.answers.Answer.{Answer}
use Rattle.system.specs.declared.answers.Answer.TheVariants as answer
use Rattle.operations.specs.Requests.{kind_of, reply_to}
use Rattle.system.specs.Threads.{Thread}
use Rattle.system.specs.Operations.{Requests, Opened, poll_of, greatest}
use Rattle.system.specs.Log.{Entry, names_given, operations_given}
use Rattle.system.specs.World.{World, thread_at, found, walk, census}
use Rattle.system.specs.Places.{popped, go_or_stop}
use Rattle.system.specs.Step.{new_thread, code_or_none}
use Rattle.system.specs.Facts.{IsSound}
use Rattle.system.specs.Safepoints.{is_accepted}
use Rattle.system.proofs.Outcomes.{Leaves, Moves, ByMove, ByPoll, seated, noted, asked, difference, begun, changed_by, ended, entered, moved, held, released, is_move, with_done, with_cleared, with_told, with_request, with_opened, with_operated, without_opened, Tells, Clears}
use Rattle.system.proofs.EventCases.{Cases}
use Rattle.tie.specs.PollRow.{armed_at, uncleared_at, cleared_at, tells, clears, told_before, cleared_before, clears_next, word_of, row_of, number_of, place_of, load, exchange, store, step_of, polls_of, IsPolled}
use Rattle.tie.proofs.PollLog.{IsElsewhere, armed_rests, uncleared_rests, cleared_rests}
use Rattle.tie.proofs.PollMarks.{greatest_first}
use Rattle.tie.proofs.PollKept.{pending_at, IsRow, word_is, same_word, none_later}
use Rattle.tie.proofs.PollTold.{LogTells, Told, told_is, told_entry, told_marks, told_armed, told_cleared, told_waits, told_waits_other, Cleared, cleared_is, clear_entry, cleared_marks, Way, clears_last, clears_before, cleared_way, cleared_last, cleared_stays, cleared_waits, cleared_waits_other}
use Rattle.tie.proofs.PollRows.{RowIn, move_clears_not, move_clears_none}

abbrev pub SameRow : World → World → Type 0
SameRow w v = (q : ℕ) → row_of v q ≡ row_of w q

-- A place is as before where the row stays kept after an entry that tells and clears nothing there.
same_place : (w v : World) (entry : Entry) (q : ℕ) → v.log ≡ entry ∷ w.log → IsElsewhere q entry w.log w.requests v.requests → pending_at v.requests (thread_at v q) ≡ pending_at w.requests (thread_at w q) → row_of v q ≡ row_of w q
same_place w v entry q log h waits =
    let words : word_of v.requests (thread_at v q) ≡ word_of w.requests (thread_at w q) = same_word v.requests w.requests (thread_at v q) (thread_at w q) waits in
    let armed : armed_at q v.requests.told v.log ≡ armed_at q w.requests.told w.log = ap (armed_at q v.requests.told) log ∙ armed_rests q entry w.log w.requests v.requests h in
    let cleared : cleared_at q v.requests.told v.requests.cleared v.log ≡ cleared_at q w.requests.told w.requests.cleared w.log = ap (cleared_at q v.requests.told v.requests.cleared) log ∙ cleared_rests q entry w.log w.requests v.requests h in
    λ i. record { word = words i; armed = armed i; cleared = cleared i }

-- An event that tells and clears nothing, and makes no mark of it.
pub record IsQuiet (w : World) (requests : Requests) (e : Event) (a : Answer) : Type 0 where
  pub tells_not : (q : ℕ) → tells q e a w.log ≡ false
  pub clears_not : (q : ℕ) → clears q e ≡ false
  pub told_is : told_before e a requests.told ≡ w.requests.told
  pub cleared_is : cleared_before e requests.cleared ≡ w.requests.cleared

quiet : (w : World) (places : List (Option Thread)) (requests : Requests) (e : Event) (a : Answer) → RowIn w → IsQuiet w requests e a
    → IsRow places requests (record { event = e; answer = a } ∷ w.log) → SameRow w (record w { places = places; requests = requests; log = record { event = e; answer = a } ∷ w.log })
quiet w places requests e a h silent next q =
    let entry : Entry = record { event = e; answer = a } in
    let at : IsElsewhere q (record { event = e; answer = a }) w.log w.requests requests = record { tells_not = silent.tells_not q; clears_not = silent.clears_not q; told_is = silent.told_is; cleared_is = silent.cleared_is } in
    same_place w (record w { places = places; requests = requests; log = entry ∷ w.log }) entry q refl at (next.waiting q ∙ (uncleared_rests q entry w.log w.requests requests at ∙ sym (h.waiting q)))

-- A poll is a load.
poll_step : (w v : World) (p : ℕ) → p < length w.places → SameRow w v → IsPolled (length w.places) (load w p) (row_of w) (row_of v)
poll_step w v p low same = record {
  in_range = low;
  step = subst (PollStep p (Load (row_of w p).word) (row_of w p)) (sym (same p)) (loads (row_of w p));
  others = λ q ne. same q;
}

pub go_or_stop_accepted : (o : Option ℕ) → is_accepted (go_or_stop o) ≡ true
go_or_stop_accepted None = refl
go_or_stop_accepted (Some n) = refl

pub move_accepted : (w : World) (p : ℕ) (t : Thread) (a : Act) (state : State) (given : Answer) → Moves w p t a state given → is_accepted given ≡ true
move_accepted w p t a state given i = ⊎_elim (λ (by : ByMove w a t state given). ap is_accepted by.done) (λ (by : ByPoll w t state given). ap is_accepted by.says ∙ go_or_stop_accepted (poll_of w.requests t.name)) i.way

move_step : (w v : World) (p : ℕ) (a : Act) (given : Answer) → is_move a ≡ true → p < length w.places → SameRow w v → IsPolled (length w.places) (step_of w (event.At p a) given) (row_of w) (row_of v)
move_step w v p act.Wake given is low same = same
move_step w v p act.Cross given is low same = poll_step w v p low same
move_step w v p act.Edge given is low same = poll_step w v p low same
move_step w v p act.ToVm given is low same = same
move_step w v p act.FromVm given is low same = poll_step w v p low same
move_step w v p act.ToNative given is low same = same
move_step w v p act.Block given is low same = same
move_step w v p act.Take given is low same = same
move_step w v p a given is low same = absurd (false≢true is)

moved_step : (w : World) (p : ℕ) (t : Thread) (a : Act) (state : State) (given : Answer) → RowIn w → Moves w p t a state given → RowIn (seated w p (Some (moved t state)) (event.At p a) given)
    → IsPolled (length w.places) (polls_of w (event.At p a) given) (row_of w) (row_of (seated w p (Some (moved t state)) (event.At p a) given))
moved_step w p t a state given h i next = subst (λ b. IsPolled (length w.places) (if b then step_of w (event.At p a) given else None) (row_of w) (row_of (seated w p (Some (moved t state)) (event.At p a) given)))
    (sym (move_accepted w p t a state given i))
    (move_step w (seated w p (Some (moved t state)) (event.At p a) given) p a given i.is i.acts.stands.low
    (quiet w (slice_set w.places p (Some (moved t state))) w.requests (event.At p a) given h (record { tells_not = λ q. refl; clears_not = λ q. move_clears_not q p a i.is; told_is = refl; cleared_is = move_clears_none p a i.is w.requests.cleared }) next))

left_step : (w : World) (p : ℕ) (t : Thread) (state : State) → RowIn w → Leaves w p t state → RowIn (seated w p (Some (moved (popped t) state)) (event.At p act.Leave) (go_or_stop (poll_of w.requests t.name)))
    → IsPolled (length w.places) (polls_of w (event.At p act.Leave) (go_or_stop (poll_of w.requests t.name))) (row_of w) (row_of (seated w p (Some (moved (popped t) state)) (event.At p act.Leave) (go_or_stop (poll_of w.requests t.name))))
left_step w p t state h i next =
    let given : Answer = go_or_stop (poll_of w.requests t.name) in
    let v : World = seated w p (Some (moved (popped t) state)) (event.At p act.Leave) given in
    subst (λ b. IsPolled (length w.places) (if b then load w p else None) (row_of w) (row_of v)) (sym (go_or_stop_accepted (poll_of w.requests t.name)))
    (poll_step w v p i.acts.stands.low (quiet w (slice_set w.places p (Some (moved (popped t) state))) w.requests (event.At p act.Leave) given h (record { tells_not = λ q. refl; clears_not = λ q. refl; told_is = refl; cleared_is = refl }) next))

-- The number that a Clear clears.
pub clears_number : (w : World) (p : ℕ) (t : Thread) (opened : Opened) → Clears w p t opened → clears_next w.requests (thread_at w p) ≡ opened.number
clears_number w p t opened i = ap (λ o. clears_next w.requests (found o)) i.acts.stands.there ∙ ap number_of i.least

-- A Tell that is told is a store.
told_step : (w : World) (name : ℕ) (opened : Opened) → IsSound w → LogTells w → RowIn w → Tells w name opened
    → IsPolled (length w.places) (store w name) (row_of w) (row_of (asked w (with_told w.requests opened name) (event.Tell name) answer.Told))
told_step w name opened sound ran h i = record {
  in_range = d.stands.low;
  step = subst (λ n. PollStep p (Store p n) (row_of w p) (row_of v p)) (sym (ap number_of i.least)) (subst (PollStep p (Store p opened.number) (row_of w p)) (sym (λ j. record { word = words j; armed = armed j; cleared = cleared j })) (stores (row_of w p) opened.number d.before));
  others = λ q ne. same_place w v (told_entry name) q refl (d.others q ne) (told_waits_other w name p opened sound d q ne);
}
  where
    p : ℕ
    p = place_of w.places name

    v : World
    v = asked w (with_told w.requests opened name) (event.Tell name) answer.Told

    d : Told w name (place_of w.places name) opened
    d = told_is w name opened sound ran h i

    words : word_of (with_told w.requests opened name) (thread_at w (place_of w.places name)) ≡ opened.number
    words = word_is (with_told w.requests opened name) (thread_at w (place_of w.places name))
        ∙ ap (λ ns. unwrap_or (greatest ns) 0) (told_waits w name (place_of w.places name) opened d ∙ ap (λ ns. opened.number ∷ ns) (h.waiting (place_of w.places name)))
        ∙ ap (λ o. unwrap_or o 0) (greatest_first opened.number (uncleared_at (place_of w.places name) w.requests.told w.requests.cleared w.log) (λ m is. (let low = none_later (h.last (place_of w.places name)) m is in let less = d.before in omega (arith, low, less))))

    armed : armed_at (place_of w.places name) (told_marks w name opened) (told_entry name ∷ w.log) ≡ opened.number
    armed = told_armed w name (place_of w.places name) opened d

    cleared : cleared_at (place_of w.places name) (told_marks w name opened) w.requests.cleared (told_entry name ∷ w.log) ≡ cleared_at (place_of w.places name) w.requests.told w.requests.cleared w.log
    cleared = told_cleared w name (place_of w.places name) opened d

-- The word at a place where something is uncleared.
pub word_met : (w : World) (p : ℕ) (t : Thread) (opened : Opened) → RowIn w → Cleared w p t opened → (row_of w p).word ≡ armed_at p w.requests.told w.log
word_met w p t opened h d = word_is w.requests (thread_at w p) ∙ ap (λ ns. unwrap_or (greatest ns) 0) (h.waiting p ∙ d.uncleared_is)
    ∙ ap (λ o. unwrap_or o 0) (greatest_first (armed_at p w.requests.told w.log) d.rest d.below)

-- A Clear is an exchange, which meets its number, or a greater one that stays.
cleared_step : (w : World) (p : ℕ) (t : Thread) (opened : Opened) → IsSound w → RowIn w → Clears w p t opened
    → IsPolled (length w.places) (exchange w p) (row_of w) (row_of (asked w (with_cleared w.requests opened t.name) (event.At p act.Clear) answer.Done))
cleared_step w p t opened sound h i = record {
  in_range = d.low;
  step = subst (λ n. PollStep p (Exchange n (row_of w p).word) (row_of w p) (row_of v p)) (sym (clears_number w p t opened i))
      (subst (PollStep p (Exchange opened.number (row_of w p).word) (row_of w p)) (sym (λ j. record { word = words j; armed = armed_at p w.requests.told w.log; cleared = cleared j })) (exchanges (row_of w p) opened.number some));
  others = λ q ne. same_place w v (clear_entry p) q refl (d.others q ne) (cleared_waits_other w p t opened sound d q ne);
}
  where
    v : World
    v = asked w (with_cleared w.requests opened t.name) (event.At p act.Clear) answer.Done

    d : Cleared w p t opened
    d = cleared_is w p t opened sound h i

    some : opened.number ≢ 0
    some is = let from = (sound.numbers.opened_is i.open_is.position opened i.open_is.here).0 in absurd (omega arith)

    met : (row_of w p).word ≡ armed_at p w.requests.told w.log
    met = word_met w p t opened h d

    way : Way w p t opened
    way = cleared_way w p t opened d

    words : word_of (with_cleared w.requests opened t.name) (thread_at w p) ≡ word_after opened.number (row_of w p).word
    words = (word_is (with_cleared w.requests opened t.name) (thread_at w p) ∙ ap (λ ns. unwrap_or (greatest ns) 0) (cleared_waits w p t opened h d)) ∙ by way
      where
        by : Way w p t opened → unwrap_or (greatest (uncleared_at p w.requests.told (cleared_marks w t opened) (clear_entry p ∷ w.log))) 0 ≡ word_after opened.number (row_of w p).word
        by (clears_last is none) = let hit : ((row_of w p).word == opened.number) ≡ true = eq-eqb (row_of w p).word opened.number (met ∙ sym is) in
            ap (λ ns. unwrap_or (greatest ns) 0) none ∙ sym (ap (λ b. cond b 0 (row_of w p).word) hit)
        by (clears_before rest less some below) = let miss : ((row_of w p).word == opened.number) ≡ false = ne_eqb (row_of w p).word opened.number (λ same. (let e = met in absurd (omega (arith, e, same, less)))) in
            ap (λ ns. unwrap_or (greatest ns) 0) some ∙ ap (λ o. unwrap_or o 0) (greatest_first (armed_at p w.requests.told w.log) rest below) ∙ sym met ∙ sym (ap (λ b. cond b 0 (row_of w p).word) miss)

    cleared : cleared_at p w.requests.told (cleared_marks w t opened) (clear_entry p ∷ w.log) ≡ cleared_after opened.number (row_of w p).word (cleared_at p w.requests.told w.requests.cleared w.log)
    cleared = by way
      where
        by : Way w p t opened → cleared_at p w.requests.told (cleared_marks w t opened) (clear_entry p ∷ w.log) ≡ cleared_after opened.number (row_of w p).word (cleared_at p w.requests.told w.requests.cleared w.log)
        by (clears_last is none) = let hit : ((row_of w p).word == opened.number) ≡ true = eq-eqb (row_of w p).word opened.number (met ∙ sym is) in
            (cleared_last w p t opened none ∙ sym is) ∙ sym (ap (λ b. cond b opened.number (cleared_at p w.requests.told w.requests.cleared w.log)) hit)
        by (clears_before rest less some below) = let miss : ((row_of w p).word == opened.number) ≡ false = ne_eqb (row_of w p).word opened.number (λ same. (let e = met in absurd (omega (arith, e, same, less)))) in
            cleared_stays w p (armed_at p w.requests.told w.log) rest t opened some ∙ sym (ap (λ b. cond b opened.number (cleared_at p w.requests.told w.requests.cleared w.log)) miss)

-- Each event, by its outcome.
abbrev StepsTo : World → Event → Answer → World → Type 0
StepsTo w e a v = RowIn v → IsPolled (length w.places) (polls_of w e a) (row_of w) (row_of v)

seated_quiet : (w : World) (p : ℕ) (o : Option Thread) (a : Act) (given : Answer) → RowIn w → IsQuiet w w.requests (event.At p a) given → RowIn (seated w p o (event.At p a) given) → SameRow w (seated w p o (event.At p a) given)
seated_quiet w p o a given h silent next = quiet w (slice_set w.places p o) w.requests (event.At p a) given h silent next

pub noted_quiet : (w : World) (e : Event) (given : Answer) → RowIn w → IsQuiet w w.requests e given → RowIn (noted w e given) → SameRow w (noted w e given)
noted_quiet w e given h silent next = quiet w w.places w.requests e given h silent next

asked_quiet : (w : World) (requests : Requests) (e : Event) (given : Answer) → RowIn w → IsQuiet w requests e given → RowIn (asked w requests e given) → SameRow w (asked w requests e given)
asked_quiet w requests e given h silent next = quiet w w.places requests e given h silent next

pub code_accepted : (o : Option Code) → is_accepted (code_or_none o) ≡ true
code_accepted None = refl
code_accepted (Some code) = refl

resolved_step : (w : World) (method : ℕ) → RowIn w → StepsTo w (event.Resolve method) (code_or_none (in_use_for w.codes method)) (noted w (event.Resolve method) (code_or_none (in_use_for w.codes method)))
resolved_step w method h next =
    let v : World = noted w (event.Resolve method) (code_or_none (in_use_for w.codes method)) in
    subst (λ b. IsPolled (length w.places) (if b then None else None) (row_of w) (row_of v)) (sym (code_accepted (in_use_for w.codes method)))
    (noted_quiet w (event.Resolve method) (code_or_none (in_use_for w.codes method)) h (record { tells_not = λ q. refl; clears_not = λ q. refl; told_is = refl; cleared_is = refl }) next)

pub steps : (w : World) → IsSound w → LogTells w → RowIn w → Cases w (StepsTo w)
steps w sound ran h = record {
  refuses = λ e r next q. refl;
  begins = λ p t i. seated_quiet w p (Some (begun t)) act.Begin answer.Done h (record { tells_not = λ q. refl; clears_not = λ q. refl; told_is = refl; cleared_is = refl });
  changes = λ p t code i. seated_quiet w p (Some (changed_by t code)) act.Change (difference t code) h (record { tells_not = λ q. refl; clears_not = λ q. refl; told_is = refl; cleared_is = refl });
  rests = λ p t i. seated_quiet w p (Some t) act.Change answer.NoChange h (record { tells_not = λ q. refl; clears_not = λ q. refl; told_is = refl; cleared_is = refl });
  ends = λ p t i. seated_quiet w p (Some (ended t)) act.End answer.Done h (record { tells_not = λ q. refl; clears_not = λ q. refl; told_is = refl; cleared_is = refl });
  moves = λ p t a state given i. moved_step w p t a state given h i;
  interprets = λ p t method i. seated_quiet w p (Some (entered t method None)) (act.Enter method None) answer.Entered h (record { tells_not = λ q. refl; clears_not = λ q. refl; told_is = refl; cleared_is = refl });
  enters = λ p t method serial code i. seated_quiet w p (Some (entered t method (Some (id_of code)))) (act.Enter method (Some serial)) answer.Entered h (record { tells_not = λ q. refl; clears_not = λ q. refl; told_is = refl; cleared_is = refl });
  misses = λ p t method serial code i. seated_quiet w p (Some t) (act.Enter method (Some serial)) answer.WrongMethod h (record { tells_not = λ q. refl; clears_not = λ q. refl; told_is = refl; cleared_is = refl });
  leaves = λ p t state i. left_step w p t state h i;
  exits = λ p t i. seated_quiet w p None act.Exit (answer.Exited t.name) h (record { tells_not = λ q. refl; clears_not = λ q. refl; told_is = refl; cleared_is = refl });
  finishes = λ p t opened i. asked_quiet w (with_done w.requests opened t.name) (event.At p act.Finish) (answer.Reply (reply_to opened.request t.stack)) h (record { tells_not = λ q. refl; clears_not = λ q. refl; told_is = refl; cleared_is = refl });
  clears = λ p t opened i next. cleared_step w p t opened sound h i;
  holds = λ p t opened i. seated_quiet w p (Some (held t)) act.Hold answer.Done h (record { tells_not = λ q. refl; clears_not = λ q. refl; told_is = refl; cleared_is = refl });
  releases = λ p t i. seated_quiet w p (Some (released t)) act.Release answer.Done h (record { tells_not = λ q. refl; clears_not = λ q. refl; told_is = refl; cleared_is = refl });
  shows = λ p t i. seated_quiet w p (Some t) act.Stack (answer.Frames t.stack) h (record { tells_not = λ q. refl; clears_not = λ q. refl; told_is = refl; cleared_is = refl });
  starts = λ p i. quiet w (slice_set w.places p (Some (new_thread (names_given w.log + 1)))) w.requests event.Start (answer.Thread (names_given w.log + 1) p) h (record { tells_not = λ q. refl; clears_not = λ q. refl; told_is = refl; cleared_is = refl });
  installs = λ method slot i. noted_quiet w (event.Install method) (answer.Code (next_serial w.codes)) h (record { tells_not = λ q. refl; clears_not = λ q. refl; told_is = refl; cleared_is = refl });
  invalidates = λ serial code i. noted_quiet w (event.Invalidate serial) answer.Done h (record { tells_not = λ q. refl; clears_not = λ q. refl; told_is = refl; cleared_is = refl });
  goes_round = λ i. noted_quiet w event.Round answer.Done h (record { tells_not = λ q. refl; clears_not = λ q. refl; told_is = refl; cleared_is = refl });
  looks_clear = λ serial p code i. noted_quiet w (event.Look serial p) answer.Clear h (record { tells_not = λ q. refl; clears_not = λ q. refl; told_is = refl; cleared_is = refl });
  looks_late = λ serial p code i. noted_quiet w (event.Look serial p) answer.Late h (record { tells_not = λ q. refl; clears_not = λ q. refl; told_is = refl; cleared_is = refl });
  finds_unlooked = λ serial code p i. noted_quiet w (event.Weigh serial) (answer.NotLooked p) h (record { tells_not = λ q. refl; clears_not = λ q. refl; told_is = refl; cleared_is = refl });
  finds_used = λ serial code i. noted_quiet w (event.Weigh serial) (answer.Used (walk w (id_of code))) h (record { tells_not = λ q. refl; clears_not = λ q. refl; told_is = refl; cleared_is = refl });
  retires = λ serial code i. noted_quiet w (event.Weigh serial) answer.Retired h (record { tells_not = λ q. refl; clears_not = λ q. refl; told_is = refl; cleared_is = refl });
  frees = λ serial code i. noted_quiet w (event.Free serial) answer.Done h (record { tells_not = λ q. refl; clears_not = λ q. refl; told_is = refl; cleared_is = refl });
  asks = λ request i. asked_quiet w (with_request w request) (event.Ask request) (answer.Asked (operations_given w.log + 1)) h (record { tells_not = λ q. refl; clears_not = λ q. refl; told_is = refl; cleared_is = refl });
  opens = λ oldest others i. asked_quiet w (with_opened w oldest others) event.Open (answer.Opened oldest.number (kind_of oldest.request)) h (record { tells_not = λ q. refl; clears_not = λ q. refl; told_is = refl; cleared_is = refl });
  tells = λ name opened i next. told_step w name opened sound ran h i;
  finds_gone = λ name i. noted_quiet w (event.Tell name) answer.Gone h (record { tells_not = λ q. refl; clears_not = λ q. refl; told_is = refl; cleared_is = refl });
  operates = λ opened others i. asked_quiet w (with_operated w opened) event.Operate (answer.Census (census w)) h (record { tells_not = λ q. refl; clears_not = λ q. refl; told_is = refl; cleared_is = refl });
  closes = λ number opened i. asked_quiet w (without_opened w opened) (event.Close number) (answer.Closed opened.number) h (record { tells_not = λ q. refl; clears_not = λ q. refl; told_is = refl; cleared_is = refl });
  counts = λ serial code i. noted_quiet w (event.Count serial) (answer.Count (walk w (id_of code))) h (record { tells_not = λ q. refl; clears_not = λ q. refl; told_is = refl; cleared_is = refl });
  says_state = λ serial code i. noted_quiet w (event.CodeState serial) (answer.State code.state) h (record { tells_not = λ q. refl; clears_not = λ q. refl; told_is = refl; cleared_is = refl });
  resolves = λ method i next. resolved_step w method h next;
}
