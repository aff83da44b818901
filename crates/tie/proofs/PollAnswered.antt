-- The answer to an event is read off the poll word that its step met.
use Rattle.std.proofs.Common.{◌≡◌, ℕ, ◌<◌, ◌≤◌, Bool, true, false, Option, Some, None, sym, refl, ap, ◌∙◌, inl, inr, ⊎_elim, subst, arith}
use Rattle.std.specs.Prelude.{◌==◌, unwrap_or, if◌then◌else◌}
use Rattle.std.proofs.lemmas.Bool.{false≢true, eq-eqb, ne_eqb}
use Rattle.thread_state.specs.declared.State.{State}
use Rattle.system.specs.declared.events.Act.{Act}
use Rattle.system.specs.declared.events.Act.TheVariants as act
use Rattle.system.specs.declared.events.Event.TheVariants as event
use Rattle.system.specs.declared.answers.Answer.{Answer}
use Rattle.system.specs.Threads.{Thread}
use Rattle.system.specs.Operations.{Opened, poll_of, greatest}
use Rattle.system.specs.World.{World, thread_at, found, start_world}
use Rattle.operations.specs.Names.{among}
use Rattle.system.specs.Places.{go_or_stop}
use Rattle.system.specs.Step.{code_or_none}
use Rattle.system.specs.Facts.{IsSound}
use Rattle.system.specs.Runs.{answer_to, world_after}
use Rattle.system.specs.Safepoints.{is_accepted}
use Rattle.method_table.specs.Codes.{in_use_for}
use Rattle.system.proofs.Outcomes.{Stands, Moves, ByMove, ByPoll, Clears, move_of, is_move}
use Rattle.system.proofs.EventCases.{Cases}
use Rattle.system.proofs.CaseOfEvent.{by_cases, each_kind}
use Rattle.system.proofs.Worlds.{worlds_are_sound}
use Rattle.tie.specs.PollRow.{row_of, armed_at, uncleared_at, cleared_at, clears_next, load, step_of, polls_of}
use Rattle.tie.specs.PollAnswers.{said_by, IsAnswered, PollsAnswerTheirWords, is_poll, PollsLoadTheirWord}
use Rattle.tie.proofs.PollMarks.{greatest_first}
use Rattle.tie.proofs.PollKept.{pending_at, IsLast}
use Rattle.tie.proofs.PollTold.{Cleared, cleared_is}
use Rattle.tie.proofs.PollRows.{RowIn}
use Rattle.tie.proofs.PollSteps.{go_or_stop_accepted, move_accepted, code_accepted, clears_number, word_met}
use Rattle.tie.proofs.PollLaws.{row_in, row_word}

-- What a poll answers is read off the word.
poll_said : (w : World) (p : ℕ) (t : Thread) → RowIn w → Stands w p t → go_or_stop (poll_of w.requests t.name) ≡ said_by (row_of w p).word
poll_said w p t h s = ap go_or_stop poll ∙ (by (h.last p) ∙ sym (ap said_by (row_word w h p)))
  where
    poll : poll_of w.requests t.name ≡ greatest (uncleared_at p w.requests.told w.requests.cleared w.log)
    poll = ap greatest (sym (ap (λ o. pending_at w.requests (found o)) s.there) ∙ h.waiting p)

    by : IsLast (uncleared_at p w.requests.told w.requests.cleared w.log) (armed_at p w.requests.told w.log) (cleared_at p w.requests.told w.requests.cleared w.log)
        → go_or_stop (greatest (uncleared_at p w.requests.told w.requests.cleared w.log)) ≡ said_by (unwrap_or (greatest (uncleared_at p w.requests.told w.requests.cleared w.log)) 0)
    by (inl a) = subst (λ us. go_or_stop (greatest us) ≡ said_by (unwrap_or (greatest us) 0)) (sym a.0) refl
    by (inr a) =
        let some : (armed_at p w.requests.told w.log == 0) ≡ false = ne_eqb (armed_at p w.requests.told w.log) 0 (λ is. (let less = a.3 in absurd (omega arith))) in
        let most : greatest (uncleared_at p w.requests.told w.requests.cleared w.log) ≡ Some (armed_at p w.requests.told w.log) = ap greatest a.1 ∙ greatest_first (armed_at p w.requests.told w.log) a.0 a.2 in
        subst (λ (o : Option ℕ). go_or_stop o ≡ said_by (unwrap_or o 0)) (sym most) (rw some refl)

-- An act that polls comes into another state by the poll.
polled_said : (w : World) (p : ℕ) (t : Thread) (a : Act) (state : State) (given : Answer) → RowIn w → Moves w p t a state given → move_of a ≡ None → given ≡ said_by (row_of w p).word
polled_said w p t a state given h i none = ⊎_elim (λ (by : ByMove w a t state given). (let is : None ≡ Some by.by = sym none ∙ by.is in cc))
    (λ (by : ByPoll w t state given). by.says ∙ poll_said w p t h i.acts.stands) i.way

move_said : (w : World) (p : ℕ) (t : Thread) (a : Act) (state : State) (given : Answer) → RowIn w → Moves w p t a state given → is_move a ≡ true → IsAnswered (step_of w (event.At p a) given) given
move_said w p t act.Wake state given h i is = tt
move_said w p t act.Cross state given h i is = polled_said w p t act.Cross state given h i refl
move_said w p t act.Edge state given h i is = polled_said w p t act.Edge state given h i refl
move_said w p t act.ToVm state given h i is = tt
move_said w p t act.FromVm state given h i is = polled_said w p t act.FromVm state given h i refl
move_said w p t act.ToNative state given h i is = tt
move_said w p t act.Block state given h i is = tt
move_said w p t act.Take state given h i is = tt
move_said w p t a state given h i is = absurd (false≢true is)

cleared_met : (w : World) (p : ℕ) (t : Thread) (opened : Opened) → IsSound w → RowIn w → Clears w p t opened → (0 < clears_next w.requests (thread_at w p)) × (clears_next w.requests (thread_at w p) ≤ (row_of w p).word)
cleared_met w p t opened sound h i =
    let d : Cleared w p t opened = cleared_is w p t opened sound h i in
    let is = clears_number w p t opened i in
    let met = word_met w p t opened h d in
    let from = (sound.numbers.opened_is i.open_is.position opened i.open_is.here).0 in
    let low : opened.number ≤ armed_at p w.requests.told w.log = d.least (armed_at p w.requests.told w.log)
    (subst (λ ns. among (armed_at p w.requests.told w.log) ns ≡ true) (sym d.uncleared_is) (let own = eq-eqb (armed_at p w.requests.told w.log) (armed_at p w.requests.told w.log) refl in rw own refl)) in
    (omega (arith, is, from), omega (arith, is, met, low))

said : (w : World) → IsSound w → RowIn w → Cases w (λ e a v. IsAnswered (polls_of w e a) a)
said w sound h = record {
  refuses = λ e r. tt;
  begins = λ p t i. tt;
  changes = λ p t code i. tt;
  rests = λ p t i. tt;
  ends = λ p t i. tt;
  moves = λ p t a state given i. subst (λ b. IsAnswered (if b then step_of w (event.At p a) given else None) given) (sym (move_accepted w p t a state given i)) (move_said w p t a state given h i i.is);
  interprets = λ p t method i. tt;
  enters = λ p t method serial code i. tt;
  misses = λ p t method serial code i. tt;
  leaves = λ p t state i. subst (λ b. IsAnswered (if b then load w p else None) (go_or_stop (poll_of w.requests t.name))) (sym (go_or_stop_accepted (poll_of w.requests t.name))) (poll_said w p t h i.acts.stands);
  exits = λ p t i. tt;
  finishes = λ p t opened i. tt;
  clears = λ p t opened i. cleared_met w p t opened sound h i;
  holds = λ p t opened i. tt;
  releases = λ p t i. tt;
  shows = λ p t i. tt;
  starts = λ p i. tt;
  installs = λ method slot i. tt;
  invalidates = λ serial code i. tt;
  goes_round = λ i. tt;
  looks_clear = λ serial p code i. tt;
  looks_late = λ serial p code i. tt;
  finds_unlooked = λ serial code p i. tt;
  finds_used = λ serial code i. tt;
  retires = λ serial code i. tt;
  frees = λ serial code i. tt;
  asks = λ request i. tt;
  opens = λ oldest others i. tt;
  tells = λ name opened i. refl;
  finds_gone = λ name i. tt;
  operates = λ opened others i. tt;
  closes = λ number opened i. tt;
  counts = λ serial code i. tt;
  says_state = λ serial code i. tt;
  resolves = λ method i. subst (λ b. IsAnswered (if b then None else None) (code_or_none (in_use_for w.codes method))) (sym (code_accepted (in_use_for w.codes method))) tt;
}

-- An Install makes no step.
silent : (given : Answer) → IsAnswered (if is_accepted given then None else None) given
silent given = by (is_accepted given)
  where
    by : (b : Bool) → IsAnswered (if b then None else None) given
    by true = tt
    by false = tt

pub polls_answer_their_words : PollsAnswerTheirWords
polls_answer_their_words places slots methods events next =
    let w : World = world_after (start_world places slots methods) events in
    each_kind w (λ e. IsAnswered (polls_of w e (answer_to w e)) (answer_to w e)) (λ method. silent (answer_to w (event.Install method)))
    (by_cases w (λ e a v. IsAnswered (polls_of w e a) a) (said w (worlds_are_sound places slots methods events).0 (row_in places slots methods events))) next

-- A poll that is accepted is a load.
loaded : (w : World) (p : ℕ) (a : Act) (given : Answer) → is_poll a ≡ true → step_of w (event.At p a) given ≡ load w p
loaded w p act.Edge given h = refl
loaded w p act.Leave given h = refl
loaded w p act.Cross given h = refl
loaded w p act.FromVm given h = refl
loaded w p a given h = absurd (false≢true h)

pub polls_load_their_word : PollsLoadTheirWord
polls_load_their_word places slots methods events p a is accepted =
    let w : World = world_after (start_world places slots methods) events in
    let given : Answer = answer_to w (event.At p a) in
    let step : polls_of w (event.At p a) given ≡ load w p = ap (λ b. if b then step_of w (event.At p a) given else None) accepted ∙ loaded w p a given is in
    (step, subst (λ s. IsAnswered s given) step (polls_answer_their_words places slots methods events (event.At p a)))
