-- Every event is its steps.
use Rattle.std.proofs.Common.{◌≡◌, ℕ, ◌+◌, Bool, true, false, cond, List, [], ◌∷◌, ◌++◌, length, Option, Some, None, sym, refl, ap, ◌∙◌, ⊎_elim, subst}
use Rattle.std.specs.Prelude.{◌&&◌}
use Rattle.std.proofs.lemmas.Bool.{and_right, ne_eqb}
use Rattle.frames.specs.declared.CodeId.{CodeId}
use Rattle.method_table.specs.declared.Code.{Code}
use Rattle.method_table.specs.declared.CodeState.TheVariants.{NotEntrant}
use Rattle.method_table.specs.Codes.{id_of, code_of, in_use_for, in_state}
use Rattle.frames.specs.BoardRule.{BoardState}
use Rattle.operations.specs.Requests.{kind_of, reply_to}
use Rattle.system.specs.declared.events.Act.{Act}
use Rattle.system.specs.declared.events.Act.TheVariants as act
use Rattle.system.specs.declared.events.Event.{Event}
use Rattle.system.specs.declared.events.Event.TheVariants as event
use Rattle.system.specs.declared.answers.Answer.{Answer}
use Rattle.system.specs.declared.answers.Answer.TheVariants as answer
use Rattle.system.specs.Threads.{Thread, is_publishing, part}
use Rattle.system.specs.Operations.{Requests, poll_of}
use Rattle.system.specs.Log.{names_given, operations_given}
use Rattle.system.specs.World.{World, start_world, walk, census, thread_at}
use Rattle.system.specs.Places.{go_or_stop, popped}
use Rattle.system.specs.Step.{new_thread, code_or_none}
use Rattle.system.specs.Runs.{after, answer_to, world_after}
use Rattle.system.specs.Moments.{begun, ended, is_fresh}
use Rattle.system.proofs.Outcomes.{noted, asked, seated, entered, moved, held, released, is_move, with_done, with_cleared, with_told, with_request, with_opened, with_operated, without_opened, Stands, Starts}
use Rattle.system.proofs.EventCases.{Cases}
use Rattle.system.proofs.CaseOfEvent.{Simple, by_cases, each_kind}
use Rattle.system.proofs.Lists.{map_length}
use Rattle.system.proofs.Table.{unfreed_code}
use Rattle.system.proofs.Twice.{between, between_is, between_said, found_in_use, free_between, none_then, twice}
use Rattle.system.proofs.Frames.{part_quiet}
use Rattle.method_table.specs.Entries.{newest_in}
use Rattle.tie.specs.BoardOf.{is_given, is_missed, seat_by, board_of}
use Rattle.tie.specs.Steps.{Made, for_code, weigh_steps, is_refused, accepted_steps, act_steps, steps_of, GoesBy, EventsAreTheirSteps}
use Rattle.tie.proofs.Tied.{IsReached, reached, reached_simply, sizes_are}
use Rattle.tie.proofs.Quiet.{IsUnseen, each_move, move_unseen}
use Rattle.tie.proofs.Views.{IsUnkept, same_moment, slot_unkept, seat_same, same_board, rests_at}
use Rattle.tie.proofs.ThreadSteps.{same_number, begin_step, end_step, exit_step}
use Rattle.tie.proofs.EntrySteps.{enter_step, miss_step}
use Rattle.tie.proofs.CountSteps.{change_step}
use Rattle.tie.proofs.KeeperSteps.{invalidate_step, free_step, round_step}
use Rattle.tie.proofs.WeighSteps.{look_step, used_step, retire_steps, install_step}

-- An event without a step leaves the board.
rests : (w v : World) (e : Event) (a : Answer) → accepted_steps w e a ≡ [] → board_of v ≡ board_of w → GoesBy w.slots (length w.places) (board_of w) (steps_of w e a) (board_of v)
rests w v e a none same = subst (λ steps. GoesBy w.slots (length w.places) (board_of w) steps (board_of v)) (sym (ap (λ steps. cond (is_refused a) [] steps) none ∙ by (is_refused a))) same
  where
    by : (b : Bool) → cond {A = List Made} b [] [] ≡ []
    by true = refl
    by false = refl

-- One that changes nothing but the log, or the requests, and that neither the keeper nor a seat notices.
module _ (w : World) (e : Event) (a : Answer) (unkept : IsUnkept (record { event = e; answer = a })) (unseen : (q : ℕ) → IsUnseen q (record { event = e; answer = a })) where
  noted_rests : board_of (noted w e a) ≡ board_of w
  noted_rests = same_board (noted w e a) w (same_moment (record { event = e; answer = a }) w.log unkept.no_round) (λ k. slot_unkept (record { event = e; answer = a }) w.log (newest_in w.codes k) unkept)
      (λ q. seat_same w.codes w.log q (thread_at w q) (record { event = e; answer = a }) (unseen q)) (λ c. refl)

  asked_rests : (r : Requests) → board_of (asked w r e a) ≡ board_of w
  asked_rests r = same_board (asked w r e a) w (same_moment (record { event = e; answer = a }) w.log unkept.no_round) (λ k. slot_unkept (record { event = e; answer = a }) w.log (newest_in w.codes k) unkept)
      (λ q. seat_same w.codes w.log q (thread_at w q) (record { event = e; answer = a }) (unseen q)) (λ c. refl)

-- An act that no seat notices, after which the place's seat counts and has stored what it had.
act_rests : (w : World) (p : ℕ) (t u : Thread) (b : Act) (a : Answer) → Stands w p t → ((q : ℕ) → IsUnseen q (record { event = event.At p b; answer = a })) → seat_by w.codes w.log p (Some u) ≡ seat_by w.codes w.log p (Some t)
    → board_of (seated w p (Some u) (event.At p b) a) ≡ board_of w
act_rests w p t u b a s unseen same = rests_at w p (Some t) (Some u) (event.At p b) a
    (record { there = s.there; low = s.low; unkept = record { no_round = refl; no_invalidate = λ r. refl; no_look = λ r q. refl }; others = λ q ne. unseen q })
    (seat_same w.codes w.log p (Some u) (record { event = event.At p b; answer = a }) (unseen p) ∙ same)

-- The stack changes outside of a publication.
quiet_same : (w : World) (p : ℕ) (t u : Thread) → ((c : CodeId) → part c u ≡ part c t) → is_publishing u ≡ is_publishing t → u.published ≡ t.published → seat_by w.codes w.log p (Some u) ≡ seat_by w.codes w.log p (Some t)
quiet_same w p t u parts publishing published = λ j. record {
  counted = λ c. parts c j;
  fresh = λ c. is_given w.codes c && is_fresh p c.serial w.log;
  moment = cond (publishing j) (begun p w.log) 0;
  stored = cond (published j) (ended p w.log) 0;
  gone = λ c. is_given w.codes c && is_missed p c.serial w.log;
}

-- Start.
start_rests : (w : World) (p : ℕ) → IsReached w → Starts w p
    → board_of (seated w p (Some (new_thread (names_given w.log + 1))) event.Start (answer.Thread (names_given w.log + 1) p)) ≡ board_of w
start_rests w p h i = rests_at w p None (Some (new_thread (names_given w.log + 1))) event.Start (answer.Thread (names_given w.log + 1) p) (record {
  there = i.vacant;
  low = i.low;
  unkept = record { no_round = refl; no_invalidate = λ r. refl; no_look = λ r q. refl };
  others = λ q ne. record { starts_not = ne_eqb p q (λ z. ne (sym z)); exits_not = refl; begins_not = refl; ends_not = refl; enters_not = λ s. refl; misses_not = λ s. refl };
}) (λ j. record {
  counted = λ c. 0;
  fresh = λ c. stale c j;
  moment = 0;
  stored = 0;
  gone = λ c. is_given w.codes c && is_missed p c.serial w.log;
})
  where
    stale : (c : CodeId) → (is_given w.codes c && is_fresh p c.serial (record { event = event.Start; answer = answer.Thread (names_given w.log + 1) p } ∷ w.log)) ≡ (is_given w.codes c && is_fresh p c.serial w.log)
    stale c = and_right (is_given w.codes c) _ (let x = same_number p in rw x refl) ∙ sym (and_right (is_given w.codes c) (is_fresh p c.serial w.log) (h.reclaimed.vacant p c.serial i.vacant))

-- Each event.
moves_none : (w : World) (p : ℕ) (a : Act) (given : Answer) → is_move a ≡ true → accepted_steps w (event.At p a) given ≡ []
moves_none w p a given h = each_move (λ b. act_steps w p b given ≡ []) refl refl refl refl refl refl refl refl a h

unlooked_none : (w : World) (serial p : ℕ) (o : Option Code) → for_code o (λ c. weigh_steps w c (answer.NotLooked p)) ≡ []
unlooked_none w serial p None = refl
unlooked_none w serial p (Some k) = refl

all_steps : (w : World) → IsReached w → Cases w (λ e a v. GoesBy w.slots (length w.places) (board_of w) (steps_of w e a) (board_of v))
all_steps w h = record {
  refuses = λ e r. refl;
  begins = λ p t i. begin_step w p t h i;
  changes = λ p t code i. change_step w p t code h i;
  rests = λ p t i. rests w (seated w p (Some t) (event.At p act.Change) answer.NoChange) (event.At p act.Change) answer.NoChange refl
      (act_rests w p t t act.Change answer.NoChange i.publishes.stands (λ q. record { starts_not = refl; exits_not = refl; begins_not = refl; ends_not = refl; enters_not = λ r. refl; misses_not = λ r. refl }) refl);
  ends = λ p t i. end_step w p t h i;
  moves = λ p t a state given i. rests w (seated w p (Some (moved t state)) (event.At p a) given) (event.At p a) given (moves_none w p a given i.is)
      (act_rests w p t (moved t state) a given i.acts.stands (λ q. move_unseen p q a given i.is) refl);
  interprets = λ p t method i. rests w (seated w p (Some (entered t method None)) (event.At p (act.Enter method None)) answer.Entered) (event.At p (act.Enter method None)) answer.Entered refl
      (act_rests w p t (entered t method None) (act.Enter method None) answer.Entered i.acts.stands (λ q. record { starts_not = refl; exits_not = refl; begins_not = refl; ends_not = refl; enters_not = λ r. refl; misses_not = λ r. refl }) (quiet_same w p t (entered t method None) (λ c. part_quiet c (entered t method None) i.acts.quiet ∙ sym (part_quiet c t i.acts.quiet)) refl refl));
  enters = λ p t method serial code i. enter_step w p t method serial code h i;
  misses = λ p t method serial code i. miss_step w p t method serial code h i;
  leaves = λ p t state i. rests w (seated w p (Some (moved (popped t) state)) (event.At p act.Leave) (go_or_stop (poll_of w.requests t.name))) (event.At p act.Leave) (go_or_stop (poll_of w.requests t.name)) refl
      (act_rests w p t (moved (popped t) state) act.Leave (go_or_stop (poll_of w.requests t.name)) i.acts.stands (λ q. record { starts_not = refl; exits_not = refl; begins_not = refl; ends_not = refl; enters_not = λ r. refl; misses_not = λ r. refl }) (quiet_same w p t (moved (popped t) state) (λ c. part_quiet c (moved (popped t) state) i.acts.quiet ∙ sym (part_quiet c t i.acts.quiet)) refl refl));
  exits = λ p t i. exit_step w p t h i;
  finishes = λ p t opened i. rests w (asked w (with_done w.requests opened t.name) (event.At p act.Finish) (answer.Reply (reply_to opened.request t.stack))) (event.At p act.Finish) (answer.Reply (reply_to opened.request t.stack)) refl (asked_rests w (event.At p act.Finish) (answer.Reply (reply_to opened.request t.stack)) (record { no_round = refl; no_invalidate = λ r. refl; no_look = λ r q. refl }) (λ q. record { starts_not = refl; exits_not = refl; begins_not = refl; ends_not = refl; enters_not = λ r. refl; misses_not = λ r. refl }) (with_done w.requests opened t.name));
  clears = λ p t opened i. rests w (asked w (with_cleared w.requests opened t.name) (event.At p act.Clear) answer.Done) (event.At p act.Clear) answer.Done refl (asked_rests w (event.At p act.Clear) answer.Done (record { no_round = refl; no_invalidate = λ r. refl; no_look = λ r q. refl }) (λ q. record { starts_not = refl; exits_not = refl; begins_not = refl; ends_not = refl; enters_not = λ r. refl; misses_not = λ r. refl }) (with_cleared w.requests opened t.name));
  holds = λ p t opened i. rests w (seated w p (Some (held t)) (event.At p act.Hold) answer.Done) (event.At p act.Hold) answer.Done refl
      (act_rests w p t (held t) act.Hold answer.Done i.acts.stands (λ q. record { starts_not = refl; exits_not = refl; begins_not = refl; ends_not = refl; enters_not = λ r. refl; misses_not = λ r. refl }) refl);
  releases = λ p t i. rests w (seated w p (Some (released t)) (event.At p act.Release) answer.Done) (event.At p act.Release) answer.Done refl
      (act_rests w p t (released t) act.Release answer.Done i.acts.stands (λ q. record { starts_not = refl; exits_not = refl; begins_not = refl; ends_not = refl; enters_not = λ r. refl; misses_not = λ r. refl }) refl);
  shows = λ p t i. rests w (seated w p (Some t) (event.At p act.Stack) (answer.Frames t.stack)) (event.At p act.Stack) (answer.Frames t.stack) refl
      (act_rests w p t t act.Stack (answer.Frames t.stack) i (λ q. record { starts_not = refl; exits_not = refl; begins_not = refl; ends_not = refl; enters_not = λ r. refl; misses_not = λ r. refl }) refl);
  starts = λ p i. rests w (seated w p (Some (new_thread (names_given w.log + 1))) event.Start (answer.Thread (names_given w.log + 1) p)) event.Start (answer.Thread (names_given w.log + 1) p) refl (start_rests w p h i);
  installs = λ method slot i. rw i.none_in_use (install_step w method slot h i);
  invalidates = λ serial code i. invalidate_step w serial code h i;
  goes_round = λ i. round_step w h i;
  looks_clear = λ serial p code i. look_step w serial p code answer.Clear true h i refl;
  looks_late = λ serial p code i. look_step w serial p code answer.Late false h i refl;
  finds_unlooked = λ serial code p i. subst (λ steps. GoesBy w.slots (length w.places) (board_of w) steps (board_of (noted w (event.Weigh serial) (answer.NotLooked p)))) (sym (unlooked_none w serial p (code_of w.codes serial)))
      (noted_rests w (event.Weigh serial) (answer.NotLooked p) (record { no_round = refl; no_invalidate = λ r. refl; no_look = λ r q. refl }) (λ q. record { starts_not = refl; exits_not = refl; begins_not = refl; ends_not = refl; enters_not = λ r. refl; misses_not = λ r. refl }));
  finds_used = λ serial code i. used_step w serial code h i;
  retires = λ serial code i. retire_steps w serial code h i;
  frees = λ serial code i. free_step w serial code h i;
  asks = λ request i. rests w (asked w (with_request w request) (event.Ask request) (answer.Asked (operations_given w.log + 1))) (event.Ask request) (answer.Asked (operations_given w.log + 1)) refl (asked_rests w (event.Ask request) (answer.Asked (operations_given w.log + 1)) (record { no_round = refl; no_invalidate = λ r. refl; no_look = λ r q. refl }) (λ q. record { starts_not = refl; exits_not = refl; begins_not = refl; ends_not = refl; enters_not = λ r. refl; misses_not = λ r. refl }) (with_request w request));
  opens = λ oldest others i. rests w (asked w (with_opened w oldest others) event.Open (answer.Opened oldest.number (kind_of oldest.request))) event.Open (answer.Opened oldest.number (kind_of oldest.request)) refl (asked_rests w event.Open (answer.Opened oldest.number (kind_of oldest.request)) (record { no_round = refl; no_invalidate = λ r. refl; no_look = λ r q. refl }) (λ q. record { starts_not = refl; exits_not = refl; begins_not = refl; ends_not = refl; enters_not = λ r. refl; misses_not = λ r. refl }) (with_opened w oldest others));
  tells = λ name opened i. rests w (asked w (with_told w.requests opened name) (event.Tell name) answer.Told) (event.Tell name) answer.Told refl (asked_rests w (event.Tell name) answer.Told (record { no_round = refl; no_invalidate = λ r. refl; no_look = λ r q. refl }) (λ q. record { starts_not = refl; exits_not = refl; begins_not = refl; ends_not = refl; enters_not = λ r. refl; misses_not = λ r. refl }) (with_told w.requests opened name));
  finds_gone = λ name i. rests w (noted w (event.Tell name) answer.Gone) (event.Tell name) answer.Gone refl (noted_rests w (event.Tell name) answer.Gone (record { no_round = refl; no_invalidate = λ r. refl; no_look = λ r q. refl }) (λ q. record { starts_not = refl; exits_not = refl; begins_not = refl; ends_not = refl; enters_not = λ r. refl; misses_not = λ r. refl }));
  operates = λ opened others i. rests w (asked w (with_operated w opened) event.Operate (answer.Census (census w))) event.Operate (answer.Census (census w)) refl (asked_rests w event.Operate (answer.Census (census w)) (record { no_round = refl; no_invalidate = λ r. refl; no_look = λ r q. refl }) (λ q. record { starts_not = refl; exits_not = refl; begins_not = refl; ends_not = refl; enters_not = λ r. refl; misses_not = λ r. refl }) (with_operated w opened));
  closes = λ number opened i. rests w (asked w (without_opened w opened) (event.Close number) (answer.Closed opened.number)) (event.Close number) (answer.Closed opened.number) refl (asked_rests w (event.Close number) (answer.Closed opened.number) (record { no_round = refl; no_invalidate = λ r. refl; no_look = λ r q. refl }) (λ q. record { starts_not = refl; exits_not = refl; begins_not = refl; ends_not = refl; enters_not = λ r. refl; misses_not = λ r. refl }) (without_opened w opened));
  counts = λ serial code i. rests w (noted w (event.Count serial) (answer.Count (walk w (id_of code)))) (event.Count serial) (answer.Count (walk w (id_of code))) refl (noted_rests w (event.Count serial) (answer.Count (walk w (id_of code))) (record { no_round = refl; no_invalidate = λ r. refl; no_look = λ r q. refl }) (λ q. record { starts_not = refl; exits_not = refl; begins_not = refl; ends_not = refl; enters_not = λ r. refl; misses_not = λ r. refl }));
  says_state = λ serial code i. rests w (noted w (event.CodeState serial) (answer.State code.state)) (event.CodeState serial) (answer.State code.state) refl (noted_rests w (event.CodeState serial) (answer.State code.state) (record { no_round = refl; no_invalidate = λ r. refl; no_look = λ r q. refl }) (λ q. record { starts_not = refl; exits_not = refl; begins_not = refl; ends_not = refl; enters_not = λ r. refl; misses_not = λ r. refl }));
  resolves = λ method i. rests w (noted w (event.Resolve method) (code_or_none (in_use_for w.codes method))) (event.Resolve method) (code_or_none (in_use_for w.codes method)) refl (noted_rests w (event.Resolve method) (code_or_none (in_use_for w.codes method)) (record { no_round = refl; no_invalidate = λ r. refl; no_look = λ r q. refl }) (λ q. record { starts_not = refl; exits_not = refl; begins_not = refl; ends_not = refl; enters_not = λ r. refl; misses_not = λ r. refl }));
}

-- Steps after steps.
goes_on : (slots places : ℕ) (a b c : BoardState) (first rest : List Made) → GoesBy slots places a first b → GoesBy slots places b rest c → GoesBy slots places a (first ++ rest) c
goes_on slots places a b c [] rest same later = subst (λ x. GoesBy slots places x rest c) same later
goes_on slots places a b c (made ∷ first) rest (next, step, kept, on) later = (next, step, kept, goes_on slots places next b c first rest on later)

-- An event goes by its steps.
abbrev GoesOn : World → Event → Type 0
GoesOn w e = GoesBy w.slots (length w.places) (board_of w) (steps_of w e (answer_to w e)) (board_of (after w e))

goes_simply : (w : World) → IsReached w → (e : Event) → Simple w e → GoesOn w e
goes_simply w h e simple = by_cases w (λ e a v. GoesBy w.slots (length w.places) (board_of w) (steps_of w e a) (board_of v)) (all_steps w h) e simple

-- The steps of an Install over code in use are those of the Invalidate and of the Install.
both_steps : (w : World) (method : ℕ) (old : Code) → IsReached w → in_use_for w.codes method ≡ Some old
    → accepted_steps w (event.Invalidate old.serial) answer.Done ++ accepted_steps (between w old) (event.Install method) (answer.Code (length w.codes + 1)) ≡ accepted_steps w (event.Install method) (answer.Code (length w.codes + 1))
both_steps w method old h used =
    let here = unfreed_code w.slots w.methods w.codes h.kept.table old.serial old (found_in_use w method old h.kept.table used) in
    let free = free_between w method old h.kept.table used in
    let none = none_then w method old h.kept.table used in
    let long = map_length (in_state old.serial NotEntrant) w.codes in
    rw (here, used, none, free, long) refl

goes_over : (w : World) → IsReached w → (method : ℕ) (old : Code) → in_use_for w.codes method ≡ Some old → GoesOn w (event.Install method)
goes_over w h method old used = ⊎_elim
    (λ r. rw (r.said, r.after_is) refl)
    (λ b. (let between_reached : IsReached (between w old) = subst IsReached (between_is w method old h.kept.table used) (reached_simply w (event.Invalidate old.serial) tt h) in
    let first : GoesBy w.slots (length w.places) (board_of w) (accepted_steps w (event.Invalidate old.serial) answer.Done) (board_of (between w old)) =
    subst (λ v. GoesBy w.slots (length w.places) (board_of w) (accepted_steps w (event.Invalidate old.serial) answer.Done) (board_of v)) (between_is w method old h.kept.table used)
    (subst (λ a. GoesBy w.slots (length w.places) (board_of w) (steps_of w (event.Invalidate old.serial) a) (board_of (after w (event.Invalidate old.serial)))) (between_said w method old h.kept.table used) (goes_simply w h (event.Invalidate old.serial) tt)) in
    let second : GoesBy w.slots (length w.places) (board_of (between w old)) (accepted_steps (between w old) (event.Install method) (answer.Code (length w.codes + 1))) (board_of (after w (event.Install method))) =
    subst (λ v. GoesBy w.slots (length w.places) (board_of (between w old)) (accepted_steps (between w old) (event.Install method) (answer.Code (length w.codes + 1))) (board_of v)) (b.after_between ∙ sym b.after_is)
    (subst (λ a. GoesBy w.slots (length w.places) (board_of (between w old)) (steps_of (between w old) (event.Install method) a) (board_of (after (between w old) (event.Install method)))) b.said_between (goes_simply (between w old) between_reached (event.Install method) (none_then w method old h.kept.table used))) in
    subst (λ a. GoesBy w.slots (length w.places) (board_of w) (steps_of w (event.Install method) a) (board_of (after w (event.Install method)))) (sym b.said)
    (subst (λ steps. GoesBy w.slots (length w.places) (board_of w) steps (board_of (after w (event.Install method)))) (both_steps w method old h used)
    (goes_on w.slots (length w.places) (board_of w) (board_of (between w old)) (board_of (after w (event.Install method))) _ _ first second))))
    (twice w method old h.kept.table used)

goes : (w : World) → IsReached w → (e : Event) → GoesOn w e
goes w h = each_kind w (GoesOn w) (λ method. on method (in_use_for w.codes method) refl) (goes_simply w h)
  where
    on : (method : ℕ) (o : Option Code) → in_use_for w.codes method ≡ o → GoesOn w (event.Install method)
    on method None e = goes_simply w h (event.Install method) e
    on method (Some old) e = goes_over w h method old e

pub events_are_their_steps : EventsAreTheirSteps
events_are_their_steps places slots methods events e =
    let w : World = world_after (start_world places slots methods) events in let sizes = sizes_are places slots methods events in
    subst (λ n. GoesBy slots n (board_of w) (steps_of w e (answer_to w e)) (board_of (after w e))) sizes.0
    (subst (λ n. GoesBy n (length w.places) (board_of w) (steps_of w e (answer_to w e)) (board_of (after w e))) sizes.1
    (goes w (reached places slots methods events) e))
