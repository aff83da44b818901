-- The laws of the poll row.
use Rattle.std.proofs.Common.{◌≡◌, ℕ, List, [], ◌∷◌, ◌++◌, length, Option, Some, None, sym, refl, ap, ◌∙◌, ◌+◌, inl, inr, ⊎_elim, subst, arith}
use Rattle.std.specs.Prelude.{slice_get, replicate, unwrap_or}
use Rattle.std.proofs.lemmas.Bool.{eq-eqb, ne_eqb}
use Rattle.thread_state.specs.PollRule.{IsPlaceKept}
use Rattle.method_table.specs.declared.Code.{Code}
use Rattle.method_table.specs.Codes.{in_use_for}
use Rattle.system.specs.declared.events.Event.{Event}
use Rattle.system.specs.declared.events.Event.TheVariants as event
use Rattle.system.specs.declared.answers.Answer.TheVariants as answer
use Rattle.system.specs.Threads.{Thread}
use Rattle.system.specs.Operations.{greatest, no_requests}
use Rattle.system.specs.World.{World, thread_at, found, start_world}
use Rattle.system.specs.Runs.{after, world_after}
use Rattle.system.proofs.Outcomes.{noted}
use Rattle.system.proofs.CaseOfEvent.{Simple, by_cases, each_kind}
use Rattle.system.proofs.Twice.{between, over, twice}
use Rattle.system.proofs.Seats.{each_start}
use Rattle.system.proofs.Worlds.{worlds_are_sound}
use Rattle.tie.specs.PollRow.{row_of, armed_at, uncleared_at, cleared_at, RowsKeepTheRule, polls_of, IsPolled, ChangesByItsStep, EventsAreTheirPolls}
use Rattle.tie.proofs.PollMarks.{greatest_first}
use Rattle.tie.proofs.PollKept.{word_is, pending_at, IsLast, IsAhead}
use Rattle.tie.proofs.PollTold.{log_tells}
use Rattle.tie.proofs.PollRows.{RowIn, noted_in, row_kept}
use Rattle.tie.proofs.PollSteps.{noted_quiet, steps}

-- At the start nothing waits anywhere.
nothing_waits : (n p : ℕ) → pending_at no_requests (found (slice_get (replicate {A = Option Thread} n None) p)) ≡ []
nothing_waits n p = by (found (slice_get (replicate {A = Option Thread} n None) p))
  where
    by : (o : Option Thread) → pending_at no_requests o ≡ []
    by None = refl
    by (Some t) = refl

row_start : (places slots methods : ℕ) → RowIn (start_world places slots methods)
row_start places slots methods = record {
  few = λ p. omega arith;
  waiting = λ p. nothing_waits places p;
  last = λ p. inl (refl, refl);
  ahead = each_start (λ p t. IsAhead no_requests 0 t.name) places;
  names = λ p. omega arith;
  apart = λ p q some same. absurd (omega arith);
}

-- One event more after others.
pub one_more : (w : World) (events : List Event) (e : Event) → world_after w (events ++ e ∷ []) ≡ after (world_after w events) e
one_more w [] e = refl
one_more w (x ∷ events) e = one_more (after w x) events e

-- An Install over code in use changes no row: neither its Invalidate does, nor the Install.
invalidated_in : (w : World) (serial : ℕ) → RowIn w → RowIn (noted w (event.Invalidate serial) answer.Done)
invalidated_in w serial h = noted_in w (event.Invalidate serial) answer.Done (record { tells_none = λ p log. refl; clears_none = λ p. refl; told_stays = λ marks. refl; cleared_stays = λ marks. refl; starts_none = refl; names_none = λ p n. refl }) h.few h

over_in : (w : World) (method : ℕ) (old : Code) (slot given : ℕ) → RowIn w → RowIn (over w old method slot given)
over_in w method old slot given h =
    let mid = invalidated_in w old.serial h in
    noted_in (between w old) (event.Install method) (answer.Code (given + 1)) (record { tells_none = λ p log. refl; clears_none = λ p. refl; told_stays = λ marks. refl; cleared_stays = λ marks. refl; starts_none = refl; names_none = λ p n. refl }) mid.few mid

same_over : (w : World) (method : ℕ) (old : Code) (slot given : ℕ) → RowIn w → (q : ℕ) → row_of (over w old method slot given) q ≡ row_of w q
same_over w method old slot given h q =
    let mid = invalidated_in w old.serial h in
    noted_quiet (between w old) (event.Install method) (answer.Code (given + 1)) mid (record { tells_not = λ q. refl; clears_not = λ q. refl; told_is = refl; cleared_is = refl }) (over_in w method old slot given h) q
    ∙ noted_quiet w (event.Invalidate old.serial) answer.Done h (record { tells_not = λ q. refl; clears_not = λ q. refl; told_is = refl; cleared_is = refl }) mid q

row_next : (places slots methods : ℕ) (before : List Event) → RowIn (world_after (start_world places slots methods) before) → (e : Event) → RowIn (after (world_after (start_world places slots methods) before) e)
row_next places slots methods before h e = each_kind w (λ e. RowIn (after w e)) (λ method. on method (in_use_for w.codes method) refl) simply e
  where
    w : World
    w = world_after (start_world places slots methods) before

    simply : (e : Event) → Simple w e → RowIn (after w e)
    simply = by_cases w (λ e a v. RowIn v) (row_kept w (worlds_are_sound places slots methods before).0 (log_tells places slots methods before) h)

    on : (method : ℕ) (o : Option Code) → in_use_for w.codes method ≡ o → RowIn (after w (event.Install method))
    on method None e = simply (event.Install method) e
    on method (Some old) e = ⊎_elim (λ r. subst RowIn (sym r.after_is) h) (λ b. subst RowIn (sym b.after_is) (over_in w method old b.slot (length w.codes) h))
        (twice w method old (worlds_are_sound places slots methods before).0.table e)

pub row_in : (places slots methods : ℕ) (events : List Event) → RowIn (world_after (start_world places slots methods) events)
row_in places slots methods events = onward [] events (row_start places slots methods)
  where
    onward : (before events : List Event) → RowIn (world_after (start_world places slots methods) before) → RowIn (world_after (world_after (start_world places slots methods) before) events)
    onward before [] h = h
    onward before (e ∷ events) h =
        let w : World = world_after (start_world places slots methods) before in
        subst (λ v. RowIn (world_after v events)) (one_more (start_world places slots methods) before e)
        (onward (before ++ e ∷ []) events (subst RowIn (sym (one_more (start_world places slots methods) before e)) (row_next places slots methods before h e)))

pub row_word : (w : World) → RowIn w → (p : ℕ) → (row_of w p).word ≡ unwrap_or (greatest (uncleared_at p w.requests.told w.requests.cleared w.log)) 0
row_word w h p = word_is w.requests (thread_at w p) ∙ ap (λ ns. unwrap_or (greatest ns) 0) (h.waiting p)

kept_at : (w : World) → RowIn w → (p : ℕ) → IsPlaceKept (row_of w p)
kept_at w h p = by (h.last p)
  where
    by : IsLast (uncleared_at p w.requests.told w.requests.cleared w.log) (armed_at p w.requests.told w.log) (cleared_at p w.requests.told w.requests.cleared w.log) → IsPlaceKept (row_of w p)
    by (inl a) = record {
      cleared_by = (let same = a.1 in omega arith);
      word_is = row_word w h p ∙ (ap (λ ns. unwrap_or (greatest ns) 0) a.0 ∙ (let same = eq-eqb (cleared_at p w.requests.told w.requests.cleared w.log) (armed_at p w.requests.told w.log) a.1 in rw same refl));
    }
    by (inr a) = record {
      cleared_by = (let less = a.3 in omega arith);
      word_is = row_word w h p ∙ (ap (λ ns. unwrap_or (greatest ns) 0) a.1 ∙ (ap (λ o. unwrap_or o 0) (greatest_first (armed_at p w.requests.told w.log) a.0 a.2)
          ∙ (let differ = ne_eqb (cleared_at p w.requests.told w.requests.cleared w.log) (armed_at p w.requests.told w.log) (λ same. (let less = a.3 in omega arith)) in rw differ refl)));
    }

pub rows_keep_the_rule : RowsKeepTheRule
rows_keep_the_rule places slots methods events p low = kept_at (world_after (start_world places slots methods) events) (row_in places slots methods events) p

-- The event after others, in a row of as many places as the world has.
event_is_its_poll : (places slots methods : ℕ) (events : List Event) (next : Event) → ChangesByItsStep (length (world_after (start_world places slots methods) events).places) (world_after (start_world places slots methods) events) next
event_is_its_poll places slots methods events next = each_kind w (ChangesByItsStep (length w.places) w) (λ method. on method (in_use_for w.codes method) refl) simply next
  where
    w : World
    w = world_after (start_world places slots methods) events

    h : RowIn w
    h = row_in places slots methods events

    simply : (e : Event) → Simple w e → ChangesByItsStep (length w.places) w e
    simply e simple =
        by_cases w (λ e a v. RowIn v → IsPolled (length w.places) (polls_of w e a) (row_of w) (row_of v))
        (steps w (worlds_are_sound places slots methods events).0 (log_tells places slots methods events) h) e simple (row_next places slots methods events h e)

    on : (method : ℕ) (o : Option Code) → in_use_for w.codes method ≡ o → ChangesByItsStep (length w.places) w (event.Install method)
    on method None e = simply (event.Install method) e
    on method (Some old) e = ⊎_elim (λ r. rw (r.said, r.after_is) (λ q. refl)) (λ b. rw (b.said, b.after_is) (same_over w method old b.slot (length w.codes) h))
        (twice w method old (worlds_are_sound places slots methods events).0.table e)

pub events_are_their_polls : EventsAreTheirPolls
events_are_their_polls places slots methods events next =
    subst (λ n. ChangesByItsStep n (world_after (start_world places slots methods) events) next) (worlds_are_sound places slots methods events).1.places_are (event_is_its_poll places slots methods events next)
