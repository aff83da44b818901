-- Whole runs at the desk.
use Rattle.std.proofs.Common.{◌≡◌, ⊎_elim, ℕ, ◌+◌, Bool, true, false, cond, List, [], ◌∷◌, ◌++◌, length, Option, Some, None, sym, refl, ap, ◌∙◌, subst, append_assoc, append-nil}
use Rattle.std.specs.Prelude.{◌&&◌, ◌==◌}
use Rattle.method_table.specs.declared.Code.{Code}
use Rattle.method_table.specs.Codes.{in_use_for, free_slot}
use Rattle.system.specs.declared.events.Event.{Event}
use Rattle.system.specs.declared.events.Event.TheVariants as event
use Rattle.system.specs.declared.events.Act.{Act}
use Rattle.system.specs.declared.events.Act.TheVariants as act
use Rattle.system.specs.declared.answers.Answer.{Answer}
use Rattle.system.specs.declared.answers.Answer.TheVariants as answer
use Rattle.system.specs.Threads.{Thread}
use Rattle.system.specs.Operations.{Requests, Opened}
use Rattle.system.specs.World.{World, start_world, thread_at}
use Rattle.system.specs.Runs.{after, answer_to, world_after}
use Rattle.system.proofs.CaseOfEvent.{Simple, each_kind, by_cases}
use Rattle.system.proofs.Twice.{between, twice, between_is, between_said, none_then, free_between}
use Rattle.desk.specs.declared.entries.Entry.{Entry}
use Rattle.desk.specs.declared.entries.Entry.TheVariants.{Finish, Operate, Install, Invalidate}
use Rattle.desk.specs.Machine.{State, lawful, step, start, legal_from, after_from, is_legal, after as state_after}
use Rattle.desk.specs.Once.{replies_of, reply_in, with_reply}
use Rattle.tie.specs.DeskOf.{desk_of, for_found, next_of, finish_entries, oldest_of, entries_of, entries_of_run, reply_by, reply_of, reply_given, replies_in, EventsAreTheirEntries, HistoriesAreLegal, DesksFollowTheEvents, RepliesAreTheCores, EntriesAreAppended, RefusedEnterNothing, DesksGoOn}
use Rattle.tie.proofs.DeskOrder.{IsOrdered, ordered_simply, ordered_next, ordered_after, ordered_start}
use Rattle.tie.proofs.DeskSteps.{IsEntered, all_entries, refused_none}

-- 1. One event

after_both : (s : State) (es fs : List Entry) → after_from s (es ++ fs) ≡ after_from (after_from s es) fs
after_both s [] fs = refl
after_both s (e ∷ es) fs = after_both (step s e) es fs

legal_both : (s : State) (es fs : List Entry) → legal_from s es ≡ true → legal_from (after_from s es) fs ≡ true → legal_from s (es ++ fs) ≡ true
legal_both s [] fs h k = k
legal_both s (e ∷ es) fs h k = by (lawful s e) h (λ g. legal_both (step s e) es fs g k)
  where
    by : (b : Bool) → (b && legal_from (step s e) es) ≡ true → (legal_from (step s e) es ≡ true → legal_from (step s e) (es ++ fs) ≡ true) → (b && legal_from (step s e) (es ++ fs)) ≡ true
    by true g rest = rest g
    by false g rest = g

goes_on : (u w v : World) (es fs : List Entry) → IsEntered u es w → IsEntered w fs v → IsEntered u (es ++ fs) v
goes_on u w v es fs h k = record {
  legal = legal_both (desk_of u) es fs h.legal (subst (λ s. legal_from s fs ≡ true) (sym h.state) k.legal);
  state = after_both (desk_of u) es fs ∙ (ap (λ s. after_from s fs) h.state ∙ k.state);
}

abbrev Goes : World → Event → Type 0
Goes w e = IsEntered w (entries_of w e (answer_to w e)) (after w e)

simply : (w : World) → IsOrdered w → (e : Event) → Simple w e → Goes w e
simply w h e simple = by_cases w (λ e a v. IsEntered w (entries_of w e a) v) (all_entries w h) e simple

-- The entries of an Install over code in use are those of the Invalidate and of the Install.
both_entries : (w : World) (method : ℕ) (old : Code) → IsOrdered w → in_use_for w.codes method ≡ Some old
    → entries_of w (event.Invalidate old.serial) answer.Done ++ entries_of (between w old) (event.Install method) (answer.Code (length w.codes + 1)) ≡ entries_of w (event.Install method) (answer.Code (length w.codes + 1))
both_entries w method old h used =
    let free = free_between w method old h.kept.table used in
    let none = none_then w method old h.kept.table used in
    rw (used, none, free) refl

over : (w : World) → IsOrdered w → (method : ℕ) (old : Code) → in_use_for w.codes method ≡ Some old → Goes w (event.Install method)
over w h method old used = ⊎_elim
    (λ r. rw (r.said, r.after_is) (record { legal = refl; state = refl }))
    (λ b. (let between_ordered : IsOrdered (between w old) = subst IsOrdered (between_is w method old h.kept.table used) (ordered_simply w (event.Invalidate old.serial) tt h) in
    let first : IsEntered w (entries_of w (event.Invalidate old.serial) answer.Done) (between w old) =
    subst (λ v. IsEntered w (entries_of w (event.Invalidate old.serial) answer.Done) v) (between_is w method old h.kept.table used)
    (subst (λ a. IsEntered w (entries_of w (event.Invalidate old.serial) a) (after w (event.Invalidate old.serial))) (between_said w method old h.kept.table used) (simply w h (event.Invalidate old.serial) tt)) in
    let second : IsEntered (between w old) (entries_of (between w old) (event.Install method) (answer.Code (length w.codes + 1))) (after w (event.Install method)) =
    subst (λ v. IsEntered (between w old) (entries_of (between w old) (event.Install method) (answer.Code (length w.codes + 1))) v) (b.after_between ∙ sym b.after_is)
    (subst (λ a. IsEntered (between w old) (entries_of (between w old) (event.Install method) a) (after (between w old) (event.Install method))) b.said_between (simply (between w old) between_ordered (event.Install method) (none_then w method old h.kept.table used))) in
    subst (λ a. IsEntered w (entries_of w (event.Install method) a) (after w (event.Install method))) (sym b.said)
    (subst (λ es. IsEntered w es (after w (event.Install method))) (both_entries w method old h used)
    (goes_on w (between w old) (after w (event.Install method)) (entries_of w (event.Invalidate old.serial) answer.Done) (entries_of (between w old) (event.Install method) (answer.Code (length w.codes + 1))) first second))))
    (twice w method old h.kept.table used)

goes : (w : World) → IsOrdered w → (e : Event) → Goes w e
goes w h = each_kind w (Goes w) (λ method. on method (in_use_for w.codes method) refl) (simply w h)
  where
    on : (method : ℕ) (o : Option Code) → in_use_for w.codes method ≡ o → Goes w (event.Install method)
    on method None e = simply w h (event.Install method) e
    on method (Some old) e = over w h method old e

pub events_are_their_entries : EventsAreTheirEntries
events_are_their_entries places slots methods events e =
    let w : World = world_after (start_world places slots methods) events in
    let g = goes w (ordered_after (start_world places slots methods) events (ordered_start places slots methods)) e in
    record { legal = g.legal; state = g.state }

-- 2. Whole runs

runs : (w : World) → IsOrdered w → (events : List Event) → IsEntered w (entries_of_run w events) (world_after w events)
runs w h [] = record { legal = refl; state = refl }
runs w h (e ∷ events) = goes_on w (after w e) (world_after (after w e) events) (entries_of w e (answer_to w e)) (entries_of_run (after w e) events) (goes w h e) (runs (after w e) (ordered_next w e h) events)

starts : (places slots methods : ℕ) → desk_of (start_world places slots methods) ≡ start slots methods
starts places slots methods = refl

pub histories_are_legal : HistoriesAreLegal
unfolding is_legal
histories_are_legal places slots methods events =
    (runs (start_world places slots methods) (ordered_start places slots methods) events).legal

pub desks_follow_the_events : DesksFollowTheEvents
unfolding state_after
desks_follow_the_events places slots methods events =
    (runs (start_world places slots methods) (ordered_start places slots methods) events).state

-- 3. What is appended

appended : (w : World) (events : List Event) (e : Event) → entries_of_run w (events ++ e ∷ []) ≡ entries_of_run w events ++ entries_of (world_after w events) e (answer_to (world_after w events) e)
appended w [] e = append-nil (entries_of w e (answer_to w e))
appended w (x ∷ events) e = ap (λ es. entries_of w x (answer_to w x) ++ es) (appended (after w x) events e)
    ∙ sym (append_assoc (entries_of w x (answer_to w x)) (entries_of_run (after w x) events) (entries_of (world_after (after w x) events) e (answer_to (world_after (after w x) events) e)))

pub entries_are_appended : EntriesAreAppended
entries_are_appended places slots methods events e = appended (start_world places slots methods) events e

-- 4. Replies

replies_both : (n : ℕ) (es fs : List Entry) → replies_of n (es ++ fs) ≡ replies_of n es ++ replies_of n fs
replies_both n [] fs = refl
replies_both n (e ∷ es) fs = ap (with_reply (reply_in n e)) (replies_both n es fs) ∙ by (reply_in n e)
  where
    by : (o : Option (ℕ × ℕ)) → with_reply o (replies_of n es ++ replies_of n fs) ≡ with_reply o (replies_of n es) ++ replies_of n fs
    by None = refl
    by (Some r) = refl

for_none : (n : ℕ) {A : Type 0} (o : Option A) (entries : A → List Entry) → ((x : A) → replies_of n (entries x) ≡ []) → replies_of n (for_found o entries) ≡ []
for_none n None entries h = refl
for_none n (Some x) entries h = h x

finish_reply : (n name reply : ℕ) (o : Option Opened) → replies_of n (for_found o (λ o. Finish o.number name reply ∷ [])) ≡ reply_by n name reply o
finish_reply n name reply None = refl
finish_reply n name reply (Some o) = by (o.number == n)
  where
    by : (b : Bool) → with_reply (cond b (Some (name, reply)) None) [] ≡ cond b ((name, reply) ∷ []) []
    by true = refl
    by false = refl

finish_replies : (n : ℕ) (requests : Requests) (reply : ℕ) (o : Option Thread) → replies_of n (for_found o (finish_entries requests reply)) ≡ reply_of n requests reply o
finish_replies n requests reply None = refl
finish_replies n requests reply (Some t) = finish_reply n t.name reply (next_of requests t)

acted : (n : ℕ) (w : World) (p : ℕ) (a : Act) (given : Answer) → replies_of n (entries_of w (event.At p a) given) ≡ reply_given n w (event.At p a) given
acted n w p act.Finish (answer.Reply reply) = finish_replies n w.requests reply (thread_at w p)
acted n w p act.Exit (answer.Exited name) = refl
acted n w p a given = refl

replied : (n : ℕ) (w : World) (e : Event) (given : Answer) → replies_of n (entries_of w e given) ≡ reply_given n w e given
replied n w (event.At p a) given = acted n w p a given
replied n w event.Start (answer.Thread name place) = refl
replied n w (event.Install m) (answer.Code serial) = replies_both n (for_found (in_use_for w.codes m) (λ (old : Code). Invalidate old.serial ∷ [])) (for_found (free_slot w.codes w.slots) (λ (slot : ℕ). Install (record { slot = slot; serial = serial }) m ∷ []))
    ∙ (λ i. for_none n (in_use_for w.codes m) (λ (old : Code). Invalidate old.serial ∷ []) (λ x. refl) i ++ for_none n (free_slot w.codes w.slots) (λ (slot : ℕ). Install (record { slot = slot; serial = serial }) m ∷ []) (λ x. refl) i)
replied n w (event.Invalidate s) answer.Done = refl
replied n w (event.Weigh s) answer.Retired = refl
replied n w (event.Free s) answer.Done = refl
replied n w (event.Ask q) (answer.Asked m) = refl
replied n w event.Open (answer.Opened m kind) = refl
replied n w event.Operate (answer.Census counts) = for_none n (oldest_of w.requests.opened) (λ (o : Opened). Operate o.number ∷ []) (λ x. refl)
replied n w (event.Close x) (answer.Closed m) = refl
replied n w e given = refl

replies_run : (n : ℕ) (w : World) (events : List Event) → replies_of n (entries_of_run w events) ≡ replies_in n w events
replies_run n w [] = refl
replies_run n w (e ∷ events) = replies_both n (entries_of w e (answer_to w e)) (entries_of_run (after w e) events)
    ∙ (λ i. replied n w e (answer_to w e) i ++ replies_run n (after w e) events i)

pub replies_are_the_cores : RepliesAreTheCores
replies_are_the_cores places slots methods n events = replies_run n (start_world places slots methods) events

-- 5. Refused events, and a desk that goes on

pub refused_enter_nothing : RefusedEnterNothing
refused_enter_nothing w e r = refused_none w e r

pub desks_go_on : DesksGoOn
unfolding is_legal state_after
desks_go_on places slots methods before events history legal state =
    let w : World = world_after (start_world places slots methods) before in
    let r = runs w (ordered_after (start_world places slots methods) before (ordered_start places slots methods)) events in (
      legal_both (start slots methods) history (entries_of_run w events) legal (subst (λ s. legal_from s (entries_of_run w events) ≡ true) (sym state) r.legal),
      after_both (start slots methods) history (entries_of_run w events) ∙ (ap (λ s. after_from s (entries_of_run w events)) state ∙ r.state),
    )
