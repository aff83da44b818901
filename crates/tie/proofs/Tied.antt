-- What the tie needs of a world beside what the core's own laws keep: of the codes of a slot all but the newest are freed; a
-- fresh code may stand; and a code that was sent away isn't in use.
use Rattle.std.proofs.Common.{◌≡◌, ◌⊎◌, ℕ, zero, suc, ◌+◌, ◌<◌, true, false, List, [], ◌∷◌, length, Option, Some, None, sym, refl, ap, ◌∙◌, inl, inr, ⊎_elim, subst, arith}
use Rattle.std.specs.Prelude.{not, ◌&&◌, ◌==◌, slice_get, option_map}
use Rattle.std.proofs.lemmas.Bool.{false≢true, not-false, and_parts, or_cases, eqb-true}
use Rattle.std.proofs.lemmas.List.{length-replicate}
use mathlib.Core.Logic.{dite}
use native.Mathlib.Decide.{ℕ_discrete}
use Rattle.method_table.specs.declared.Code.{Code}
use Rattle.method_table.specs.declared.CodeState.{CodeState}
use Rattle.method_table.specs.declared.CodeState.TheVariants.{InUse, NotEntrant, Zombie, Freed}
use Rattle.system.specs.declared.events.Act.TheVariants as act
use Rattle.system.specs.declared.events.Event.{Event}
use Rattle.system.specs.declared.events.Event.TheVariants as event
use Rattle.system.specs.declared.answers.Answer.{Answer}
use Rattle.system.specs.declared.answers.Answer.TheVariants as answer
use Rattle.method_table.specs.Codes.{id_of, is_in_use, code_of, with_code, with_state, in_state, next_serial}
use Rattle.operations.specs.Requests.{kind_of, reply_to}
use Rattle.system.specs.Threads.{Thread}
use Rattle.system.specs.Operations.{poll_of}
use Rattle.system.specs.Log.{Entry, is_looked, names_given, operations_given}
use Rattle.system.specs.World.{World, start_world, walk, census}
use Rattle.system.specs.Places.{go_or_stop}
use Rattle.method_table.specs.Numbers.{below}
use Rattle.system.specs.Step.{unlooked, code_or_none}
use Rattle.method_table.specs.Codes.{in_use_for}
use Rattle.system.specs.Runs.{after, world_after}
use Rattle.system.specs.Facts.{may_stand, TableIsSound}
use Rattle.system.specs.Moments.{is_fresh}
use Rattle.system.proofs.Outcomes.{IsCode, Installs, difference}
use Rattle.system.proofs.EventCases.{Cases}
use Rattle.system.proofs.CaseOfEvent.{Simple, by_cases}
use Rattle.system.proofs.Twice.{in_steps}
use Rattle.system.proofs.Lists.{find_push, find_none_at, below_has}
use Rattle.system.proofs.Table.{code_serial, code_with_state, in_state_here, in_state_other, unfreed_code}
use Rattle.system.proofs.Sound.{IsKept, kept, kept_start, same_sizes}
use Rattle.system.proofs.ReclaimInvariant.{IsReclaimed}
use Rattle.system.proofs.ReclaimSteps.{NamesKnown, names_known, reclaim_kept, reclaim_start}
use Rattle.tie.specs.BoardOf.{is_missed}
use Rattle.tie.proofs.Slots.{OldAreFreed, freed_installed, freed_restated}
use Rattle.tie.proofs.Quiet.{unseen_fresh, unseen_missed, move_unseen}

-- A code of the serial that may stand; one that isn't in use.
abbrev pub MayStand : List Code → ℕ → Type 0
MayStand codes s = (k : Code) × (code_of codes s ≡ Some k) × (may_stand k.state ≡ true)

abbrev pub IsLeft : List Code → ℕ → Type 0
IsLeft codes s = (k : Code) × (code_of codes s ≡ Some k) × (is_in_use k.state ≡ false)

pub record IsTied (places : ℕ) (codes : List Code) (log : List Entry) : Type 0 where
  pub old_freed : OldAreFreed codes
  pub fresh_place : (p s : ℕ) → is_fresh p s log ≡ true → p < places
  pub fresh_stands : (p s : ℕ) → is_fresh p s log ≡ true → MayStand codes s
  pub missed_left : (p s : ℕ) → is_missed p s log ≡ true → IsLeft codes s

-- An event that leaves the codes.
logged : (n : ℕ) (codes : List Code) (log : List Entry) (e : Entry) → IsTied n codes log
    → ((p s : ℕ) → is_fresh p s (e ∷ log) ≡ true → (is_fresh p s log ≡ true) ⊎ ((p < n) × MayStand codes s))
    → ((p s : ℕ) → is_missed p s (e ∷ log) ≡ true → (is_missed p s log ≡ true) ⊎ IsLeft codes s) → IsTied n codes (e ∷ log)
logged n codes log e h fresh missed = record {
  old_freed = h.old_freed;
  fresh_place = λ p s f. ⊎_elim (λ x. h.fresh_place p s x) (λ x. x.0) (fresh p s f);
  fresh_stands = λ p s f. ⊎_elim (λ x. h.fresh_stands p s x) (λ x. x.1) (fresh p s f);
  missed_left = λ p s f. ⊎_elim (λ x. h.missed_left p s x) (λ x. x) (missed p s f);
}

-- An event that enters and sends away nothing.
noted : (n : ℕ) (codes : List Code) (log : List Entry) (e : Entry) → IsTied n codes log
    → ((p s : ℕ) → is_fresh p s (e ∷ log) ≡ true → is_fresh p s log ≡ true) → ((p s : ℕ) → is_missed p s (e ∷ log) ≡ true → is_missed p s log ≡ true) → IsTied n codes (e ∷ log)
noted n codes log e h fresh missed = logged n codes log e h (λ p s f. inl (fresh p s f)) (λ p s f. inl (missed p s f))

-- A new code.
installed : (n : ℕ) (w : World) (method slot : ℕ) (a : Answer) → IsTied n w.codes w.log → Installs w method slot → IsTied n (with_code w.codes method slot) (record { event = event.Install method; answer = a } ∷ w.log)
installed n w method slot a h i = record {
  old_freed = freed_installed w method slot h.old_freed i;
  fresh_place = h.fresh_place;
  fresh_stands = λ p s f. (let l = h.fresh_stands p s f in (l.0, find_push (λ (x : Code). x.serial == s) w.codes _ l.0 l.1, l.2));
  missed_left = λ p s f. (let l = h.missed_left p s f in (l.0, find_push (λ (x : Code). x.serial == s) w.codes _ l.0 l.1, l.2));
}

-- The code of the serial s comes into another state, in which it isn't in use.
restated : (n : ℕ) (w : World) (s : ℕ) (k : Code) (from to : CodeState) (e : Entry) → TableIsSound w.slots w.methods w.codes → IsTied n w.codes w.log → IsCode w s k from → is_in_use to ≡ false
    → ((p r : ℕ) → is_fresh p r (e ∷ w.log) ≡ is_fresh p r w.log) → ((p r : ℕ) → is_missed p r (e ∷ w.log) ≡ is_missed p r w.log)
    → ((p : ℕ) → is_fresh p s w.log ≡ true → may_stand to ≡ true) → IsTied n (with_state w.codes s to) (e ∷ w.log)
restated n w s k from to e t h i unused fresh missed stands = record {
  old_freed = freed_restated w s k from to t h.old_freed i;
  fresh_place = λ p r f. h.fresh_place p r (sym (fresh p r) ∙ f);
  fresh_stands = λ p r f. (let g = sym (fresh p r) ∙ f in let l = h.fresh_stands p r g in (
    in_state s to l.0,
    moved r l.0 l.1,
    dite (ℕ_discrete l.0.serial s)
        (λ z. ap (λ (y : Code). may_stand y.state) (in_state_here s to l.0 z) ∙ stands p (subst (λ m. is_fresh p m w.log ≡ true) (sym (code_serial w.codes r l.0 l.1) ∙ z) g))
        (λ z. ap (λ (y : Code). may_stand y.state) (in_state_other s to l.0 z) ∙ l.2),
  ));
  missed_left = λ p r f. (let g = sym (missed p r) ∙ f in let l = h.missed_left p r g in (
    in_state s to l.0,
    moved r l.0 l.1,
    dite (ℕ_discrete l.0.serial s)
        (λ z. ap (λ (y : Code). is_in_use y.state) (in_state_here s to l.0 z) ∙ unused)
        (λ z. ap (λ (y : Code). is_in_use y.state) (in_state_other s to l.0 z) ∙ l.2),
  ));
}
  where
    moved : (r : ℕ) (j : Code) → code_of w.codes r ≡ Some j → code_of (with_state w.codes s to) r ≡ Some (in_state s to j)
    moved r j x = code_with_state w.codes s to r ∙ ap (option_map (in_state s to)) x

-- Where each place was looked at for a code, it is fresh nowhere.
pub looked_all : (w : World) (s : ℕ) → unlooked w s ≡ None → (p : ℕ) → p < length w.places → is_looked w.log s p ≡ true
looked_all w s h p low = not-false (is_looked w.log s p) (find_none_at (λ place. not (is_looked w.log s place)) (below (length w.places)) p p h (below_has (length w.places) p low))

pub some_place : {A : Type 0} (xs : List A) (p : ℕ) → p < length xs → (x : A) × (slice_get xs p ≡ Some x)
some_place [] p h = absurd (omega arith)
some_place (x ∷ xs) zero h = (x, refl)
some_place (x ∷ xs) (suc p) h = some_place xs p (omega arith)

pub fresh_unlooked : (w : World) → IsReclaimed w.places w.codes w.log → (p s : ℕ) → p < length w.places → is_fresh p s w.log ≡ true → is_looked w.log s p ≡ false
fresh_unlooked w r p s low f = let x = some_place w.places p low in by x.0 x.1
  where
    by : (o : Option Thread) → slice_get w.places p ≡ Some o → is_looked w.log s p ≡ false
    by None x = absurd (false≢true (sym (r.vacant p s x) ∙ f))
    by (Some t) x = (let m = r.seats p t x in m.unlooked s f)

-- Each event keeps it.
pub tied_kept : (w : World) → TableIsSound w.slots w.methods w.codes → IsReclaimed w.places w.codes w.log → IsTied (length w.places) w.codes w.log → Cases w (λ e a v. IsTied (length w.places) v.codes v.log)
tied_kept w t r h = record {
  refuses = λ e x. h;
  begins = λ p u i. plain (record { event = event.At p act.Begin; answer = answer.Done }) (λ q s f. f) (λ q s f. f);
  changes = λ p u code i. plain (record { event = event.At p act.Change; answer = difference u code }) (λ q s f. f) (λ q s f. f);
  rests = λ p u i. plain (record { event = event.At p act.Change; answer = answer.NoChange }) (λ q s f. f) (λ q s f. f);
  ends = λ p u i. plain (record { event = event.At p act.End; answer = answer.Done }) (λ q s f. (and_parts _ (is_fresh q s w.log) f).1) (λ q s f. f);
  moves = λ p u a state given i. plain (record { event = event.At p a; answer = given }) (λ q s f. sym (unseen_fresh q s _ w.log (move_unseen p q a given i.is)) ∙ f) (λ q s f. sym (unseen_missed q s _ w.log (move_unseen p q a given i.is)) ∙ f);
  interprets = λ p u method i. plain (record { event = event.At p (act.Enter method None); answer = answer.Entered }) (λ q s f. f) (λ q s f. f);
  enters = λ p u method serial code i. logged (length w.places) w.codes w.log (record { event = event.At p (act.Enter method (Some serial)); answer = answer.Entered }) h
      (λ q s f. ⊎_elim
      (λ x. (let e = and_parts (p == q) (serial == s) x in let low = i.calls.acts.stands.low in
      inr (subst (λ m. m < length w.places) (eqb-true p q e.0) low, (code, subst (λ m. code_of w.codes m ≡ Some code) (eqb-true serial s e.1) i.code_is, ap may_stand i.in_use))))
      (λ x. inl x) (or_cases ((p == q) && (serial == s)) (is_fresh q s w.log) f))
      (λ q s f. inl f);
  misses = λ p u method serial code i. logged (length w.places) w.codes w.log (record { event = event.At p (act.Enter method (Some serial)); answer = answer.WrongMethod }) h (λ q s f. inl f)
      (λ q s f. ⊎_elim
      (λ x. (let e = and_parts (p == q) (serial == s) x in inr (code, subst (λ m. code_of w.codes m ≡ Some code) (eqb-true serial s e.1) i.code_is, i.not_in_use)))
      (λ x. inl x) (or_cases ((p == q) && (serial == s)) (is_missed q s w.log) f));
  leaves = λ p u state i. plain (record { event = event.At p act.Leave; answer = go_or_stop (poll_of w.requests u.name) }) (λ q s f. f) (λ q s f. f);
  exits = λ p u i. plain (record { event = event.At p act.Exit; answer = answer.Exited u.name }) (λ q s f. (and_parts _ (is_fresh q s w.log) f).1) (λ q s f. f);
  finishes = λ p u opened i. plain (record { event = event.At p act.Finish; answer = answer.Reply (reply_to opened.request u.stack) }) (λ q s f. f) (λ q s f. f);
  clears = λ p u opened i. plain (record { event = event.At p act.Clear; answer = answer.Done }) (λ q s f. f) (λ q s f. f);
  holds = λ p u opened i. plain (record { event = event.At p act.Hold; answer = answer.Done }) (λ q s f. f) (λ q s f. f);
  releases = λ p u i. plain (record { event = event.At p act.Release; answer = answer.Done }) (λ q s f. f) (λ q s f. f);
  shows = λ p u i. plain (record { event = event.At p act.Stack; answer = answer.Frames u.stack }) (λ q s f. f) (λ q s f. f);
  starts = λ p i. plain (record { event = event.Start; answer = answer.Thread (names_given w.log + 1) p }) (λ q s f. (and_parts _ (is_fresh q s w.log) f).1) (λ q s f. f);
  installs = λ method slot i. installed (length w.places) w method slot (answer.Code (next_serial w.codes)) h i;
  invalidates = λ serial code i. restated (length w.places) w serial code InUse NotEntrant (record { event = event.Invalidate serial; answer = answer.Done }) t h i refl (λ p s. refl) (λ p s. refl) (λ p f. refl);
  goes_round = λ i. plain (record { event = event.Round; answer = answer.Done }) (λ q s f. f) (λ q s f. f);
  looks_clear = λ serial p code i. plain (record { event = event.Look serial p; answer = answer.Clear }) (λ q s f. f) (λ q s f. f);
  looks_late = λ serial p code i. plain (record { event = event.Look serial p; answer = answer.Late }) (λ q s f. f) (λ q s f. f);
  finds_unlooked = λ serial code p i. plain (record { event = event.Weigh serial; answer = answer.NotLooked p }) (λ q s f. f) (λ q s f. f);
  finds_used = λ serial code i. plain (record { event = event.Weigh serial; answer = answer.Used (walk w (id_of code)) }) (λ q s f. f) (λ q s f. f);
  retires = λ serial code i. restated (length w.places) w serial code NotEntrant Zombie (record { event = event.Weigh serial; answer = answer.Retired }) t h i.code_is refl (λ p s. refl) (λ p s. refl)
      (λ p f. (let low = h.fresh_place p serial f in absurd (false≢true (sym (fresh_unlooked w r p serial low f) ∙ looked_all w serial i.all_looked p low))));
  frees = λ serial code i. restated (length w.places) w serial code Zombie Freed (record { event = event.Free serial; answer = answer.Done }) t h i refl (λ p s. refl) (λ p s. refl)
      (λ p f. (let l = h.fresh_stands p serial f in let both : Some l.0 ≡ Some code = sym l.1 ∙ unfreed_code w.slots w.methods w.codes t serial code i.found in let same : l.0 ≡ code = cc in
      absurd (false≢true (sym (ap (λ (y : Code). may_stand y.state) same ∙ ap may_stand i.state_is) ∙ l.2))));
  asks = λ request i. plain (record { event = event.Ask request; answer = answer.Asked (operations_given w.log + 1) }) (λ q s f. f) (λ q s f. f);
  opens = λ oldest others i. plain (record { event = event.Open; answer = answer.Opened oldest.number (kind_of oldest.request) }) (λ q s f. f) (λ q s f. f);
  tells = λ name opened i. plain (record { event = event.Tell name; answer = answer.Told }) (λ q s f. f) (λ q s f. f);
  finds_gone = λ name i. plain (record { event = event.Tell name; answer = answer.Gone }) (λ q s f. f) (λ q s f. f);
  operates = λ opened others i. plain (record { event = event.Operate; answer = answer.Census (census w) }) (λ q s f. f) (λ q s f. f);
  closes = λ number opened i. plain (record { event = event.Close number; answer = answer.Closed opened.number }) (λ q s f. f) (λ q s f. f);
  counts = λ serial code i. plain (record { event = event.Count serial; answer = answer.Count (walk w (id_of code)) }) (λ q s f. f) (λ q s f. f);
  says_state = λ serial code i. plain (record { event = event.CodeState serial; answer = answer.State code.state }) (λ q s f. f) (λ q s f. f);
  resolves = λ method i. plain (record { event = event.Resolve method; answer = code_or_none (in_use_for w.codes method) }) (λ q s f. f) (λ q s f. f);
}
  where
    plain : (e : Entry) → ((p s : ℕ) → is_fresh p s (e ∷ w.log) ≡ true → is_fresh p s w.log ≡ true) → ((p s : ℕ) → is_missed p s (e ∷ w.log) ≡ true → is_missed p s w.log ≡ true) → IsTied (length w.places) w.codes (e ∷ w.log)
    plain e = noted (length w.places) w.codes w.log e h

-- All that is used of a world that events led to.
pub record IsReached (w : World) : Type 0 where
  pub kept : IsKept w
  pub known : NamesKnown w.log
  pub reclaimed : IsReclaimed w.places w.codes w.log
  pub tied : IsTied (length w.places) w.codes w.log

pub reached_simply : (w : World) (e : Event) → Simple w e → IsReached w → IsReached (after w e)
reached_simply w e simple h = record {
  kept = kept w e h.kept;
  known = by_cases w (λ e a v. NamesKnown v.log) (names_known w h.known) e simple;
  reclaimed = by_cases w (λ e a v. IsReclaimed v.places v.codes v.log) (reclaim_kept w h.kept.table h.known h.reclaimed) e simple;
  tied = subst (λ n. IsTied n (after w e).codes (after w e).log) (sym (same_sizes w (e ∷ []) h.kept.table).0)
      (by_cases w (λ e a v. IsTied (length w.places) v.codes v.log) (tied_kept w h.kept.table h.reclaimed h.tied) e simple);
}

reached_next : (w : World) (e : Event) → IsReached w → IsReached (after w e)
reached_next = in_steps IsReached (λ w r. r.kept.table) reached_simply

reached_after : (w : World) (events : List Event) → IsReached w → IsReached (world_after w events)
reached_after w [] h = h
reached_after w (e ∷ events) h = reached_after (after w e) events (reached_next w e h)

pub reached : (places slots methods : ℕ) (events : List Event) → IsReached (world_after (start_world places slots methods) events)
reached places slots methods events = reached_after (start_world places slots methods) events (record {
  kept = kept_start places slots methods;
  known = λ name z. absurd (false≢true z);
  reclaimed = reclaim_start places;
  tied = record { old_freed = λ i j a b x y e lt. cc; fresh_place = λ p s f. absurd (false≢true f); fresh_stands = λ p s f. absurd (false≢true f); missed_left = λ p s f. absurd (false≢true f) };
})

-- A world that events led to has the sizes of its start.
pub sizes_are : (places slots methods : ℕ) (events : List Event) → (length (world_after (start_world places slots methods) events).places ≡ places) × ((world_after (start_world places slots methods) events).slots ≡ slots)
sizes_are places slots methods events = let s = same_sizes (start_world places slots methods) events (kept_start places slots methods).table in (s.0 ∙ length-replicate places None, s.1)
