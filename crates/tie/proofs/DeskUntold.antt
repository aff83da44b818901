-- What was told to a thread is not above what its place was armed with last.
use Rattle.std.proofs.Common.{◌≡◌, ⊎_elim, ℕ, suc, ◌+◌, ◌≤◌, Bool, true, false, cond, List, [], ◌∷◌, ◌++◌, map, Option, Some, None, sym, refl, ap, ◌∙◌, subst, arith}
use Rattle.std.specs.Prelude.{not, ◌&&◌, nat_lt, find, slice_get, slice_set}
use Rattle.std.proofs.lemmas.Bool.{false≢true, lt-ltb, le-ltb, and_left, ne_eqb}
use mathlib.Core.Logic.{dite}
use native.Mathlib.Decide.{ℕ_discrete}
use Rattle.method_table.specs.declared.Code.{Code}
use Rattle.method_table.specs.Codes.{in_use_for, id_of}
use Rattle.system.specs.declared.events.Event.{Event}
use Rattle.system.specs.declared.events.Event.TheVariants as event
use Rattle.system.specs.declared.answers.Answer.TheVariants as answer
use Rattle.system.specs.Threads.{Thread}
use Rattle.system.specs.Operations.{Opened, Mark, is_marked}
use Rattle.system.specs.Log.{names_given}
use Rattle.system.specs.World.{World, start_world, is_live as lives, is_live_target}
use Rattle.system.specs.Places.{popped}
use Rattle.system.specs.Step.{new_thread}
use Rattle.system.specs.Runs.{after, world_after}
use Rattle.system.specs.Facts.{IsSound}
use Rattle.system.proofs.Outcomes.{Stands, begun, changed_by, ended, entered, moved, held, released, with_told, asked, Tells}
use Rattle.system.proofs.EventCases.{Cases}
use Rattle.system.proofs.CaseOfEvent.{Simple, each_kind, by_cases}
use Rattle.system.proofs.Twice.{twice}
use Rattle.system.proofs.Lists.{find_filter}
use Rattle.system.proofs.Seats.{Each, each_some, each_none, each_start, there_of}
use Rattle.system.proofs.SoundMarks.{marked_more, live_has}
use Rattle.system.proofs.Worlds.{worlds_are_sound}
use Rattle.desk.specs.Machine.{Current}
use Rattle.desk.specs.Targets.{is_untold, number_of}
use Rattle.tie.specs.PollRow.{armed_at, row_of, place_of}
use Rattle.tie.specs.DeskOf.{current_of}
use Rattle.tie.specs.DeskTargets.{number_found, UntoldAreTheSame, DesksTellTheSame}
use Rattle.tie.proofs.PollLog.{armed_rests}
use Rattle.tie.proofs.PollTold.{LogTells, Told, told_is, told_entry, told_armed, log_tells}
use Rattle.tie.proofs.PollRows.{RowIn}
use Rattle.tie.proofs.PollLaws.{one_more, row_in}
use Rattle.tie.proofs.DeskTargets.{IsNamed, named_after, named_start, target_same}

-- At most so high is what was told to the thread.
abbrev pub ToldBelow : List Mark → ℕ → ℕ → Type 0
ToldBelow marks armed name = (n : ℕ) → is_marked marks n name ≡ true → n ≤ armed

abbrev pub AreBelow : World → Type 0
AreBelow w = Each (λ p t. ToldBelow w.requests.told (armed_at p w.requests.told w.log) t.name) w.places

renewed : (w : World) (p : ℕ) (t u : Thread) → AreBelow w → Stands w p t → u.name ≡ t.name → Each (λ q v. ToldBelow w.requests.told (armed_at q w.requests.told w.log) v.name) (slice_set w.places p (Some u))
renewed w p t u h s same = each_some (λ q v. ToldBelow w.requests.told (armed_at q w.requests.told w.log) v.name) w.places p u s.low h (subst (ToldBelow w.requests.told (armed_at p w.requests.told w.log)) (sym same) (h p t s.there))

told_below : (w : World) (name : ℕ) (opened : Opened) → IsSound w → LogTells w → RowIn w → AreBelow w → Tells w name opened → AreBelow (asked w (with_told w.requests opened name) (event.Tell name) answer.Told)
told_below w name opened sound ran row h i q t at n marked = dite (ℕ_discrete q (place_of w.places name)) here there
  where
    d : Told w name (place_of w.places name) opened
    d = told_is w name opened sound ran row i

    here : q ≡ place_of w.places name → n ≤ armed_at q (with_told w.requests opened name).told (told_entry name ∷ w.log)
    here e = subst (λ r. n ≤ armed_at r (with_told w.requests opened name).told (told_entry name ∷ w.log)) (sym e)
        (subst (λ m. n ≤ m) (sym (told_armed w name (place_of w.places name) opened d))
        (⊎_elim (λ new. (let same = new.0 in omega arith))
        (λ old. (let low = h q t at n old in let less = d.before in let z = subst (λ r. n ≤ armed_at r w.requests.told w.log) e low in omega arith))
        (marked_more w.requests.told opened.number name n t.name marked)))

    there : (q ≡ place_of w.places name → ⊥) → n ≤ armed_at q (with_told w.requests opened name).told (told_entry name ∷ w.log)
    there ne = subst (λ m. n ≤ m) (sym (armed_rests q (told_entry name) w.log w.requests (with_told w.requests opened name) (d.others q ne)))
        (⊎_elim (λ new. absurd (ne (sound.threads.one_name q (place_of w.places name) t d.stands.thread at d.stands.there (sym new.1 ∙ sym d.stands.named))))
        (λ old. h q t at n old)
        (marked_more w.requests.told opened.number name n t.name marked))

below_kept : (w : World) → IsSound w → LogTells w → RowIn w → AreBelow w → Cases w (λ e a v. AreBelow v)
below_kept w sound ran row h = record {
  refuses = λ e r. h;
  begins = λ p t i. renewed w p t (begun t) h i.stands refl;
  changes = λ p t code i. renewed w p t (changed_by t code) h i.publishes.stands refl;
  rests = λ p t i. renewed w p t t h i.publishes.stands refl;
  ends = λ p t i. renewed w p t (ended t) h i.publishes.stands refl;
  moves = λ p t a state given i. renewed w p t (moved t state) h i.acts.stands refl;
  interprets = λ p t method i. renewed w p t (entered t method None) h i.acts.stands refl;
  enters = λ p t method serial code i. renewed w p t (entered t method (Some (id_of code))) h i.calls.acts.stands refl;
  misses = λ p t method serial code i. renewed w p t t h i.calls.acts.stands refl;
  leaves = λ p t state i. renewed w p t (moved (popped t) state) h i.acts.stands refl;
  exits = λ p t i. each_none (λ q v. ToldBelow w.requests.told (armed_at q w.requests.told w.log) v.name) w.places p i.acts.stands.low h;
  finishes = λ p t opened i. h;
  clears = λ p t opened i. h;
  holds = λ p t opened i. renewed w p t (held t) h i.acts.stands refl;
  releases = λ p t i. renewed w p t (released t) h i.acts.stands refl;
  shows = λ p t i. renewed w p t t h i refl;
  starts = λ p i. each_some (λ q v. ToldBelow w.requests.told (armed_at q w.requests.told w.log) v.name) w.places p (new_thread (names_given w.log + 1)) i.low h
      (λ n marked. (let low = sound.marks.told_given n (names_given w.log + 1) marked in absurd (omega arith)));
  installs = λ method slot i. h;
  invalidates = λ serial code i. h;
  goes_round = λ i. h;
  looks_clear = λ serial p code i. h;
  looks_late = λ serial p code i. h;
  finds_unlooked = λ serial code p i. h;
  finds_used = λ serial code i. h;
  retires = λ serial code i. h;
  frees = λ serial code i. h;
  asks = λ request i. h;
  opens = λ oldest others i. h;
  tells = λ name opened i. told_below w name opened sound ran row h i;
  finds_gone = λ name i. h;
  operates = λ opened others i. h;
  closes = λ number opened i. h;
  counts = λ serial code i. h;
  says_state = λ serial code i. h;
  resolves = λ method i. h;
}

below_next : (places slots methods : ℕ) (before : List Event) → AreBelow (world_after (start_world places slots methods) before) → (e : Event) → AreBelow (after (world_after (start_world places slots methods) before) e)
below_next places slots methods before h e = each_kind w (λ e. AreBelow (after w e)) (λ method. on method (in_use_for w.codes method) refl) simply e
  where
    w : World
    w = world_after (start_world places slots methods) before

    simply : (e : Event) → Simple w e → AreBelow (after w e)
    simply = by_cases w (λ e a v. AreBelow v) (below_kept w (worlds_are_sound places slots methods before).0 (log_tells places slots methods before) (row_in places slots methods before) h)

    on : (method : ℕ) (o : Option Code) → in_use_for w.codes method ≡ o → AreBelow (after w (event.Install method))
    on method None e = simply (event.Install method) e
    on method (Some old) e = ⊎_elim (λ r. subst AreBelow (sym r.after_is) h) (λ b. subst AreBelow (sym b.after_is) h)
        (twice w method old (worlds_are_sound places slots methods before).0.table e)

pub below_in : (places slots methods : ℕ) (events : List Event) → AreBelow (world_after (start_world places slots methods) events)
below_in places slots methods events = onward [] events (each_start (λ p t. ToldBelow [] 0 t.name) places)
  where
    onward : (before events : List Event) → AreBelow (world_after (start_world places slots methods) before) → AreBelow (world_after (world_after (start_world places slots methods) before) events)
    onward before [] h = h
    onward before (e ∷ events) h =
        let w : World = world_after (start_world places slots methods) before in
        subst (λ v. AreBelow (world_after v events)) (one_more (start_world places slots methods) before e)
        (onward (before ++ e ∷ []) events (subst AreBelow (sym (one_more (start_world places slots methods) before e)) (below_next places slots methods before h e)))

find_map_same : (p : Current → Bool) (q : Opened → Bool) (f : Opened → Current) (os : List Opened) → ((o : Opened) → (f o).number ≡ o.number) → ((i : ℕ) (o : Opened) → slice_get os i ≡ Some o → p (f o) ≡ q o) → number_of (find p (map f os)) ≡ number_found (find q os)
find_map_same p q f [] num h = refl
find_map_same p q f (o ∷ os) num h = ap (λ b. number_of (cond b (Some (f o)) (find p (map f os)))) (h 0 o refl) ∙ by (q o) (find_map_same p q f os num (λ i x e. h (suc i) x e))
  where
    by : (b : Bool) → number_of (find p (map f os)) ≡ number_found (find q os) → number_of (cond b (Some (f o)) (find p (map f os))) ≡ number_found (cond b (Some o) (find q os))
    by true e = ap Some (num o)
    by false e = e

untold_same : (w : World) → IsNamed w → RowIn w → AreBelow w → UntoldAreTheSame w
untold_same w h row below p t at =
    find_map_same (is_untold (names_given w.log + 1) t.name (row_of w p).armed) (λ o. not (is_marked w.requests.told o.number t.name) && is_live_target w o t.name) (current_of w.requests.done w.log) w.requests.opened (λ o. refl) each
    ∙ ap number_found (sym (find_filter (λ (o : Opened). not (is_marked w.requests.told o.number t.name)) (λ o. is_live_target w o t.name) w.requests.opened))
  where
    there : slice_get w.places p ≡ Some (Some t)
    there = there_of w p t at

    live : lives w t.name ≡ true
    live = live_has w p t (there_of w p t at)

    each : (i : ℕ) (o : Opened) → slice_get w.requests.opened i ≡ Some o → is_untold (names_given w.log + 1) t.name (row_of w p).armed (current_of w.requests.done w.log o) ≡ (not (is_marked w.requests.told o.number t.name) && is_live_target w o t.name)
    each i o is = (λ j. target_same w i o t.name h is live j && nat_lt (armed_at p w.requests.told w.log) o.number) ∙ by (is_live_target w o t.name) refl (is_marked w.requests.told o.number t.name) refl
      where
        armed : ℕ
        armed = armed_at p w.requests.told w.log

        by : (b : Bool) → is_live_target w o t.name ≡ b → (c : Bool) → is_marked w.requests.told o.number t.name ≡ c → (b && nat_lt (armed_at p w.requests.told w.log) o.number) ≡ (not c && b)
        by false e true f = refl
        by false e false f = refl
        by true e true f = le-ltb (armed_at p w.requests.told w.log) o.number (below p t (there_of w p t at) o.number f)
        by true e false f = lt-ltb (armed_at p w.requests.told w.log) o.number (row.ahead p t (there_of w p t at) i o is (Rattle.std.proofs.lemmas.Bool.and_parts _ (lives w t.name) e).0 f)

pub desks_tell_the_same : DesksTellTheSame
desks_tell_the_same places slots methods events =
    untold_same (world_after (start_world places slots methods) events) (named_after (start_world places slots methods) events (named_start places slots methods)) (row_in places slots methods events) (below_in places slots methods events)
