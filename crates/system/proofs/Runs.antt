-- One more event, and a whole run.
use Rattle.std.proofs.Common.{◌≡◌, ℕ, zero, suc, ◌+◌, ◌<◌, ◌∙◌, sym, List, [], ◌∷◌, ◌++◌, length, get_or, Option, Some, None, Result, Ok, Err, refl, ap, subst, arith, ◌⊎◌, ⊎_elim, take, append_assoc, replicate}
use Rattle.std.specs.Prelude.{Bool, true, false, IfOk, IsOk, OnErr, slice_get}
use Rattle.std.specs.declared.alloc.AllocError.{AllocError}
use Rattle.std.proofs.lemmas.List.{take_more, length-replicate}
use Rattle.std.proofs.lemmas.Option.{slice_get_read}
use Rattle.activation_index.specs.Cells.{cell_of}
use Rattle.system.specs.declared.events.Event.{Event}
use Rattle.system.specs.declared.events.Event.TheVariants as event
use Rattle.system.specs.declared.answers.Answer.{Answer}
use Rattle.system.specs.declared.thread.Thread.{Thread as Kept}
use Rattle.system.specs.declared.keeping.Core.{Core}
use Rattle.system.specs.Threads.{Thread}
use Rattle.system.specs.World.{World, start_world, found}
use Rattle.system.specs.Runs.{after, answer_to, world_after, answers}
use Rattle.system.specs.Facts.{IsSound}
use Rattle.system.specs.Memory.{NeedsMemory, Accepts, StopsAt, copies_freely}
use Rattle.system.specs.Stands.{Matches, StandsFor, world_by, SameSizes, Next, Does, DoesIn, OfWorld, IsSized, places_of, slots_of, methods_of, kept_at, held_at, takes_no_memory}
use Rattle.system.proofs.Cells.{no_cells}
use Rattle.system.proofs.Worlds.{worlds_are_sound}

pub world_after-push : (w : World) (events : List Event) (event : Event) → world_after w (events ++ event ∷ []) ≡ after (world_after w events) event
world_after-push w [] event = refl
world_after-push w (e ∷ es) event = world_after-push (after w e) es event

pub world_after-append : (w : World) (xs ys : List Event) → world_after w (xs ++ ys) ≡ world_after (world_after w xs) ys
world_after-append w [] ys = refl
world_after-append w (x ∷ xs) ys = world_after-append (after w x) xs ys

pub answers-push : (w : World) (events : List Event) (event : Event) → answers w (events ++ event ∷ []) ≡ answers w events ++ answer_to (world_after w events) event ∷ []
answers-push w [] event = refl
answers-push w (e ∷ es) event = ap (λ xs. answer_to w e ∷ xs) (answers-push (after w e) es event)

pub sound_by : (s : Core) (events : List Event) → IsSound (world_by s events)
sound_by s events = (worlds_are_sound (places_of s) (slots_of s) (methods_of s) events).0

pub of_world : (s : Core) (events : List Event) → StandsFor s events → OfWorld s
of_world s events stands = (world_by s events, sound_by s events, stands)

pub same_worlds : (old new : Core) (events : List Event) → SameSizes old new → world_by new events ≡ world_by old events
same_worlds old new events sizes = rw (sizes.places, sizes.slots, sizes.methods) refl

pub stands_next : (old new : Core) (event : Event) (said : Answer) → Does event old said new → Next old event said new
stands_next old new event said does = λ events stands. (
    let did : DoesIn event said new (world_by old events) = does.each (world_by old events) (sound_by old events) stands in
    let next : world_by new (events ++ event ∷ []) ≡ after (world_by old events) event =
    world_after-push (start_world (places_of new) (slots_of new) (methods_of new)) events event ∙ ap (λ w. after w event) (same_worlds old new events does.sizes) in
    (did.answer, subst (λ w. Matches new w) (sym next) did.matches))

pub sized_next : (old new : Core) → SameSizes old new → IsSized old → IsSized new
sized_next old new sizes h = record { places = omega (arith, h.places, sizes.places); slots = omega (arith, h.slots, sizes.slots); methods = omega (arith, h.methods, sizes.methods) }

pub same_sizes : (s : Core) → SameSizes s s
same_sizes s = record { places = refl; slots = refl; methods = refl }

pub kept_after : (old new : Core) (event : Event) (result : Result Answer AllocError) (events : List Event) → StandsFor old events → IsSized old → IfOk result (λ said. Does event old said new) → Rattle.std.specs.Prelude.OnErr result (new ≡ old) → (xs : List Event) × StandsFor new xs × IsSized new
kept_after old new event (Ok said) events stands sized does same = (events ++ event ∷ [], (stands_next old new event said does events stands).1, sized_next old new does.sizes sized)
kept_after old new event (Err e) events stands sized does same = (events, rw same stands, rw same sized)

pub next_of : (old new : Core) (event : Event) (result : Result Answer AllocError) → IfOk result (λ said. Does event old said new) → IfOk result (λ said. Next old event said new)
next_of old new event (Ok said) does = stands_next old new event said does
next_of old new event (Err e) does = tt

pub sizes_of : (old new : Core) (event : Event) (result : Result Answer AllocError) → IfOk result (λ said. Does event old said new) → Rattle.std.specs.Prelude.OnErr result (new ≡ old) → SameSizes old new
sizes_of old new event (Ok said) does same = does.sizes
sizes_of old new event (Err e) does same = rw same (same_sizes old)

pub sizes_through : (a b c : Core) → SameSizes a b → SameSizes b c → SameSizes a c
sizes_through a b c h k = record { places = k.places ∙ h.places; slots = k.slots ∙ h.slots; methods = k.methods ∙ h.methods }

-- a run after one more event
pub ran_on : (first s new : Core) (before all : List Event) (place : ℕ) (event : Event) (said more : List Answer) (a : Answer) → SameSizes first s → place < length all → get_or all place event ≡ event → said ≡ answers (world_by first before) (take place all) → StandsFor s (before ++ take place all) → Next s event a new → more ≡ said ++ a ∷ [] → (more ≡ answers (world_by first before) (take (place + 1) all)) × StandsFor new (before ++ take (place + 1) all)
ran_on first s new before all place event said more a sizes lt read so_far stands does is =
    let done : List Event = take place all in
    let next = does (before ++ done) stands in
    let longer : take (place + 1) all ≡ done ++ event ∷ [] = take_more all place event lt ∙ ap (λ e. done ++ e ∷ []) read in
    let here : answer_to (world_by s (before ++ done)) event ≡ answer_to (world_after (world_by first before) done) event =
    ap (λ w. answer_to w event) (same_worlds first s (before ++ done) sizes ∙ world_after-append (start_world (places_of first) (slots_of first) (methods_of first)) before done) in (
      is ∙ (ap (λ xs. xs ++ a ∷ []) so_far ∙ (ap (λ x. answers (world_by first before) done ++ x ∷ []) (next.0 ∙ here) ∙ (sym (answers-push (world_by first before) done event) ∙ ap (answers (world_by first before)) (sym longer)))),
      subst (λ xs. StandsFor new xs) (append_assoc before done (event ∷ []) ∙ ap (λ xs. before ++ xs) (sym longer)) next.1,
    )

-- memory is refused
pub on_err : {P : Type 0} (result : Result Answer AllocError) → P → OnErr result P
on_err (Ok said) p = tt
on_err (Err e) p = p

pub needs_of : (s : Core) (event : Event) (result : Result Answer AllocError) → (takes_no_memory event ≡ true → IsOk result) → OnErr result (Accepts s event) → (before : List Event) → StandsFor s before → OnErr result (NeedsMemory (world_by s before) event)
needs_of s event (Ok said) ok may before stands = tt
needs_of s event (Err e) ok may before stands = record { takes = takes (takes_no_memory event) refl; accepted = may (world_by s before) (sound_by s before) stands }
  where
    takes : (b : Bool) → takes_no_memory event ≡ b → takes_no_memory event ≡ false
    takes true is = let bad = ok is in cc
    takes false is = is

-- an event whose copy needs memory that is refused
pub copy_needs : (s : Core) (given : Event) → (copies_freely given ≡ true → ⊥) → (copies_freely given ≡ true) ⊎ Accepts s given → (before : List Event) → StandsFor s before → NeedsMemory (world_by s before) given
copy_needs s given costs may before stands = record {
  takes = takes given costs;
  accepted = ⊎_elim (λ free. absurd (costs free)) (λ accepts. accepts (world_by s before) (sound_by s before) stands) may;
}
  where
    takes : (e : Event) → (copies_freely e ≡ true → ⊥) → takes_no_memory e ≡ false
    takes (event.Ask request) h = refl
    takes other h = absurd (h refl)

pub next_same : (s : Core) (event : Event) (said : Answer) → Does event s said s → Next s event said s
next_same s event said does = stands_next s s event said does

-- a run that stops at an event
pub stops_at : (first s : Core) (before all : List Event) (place : ℕ) (event : Event) → SameSizes first s → place < length all → get_or all place event ≡ event → NeedsMemory (world_by s (before ++ take place all)) event → StopsAt (world_by first before) all place
stops_at first s before all place event sizes lt read needs = record {
  event = event;
  is_there = slice_get_read all (length all) place event refl lt (sym read);
  needs = subst (λ w. NeedsMemory w event) (same_worlds first s (before ++ take place all) sizes ∙ world_after-append (start_world (places_of first) (slots_of first) (methods_of first)) before (take place all)) needs;
}

-- at the start
none_kept : (n p : ℕ) → kept_at (replicate n None) p ≡ None
none_kept n p = by (slice_get (replicate {A = Option Kept} n None) p) refl
  where
    all_none : (m q : ℕ) (o : Option Kept) → slice_get (replicate {A = Option Kept} m None) q ≡ Some o → o ≡ None
    all_none zero q o h = cc
    all_none (suc m) zero o h = (let is : None ≡ o = cc in sym is)
    all_none (suc m) (suc q) o h = all_none m q o h

    by : (x : Option (Option Kept)) → slice_get (replicate {A = Option Kept} n None) p ≡ x → kept_at (replicate n None) p ≡ None
    by None e = ap held_at e
    by (Some o) e = ap held_at e ∙ all_none n p o e

none_there : (n p : ℕ) → found (slice_get (replicate {A = Option Thread} n None) p) ≡ None
none_there n p = by (slice_get (replicate {A = Option Thread} n None) p) refl
  where
    all_none : (m q : ℕ) (o : Option Thread) → slice_get (replicate {A = Option Thread} m None) q ≡ Some o → o ≡ None
    all_none zero q o h = cc
    all_none (suc m) zero o h = (let is : None ≡ o = cc in sym is)
    all_none (suc m) (suc q) o h = all_none m q o h

    by : (x : Option (Option Thread)) → slice_get (replicate {A = Option Thread} n None) p ≡ x → found (slice_get (replicate {A = Option Thread} n None) p) ≡ None
    by None e = ap found e
    by (Some o) e = ap found e ∙ all_none n p o e

-- the state of a new system
pub record IsBlank (s : Core) (places slots methods : ℕ) : Type 0 where
  pub places_are : s.places.items ≡ replicate places None
  pub table_is : s.table ≡ record { codes = []; slots = slots; methods = methods }
  pub records_are : length s.records.items ≡ slots
  pub index_is : s.index ≡ replicate slots (cell_of 0 0)
  pub names_are : s.names ≡ 0
  pub moment_is : s.moment ≡ 1
  pub numbers_are : s.requests.numbers ≡ 0
  pub waiting_are : s.requests.waiting ≡ []
  pub opens_are : s.requests.opens ≡ []

blank_matches : (s : Core) (places slots methods : ℕ) → IsBlank s places slots methods → Matches s (start_world places slots methods)
blank_matches s places slots methods b = record {
  slots = ap (λ t. t.slots) b.table_is;
  methods = ap (λ t. t.methods) b.table_is;
  codes = ap (λ t. t.codes) b.table_is;
  places = record {
    lengths = ap length b.places_are ∙ (length-replicate places None ∙ sym (length-replicate places None));
    each = λ p. rw (b.places_are, none_kept places p, none_there places p) tt;
  };
  records = record { lengths = b.records_are; each = λ serial code r found state at_slot. (let bad : None ≡ Some code = found in cc) };
  names = b.names_are;
  moment_is = b.moment_is;
  numbers = b.numbers_are;
  waiting = rw b.waiting_are refl;
  opened = rw b.opens_are tt;
  index = rw b.index_is (no_cells places slots methods);
}

pub blank_stands : (s : Core) (places slots methods : ℕ) → IsBlank s places slots methods → StandsFor s [] × (places_of s ≡ places) × (slots_of s ≡ slots) × (methods_of s ≡ methods)
blank_stands s places slots methods b =
    let p : places_of s ≡ places = ap length b.places_are ∙ length-replicate places None in
    let t : slots_of s ≡ slots = ap (λ x. x.slots) b.table_is in
    let m : methods_of s ≡ methods = ap (λ x. x.methods) b.table_is in
    let worlds : start_world places slots methods ≡ start_world (places_of s) (slots_of s) (methods_of s) =
    ap (λ n. start_world n slots methods) (sym p) ∙ (ap (λ n. start_world (places_of s) n methods) (sym t) ∙ ap (λ n. start_world (places_of s) (slots_of s) n) (sym m)) in
    (subst (λ w. Matches s w) worlds (blank_matches s places slots methods b), p, t, m)
