-- The exit of a thread, and the answer to a Stack.
use Rattle.std.proofs.Common.{◌≡◌, ◌∙◌, sym, ap, refl, ℕ, zero, suc, Bool, true, false, not, ◌||◌, ◌==◌, List, [], ◌∷◌, Option, Some, None, Result, Ok, Err, length, arith}
use Rattle.std.specs.Prelude.{slice_get, slice_set, sum_by, IfOk, OnErr}
use Rattle.std.specs.List.{list_any}
use Rattle.std.proofs.lemmas.List.Sums.{sum_by-cons}
use Rattle.std.proofs.lemmas.Option.{slice_get_within}
use Rattle.std.specs.declared.alloc.AllocError.{AllocError}
use Rattle.frames.specs.declared.CodeId.{CodeId}
use Rattle.frames.specs.declared.Frame.{Frame}
use Rattle.frames.specs.Stack.{act}
use Rattle.operations.specs.Names.{is_empty}
use Rattle.method_table.specs.declared.Code.{Code}
use Rattle.method_table.specs.Codes.{id_of}
use Rattle.thread_state.specs.declared.State.TheVariants.{Vacant}
use Rattle.system.specs.declared.events.Act.TheVariants.{Exit, Stack}
use Rattle.system.specs.declared.events.Event.{Event}
use Rattle.system.specs.declared.events.Event.TheVariants as event
use Rattle.system.specs.declared.answers.Answer.{Answer}
use Rattle.system.specs.declared.answers.Answer.TheVariants as answer
use Rattle.system.specs.declared.answers.Refusal.{Refusal}
use Rattle.system.specs.declared.answers.Refusal.TheVariants.{NoSuchPlace, Illegal, StackNotEmpty, Unpublished}
use Rattle.system.specs.declared.thread.Thread.{Thread as Kept}
use Rattle.system.specs.declared.keeping.Core.{Core}
use Rattle.system.specs.Verdict.{accepted}
use Rattle.system.specs.Log.{Entry}
use Rattle.system.specs.Threads.{Thread, part, is_settled, is_publishing}
use Rattle.system.specs.World.{World, threads, part_at}
use Rattle.system.specs.Places.{becomes, leaves, here}
use Rattle.system.specs.Step.{outcome, lands, with_place}
use Rattle.system.specs.Facts.{IsSound}
use Rattle.system.specs.Memory.{Accepts}
use Rattle.system.specs.Kept.Acts.{SaysExit}
use Rattle.system.specs.Kept.Places.{DidExit, DidLeave, LeftUnless, frames_at, is_taken}
use Rattle.system.specs.Stands.{Matches, SameAt, DoesIn, Does, walk_of}
use Rattle.system.proofs.Cells.{cells_over}
use Rattle.system.proofs.Outcomes.{seated}
use Rattle.system.proofs.Frames.{part_settled}
use Rattle.system.proofs.Logs.{IsQuiet, moments_next, records_next, opened_over, quiet_names, quiet_moment, quiet_operations}
use Rattle.system.proofs.KeptOfThread.{poll_here}
use Rattle.system.proofs.AfterAct.{SameRest, places_set, length_set, seated_matches}
use Rattle.system.proofs.ByAct.{act_quiet, act_elsewhere, refused_in, timed}
use Rattle.system.proofs.PlainActs.{nowhere, vacant, seat, at_place, accepted_in, here_yes}
use Rattle.system.proofs.AddedMarks.{unless_yes}

-- a thread without counts leaves the sums unchanged
walk_empty : (places : List (Option Thread)) (p : ℕ) (t : Thread) (code : CodeId) → slice_get places p ≡ Some (Some t) → part code t ≡ 0 → sum_by (part_at code) (slice_set places p None) ≡ sum_by (part_at code) places
walk_empty [] p t code e none = cc
walk_empty (o ∷ os) zero t code e none =
    let is : part_at code o ≡ part code t = ap (part_at code) (let k : o ≡ Some t = cc in k) in
    omega (arith, sum_by-cons (part_at code) None os, sum_by-cons (part_at code) o os, is, none)
walk_empty (o ∷ os) (suc p) t code e none = omega (arith, sum_by-cons (part_at code) o (slice_set os p None), sum_by-cons (part_at code) o os, walk_empty os p t code e none)

walk_without : (w : World) (p : ℕ) (t : Thread) (e : Event) (a : Answer) (o : Option Code) → slice_get w.places p ≡ Some (Some t) → ((code : CodeId) → part code t ≡ 0) → walk_of (seated w p None e a) o ≡ walk_of w o
walk_without w p t e a None there none = refl
walk_without w p t e a (Some code) there none = walk_empty w.places p t (id_of code) there (none (id_of code))

or_right : (a b : Bool) → b ≡ true → a || b ≡ true
or_right true b h = refl
or_right false b h = h

-- a thread that lives after an exit lived before
live_without : (name : ℕ) (places : List (Option Thread)) (p : ℕ) → list_any (λ (x : Thread). x.name == name) (threads (slice_set places p None)) ≡ true → list_any (λ (x : Thread). x.name == name) (threads places) ≡ true
live_without name [] p h = h
live_without name (None ∷ os) zero h = h
live_without name (Some x ∷ os) zero h = or_right (x.name == name) (list_any (λ (y : Thread). y.name == name) (threads os)) h
live_without name (None ∷ os) (suc p) h = live_without name os p h
live_without name (Some x ∷ os) (suc p) h = by (x.name == name) h (live_without name os p)
  where
    by : (b : Bool) → b || list_any (λ (y : Thread). y.name == name) (threads (slice_set os p None)) ≡ true → (list_any (λ (y : Thread). y.name == name) (threads (slice_set os p None)) ≡ true → list_any (λ (y : Thread). y.name == name) (threads os) ≡ true) → b || list_any (λ (y : Thread). y.name == name) (threads os) ≡ true
    by true k rest = refl
    by false k rest = rest k

no_frames : (s : List Frame) (code : CodeId) → is_empty s ≡ true → act code s ≡ 0
no_frames [] code h = refl
no_frames (f ∷ fs) code h = cc

-- a thread that exits has no counts
leaves_none : (w : World) (t : Thread) (a : Answer) → here w Exit t ≡ accepted leaves a → (code : CodeId) → part code t ≡ 0
leaves_none w t a h code =
    let one = unless_yes (is_empty t.stack) StackNotEmpty _ leaves a (here_yes w Exit t leaves a h) in
    let two = unless_yes (is_settled t) Unpublished _ leaves a one.1 in
    part_settled code t two.0 ∙ no_frames t.stack code one.0

left_matches : (s new : Core) (w : World) (p : ℕ) (kept : Kept) (t : Thread) (a : Answer) → Matches s w → SameRest s new → new.places.items ≡ slice_set s.places.items p None → slice_get w.places p ≡ Some (Some t) → ((code : CodeId) → part code t ≡ 0) → Matches new (seated w p None (event.At p Exit) a)
left_matches s new w p kept t a m rest places there none =
    let entry : Entry = record { event = event.At p Exit; answer = a } in
    let v : World = seated w p None (event.At p Exit) a in
    let q : IsQuiet entry = act_quiet p Exit a in
    record {
      slots = ap (λ tb. tb.slots) rest.table ∙ m.slots;
      methods = ap (λ tb. tb.methods) rest.table ∙ m.methods;
      codes = ap (λ tb. tb.codes) rest.table ∙ m.codes;
      places = places_set s.places.items new.places.items w v p None None m.places places refl (slice_get_within w.places p (Some t) there)
          (λ q other x differ at same. record { thread = same.thread; marks = same.marks; moments = moments_next q entry w.log other.moments (act_elsewhere p q Exit a differ) same.moments }) tt;
      records = rw rest.records (records_next s.records.items w v entry q refl refl refl (length_set w.places p None) m.records);
      names = rest.names ∙ (m.names ∙ sym (quiet_names entry w.log q));
      moment_is = rest.moment ∙ (m.moment_is ∙ sym (quiet_moment entry w.log q));
      numbers = ap (λ r. r.numbers) rest.requests ∙ (m.numbers ∙ sym (quiet_operations entry w.log q));
      waiting = rw rest.requests m.waiting;
      opened = rw rest.requests (opened_over s.requests.opens w.requests.opened w v (omega (arith, quiet_names entry w.log q)) (λ name lives. live_without name w.places p lives) m.opened);
      index = rw rest.index (cells_over s.index w v refl refl (λ o. walk_without w p t (event.At p Exit) a o there none) m.index);
    }

by_refusal : (s new : Core) (w : World) (p : ℕ) (kept : Kept) (t : Thread) (said : Answer) (refusal : Option Refusal) → Matches s w → SameRest s new → slice_get w.places p ≡ Some (Some t) → SameAt w p kept t → SaysExit (here w Exit t) t refusal → LeftUnless p kept s.places.items new.places.items refusal said → DoesIn (event.At p Exit) said new w
by_refusal s new w p kept t said (Some r) m rest there same says left = refused_in s new w (event.At p Exit) r said rest left.1 m (rw there (ap (lands w p) says)) left.0
by_refusal s new w p kept t said None m rest there same says left =
    accepted_in new w (event.At p Exit) (with_place w p None) (answer.Exited t.name) said (rw there (ap (lands w p) says)) (left.0 ∙ ap answer.Exited same.thread.name)
    (left_matches s new w p kept t (answer.Exited t.name) m rest left.1 there (leaves_none w t (answer.Exited t.name) says))

exited : (s new : Core) (p : ℕ) (said : Answer) (w : World) → Matches s w → IsSound w → SameRest s new → DidExit p s.places.items new.places.items said → DoesIn (event.At p Exit) said new w
exited s new p said w m sound rest did = elim (at_place s w p m) [
  | nowhere e x ↦ (let d = rw e at did in refused_in s new w (event.At p Exit) NoSuchPlace said rest d.1 m (rw x refl) d.0)
  | vacant e x ↦ (let d = rw e at did in refused_in s new w (event.At p Exit) (Illegal Vacant) said rest d.1 m (rw x refl) d.0)
  | seat kept t e x same ↦ (
      let d : DidLeave p (Some (Some kept)) s.places.items new.places.items said = rw e at did in
      by_refusal s new w p kept t said d.0 m rest x same (d.1 w t same.thread (poll_here w p kept t same)) d.2)
]

left_length : (p : ℕ) (kept : Kept) (old new : List (Option Kept)) (refusal : Option Refusal) (said : Answer) → LeftUnless p kept old new refusal said → length new ≡ length old
left_length p kept old new None said h = ap length h.1 ∙ length_set old p None
left_length p kept old new (Some r) said h = ap length h.1

exit_length : (p : ℕ) (o : Option (Option Kept)) (old new : List (Option Kept)) (said : Answer) → DidLeave p o old new said → length new ≡ length old
exit_length p None old new said d = ap length d.1
exit_length p (Some None) old new said d = ap length d.1
exit_length p (Some (Some kept)) old new said d = left_length p kept old new d.0 said d.2

pub exit_does : (s new : Core) (p : ℕ) (said : Answer) → SameRest s new → DidExit p s.places.items new.places.items said → Does (event.At p Exit) s said new
exit_does s new p said rest did = record {
  each = λ w sound m. exited s new p said w m sound rest did;
  sizes = record {
    places = exit_length p (slice_get s.places.items p) s.places.items new.places.items said did;
    slots = ap (λ tb. tb.slots) rest.table;
    methods = ap (λ tb. tb.methods) rest.table;
  };
}

-- the frames at a place
or_true : (b : Bool) → b || true ≡ true
or_true true = refl
or_true false = refl

set_back : {A : Type 0} (xs : List A) (i : ℕ) (x : A) → slice_get xs i ≡ Some x → xs ≡ slice_set xs i x
set_back [] i x h = refl
set_back (y ∷ ys) zero x h = (let is : y ≡ x = cc in ap (λ z. z ∷ ys) is)
set_back (y ∷ ys) (suc i) x h = ap (λ zs. y ∷ zs) (set_back ys i x h)

shows_here : (w : World) (t : Thread) → here w Stack t ≡ accepted (becomes t) (answer.Frames t.stack)
shows_here w t = rw (or_true (not (is_publishing t))) refl

same_rest : (s : Core) → SameRest s s
same_rest s = record { table = refl; records = refl; index = refl; names = refl; moment = refl; requests = refl }

shown : (s : Core) (w : World) (p : ℕ) (said : Answer) → Matches s w → said ≡ frames_at (slice_get s.places.items p) → DoesIn (event.At p Stack) said s w
shown s w p said m says = elim (at_place s w p m) [
  | nowhere e x ↦ refused_in s s w (event.At p Stack) NoSuchPlace said (same_rest s) refl m (rw x refl) (says ∙ ap frames_at e)
  | vacant e x ↦ refused_in s s w (event.At p Stack) (Illegal Vacant) said (same_rest s) refl m (rw x refl) (says ∙ ap frames_at e)
  | seat kept t e x same ↦ accepted_in s w (event.At p Stack) (with_place w p (Some t)) (answer.Frames t.stack) said (rw x (ap (lands w p) (shows_here w t)))
      (says ∙ (ap frames_at e ∙ ap answer.Frames same.thread.image.frames))
      (seated_matches s s w p kept kept t t (event.At p Stack) (answer.Frames t.stack) m (record {
        rest = same_rest s;
        places = set_back s.places.items p (Some kept) e;
        there = x;
        thread = same.thread;
        name = refl;
        marks = same.marks;
        moments = timed p s.moment Stack (answer.Frames t.stack) kept.moments w.log m.moment_is same.moments;
        parts = λ code. refl;
        quiet = act_quiet p Stack (answer.Frames t.stack);
        elsewhere = λ q differ. act_elsewhere p q Stack (answer.Frames t.stack) differ;
      }))
]

pub stack_does : (s : Core) (p : ℕ) (result : Result Answer AllocError) → IfOk result (λ said. said ≡ frames_at (slice_get s.places.items p)) → IfOk result (λ said. Does (event.At p Stack) s said s)
stack_does s p (Ok said) says = record { each = λ w sound m. shown s w p said m says; sizes = record { places = refl; slots = refl; methods = refl } }
stack_does s p (Err e) says = tt

pub may_show : (s : Core) (p : ℕ) → is_taken (slice_get s.places.items p) ≡ true → Accepts s (event.At p Stack)
may_show s p taken = λ w sound m. elim (at_place s w p m) [
  | nowhere e x ↦ (let bad : false ≡ true = sym (ap is_taken e) ∙ taken in cc)
  | vacant e x ↦ (let bad : false ≡ true = sym (ap is_taken e) ∙ taken in cc)
  | seat kept t e x same ↦ (let goes : outcome w (event.At p Stack) ≡ accepted (with_place w p (Some t)) (answer.Frames t.stack) = rw x (ap (lands w p) (shows_here w t)) in rw goes refl)
]

pub stack_may : (s : Core) (p : ℕ) (result : Result Answer AllocError) → OnErr result (is_taken (slice_get s.places.items p) ≡ true) → OnErr result (Accepts s (event.At p Stack))
stack_may s p (Ok said) taken = tt
stack_may s p (Err e) taken = may_show s p taken
