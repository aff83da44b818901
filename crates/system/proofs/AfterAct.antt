-- After an act at a place the system matches the world.
use Rattle.std.proofs.Common.{◌≡◌, ◌≢◌, ◌∙◌, ◌<◌, sym, ap, refl, subst, ℕ, zero, suc, ◌||◌, ◌==◌, List, [], ◌∷◌, Option, Some, None, length, arith}
use Rattle.std.specs.Prelude.{slice_get, slice_set, sum_by}
use Rattle.std.proofs.lemmas.List.Sums.{sum_by-cons}
use Rattle.std.proofs.lemmas.Option.{slice_get_within}
use mathlib.Core.Logic.{dite}
use native.Mathlib.Decide.{ℕ_discrete}
use Rattle.frames.specs.declared.CodeId.{CodeId}
use Rattle.method_table.specs.declared.Code.{Code}
use Rattle.method_table.specs.Codes.{id_of}
use Rattle.system.specs.declared.events.Event.{Event}
use Rattle.system.specs.declared.answers.Answer.{Answer}
use Rattle.system.specs.declared.thread.Thread.{Thread as Kept}
use Rattle.system.specs.declared.keeping.Core.{Core}
use Rattle.system.specs.Log.{Entry}
use Rattle.system.specs.Threads.{Thread, part}
use Rattle.system.specs.World.{World, thread_at, found, threads, part_at}
use Rattle.system.specs.Marking.{SameThread}
use Rattle.system.specs.Marking.{SameMarks}
use Rattle.system.specs.Stands.{Matches, SamePlace, SamePlaces, SameAt, SameMoments, kept_at, held_at, walk_of, SameCells}
use Rattle.system.proofs.Outcomes.{seated}
use Rattle.system.proofs.Cells.{cells_over}
use Rattle.system.proofs.Seats.{get_set_same, get_set_other}
use Rattle.system.proofs.Logs.{IsQuiet, IsElsewhere, moments_next, place_over, records_next, opened_over, quiet_names, quiet_moment, quiet_operations}

pub length_set : {A : Type 0} (xs : List A) (i : ℕ) (x : A) → length (slice_set xs i x) ≡ length xs
length_set [] i x = refl
length_set (y ∷ ys) zero x = refl
length_set (y ∷ ys) (suc i) x = ap suc (length_set ys i x)

-- the live names are unchanged if the thread keeps its name
any_seat : (name : ℕ) (places : List (Option Thread)) (p : ℕ) (t u : Thread) → slice_get places p ≡ Some (Some t) → u.name ≡ t.name
    → Rattle.std.specs.List.list_any (λ (x : Thread). x.name == name) (threads (slice_set places p (Some u))) ≡ Rattle.std.specs.List.list_any (λ (x : Thread). x.name == name) (threads places)
any_seat name [] p t u e same = cc
any_seat name (o ∷ os) zero t u e same = (let is : o ≡ Some t = cc in rw (is, same) refl)
any_seat name (None ∷ os) (suc p) t u e same = any_seat name os p t u e same
any_seat name (Some x ∷ os) (suc p) t u e same = ap (λ b. (x.name == name) || b) (any_seat name os p t u e same)

-- a code's sum over the places is unchanged if the thread's count is
pub walk_seat : (places : List (Option Thread)) (p : ℕ) (t u : Thread) (code : CodeId) → slice_get places p ≡ Some (Some t) → part code u ≡ part code t → sum_by (part_at code) (slice_set places p (Some u)) ≡ sum_by (part_at code) places
walk_seat [] p t u code e same = cc
walk_seat (o ∷ os) zero t u code e same =
    let is : part_at code o ≡ part code t = ap (part_at code) (let k : o ≡ Some t = cc in k) in
    omega (arith, sum_by-cons (part_at code) (Some u) os, sum_by-cons (part_at code) o os, is, same)
walk_seat (o ∷ os) (suc p) t u code e same = omega (arith, sum_by-cons (part_at code) o (slice_set os p (Some u)), sum_by-cons (part_at code) o os, walk_seat os p t u code e same)

pub walk_same : (w : World) (p : ℕ) (t u : Thread) (e : Event) (a : Answer) (o : Option Code) → slice_get w.places p ≡ Some (Some t) → ((code : CodeId) → part code u ≡ part code t) → walk_of (seated w p (Some u) e a) o ≡ walk_of w o
walk_same w p t u e a None there same = refl
walk_same w p t u e a (Some code) there same = walk_seat w.places p t u (id_of code) there (same (id_of code))

-- a system with other places
pub record SameRest (s new : Core) : Type 0 where
  pub table : new.table ≡ s.table
  pub records : new.records ≡ s.records
  pub index : new.index ≡ s.index
  pub names : new.names ≡ s.names
  pub moment : new.moment ≡ s.moment
  pub requests : new.requests ≡ s.requests

-- the thread at a place after a place was set
kept_other : (ks : List (Option Kept)) (p q : ℕ) (k : Option Kept) → q ≢ p → kept_at (slice_set ks p k) q ≡ kept_at ks q
kept_other ks p q k differ = ap held_at (get_set_other ks p q k differ)

kept_same : (ks : List (Option Kept)) (p : ℕ) (k : Option Kept) → p < length ks → kept_at (slice_set ks p k) p ≡ k
kept_same ks p k low = ap held_at (get_set_same ks p k low)

thread_other : (ts : List (Option Thread)) (p q : ℕ) (t : Option Thread) → q ≢ p → found (slice_get (slice_set ts p t) q) ≡ found (slice_get ts q)
thread_other ts p q t differ = ap found (get_set_other ts p q t differ)

thread_same : (ts : List (Option Thread)) (p : ℕ) (t : Option Thread) → p < length ts → found (slice_get (slice_set ts p t) p) ≡ t
thread_same ts p t low = ap found (get_set_same ts p t low)

-- all places match after an event at one of them
pub places_set : (ks new : List (Option Kept)) (w v : World) (p : ℕ) (k : Option Kept) (t : Option Thread) → SamePlaces ks w → new ≡ slice_set ks p k → v.places ≡ slice_set w.places p t → p < length w.places
    → ((q : ℕ) (kept : Kept) (u : Thread) → q ≢ p → thread_at w q ≡ Some u → SameAt w q kept u → SameAt v q kept u) → SamePlace v p k t → SamePlaces new v
places_set ks new w v p k t same is places low others own = record {
  lengths = ap length is ∙ (length_set ks p k ∙ (same.lengths ∙ (sym (length_set w.places p t) ∙ ap length (sym places))));
  each = λ q. dite (ℕ_discrete q p)
      (λ here. (
      let kept_is : kept_at new p ≡ k = ap (λ xs. kept_at xs p) is ∙ kept_same ks p k (let e = same.lengths in omega (arith, e, low)) in
      let thread_is : thread_at v p ≡ t = ap (λ xs. found (slice_get xs p)) places ∙ thread_same w.places p t low in
      subst (λ n. SamePlace v n (kept_at new n) (thread_at v n)) (sym here) (rw (kept_is, thread_is) own)))
      (λ differ. (
      let kept_is : kept_at new q ≡ kept_at ks q = ap (λ xs. kept_at xs q) is ∙ kept_other ks p q k differ in
      let thread_is : thread_at v q ≡ thread_at w q = ap (λ xs. found (slice_get xs q)) places ∙ thread_other w.places p q t differ in
      rw (kept_is, thread_is) (place_over w v q (kept_at ks q) (thread_at w q) (λ kept u there h. others q kept u differ there h) (same.each q))));
}

-- a system with other places and counts
pub record SameOthers (s new : Core) : Type 0 where
  pub table : new.table ≡ s.table
  pub records : new.records ≡ s.records
  pub names : new.names ≡ s.names
  pub moment : new.moment ≡ s.moment
  pub requests : new.requests ≡ s.requests

-- the thread and the index after an act at its place
pub record Counts (s new : Core) (w : World) (p : ℕ) (kept after : Kept) (t u : Thread) (e : Event) (a : Answer) : Type 0 where
  pub rest : SameOthers s new
  pub places : new.places.items ≡ slice_set s.places.items p (Some after)
  pub there : slice_get w.places p ≡ Some (Some t)
  pub thread : SameThread after u
  pub name : u.name ≡ t.name
  pub marks : SameMarks after.marks w.requests u.name
  pub moments : SameMoments after.moments (record { event = e; answer = a } ∷ w.log) p
  pub index : SameCells new.index (seated w p (Some u) e a)
  pub quiet : IsQuiet (record { event = e; answer = a })
  pub elsewhere : (q : ℕ) → q ≢ p → IsElsewhere q (record { event = e; answer = a })

pub counted_matches : (s new : Core) (w : World) (p : ℕ) (kept after : Kept) (t u : Thread) (e : Event) (a : Answer) → Matches s w → Counts s new w p kept after t u e a → Matches new (seated w p (Some u) e a)
counted_matches s new w p kept after t u e a m k =
    let entry : Entry = record { event = e; answer = a } in
    let v : World = seated w p (Some u) e a in
    let low : p < length w.places = slice_get_within w.places p (Some t) k.there in
    record {
      slots = ap (λ tb. tb.slots) k.rest.table ∙ m.slots;
      methods = ap (λ tb. tb.methods) k.rest.table ∙ m.methods;
      codes = ap (λ tb. tb.codes) k.rest.table ∙ m.codes;
      places = places_set s.places.items new.places.items w v p (Some after) (Some u) m.places k.places refl low
          (λ q other x differ there same. record { thread = same.thread; marks = same.marks; moments = moments_next q entry w.log other.moments (k.elsewhere q differ) same.moments })
          (record { thread = k.thread; marks = k.marks; moments = k.moments });
      records = rw k.rest.records (records_next s.records.items w v entry k.quiet refl refl refl (length_set w.places p (Some u)) m.records);
      names = k.rest.names ∙ (m.names ∙ sym (quiet_names entry w.log k.quiet));
      moment_is = k.rest.moment ∙ (m.moment_is ∙ sym (quiet_moment entry w.log k.quiet));
      numbers = ap (λ r. r.numbers) k.rest.requests ∙ (m.numbers ∙ sym (quiet_operations entry w.log k.quiet));
      waiting = rw k.rest.requests m.waiting;
      opened = rw k.rest.requests (opened_over s.requests.opens w.requests.opened w v (omega (arith, quiet_names entry w.log k.quiet)) (λ name lives. sym (any_seat name w.places p t u k.there k.name) ∙ lives) m.opened);
      index = k.index;
    }

-- the thread after an act at its place that leaves the index unchanged
pub record Seats (s new : Core) (w : World) (p : ℕ) (kept after : Kept) (t u : Thread) (e : Event) (a : Answer) : Type 0 where
  pub rest : SameRest s new
  pub places : new.places.items ≡ slice_set s.places.items p (Some after)
  pub there : slice_get w.places p ≡ Some (Some t)
  pub thread : SameThread after u
  pub name : u.name ≡ t.name
  pub marks : SameMarks after.marks w.requests u.name
  pub moments : SameMoments after.moments (record { event = e; answer = a } ∷ w.log) p
  pub parts : (code : CodeId) → part code u ≡ part code t
  pub quiet : IsQuiet (record { event = e; answer = a })
  pub elsewhere : (q : ℕ) → q ≢ p → IsElsewhere q (record { event = e; answer = a })

pub seated_matches : (s new : Core) (w : World) (p : ℕ) (kept after : Kept) (t u : Thread) (e : Event) (a : Answer) → Matches s w → Seats s new w p kept after t u e a → Matches new (seated w p (Some u) e a)
seated_matches s new w p kept after t u e a m k = counted_matches s new w p kept after t u e a m (record {
  rest = record { table = k.rest.table; records = k.rest.records; names = k.rest.names; moment = k.rest.moment; requests = k.rest.requests };
  places = k.places;
  there = k.there;
  thread = k.thread;
  name = k.name;
  marks = k.marks;
  moments = k.moments;
  index = rw k.rest.index (cells_over s.index w (seated w p (Some u) e a) refl refl (λ o. walk_same w p t u e a o k.there k.parts) m.index);
  quiet = k.quiet;
  elsewhere = k.elsewhere;
})
