-- No frame of a zombie or freed code stands on a stack; and covered is a comparison of moments.
use Rattle.std.proofs.Common.{◌≡◌, ℕ, ◌<◌, Bool, true, false, cond, List, [], ◌∷◌, Option, Some, None, sym, refl, ap, ◌∙◌, subst, arith}
use Rattle.std.specs.Prelude.{not, ◌||◌, ◌&&◌, ◌==◌, nat_lt, slice_get}
use Rattle.std.proofs.lemmas.Bool.{false≢true, ne_eqb, eq-eqb}
use mathlib.Core.Logic.{dite}
use native.Mathlib.Decide.{ℕ_discrete}
use Rattle.method_table.specs.declared.Code.{Code}
use Rattle.method_table.specs.declared.CodeState.{CodeState}
use Rattle.method_table.specs.declared.CodeState.TheVariants.{InUse, NotEntrant, Zombie, Freed}
use Rattle.system.specs.declared.events.Event.{Event}
use Rattle.frames.specs.Stack.{act}
use Rattle.method_table.specs.Codes.{id_of, is_in_use, code_of}
use Rattle.system.specs.Threads.{Thread}
use Rattle.system.specs.Log.{is_published_since}
use Rattle.system.specs.World.{World, start_world, thread_at, covered, is_covered_at}
use Rattle.system.specs.Runs.{after, world_after}
use Rattle.system.specs.Facts.{may_stand, TableIsSound}
use Rattle.system.specs.Laws.{is_retired, NoRetiredCodeStands, RetiredCodesStandNowhere}
use Rattle.system.specs.Moments.{invalidated, left_at, ended, published_at, IsCoveredByMoments, CoveredIsByMoments}
use Rattle.system.proofs.CaseOfEvent.{Simple, by_cases}
use Rattle.system.proofs.Twice.{in_steps}
use Rattle.system.proofs.Lists.{find_place, find_none_at}
use Rattle.system.proofs.Seats.{there_of}
use Rattle.system.proofs.Table.{code_serial}
use Rattle.system.proofs.Sound.{IsKept, kept, kept_start, kept_after}
use Rattle.system.proofs.Moments.{ended_at, end_is}
use Rattle.system.proofs.ReclaimInvariant.{IsReclaimed}
use Rattle.system.proofs.ReclaimSteps.{reclaim_kept, reclaim_start, left_in, NamesKnown, names_known}

record AllIn (w : World) : Type 0 where
  kept_is : IsKept w
  named : NamesKnown w.log
  reclaim : IsReclaimed w.places w.codes w.log

all_simply : (w : World) (e : Event) → Simple w e → AllIn w → AllIn (after w e)
all_simply w e simple h = record {
  kept_is = kept w e h.kept_is;
  named = by_cases w (λ e a v. NamesKnown v.log) (names_known w h.named) e simple;
  reclaim = by_cases w (λ e a v. IsReclaimed v.places v.codes v.log) (reclaim_kept w h.kept_is.table h.named h.reclaim) e simple;
}

pub reclaimed_after : (w : World) (events : List Event) → IsKept w → NamesKnown w.log → IsReclaimed w.places w.codes w.log → IsReclaimed (world_after w events).places (world_after w events).codes (world_after w events).log
reclaimed_after w [] k n h = h
reclaimed_after w (e ∷ events) k n h =
    let r = in_steps AllIn (λ v a. a.kept_is.table) all_simply w e (record { kept_is = k; named = n; reclaim = h }) in
    reclaimed_after (after w e) events r.kept_is r.named r.reclaim

-- This holds in every reachable world.
pub reclaimed : (places slots methods : ℕ) (events : List Event)
    → IsReclaimed (world_after (start_world places slots methods) events).places (world_after (start_world places slots methods) events).codes (world_after (start_world places slots methods) events).log
reclaimed places slots methods events = reclaimed_after (start_world places slots methods) events (kept_start places slots methods) (λ name z. absurd (false≢true z)) (reclaim_start places)

-- The code at an index is the code of its serial.
pub code_at : (slots methods : ℕ) (codes : List Code) → TableIsSound slots methods codes → (i : ℕ) (k : Code) → slice_get codes i ≡ Some k → code_of codes k.serial ≡ Some k
code_at slots methods codes h i k x = by (code_of codes k.serial) refl
  where
    by : (o : Option Code) → code_of codes k.serial ≡ o → code_of codes k.serial ≡ Some k
    by None n = absurd (false≢true (sym (find_none_at (λ (y : Code). y.serial == k.serial) codes i k n x) ∙ eq-eqb k.serial k.serial refl))
    by (Some j) n =
        let place = find_place (λ (y : Code). y.serial == k.serial) codes j n in
        let a = h.serial_is i k x in let b = h.serial_is place.0 j place.1 in let same : j.serial ≡ k.serial = code_serial codes k.serial j n in
        let here : place.0 ≡ i = omega arith in
        let both : Some j ≡ Some k = sym (subst (λ m. slice_get codes m ≡ Some j) here place.1) ∙ x in n ∙ both

no_stand : (s : CodeState) → is_retired s ≡ true → may_stand s ≡ false
no_stand Zombie h = refl
no_stand Freed h = refl
no_stand InUse h = absurd (false≢true h)
no_stand NotEntrant h = absurd (false≢true h)

pub none_stands : (w : World) → TableIsSound w.slots w.methods w.codes → IsReclaimed w.places w.codes w.log → NoRetiredCodeStands w
none_stands w table h position place k t x old there = dite (ℕ_discrete (act (id_of k) t.stack) 0) (λ e. e) (λ ne.
    let m = h.seats place t (there_of w place t there) in
    let l = m.live (id_of k) (omega arith) in
    let both : Some l.0 ≡ Some k = sym l.1 ∙ code_at w.slots w.methods w.codes table position k x in
    let same : l.0 ≡ k = cc in
    absurd (false≢true (sym (no_stand k.state old) ∙ (ap (λ (y : Code). may_stand y.state) (sym same) ∙ l.3))))

pub retired_stand_nowhere : RetiredCodesStandNowhere
retired_stand_nowhere places slots methods events =
    let k = kept_after (start_world places slots methods) events (kept_start places slots methods) in
    none_stands (world_after (start_world places slots methods) events) k.table (reclaimed places slots methods events)

-- Covered is the comparison of moments.
pub covered_is : (w : World) → IsReclaimed w.places w.codes w.log → IsCoveredByMoments w
covered_is w h s p k is used = by (thread_at w p) refl
  where
    gone : invalidated s w.log ≡ true
    gone = left_in w.places w.codes w.log s k h is used

    since : (name : ℕ) → is_published_since w.log s p name ≡ nat_lt (left_at s w.log) (ended_at p name w.log)
    since name = end_is s p name w.log ∙ ap (λ b. b && nat_lt (left_at s w.log) (ended_at p name w.log)) gone

    two : (t : Thread) (b : Bool) → ended_at p t.name w.log ≡ ended p w.log → (b ≡ true → 0 < ended_at p t.name w.log)
        → (not b || is_published_since w.log s p t.name) ≡ ((cond b (ended p w.log) 0 == 0) || nat_lt (left_at s w.log) (cond b (ended p w.log) 0))
    two t true same x = let some = x refl in let a : (ended p w.log == 0) ≡ false = ne_eqb (ended p w.log) 0 (omega arith) in since t.name ∙ (rw a (ap (nat_lt (left_at s w.log)) same))
    two t false same x = refl

    by : (o : Option Thread) → thread_at w p ≡ o → is_covered_at w.log s p o ≡ ((published_at w.log p o == 0) || nat_lt (left_at s w.log) (published_at w.log p o))
    by None x = refl
    by (Some t) x = let m = h.seats p t (there_of w p t x) in two t t.published m.ended_is m.closed

-- A place is covered by its thread's last ended publication.
pub covered_where : (w : World) → IsReclaimed w.places w.codes w.log → (s p : ℕ) (k : Code) (t : Thread) → code_of w.codes s ≡ Some k → is_in_use k.state ≡ false → thread_at w p ≡ Some t
    → covered w p s ≡ (not t.published || nat_lt (left_at s w.log) (ended p w.log))
covered_where w h s p k t is used there =
    let m = h.seats p t (there_of w p t there) in
    let gone = left_in w.places w.codes w.log s k h is used in
    ap (λ o. is_covered_at w.log s p o) there
    ∙ ap (λ b. not t.published || b) (end_is s p t.name w.log ∙ (ap (λ b. b && nat_lt (left_at s w.log) (ended_at p t.name w.log)) gone ∙ ap (nat_lt (left_at s w.log)) m.ended_is))

pub covered_is_by_moments : CoveredIsByMoments
covered_is_by_moments places slots methods events = covered_is (world_after (start_world places slots methods) events) (reclaimed places slots methods events)
