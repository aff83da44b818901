-- What is at a position, and past the end.
use Rattle.std.proofs.Common.{◌≡◌, ℕ, ◌<◌, ◌≤◌, ◌∙◌, zero, suc, sym, Bool, false, List, [], ◌∷◌, length, drop, get_or, Option, Some, None, refl, ap, cond, arith}
use Rattle.std.specs.Prelude.{slice_get, slice_set}
use Rattle.std.proofs.lemmas.Option.{slice_get_past, slice_get_read}
use Rattle.system.specs.declared.events.Event.{Event}
use Rattle.system.specs.declared.answers.Answer.{Answer}
use Rattle.call_log.specs.declared.entry.Entry.{Entry}
use Rattle.call_runs.specs.declared.stage.Stage.{Stage}
use Rattle.witness_check.specs.Streams.{starts_late, is_late, free_from, rise}
use Rattle.witness_check.specs.Walk.{Walked, stepped, stepped_by}

-- No call of a stream past the last starts late.
pub late_past : (least : List ℕ) (entry : Entry) → length least ≤ entry.stream → starts_late least entry ≡ false
late_past least entry h = ap (λ o. is_late o entry) (slice_get_past least entry.stream h)

-- The call and its stage are there.
pub step_there : (recorded : Bool) (calls : List Entry) (walk : Walked) (owner : ℕ) (event : Event) (said : Answer) (entry : Entry) (stage : Stage) → owner < length calls → entry ≡ get_or calls owner entry → owner < length walk.stages → stage ≡ get_or walk.stages owner stage → stepped recorded calls walk owner event said ≡ stepped_by (Some entry) (Some stage) recorded walk owner event said
step_there recorded calls walk owner event said entry stage below is there at_it =
    ap (λ o. stepped_by o (slice_get walk.stages owner) recorded walk owner event said) (slice_get_read calls (length calls) owner entry refl below is)
    ∙ ap (λ o. stepped_by (Some entry) o recorded walk owner event said) (slice_get_read walk.stages (length walk.stages) owner stage refl there at_it)

pub call_past : (recorded : Bool) (calls : List Entry) (walk : Walked) (owner : ℕ) (event : Event) (said : Answer) → length calls ≤ owner → stepped recorded calls walk owner event said ≡ None
call_past recorded calls walk owner event said past = ap (λ o. stepped_by o (slice_get walk.stages owner) recorded walk owner event said) (slice_get_past calls owner past)

nothing : (o : Option Entry) (recorded : Bool) (walk : Walked) (owner : ℕ) (event : Event) (said : Answer) → stepped_by o None recorded walk owner event said ≡ None
nothing None recorded walk owner event said = refl
nothing (Some entry) recorded walk owner event said = refl

pub stage_past : (recorded : Bool) (calls : List Entry) (walk : Walked) (owner : ℕ) (event : Event) (said : Answer) → length walk.stages ≤ owner → stepped recorded calls walk owner event said ≡ None
stage_past recorded calls walk owner event said past =
    ap (λ o. stepped_by (slice_get calls owner) o recorded walk owner event said) (slice_get_past walk.stages owner past)
    ∙ nothing (slice_get calls owner) recorded walk owner event said

-- A call that starts too early stops the rise.
pub rise_stops : (least : List ℕ) (calls : List Entry) (i : ℕ) (entry : Entry) → i < length calls → entry ≡ get_or calls i entry → starts_late least entry ≡ false → rise least (drop i calls) ≡ false
rise_stops least [] i entry below is late = absurd (omega (arith, below))
rise_stops least (e ∷ calls) zero entry below is late =
    ap (λ b. cond b (rise (slice_set least e.stream (free_from e.after)) calls) false) (ap (starts_late least) (sym is) ∙ late)
rise_stops least (e ∷ calls) (suc i) entry below is late = rise_stops least calls i entry (omega (arith, below)) is late
