-- The search skips taken slots only.
use Rattle.std.proofs.Common.{◌≡◌, ℕ, ◌<◌, Bool, true, not, sym, arith, refl, inl, inr, ◌∙◌, length, List, get_or}
use Rattle.std.specs.Prelude.{slice_get}
use Rattle.std.proofs.lemmas.Bool.{cases_eq}
use Rattle.std.proofs.lemmas.Option.{slice_get-get_or, slice_get_past}
use Rattle.method_table.specs.declared.Code.{Code}
use Rattle.method_table.specs.Codes.{takes_slot}
use Rattle.method_table.specs.Kept.{holds}
use Rattle.method_table.proofs.Searches.{below_least, below_none}
use Rattle.method_table.proofs.table.least_free.Goals as goal

held : (records : List Code) (slot : ℕ) (d : Code) (b : Bool) → slot < length records → b ≡ takes_slot (get_or records slot d).state → holds (slice_get records slot) ≡ b
held records slot d b l e = rw (slice_get-get_or records slot d l) (sym e)

pub returns-then-not-takes_slot : goal.returns-then-not-takes_slot
returns-then-not-takes_slot c =
    let free = held c.args.records.now c.loop-slot.slot _ c.takes_slot.result c.loop-slot-test.true c.takes_slot.ensures ∙ c.if-not-takes_slot.true in
    sym (below_least (λ slot. not (holds (slice_get c.args.records.now slot))) c.args.slots c.loop-slot.slot (omega (arith, c.requires.few)) (rw free refl) (λ j l. rw (c.loop-slot.invariant j l) refl))

pub loop-slot-preserved : goal.loop-slot-preserved
loop-slot-preserved c k l =
    let here = held c.args.records.now c.loop-slot.slot _ c.takes_slot.result c.loop-slot-test.true c.takes_slot.ensures ∙ c.if-not-takes_slot.false in
    elim (cases_eq k c.loop-slot.slot) as (λ _. holds (slice_get c.args.records.now k) ≡ true) [
      | inl same ↦ rw same here
      | inr other ↦ c.loop-slot.invariant k (grind arith)
    ]

pub returns-then-records-slots : goal.returns-then-records-slots
returns-then-records-slots c =
    let none = slice_get_past c.args.records.now (length c.args.records.now) (omega arith) in
    sym (below_least (λ slot. not (holds (slice_get c.args.records.now slot))) c.args.slots (length c.args.records.now) c.if-records-slots.true (rw none refl) (λ j l. rw (c.loop-slot.invariant j (omega (arith, c.loop-slot-test.false))) refl))

pub returns-else-records-slots : goal.returns-else-records-slots
returns-else-records-slots c =
    sym (below_none (λ slot. not (holds (slice_get c.args.records.now slot))) c.args.slots (λ j l. rw (c.loop-slot.invariant j (omega (arith, c.loop-slot-test.false, c.if-records-slots.false))) refl))
