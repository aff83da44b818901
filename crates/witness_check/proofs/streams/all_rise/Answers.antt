use Rattle.std.proofs.Common.{◌≡◌, ◌≤◌, ◌∙◌, sym, false, length, ap, arith}
use Rattle.witness_check.specs.Streams.{starts_late, rise}
use Rattle.witness_check.proofs.Gets.{late_past, rise_stops}
use Rattle.witness_check.proofs.streams.all_rise.Goals as goal
use Rattle.witness_check.proofs.streams.all_rise.Goals.{then-stream-len-via-then-stream-len, then-stream-len-via-else-stream-len+then-not-starts_late}

pub loop-entry-init : goal.loop-entry-init
loop-entry-init c = ap (λ l. rise l c.args.calls.now) (c.in_ok-least.ensures.items_if_clones_equal (λ y e. e))

pub returns-then-stream-len : goal.returns-then-stream-len
returns-then-stream-len c =
    elim c.then-stream-len.branch [
      | then-stream-len-via-then-stream-len w ↦
          let past : length c.loop-entry.least.items ≤ c.entry-item.result.stream = omega (arith, c.loop-entry.least.ok.0) in
          sym (rise_stops c.loop-entry.least.items c.args.calls.now c.loop-entry.entry-index c.entry-item.result c.loop-entry-test.true c.entry-item.is (late_past c.loop-entry.least.items c.entry-item.result past))
          ∙ c.loop-entry.invariant
      | then-stream-len-via-else-stream-len+then-not-starts_late w ↦
          let late : starts_late c.loop-entry.least.items c.entry-item.result ≡ false = ap (λ l. starts_late l c.entry-item.result) (sym w.as_slice.ensures.value) ∙ sym w.starts_late.ensures ∙ w.if-not-starts_late.true in
          sym (rise_stops c.loop-entry.least.items c.args.calls.now c.loop-entry.entry-index c.entry-item.result c.loop-entry-test.true c.entry-item.is late)
          ∙ c.loop-entry.invariant
    ]
