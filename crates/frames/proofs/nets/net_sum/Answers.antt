use Rattle.std.proofs.Common.{◌≡◌, ◌+◌, ◌∙◌, ap, subst, cond, eqb, true, false, drop, get_or, ◌∷◌, pos, ◌+ℤ◌, arith}
use Rattle.std.proofs.lemmas.Int.{ints}
use Rattle.std.proofs.lemmas.Bool.Decides.{nat_tests}
use Rattle.std.proofs.lemmas.List.{get_or_default}
use Rattle.frames.specs.declared.Change.{Change}
use Rattle.frames.specs.Nets.{net_sum, AreSmall}
use Rattle.frames.proofs.Settling.{drop_next}
use Rattle.frames.proofs.nets.net_sum.Goals.{then-net-serial, else-net-serial}
use Rattle.frames.proofs.nets.net_sum.Goals as goal

pub loop-net-preserved : goal.loop-net-preserved
loop-net-preserved c = elim c.if-net-serial.branch [
  | then-net-serial w ↦ (
      let d : Change = record { code = record { slot = 0; serial = 0 }; by = pos 0 } in
      let i = c.loop-net.net-index in
      let x : Change = get_or c.args.nets.now i d in
      let e : drop i c.args.nets.now ≡ x ∷ drop (i + 1) c.args.nets.now = drop_next i c.args.nets.now d c.loop-net-test.true in
      let small : AreSmall (x ∷ drop (i + 1) c.args.nets.now) = subst AreSmall e c.loop-net.invariant.3 in
      let sum = ap (net_sum c.args.serial) e in
      let low = small.0.low in
      let high = small.0.high in
      let inv = c.loop-net.invariant in
      let is = w.sum-is in
      let old = c.loop-net.sum-is in
      let taken : c.change-net.result ≡ x = c.change-net.ensures ∙ (c.net-item.is ∙ get_or_default c.args.nets.now i c.net-item.result d c.loop-net-test.true) in
      let same_serial : c.change-net.result.code.serial ≡ x.code.serial = ap (λ (e : Change). e.code.serial) taken in
      let same_by : c.change-net.result.by ≡ x.by = ap (λ (e : Change). e.by) taken in
      let b : eqb x.code.serial c.args.serial ≡ true = grind (arith, nat_tests) in
      let more : net_sum c.args.serial (drop i c.args.nets.now) ≡ x.by +ℤ net_sum c.args.serial (drop (i + 1) c.args.nets.now) = sum ∙ ap (λ t. cond t x.by (pos 0) +ℤ net_sum c.args.serial (drop (i + 1) c.args.nets.now)) b in
      let s0 = inv.0 in let s1 = inv.1 in let s2 = inv.2 in
      let few = inv.4 in
      (omega (arith, ints), omega (arith, ints), omega (arith, ints), small.1, inv.4))
  | else-net-serial w ↦ (
      let d : Change = record { code = record { slot = 0; serial = 0 }; by = pos 0 } in
      let i = c.loop-net.net-index in
      let x : Change = get_or c.args.nets.now i d in
      let e : drop i c.args.nets.now ≡ x ∷ drop (i + 1) c.args.nets.now = drop_next i c.args.nets.now d c.loop-net-test.true in
      let small : AreSmall (x ∷ drop (i + 1) c.args.nets.now) = subst AreSmall e c.loop-net.invariant.3 in
      let sum = ap (net_sum c.args.serial) e in
      let low = small.0.low in
      let high = small.0.high in
      let inv = c.loop-net.invariant in
      let is = w.sum-is in
      let old = c.loop-net.sum-is in
      let taken : c.change-net.result ≡ x = c.change-net.ensures ∙ (c.net-item.is ∙ get_or_default c.args.nets.now i c.net-item.result d c.loop-net-test.true) in
      let same_serial : c.change-net.result.code.serial ≡ x.code.serial = ap (λ (e : Change). e.code.serial) taken in
      let same_by : c.change-net.result.by ≡ x.by = ap (λ (e : Change). e.by) taken in
      let b : eqb x.code.serial c.args.serial ≡ false = grind (arith, nat_tests) in
      let more : net_sum c.args.serial (drop i c.args.nets.now) ≡ pos 0 +ℤ net_sum c.args.serial (drop (i + 1) c.args.nets.now) = sum ∙ ap (λ t. cond t x.by (pos 0) +ℤ net_sum c.args.serial (drop (i + 1) c.args.nets.now)) b in
      let s0 = inv.0 in let s1 = inv.1 in let s2 = inv.2 in
      let few = inv.4 in
      (omega (arith, ints), omega (arith, ints), omega (arith, ints), small.1, inv.4))
]
