use Rattle.std.proofs.Common.{◌≡◌, [], length, map, sym, subst, arith}
use Rattle.script.specs.Checks.{bodies_faults, script_faults}
use Rattle.script.specs.Layout.{IsRunnable}
use Rattle.script.proofs.MethodsSoFar.{method_view}
use Rattle.script.proofs.Runnable.{runnable, checked}
use Rattle.script.proofs.ScriptSoFar.{script_whole, length-bodies}
use Rattle.script.proofs.checking.check.Goals as goal

pub new-requires : goal.new-requires
new-requires c =
    let s = c.loop-number in
    let ms = c.args.script.now.methods.items in
    let whole = script_whole c.len-count.result ms s.number s.methods.items s.walk.place s.invariant (rw (← c.deref-method-items.ensures.value) c.loop-number-test.false) in
    let count : c.len-count.result ≡ length (map method_view ms) = omega (arith, c.len-count.ensures, c.args.script.now.methods.ok, length-bodies ms) in
    let clean : script_faults (map method_view ms) ≡ [] = subst (λ n. bodies_faults n 0 (map method_view ms) ≡ []) count whole.1 in
    subst IsRunnable (sym whole.0) (runnable (map method_view ms) clean)

pub returns-clause-checked : goal.returns-clause-checked
returns-clause-checked c =
    let s = c.loop-number in
    let ms = c.args.script.now.methods.items in
    let whole = script_whole c.len-count.result ms s.number s.methods.items s.walk.place s.invariant (rw (← c.deref-method-items.ensures.value) c.loop-number-test.false) in
    let count : c.len-count.result ≡ length (map method_view ms) = omega (arith, c.len-count.ensures, c.args.script.now.methods.ok, length-bodies ms) in
    let clean : script_faults (map method_view ms) ≡ [] = subst (λ n. bodies_faults n 0 (map method_view ms) ≡ []) count whole.1 in
    checked (map method_view ms) clean
