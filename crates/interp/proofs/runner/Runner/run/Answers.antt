use Rattle.std.proofs.Common.{◌≡◌, ◌+◌, ◌-◌, ◌<◌, ◌≤◌, length, arith}
use Rattle.interp.proofs.Goings.{finishes, overflows, marks, ran_next}
use Rattle.interp.proofs.runner.Runner.run.Goals as goal

pub returns-in-Finished : goal.returns-in-Finished
returns-in-Finished g c = λ w h.
    let x = c.loop-mark.invariant.told w h in
    let fuel : length x.0 ≤ c.args.fuel = omega (arith, x.6) in
    (x.0, x.1, x.2, x.3, x.4, (x.5, finishes c.loop-mark.self x.1 c.ahead.result x.3 c.ahead.ensures.value c.in-Finished.is, fuel))

pub returns-in-Overflow : goal.returns-in-Overflow
returns-in-Overflow g c = λ w h.
    let x = c.loop-mark.invariant.told w h in
    let fuel : length x.0 ≤ c.args.fuel = omega (arith, x.6) in
    (x.0, x.1, x.2, x.3, x.4, (x.5, overflows c.loop-mark.self x.1 c.ahead.result x.3 c.ahead.ensures.value c.in-Overflow.is, fuel))

pub returns-then-left-eq0 : goal.returns-then-left-eq0
returns-then-left-eq0 g c = λ w h.
    let x = c.loop-mark.invariant.told w h in
    let fuel : length x.0 ≡ c.args.fuel = omega (arith, x.6, c.if-left-eq0.true) in
    let m = marks c.loop-mark.self x.1 c.ahead.result c.in-Made.mark c.in-Made.step x.3 c.ahead.ensures.value c.in-Made.is in
    (x.0, x.1, x.2, x.3, x.4, (x.5, fuel, (c.in-Made.mark, m.0, m.1)))

pub returns-in-Err : goal.returns-in-Err
returns-in-Err g c = λ w h.
    let x = c.loop-mark.invariant.told w h in
    let fuel : length x.0 < c.args.fuel = omega (arith, x.6, c.if-left-eq0.false) in
    let m = marks c.loop-mark.self x.1 c.ahead.result c.in-Made.mark c.in-Made.step x.3 c.ahead.ensures.value c.in-Made.is in
    (x.0, x.1, x.2, x.3, x.4, (c.loop-mark.steps, x.5, fuel, (c.in-Made.mark, m.0, m.1, c.in-Err.ensures.err)))

pub loop-mark-preserved : goal.loop-mark-preserved
loop-mark-preserved g c =
    let less : c.loop-mark.left - 1 + 1 ≡ c.loop-mark.left = omega (arith, c.if-left-eq0.false) in
    ran_next g.S.Steps.marked c.args.self.now c.args.steps.now c.args.fuel c.loop-mark.self c.loop-mark.steps c.loop-mark.left c.loop-mark.invariant
    c.advance.new.self c.mark.new.self (c.loop-mark.left - 1) c.ahead.result c.in-Made.mark c.in-Made.step
    c.ahead.ensures.value c.in-Made.is c.advance.ensures.code c.advance.ensures.moved c.advance.ensures.made c.in_default.ensures.ok less
