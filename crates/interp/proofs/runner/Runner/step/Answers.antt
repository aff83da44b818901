use Rattle.std.proofs.Common.{refl, sym, subst}
use Rattle.interp.specs.Stepped.{IsEnd}
use Rattle.interp.proofs.Goings.{finishes, overflows, marks, moves}
use Rattle.interp.proofs.runner.Runner.step.Goals as goal

pub returns-in-Finished-clause-stepped : goal.returns-in-Finished-clause-stepped
returns-in-Finished-clause-stepped g c = (refl, refl, λ w h. subst IsEnd (sym (finishes c.args.self.now w c.ahead.result h c.ahead.ensures.value c.in-Finished.is)) tt)

pub returns-in-Overflow-clause-stepped : goal.returns-in-Overflow-clause-stepped
returns-in-Overflow-clause-stepped g c = (refl, refl, λ w h. subst IsEnd (sym (overflows c.args.self.now w c.ahead.result h c.ahead.ensures.value c.in-Overflow.is)) tt)

pub returns-in-Ok-clause-stepped : goal.returns-in-Ok-clause-stepped
returns-in-Ok-clause-stepped g c = λ w h.
    let m = moves c.args.self.now c.advance.new.self w c.ahead.result c.in-Made.mark c.in-Made.step h c.ahead.ensures.value c.in-Made.is c.advance.ensures.code c.advance.ensures.moved in
    (c.in-Made.mark, m.0, m.1, c.in-Ok.ensures.ok, m.2)

pub returns-in-Err-clause-stepped : goal.returns-in-Err-clause-stepped
returns-in-Err-clause-stepped g c = (
  refl,
  λ w h.
      let m = marks c.args.self.now w c.ahead.result c.in-Made.mark c.in-Made.step h c.ahead.ensures.value c.in-Made.is in
      (c.in-Made.mark, m.0, m.1, c.in-Err.ensures.err),
)
