use Rattle.std.proofs.Common.{◌≡◌, refl, rules, Some, None}
use Rattle.system.specs.declared.events.Act.TheVariants.{Begin, End, Wake, Finish, Clear, Release}
use Rattle.system.specs.Kept.Threads.{common_refusal}
use Rattle.system.proofs.SharedTests.{here_passed, here_failed}
use Rattle.system.proofs.thread.Thread.act.Goals as goal

pub returns-in-Some : goal.returns-in-Some
returns-in-Some c = λ w t codes methods here.
    let some : common_refusal c.args.self.now c.args.act ≡ Some c.in-Some.refusal = search rules in
    rw (here_failed w c.args.act c.args.self.now t c.in-Some.refusal here.thread some) (refl, refl)

pub returns-in-Begin : goal.returns-in-Begin
returns-in-Begin c = λ w t codes methods here.
    let none : common_refusal c.args.self.now Begin ≡ None = search rules in
    rw (c.in-Begin.is, here_passed w Begin c.args.self.now t here.thread none) (c.begin.ensures w t here.thread)

pub returns-in-End : goal.returns-in-End
returns-in-End c = λ w t codes methods here.
    let none : common_refusal c.args.self.now End ≡ None = search rules in
    rw (c.in-End.is, here_passed w End c.args.self.now t here.thread none) (c.end.ensures w c.args.now t here.thread)

pub returns-in-Wake : goal.returns-in-Wake
returns-in-Wake c = λ w t codes methods here.
    let none : common_refusal c.args.self.now Wake ≡ None = search rules in
    rw (c.in-Wake.is, here_passed w Wake c.args.self.now t here.thread none) (c.wake.ensures w t here.thread)

pub returns-in-Finish : goal.returns-in-Finish
returns-in-Finish c = λ w t codes methods here.
    let none : common_refusal c.args.self.now Finish ≡ None = search rules in
    rw (c.in-Finish.is, here_passed w Finish c.args.self.now t here.thread none) (c.finish.ensures w c.args.now t here)

pub returns-in-Clear : goal.returns-in-Clear
returns-in-Clear c = λ w t codes methods here.
    let none : common_refusal c.args.self.now Clear ≡ None = search rules in
    rw (c.in-Clear.is, here_passed w Clear c.args.self.now t here.thread none) (c.clear.ensures w c.args.now t here)

pub returns-in-Release : goal.returns-in-Release
returns-in-Release c = λ w t codes methods here.
    let none : common_refusal c.args.self.now Release ≡ None = search rules in
    rw (c.in-Release.is, here_passed w Release c.args.self.now t here.thread none) (c.release.ensures w t here.thread)
