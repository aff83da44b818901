use Rattle.std.proofs.Common.{◌≡◌, eqb, refl, arith, true, false}
use Rattle.std.proofs.lemmas.Bool.Decides.{nat_tests}
use Rattle.system.proofs.thread.Thread.poll.Goals as goal

pub returns-then-self : goal.returns-then-self
returns-then-self c =
    let m = c.args.self.now.marks in
    let same : eqb m.told m.cleared ≡ true = (let e = c.if-self.true in grind (arith, nat_tests)) in
    rw same refl

pub returns-else-self : goal.returns-else-self
returns-else-self c =
    let m = c.args.self.now.marks in
    let differ : eqb m.told m.cleared ≡ false = (let e = c.if-self.false in grind (arith, nat_tests)) in
    rw differ refl
