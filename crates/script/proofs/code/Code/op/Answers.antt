use Rattle.std.proofs.Common.{IfSome, length, sym, subst}
use Rattle.script.specs.Layout.{IsInRange}
use Rattle.script.proofs.Runnable.{runs}
use Rattle.script.proofs.code.Code.op.Goals as goal

pub returns-clause-in_range : goal.returns-clause-in_range
returns-clause-in_range c =
    subst (λ code. IfSome c.op_of.result (IsInRange (length code) c.args.at)) c.self.view_is
    (subst (λ o. IfSome o (IsInRange (length c.self.inside.methods.items) c.args.at)) (sym c.op_of.ensures.value) (runs c.self.inside.methods.items c.args.method c.args.at c.self.invariant))
