use Rattle.std.proofs.Common.{◌∙◌, sym, ap}
use Rattle.std.specs.Prelude.{bytes_eq}
use Rattle.confirm.proofs.Fronts.{front_more}
use Rattle.confirm.proofs.parts.part.Goals as goal

pub loop-line-preserved : goal.loop-line-preserved
loop-line-preserved c =
    let other = ap (bytes_eq c.in-Some.line.now) (sym c.as_slice.ensures) ∙ sym c.eq.ensures ∙ c.if-eq.false in
    front_more c.args.text.now c.loop-line.rest.now c.in-Some.line.now c.in-Some.behind.now c.loop-line.invariant c.in-Some.ensures.whole c.in-Some.ensures.first other
