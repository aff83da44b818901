use Rattle.std.proofs.Common.{arith, ◌∙◌, sym}
use Rattle.script.proofs.Shapes.{methods_of_one, methods_of_other}
use Rattle.script.proofs.reading.methods_of.Goals as goal

pub returns-then-len-eq1 : goal.returns-then-len-eq1
returns-then-len-eq1 c = c.array_at.ensures ∙ sym (methods_of_one c.args.document.now c.in-Object.members c.in-Object.is (omega (arith, c.len.ensures.len)))

pub returns-else-len-eq1 : goal.returns-else-len-eq1
returns-else-len-eq1 c = sym (methods_of_other c.args.document.now c.in-Object.members c.in-Object.is (omega (arith, c.len.ensures.len)))
