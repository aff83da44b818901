use Rattle.std.proofs.Common.{sym, ◌∙◌, arith}
use Rattle.script.proofs.Shapes.{shape_of_one, shape_of_two, shape_of_other}
use Rattle.script.proofs.shape.shape_of.Goals as goal

pub returns-in-1 : goal.returns-in-1
returns-in-1 c = c.call_in.ensures ∙ sym (shape_of_one c.args.value.now c.in-Object.members c.in-Object.is (omega (arith, c.len.ensures.len)))

pub returns-in-2 : goal.returns-in-2
returns-in-2 c = c.loop_in.ensures ∙ sym (shape_of_two c.args.value.now c.in-Object.members c.in-Object.is (omega (arith, c.len.ensures.len)))

pub returns-in_default-len : goal.returns-in_default-len
returns-in_default-len c = sym (shape_of_other c.args.value.now c.in-Object.members c.in-Object.is (omega arith) (omega arith))
