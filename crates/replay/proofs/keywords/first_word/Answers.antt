use Rattle.std.proofs.Common.{◌∙◌, sym, arith}
use Rattle.replay.proofs.Keys.{spaced_at}
use Rattle.replay.proofs.keywords.first_word.Goals as goal

pub returns-in-Some-clause-begun : goal.returns-in-Some-clause-begun
returns-in-Some-clause-begun c = spaced_at 5 c.args.line.now c.in-Some.word (omega arith) (grind (arith, c.if-line-eq32.true)) (sym c.in-Some.is ∙ c.of_five.ensures)

pub returns-in-Some-of_four-clause-begun : goal.returns-in-Some-of_four-clause-begun
returns-in-Some-of_four-clause-begun c = spaced_at 4 c.args.line.now c.in-Some-of_four.word (omega arith) (grind (arith, c.if-line-eq32-2.true)) (sym c.in-Some-of_four.is ∙ c.of_four.ensures)

pub returns-in-Some-of_six-clause-begun : goal.returns-in-Some-of_six-clause-begun
returns-in-Some-of_six-clause-begun c = spaced_at 6 c.args.line.now c.in-Some-of_six.word (omega arith) (grind (arith, c.if-line-eq32-3.true)) (sym c.in-Some-of_six.is ∙ c.of_six.ensures)

pub returns-in-Some-of_seven-clause-begun : goal.returns-in-Some-of_seven-clause-begun
returns-in-Some-of_seven-clause-begun c = spaced_at 7 c.args.line.now c.in-Some-of_seven.word (omega arith) (grind (arith, c.if-line-eq32-4.true)) (sym c.in-Some-of_seven.is ∙ c.of_seven.ensures)

pub returns-in-Some-of_three-clause-begun : goal.returns-in-Some-of_three-clause-begun
returns-in-Some-of_three-clause-begun c = spaced_at 3 c.args.line.now c.in-Some-of_three.word (omega arith) (grind (arith, c.if-line-eq32-5.true)) (sym c.in-Some-of_three.is ∙ c.of_three.ensures)
